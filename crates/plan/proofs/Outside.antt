-- The lowest number of a word that a test picks out, or none: what every check of a set comes down to. Assumes nothing.
use Rattle.std.proofs.Common.{◌≡◌, Bool, true, false, not, ◌⊎◌, inl, inr, ℕ, ◌<◌, arith}
use native.Mathlib.Decide.{dec_lt}
use Rattle.sets.specs.Test.{less, least}
use Rattle.sets.specs.Word.{has}
use Rattle.sets.proofs.Bools.{and_left, and_right, and_both, none_true, not_both, not_is, is_not}
use Rattle.sets.proofs.Least.{least_found, least_none, least_below, least_at}
use Rattle.sets.proofs.Words.{has_under}

-- a test that only numbers below 64 pass has none, or a lowest one
pub look : (p : ℕ → Bool) → ((i : ℕ) → p i ≡ true → i < 64) → ((i : ℕ) → p i ≡ false) ⊎ ((f : ℕ) × (p f ≡ true) × ((g : ℕ) → g < f → p g ≡ false))
look p small = go (dec_lt (least p 64) 64)
  where
    go : Dec (least p 64 < 64) → ((i : ℕ) → p i ≡ false) ⊎ ((f : ℕ) × (p f ≡ true) × ((g : ℕ) → g < f → p g ≡ false))
    go (yes h) = inr (least p 64, least_at p 64 h, least_below p 64)
    go (no h) = inl (λ i. none_true (p i) (λ e. not_both e (least_below p 64 i (let l = small i e in omega arith))))

module _ (bound : ℕ → Bool) (set : ℕ) where
  -- the numbers of a word outside a bound
  unfoldable pub over : ℕ → Bool
  over = less (has set) bound

  pub over_small : (i : ℕ) → over i ≡ true → i < 64
  unfolding over less
  over_small i e = has_under set i (and_left (has set i) _ e)

  pub over_is : (i : ℕ) → has set i ≡ true → bound i ≡ false → over i ≡ true
  unfolding over less
  over_is i e h = and_both (has set i) (not (bound i)) e (not_is (bound i) h)

  pub is_over : (i : ℕ) → over i ≡ true → (has set i ≡ true) × (bound i ≡ false)
  unfolding over less
  is_over i e = (and_left (has set i) _ e, is_not (bound i) (and_right (has set i) _ e))

  -- a word within the bound has none outside
  pub none_over : ((i : ℕ) → has set i ≡ true → bound i ≡ true) → least (less (has set) bound) 64 ≡ 64
  unfolding over
  none_over h = least_none over 64 (λ i l. none_true (over i) (λ e. let q = is_over i e in not_both (h i q.0) q.1))

  -- the lowest number outside the bound
  pub one_over : (f : ℕ) → has set f ≡ true → bound f ≡ false → ((g : ℕ) → g < f → has set g ≡ true → bound g ≡ true) → least (less (has set) bound) 64 ≡ f
  unfolding over
  one_over f e h low =
      least_found over 64 f (has_under set f e) (λ i l. none_true (over i) (λ q. let w = is_over i q in not_both (low i l w.0) w.1)) (over_is f e h)
