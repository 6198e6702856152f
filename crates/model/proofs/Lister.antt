-- The lister over any test of what is free: the first way to take what is left is the lowest, and the next is the lowest above the given one
-- or there is none. All that it asks of the test is in Steady. Stands on Rising. Assumes nothing.
use Rattle.std.proofs.Common.{◌≡◌, refl, ap, ◌∙◌, Bool, true, false, cond, ◌&&◌, ◌⊎◌, inl, inr, List, [], ◌∷◌, ℕ, zero, suc, ◌≤◌, ◌<◌, arith, length, ltb, ltb-true, ltb-false, lt-ltb}
use mathlib.Core.Option.{Option, none, some}
use native.Mathlib.Decide.{ℕ_discrete}
use Rattle.sets.specs.Test.{remove, least}
use Rattle.sets.proofs.Bools.{and_left, and_right, and_both, not_both}
use Rattle.sets.proofs.Sets.{remove_in}
use Rattle.sets.proofs.Least.{least_at, least_at_most}
use Rattle.model.specs.Sequence.{Lower}
use Rattle.model.specs.Lister.{first_of, free_above, next_of}
use Rattle.model.proofs.Rising.{Lex, AtMost, at_most_behind, at_most_lower, lex_lower, lower_lex}

-- only steps 1 to n are left
abbrev pub Within : ℕ → (ℕ → Bool) → Type 0
Within n left = (i : ℕ) → left i ≡ true → (1 ≤ i) × (i ≤ n)

-- s is a way to take what is left: each step once, each when it is free in what is then left, and nothing is left at the end
abbrev pub Taken : ((ℕ → Bool) → ℕ → Bool) → (ℕ → Bool) → List ℕ → Type 0
Taken free left [] = (i : ℕ) → left i ≡ false
Taken free left (x ∷ s) = (free left x ≡ true) × Taken free (remove x left) s

-- what is left without x can be taken in one turn less than k
abbrev pub Without : ((ℕ → Bool) → ℕ → Bool) → (ℕ → Bool) → ℕ → ℕ → Type 0
Without free left x k = (t : List ℕ) × Taken free (remove x left) t × (suc (length t) ≡ k)

-- what the lister asks of a test: only what is left is free, and to take any free step never gets stuck
pub record Steady (n : ℕ) (free : (ℕ → Bool) → ℕ → Bool) : Type 0 where
  pub only_left : (left : ℕ → Bool) (x : ℕ) → free left x ≡ true → left x ≡ true
  pub never_stuck : (left : ℕ → Bool) (x : ℕ) (s : List ℕ) → Within n left → free left x ≡ true → Taken free left s → Without free left x (length s)

-- f is the lowest way to take what is left
abbrev First : ((ℕ → Bool) → ℕ → Bool) → (ℕ → Bool) → List ℕ → Type 0
First free left f = Taken free left f × ((u : List ℕ) → Taken free left u → AtMost f u)

-- the answer is the lowest way above s to take what is left, or that there is none
abbrev After : ((ℕ → Bool) → ℕ → Bool) → (ℕ → Bool) → List ℕ → Option (List ℕ) → Type 0
After free left s none = (u : List ℕ) → Taken free left u → Lex s u → ⊥
After free left s (some t) = Taken free left t × Lex s t × ((u : List ℕ) → Taken free left u → Lex s u → AtMost t u)

-- only steps 1 to n are left when one of them is taken
pub within_remove : {n : ℕ} {left : ℕ → Bool} (x : ℕ) → Within n left → Within n (remove x left)
within_remove {n} {left} x w i e = w i (remove_in x left i e)

module _ {n : ℕ} {free : (ℕ → Bool) → ℕ → Bool} (steady : Steady n free) where
  -- a free step is one of 1 to n
  free_in : {left : ℕ → Bool} {x : ℕ} → Within n left → free left x ≡ true → (1 ≤ x) × (x ≤ n)
  free_in {left} {x} w e = w x (steady.only_left left x e)

  -- where nothing is left nothing is free
  free_none : {left : ℕ → Bool} {x : ℕ} → ((i : ℕ) → left i ≡ false) → free left x ≡ true → ⊥
  free_none {left} {x} h e = not_both (steady.only_left left x e) (h x)

  -- all ways to take what is left have one length
  pub same_length : (s t : List ℕ) (left : ℕ → Bool) → Within n left → Taken free left s → Taken free left t → length s ≡ length t
  same_length [] [] left w a b = refl
  same_length [] (y ∷ t) left w a b = absurd (free_none a b.0)
  same_length (x ∷ s) t left w a b =
      let u = steady.never_stuck left x t w a.0 b in
      ap suc (same_length s u.0 (remove x left) (within_remove x w) a.1 u.1) ∙ u.2

  -- a step at most as high, with the lowest of the rest behind it, makes a way at most as high
  at_most_front : (left : ℕ → Bool) (y z : ℕ) (f u : List ℕ) → First free (remove y left) f → Taken free left (z ∷ u) → y ≤ z → AtMost (y ∷ f) (z ∷ u)
  at_most_front left y z f u h v l = go (ℕ_discrete y z)
    where
      go : Dec (y ≡ z) → AtMost (y ∷ f) (z ∷ u)
      go (yes q) = at_most_behind q (h.1 u (rw q v.1))
      go (no ne) = inr (inl (omega arith))

  -- the lowest free step, with the lowest of the rest behind it, is the lowest way
  front_lowest : (left : ℕ → Bool) (y : ℕ) (f : List ℕ) → free left y ≡ true → ((z : ℕ) → free left z ≡ true → y ≤ z)
      → First free (remove y left) f → First free left (y ∷ f)
  front_lowest left y f is_free low h = ((is_free, h.0), lowest)
    where
      lowest : (u : List ℕ) → Taken free left u → AtMost (y ∷ f) u
      lowest [] v = absurd (free_none v is_free)
      lowest (z ∷ u) v = at_most_front left y z f u h v (low z v.0)

  -- the first is the lowest way, where there is a way at all
  first_lowest : (k : ℕ) (left : ℕ → Bool) (t : List ℕ) → Within n left → Taken free left t → length t ≡ k → First free left (first_of n free k left)
  unfolding first_of
  first_lowest zero left [] w o e = (o, lowest)
    where
      lowest : (u : List ℕ) → Taken free left u → AtMost [] u
      lowest [] v = inl refl
      lowest (z ∷ u) v = absurd (free_none o v.0)
  first_lowest zero left (x ∷ t) w o e = absurd (omega arith)
  first_lowest (suc k) left [] w o e = absurd (omega arith)
  first_lowest (suc k) left (x ∷ t) w o e =
      front_lowest left y _ is_free low (first_lowest k (remove y left) without.0 (within_remove y w) without.1 (omega (arith, without.2)))
    where
      y : ℕ
      y = least (free left) (suc n)

      low : (z : ℕ) → free left z ≡ true → y ≤ z
      low = least_at_most (free left) (suc n)

      is_free : free left y ≡ true
      is_free = least_at (free left) (suc n) (omega (arith, low x o.0, free_in w o.0))

      without : Without free left y (suc (length t))
      without = steady.never_stuck left y (x ∷ t) w is_free o

  -- the lowest free step above x is at most every other
  above_low : (left : ℕ → Bool) (x z : ℕ) → x < z → free left z ≡ true → free_above n free left x ≤ z
  unfolding free_above
  above_low left x z l e = least_at_most (λ y. ltb x y && free left y) (suc n) z (and_both (ltb x z) (free left z) (lt-ltb x z l) e)

  -- and where there is one it is free and above x
  above_is : (left : ℕ → Bool) (x : ℕ) → free_above n free left x ≤ n → (x < free_above n free left x) × (free left (free_above n free left x) ≡ true)
  unfolding free_above
  above_is left x l = (ltb-true x y (and_left (ltb x y) (free left y) e), and_right (ltb x y) (free left y) e)
    where
      y : ℕ
      y = least (λ y. ltb x y && free left y) (suc n)

      e : ltb x y && free left y ≡ true
      e = least_at (λ y. ltb x y && free left y) (suc n) (omega arith)

  -- where the rest of a way has no next, the next has the lowest higher free step in front, or there is none
  after_front : (left : ℕ → Bool) (x : ℕ) (s : List ℕ) → Within n left → Taken free left (x ∷ s) → After free (remove x left) s none
      → let y = free_above n free left x in After free left (x ∷ s) (cond (ltb n y) none (some (y ∷ first_of n free (length s) (remove y left))))
  after_front left x s w o h = go (ltb n y) refl
    where
      y : ℕ
      y = free_above n free left x

      go : (b : Bool) → ltb n y ≡ b → After free left (x ∷ s) (cond b none (some (y ∷ first_of n free (length s) (remove y left))))
      go true e = no_higher
        where
          no_higher : (u : List ℕ) → Taken free left u → Lex (x ∷ s) u → ⊥
          no_higher [] v l = l
          no_higher (z ∷ u) v (inl l) = omega (arith, ltb-true n y e, above_low left x z l v.0, free_in w v.0)
          no_higher (z ∷ u) v (inr l) = h u (rw l.0 v.1) l.1
      go false e = ((is.1, rest.0), inl is.0, lowest)
        where
          is : (x < y) × (free left y ≡ true)
          is = above_is left x (omega (arith, ltb-false n y e))

          without : Without free left y (suc (length s))
          without = steady.never_stuck left y (x ∷ s) w is.1 o

          rest : First free (remove y left) (first_of n free (length s) (remove y left))
          rest = first_lowest (length s) (remove y left) without.0 (within_remove y w) without.1 (omega (arith, without.2))

          lowest : (u : List ℕ) → Taken free left u → Lex (x ∷ s) u → AtMost (y ∷ first_of n free (length s) (remove y left)) u
          lowest [] v l = absurd l
          lowest (z ∷ u) v (inl l) = at_most_front left y z _ u rest v (above_low left x z l v.0)
          lowest (z ∷ u) v (inr l) = absurd (h u (rw l.0 v.1) l.1)

  -- where the rest of a way has a next, the next has the same step in front of it
  after_behind : (left : ℕ → Bool) (x : ℕ) (s t : List ℕ) → Taken free left (x ∷ s) → After free (remove x left) s (some t)
      → After free left (x ∷ s) (some (x ∷ t))
  after_behind left x s t o h = ((o.0, h.0), inr (refl, h.1), lowest)
    where
      lowest : (u : List ℕ) → Taken free left u → Lex (x ∷ s) u → AtMost (x ∷ t) u
      lowest [] v l = absurd l
      lowest (z ∷ u) v (inl l) = inr (inl l)
      lowest (z ∷ u) v (inr l) = at_most_behind l.0 (h.2 u (rw l.0 v.1) l.1)

  -- the next is the lowest way above, or there is none above
  next_lowest : (s : List ℕ) (left : ℕ → Bool) → Within n left → Taken free left s → After free left s (next_of n free left s)
  unfolding next_of
  next_lowest [] left w o = λ u v l. l
  next_lowest (x ∷ s) left w o = go (next_of n free (remove x left) s) (next_lowest s (remove x left) (within_remove x w) o.1)
    where
      go : (a : Option (List ℕ)) → After free (remove x left) s a
          → let y = free_above n free left x in After free left (x ∷ s) (elim a [ some t ↦ some (x ∷ t) | none ↦ cond (ltb n y) none (some (y ∷ first_of n free (length s) (remove y left))) ])
      go (some t) h = after_behind left x s t o h
      go none h = after_front left x s w o h

  -- where there is a way to take what is left, the first is one, and the lowest
  pub first_way : (k : ℕ) (left : ℕ → Bool) (t : List ℕ) → Within n left → Taken free left t → length t ≡ k
      → let f = first_of n free k left in Taken free left f × ((u : List ℕ) → Taken free left u → (f ≡ u) ⊎ Lower f u)
  first_way k left t w o e = let f = first_lowest k left t w o e in (f.0, λ u v. at_most_lower _ u (f.1 u v))

  module _ {left : ℕ → Bool} {s : List ℕ} (within : Within n left) (taken : Taken free left s) where
    -- the next is a way to take what is left that is above, and the lowest of those
    pub next_way : {t : List ℕ} → next_of n free left s ≡ some t
        → Taken free left t × Lower s t × ((u : List ℕ) → Taken free left u → Lower s u → (t ≡ u) ⊎ Lower t u)
    next_way {t} e =
        let w : After free left s (some t) = rw e at (next_lowest s left within taken) in
        (w.0, lex_lower s t w.1, λ u v l. at_most_lower t u (w.2 u v (lower_lex s u l)))

    -- where there is no next there is no way above
    pub no_way : next_of n free left s ≡ none → (u : List ℕ) → Taken free left u → Lower s u → ⊥
    no_way e u v l =
        let w : After free left s none = rw e at (next_lowest s left within taken) in
        w u v (lower_lex s u l)
