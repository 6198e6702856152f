-- Laws of sets as tests: which numbers an operation has, both ways round. Assumes nothing.
use Rattle.std.proofs.Common.{◌≡◌, refl, sym, ap, ◌∙◌, Bool, true, false, not, ◌&&◌, ◌||◌, true≢false, ◌⊎◌, inl, inr, ℕ, zero, suc, ◌≤◌, ◌<◌, arith, not-suc-le-zero, eqb, leb, eqb-true, eq-eqb, ne_eqb, leb-true, le-leb}
use mathlib.Core.Path.{fun_ext}
use mathlib.Core.Bool.{false≢true}
use native.Mathlib.Decide.{ℕ_discrete}
use borrow.Author.Tests.{eqb-false}
use Rattle.sets.specs.Test.{insert, remove, up_to, every, any}
use Rattle.sets.proofs.Bools.{and_left, and_right, and_both, and_fails, or_cases, or_right, not_both, is_not, same_test}

-- two sets with the same members are equal
pub same_set : {r q : ℕ → Bool} → ((i : ℕ) → r i ≡ true → q i ≡ true) → ((i : ℕ) → q i ≡ true → r i ≡ true) → r ≡ q
same_set {r} {q} f g = fun_ext (λ i. same_test (r i) (q i) (f i) (g i))

module _ (x : ℕ) (s : ℕ → Bool) (i : ℕ) where
  -- what was left out of a set was another number of it
  pub remove_in : remove x s i ≡ true → s i ≡ true
  unfolding remove
  remove_in e = and_left (s i) (not (eqb i x)) e

  pub remove_ne : remove x s i ≡ true → i ≡ x → ⊥
  unfolding remove
  remove_ne e = eqb-false i x (is_not (eqb i x) (and_right (s i) (not (eqb i x)) e))

  -- another number of the set stays
  pub in_remove : s i ≡ true → (i ≡ x → ⊥) → remove x s i ≡ true
  unfolding remove
  in_remove p ne = rw (p, ne_eqb i x ne) refl

  -- a number of the set stays when another is put in
  pub in_insert : s i ≡ true → insert x s i ≡ true
  unfolding insert
  in_insert p = or_right (eqb i x) (s i) p

  pub insert_in : insert x s i ≡ true → (i ≡ x) ⊎ (s i ≡ true)
  unfolding insert
  insert_in e = go (or_cases (eqb i x) (s i) e)
    where
      go : (eqb i x ≡ true) ⊎ (s i ≡ true) → (i ≡ x) ⊎ (s i ≡ true)
      go (inl p) = inl (eqb-true i x p)
      go (inr p) = inr p

-- what is left out is not in, what is put in is
pub remove_self : (x : ℕ) (s : ℕ → Bool) → remove x s x ≡ false
unfolding remove
remove_self x s = and_fails (s x) (not (eqb x x)) (λ e. ap not (eq-eqb x x refl))

pub insert_self : (x : ℕ) (s : ℕ → Bool) → insert x s x ≡ true
unfolding insert
insert_self x s = rw (eq-eqb x x refl) refl

-- the order of leaving out does not matter
pub remove_swap : (x y : ℕ) (s : ℕ → Bool) → remove x (remove y s) ≡ remove y (remove x s)
remove_swap x y s = same_set (one x y) (one y x)
  where
    one : (x y i : ℕ) → remove x (remove y s) i ≡ true → remove y (remove x s) i ≡ true
    one x y i h =
        let o : remove y s i ≡ true = remove_in x (remove y s) i h in
        in_remove y (remove x s) i (in_remove x s i (remove_in y s i o) (remove_ne x (remove y s) i h)) (remove_ne y s i o)

-- the numbers 1 to n
pub up_to_in : (n i : ℕ) → up_to n i ≡ true → (1 ≤ i) × (i ≤ n)
unfolding up_to
up_to_in n i e = (leb-true 1 i (and_left (leb 1 i) (leb i n) e), leb-true i n (and_right (leb 1 i) (leb i n) e))

pub in_up_to : (n i : ℕ) → 1 ≤ i → i ≤ n → up_to n i ≡ true
unfolding up_to
in_up_to n i a b = and_both (leb 1 i) (leb i n) (le-leb 1 i a) (le-leb i n b)

-- every number below n passes: each one, and back
pub every_at : (p : ℕ → Bool) (n : ℕ) → every p n ≡ true → (i : ℕ) → i < n → p i ≡ true
unfolding every
every_at p zero e i h = absurd (not-suc-le-zero h)
every_at p (suc n) e i h = go (ℕ_discrete i n) (every_at p n (and_right (p n) (every p n) e) i)
  where
    go : Dec (i ≡ n) → (i < n → p i ≡ true) → p i ≡ true
    go (yes q) f = rw q (and_left (p n) (every p n) e)
    go (no ne) f = f (omega arith)

pub at_every : (p : ℕ → Bool) (n : ℕ) → ((i : ℕ) → i < n → p i ≡ true) → every p n ≡ true
unfolding every
at_every p zero f = refl
at_every p (suc n) f = and_both (p n) (every p n) (f n (omega arith)) (at_every p n (λ i h. f i (omega arith)))

-- not every number below n passes: one does not
pub every_not : (p : ℕ → Bool) (n : ℕ) → every p n ≡ false → (i : ℕ) × (i < n) × (p i ≡ false)
unfolding every
every_not p zero e = absurd (true≢false e)
every_not p (suc n) e = go (p n) refl e (every_not p n)
  where
    go : (b : Bool) → p n ≡ b → b && every p n ≡ false → (every p n ≡ false → (i : ℕ) × (i < n) × (p i ≡ false)) → (i : ℕ) × (i < suc n) × (p i ≡ false)
    go true q z f = let w = f z in (w.0, omega (arith, w.1), w.2)
    go false q z f = (n, omega arith, q)

-- some number below n passes: one does, and back
pub any_at : (p : ℕ → Bool) (n : ℕ) → any p n ≡ true → (i : ℕ) × (i < n) × (p i ≡ true)
unfolding any
any_at p zero e = absurd (false≢true e)
any_at p (suc n) e = go (or_cases (p n) (any p n) e) (any_at p n)
  where
    go : (p n ≡ true) ⊎ (any p n ≡ true) → (any p n ≡ true → (i : ℕ) × (i < n) × (p i ≡ true)) → (i : ℕ) × (i < suc n) × (p i ≡ true)
    go (inl q) f = (n, omega arith, q)
    go (inr q) f = let w = f q in (w.0, omega (arith, w.1), w.2)

pub at_any : (p : ℕ → Bool) (n i : ℕ) → i < n → p i ≡ true → any p n ≡ true
unfolding any
at_any p zero i h e = absurd (not-suc-le-zero h)
at_any p (suc n) i h e = go (ℕ_discrete i n) (at_any p n i)
  where
    go : Dec (i ≡ n) → (i < n → p i ≡ true → any p n ≡ true) → p n || any p n ≡ true
    go (yes q) f = rw (sym (ap p q) ∙ e) refl
    go (no ne) f = or_right (p n) (any p n) (f (omega arith) e)

-- the number put in last and left out again
pub remove_insert : (x : ℕ) (s : ℕ → Bool) → s x ≡ false → remove x (insert x s) ≡ s
remove_insert x s fresh = same_set away (λ i e. in_remove x (insert x s) i (in_insert x s i e) (λ q. not_both e (rw q fresh)))
  where
    away : (i : ℕ) → remove x (insert x s) i ≡ true → s i ≡ true
    away i e = go (insert_in x s i (remove_in x (insert x s) i e))
      where
        go : (i ≡ x) ⊎ (s i ≡ true) → s i ≡ true
        go (inl q) = absurd (remove_ne x (insert x s) i e q)
        go (inr p) = p

-- another number put in and left out, in either order
pub remove_insert_other : (x y : ℕ) (s : ℕ → Bool) → (x ≡ y → ⊥) → remove y (insert x s) ≡ insert x (remove y s)
remove_insert_other x y s ne = same_set (λ i e. to i e (insert_in x s i (remove_in y (insert x s) i e))) (λ i e. from i (insert_in x (remove y s) i e))
  where
    to : (i : ℕ) → remove y (insert x s) i ≡ true → (i ≡ x) ⊎ (s i ≡ true) → insert x (remove y s) i ≡ true
    to i e (inl q) = rw q (insert_self x (remove y s))
    to i e (inr p) = in_insert x (remove y s) i (in_remove y s i p (remove_ne y (insert x s) i e))

    from : (i : ℕ) → (i ≡ x) ⊎ (remove y s i ≡ true) → remove y (insert x s) i ≡ true
    from i (inl q) = in_remove y (insert x s) i (rw q (insert_self x s)) (λ z. ne (sym q ∙ z))
    from i (inr p) = in_remove y (insert x s) i (in_insert x s i (remove_in y s i p)) (remove_ne y s i p)

-- the numbers 1 to n + 1 are n + 1 and the numbers 1 to n
pub up_to_more : (n : ℕ) → up_to (suc n) ≡ insert (suc n) (up_to n)
up_to_more n = same_set (λ i e. to i (up_to_in (suc n) i e) (ℕ_discrete i (suc n))) (λ i e. from i (insert_in (suc n) (up_to n) i e))
  where
    to : (i : ℕ) → (1 ≤ i) × (i ≤ suc n) → Dec (i ≡ suc n) → insert (suc n) (up_to n) i ≡ true
    to i w (yes q) = rw q (insert_self (suc n) (up_to n))
    to i w (no ne) = in_insert (suc n) (up_to n) i (in_up_to n i w.0 (omega arith))

    from : (i : ℕ) → (i ≡ suc n) ⊎ (up_to n i ≡ true) → up_to (suc n) i ≡ true
    from i (inl q) = in_up_to (suc n) i (omega arith) (omega arith)
    from i (inr e) = let w = up_to_in n i e in in_up_to (suc n) i w.0 (omega arith)

-- some number below n passes two tests: one does, and back
pub any_both_at : (p q : ℕ → Bool) (n : ℕ) → any (λ i. p i && q i) n ≡ true → (i : ℕ) × (i < n) × (p i ≡ true) × (q i ≡ true)
any_both_at p q n e =
    let w = any_at (λ i. p i && q i) n e in
    (w.0, w.1, and_left (p w.0) _ w.2, and_right (p w.0) _ w.2)

pub at_any_both : (p q : ℕ → Bool) (n i : ℕ) → i < n → p i ≡ true → q i ≡ true → any (λ i. p i && q i) n ≡ true
at_any_both p q n i h e f = at_any (λ i. p i && q i) n i h (and_both (p i) (q i) e f)
