-- The least number that passes a test: what it means, and the two ways on of a loop that searches upwards. Assumes nothing.
use Rattle.std.proofs.Common.{◌≡◌, refl, sym, ap, ◌∙◌, Bool, true, false, cond, ℕ, zero, suc, ◌+◌, ◌≤◌, ◌<◌, zero-le, suc-le-suc, le_of_suc-le-suc, not-suc-le-zero, zero-lt-suc, arith, below_more, lt-ltb, le-ltb, Option, Some, None, unwrap_or}
use native.Mathlib.Decide.{dec_lt}
use Rattle.sets.specs.Test.{least, first_passing}
use Rattle.sets.proofs.Bools.{not_both}

-- a number that passes, with none below it that does, is the least
pub least_found : (p : ℕ → Bool) (n i : ℕ) → i < n → ((k : ℕ) → k < i → p k ≡ false) → p i ≡ true → least p n ≡ i
unfolding least
least_found p zero i h f t = absurd (not-suc-le-zero h)
least_found p (suc n) zero h f t = ap (λ (b : Bool). cond b zero (suc (least (λ i. p (suc i)) n))) t
least_found p (suc n) (suc i) h f t =
    ap (λ (b : Bool). cond b zero (suc (least (λ i. p (suc i)) n))) (f zero (zero-lt-suc i))
    ∙ ap suc (least_found (λ i. p (suc i)) n i (le_of_suc-le-suc h) (λ k l. f (suc k) (suc-le-suc l)) t)

-- where none passes it is the bound
pub least_none : (p : ℕ → Bool) (n : ℕ) → ((k : ℕ) → k < n → p k ≡ false) → least p n ≡ n
unfolding least
least_none p zero f = refl
least_none p (suc n) f =
    ap (λ (b : Bool). cond b zero (suc (least (λ i. p (suc i)) n))) (f zero (zero-lt-suc n))
    ∙ ap suc (least_none (λ i. p (suc i)) n (λ k l. f (suc k) (suc-le-suc l)))

-- two tests that agree have the same least
pub least_same : (p q : ℕ → Bool) (n : ℕ) → ((k : ℕ) → k < n → p k ≡ q k) → least p n ≡ least q n
unfolding least
least_same p q zero f = refl
least_same p q (suc n) f =
    ap (λ (b : Bool). cond b zero (suc (least (λ i. p (suc i)) n))) (f zero (zero-lt-suc n))
    ∙ ap (λ (m : ℕ). cond (q zero) zero (suc m)) (least_same (λ i. p (suc i)) (λ i. q (suc i)) n (λ k l. f (suc k) (suc-le-suc l)))

-- it is at most the bound
pub least_le : (p : ℕ → Bool) (n : ℕ) → least p n ≤ n
unfolding least
least_le p zero = zero-le
least_le p (suc n) = go (p zero) (least_le (λ i. p (suc i)) n)
  where
    go : (b : Bool) → least (λ i. p (suc i)) n ≤ n → cond b zero (suc (least (λ i. p (suc i)) n)) ≤ suc n
    go true h = zero-le
    go false h = suc-le-suc h

-- no number below it passes
pub least_below : (p : ℕ → Bool) (n k : ℕ) → k < least p n → p k ≡ false
unfolding least
least_below p zero k h = absurd (not-suc-le-zero h)
least_below p (suc n) zero h = go (p zero) refl h
  where
    go : (b : Bool) → p zero ≡ b → zero < cond b zero (suc (least (λ i. p (suc i)) n)) → p zero ≡ false
    go true e h = absurd (not-suc-le-zero h)
    go false e h = e
least_below p (suc n) (suc k) h = go (p zero) (least_below (λ i. p (suc i)) n k) h
  where
    go : (b : Bool) → (k < least (λ i. p (suc i)) n → p (suc k) ≡ false) → suc k < cond b zero (suc (least (λ i. p (suc i)) n)) → p (suc k) ≡ false
    go true f h = absurd (not-suc-le-zero h)
    go false f h = f (le_of_suc-le-suc h)

-- below the bound, it passes itself
pub least_at : (p : ℕ → Bool) (n : ℕ) → least p n < n → p (least p n) ≡ true
unfolding least
least_at p zero h = absurd (not-suc-le-zero h)
least_at p (suc n) h = go (p zero) refl (least_at (λ i. p (suc i)) n) h
  where
    go : (b : Bool) → p zero ≡ b → (least (λ i. p (suc i)) n < n → p (suc (least (λ i. p (suc i)) n)) ≡ true)
        → cond b zero (suc (least (λ i. p (suc i)) n)) < suc n → p (cond b zero (suc (least (λ i. p (suc i)) n))) ≡ true
    go true e f h = e
    go false e f h = f (le_of_suc-le-suc h)

-- a number that passes is at least the least
pub least_at_most : (p : ℕ → Bool) (n i : ℕ) → p i ≡ true → least p n ≤ i
least_at_most p n i e = go (dec_lt i (least p n))
  where
    go : Dec (i < least p n) → least p n ≤ i
    go (yes h) = absurd (not_both e (least_below p n i h))
    go (no h) = omega arith

-- a least that is found under one bound is found under every higher one
pub least_bound : (p : ℕ → Bool) (m n : ℕ) → least p m < m → m ≤ n → least p n ≡ least p m
least_bound p m n h l = least_found p n (least p m) (omega arith) (least_below p m) (least_at p m h)

-- the two ways on of a loop that searches upwards: b is what the loop's test of i said
pub least_hit : (p : ℕ → Bool) (n i : ℕ) (b : Bool) → i < n → ((k : ℕ) → k < i → p k ≡ false) → b ≡ p i → b ≡ true → i ≡ least p n
least_hit p n i b h f e t = sym (least_found p n i h f (sym e ∙ t))

pub least_more : (p : ℕ → Bool) (i : ℕ) (b : Bool) → ((k : ℕ) → k < i → p k ≡ false) → b ≡ p i → b ≡ false → (k : ℕ) → k < i + 1 → p k ≡ false
least_more p i b f e t = below_more (λ k. p k ≡ false) i f (sym e ∙ t)

-- the first that passes, where one does, and where none does
pub passing_some : (p : ℕ → Bool) (n : ℕ) → least p n < n → first_passing p n ≡ Some (least p n)
unfolding first_passing
passing_some p n h = rw (lt-ltb (least p n) n h) refl

pub passing_none : (p : ℕ → Bool) (n : ℕ) → least p n ≡ n → first_passing p n ≡ None
unfolding first_passing
passing_none p n e = rw (e, le-ltb n n (omega arith)) refl

-- with n for none, it is the least
pub passing_or : (p : ℕ → Bool) (n : ℕ) → unwrap_or (first_passing p n) n ≡ least p n
passing_or p n = go (dec_lt (least p n) n)
  where
    go : Dec (least p n < n) → unwrap_or (first_passing p n) n ≡ least p n
    go (yes h) = ap (λ (o : Option ℕ). unwrap_or o n) (passing_some p n h)
    go (no h) = let e : least p n ≡ n = omega (arith, least_le p n) in ap (λ (o : Option ℕ). unwrap_or o n) (passing_none p n e) ∙ sym e

-- a first that passes is the least, and lies below n
pub passing_is : (p : ℕ → Bool) (n i : ℕ) → first_passing p n ≡ Some i → (i < n) × (least p n ≡ i)
passing_is p n i e = go (dec_lt (least p n) n)
  where
    is : least p n ≡ i
    is = sym (passing_or p n) ∙ ap (λ (o : Option ℕ). unwrap_or o n) e

    go : Dec (least p n < n) → (i < n) × (least p n ≡ i)
    go (yes h) = (omega (arith, is), is)
    go (no h) =
        let none : first_passing p n ≡ None = passing_none p n (omega (arith, least_le p n)) in
        let apart : None ≡ Some i = sym none ∙ e in
        absurd (cc)

-- where no first passes, the least is n
pub none_passing : (p : ℕ → Bool) (n : ℕ) → first_passing p n ≡ None → least p n ≡ n
none_passing p n e = sym (passing_or p n) ∙ ap (λ (o : Option ℕ). unwrap_or o n) e
