-- Sums and counts: one term more, bounds, and sums that agree. Assumes nothing.
use Rattle.std.proofs.Common.{◌≡◌, refl, ap, ap₂, ◌∙◌, Bool, true, false, ℕ, zero, suc, ◌+◌, ◌*◌, ◌≤◌, ◌<◌, add-one, arith}
use Rattle.sets.specs.Test.{bit, sum_to, size}

-- a turn of a loop that adds up
pub sum_step : (f : ℕ → ℕ) (i t v : ℕ) → t ≡ sum_to f i → v ≡ f i → t + v ≡ sum_to f (i + 1)
unfolding sum_to
sum_step f i t v e h = rw (add-one, e, h)

-- two sums with the same terms are equal
pub sum_same : (f g : ℕ → ℕ) (n : ℕ) → ((i : ℕ) → i < n → f i ≡ g i) → sum_to f n ≡ sum_to g n
unfolding sum_to
sum_same f g zero h = refl
sum_same f g (suc n) h = ap₂ (λ (a b : ℕ). a + b) (sum_same f g n (λ i l. h i (omega arith))) (h n (omega arith))

-- terms of at most k make a sum of at most k times their number
pub sum_at_most : (f : ℕ → ℕ) (k n : ℕ) → ((i : ℕ) → i < n → f i ≤ k) → sum_to f n ≤ k * n
unfolding sum_to
sum_at_most f k zero h = omega arith
sum_at_most f k (suc n) h =
    let a : sum_to f n ≤ k * n = sum_at_most f k n (λ i l. h i (omega arith)) in
    let b : f n ≤ k = h n (omega arith) in
    omega arith

-- the first term apart
pub sum_head : (f : ℕ → ℕ) (n : ℕ) → sum_to f (suc n) ≡ f zero + sum_to (λ i. f (suc i)) n
unfolding sum_to
sum_head f zero = omega arith
sum_head f (suc n) = ap (λ (a : ℕ). a + f (suc n)) (sum_head f n) ∙ omega arith

-- the sum of sums
pub sum_add : (f g : ℕ → ℕ) (n : ℕ) → sum_to f n + sum_to g n ≡ sum_to (λ i. f i + g i) n
unfolding sum_to
sum_add f g zero = refl
sum_add f g (suc n) =
    let e : sum_to f n + sum_to g n ≡ sum_to (λ i. f i + g i) n = sum_add f g n in
    omega arith

-- terms of 0 add nothing
pub sum_zero : (f : ℕ → ℕ) (n : ℕ) → ((i : ℕ) → i < n → f i ≡ 0) → sum_to f n ≡ 0
unfolding sum_to
sum_zero f zero h = refl
sum_zero f (suc n) h =
    let a : sum_to f n ≡ 0 = sum_zero f n (λ i l. h i (omega arith)) in
    let b : f n ≡ 0 = h n (omega arith) in
    omega arith

-- 1 or 0 is at most 1
pub bit_le : (b : Bool) → bit b ≤ 1
bit_le true = omega arith
bit_le false = omega arith

-- at most n of n numbers pass
pub size_le : (p : ℕ → Bool) (n : ℕ) → size p n ≤ n
unfolding size
size_le p n = let h : sum_to (λ i. bit (p i)) n ≤ 1 * n = sum_at_most (λ i. bit (p i)) 1 n (λ i l. bit_le (p i)) in omega arith
