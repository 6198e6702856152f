-- Binary digits of a number: of a union, a meet, a complement, a power and a mask; two numbers with the same digits are equal. Assumes nothing.
use Rattle.std.proofs.Common.{◌≡◌, refl, sym, ap, ap₂, ◌∙◌, Bool, true, false, cond, not, ◌&&◌, ◌||◌, true≢false, ℕ, zero, suc, ◌+◌, ◌-◌, ◌*◌, ◌/◌, ◌%◌, ◌^◌, ◌≤◌, ◌<◌, min, max, suc-le-suc, le_of_suc-le-suc, not-suc-le-zero, zero-lt-suc, div-one, lt_of_lt_of_le, one-mul, pow-suc, add-one, one-add, arith, pow_pos, pow_mono, shr-shr, shr_lt, bit_and, bit_or, eqb, ltb, lt-ltb, le-ltb}
use mathlib.Core.Bool.{false≢true}
use native.Mathlib.Nat.{zero-div, div-eq_of_lt}
use native.Mathlib.Decide.{dec_lt}
use lib.Arith.{lt-one, digits_mod}
use lib.Bits.{and_step, or_step, and_shr, or_shr, shifted_half, shifted_even}
use lib.Count.{count_trailing_zeros, under, ones, ones_step}
use lib.Dec.{eqb-zero-suc, eqb-suc-zero, eqb-suc-suc}
use Rattle.sets.specs.Test.{bit, least, sum_to}
use Rattle.sets.specs.Word.{digits_of}
use Rattle.sets.proofs.Least.{least_same}
use Rattle.sets.proofs.Sums.{sum_head, sum_same}

-- the binary digit i of w is 1
unfoldable pub digit : ℕ → ℕ → Bool
digit w i = eqb (w / 2 ^ i % 2) 1

-- ---- one digit at a time

pub digit_low : (w : ℕ) → digit w 0 ≡ eqb (w % 2) 1
unfolding digit
digit_low w = ap (λ (x : ℕ). eqb (x % 2) 1) (div-one w)

pub digit_suc : (w i : ℕ) → digit w (suc i) ≡ digit (w / 2) i
unfolding digit
digit_suc w i = ap (λ (x : ℕ). eqb (x % 2) 1) (sym (shr-shr w 1 i ∙ ap (λ (k : ℕ). w / 2 ^ k) (one-add i)))

-- a digit is 0 or 1: what holds of both holds of it
on_digit : (P : ℕ → Type 0) → P 0 → P 1 → (d : ℕ) → d < 2 → P d
on_digit P a b zero h = a
on_digit P a b (suc zero) h = b
on_digit P a b (suc (suc d)) h = absurd (omega arith)

-- ---- union and meet

or_low : (x y : ℕ) → bit_or x y % 2 ≡ max (x % 2) (y % 2)
or_low x y = ap (λ (n : ℕ). n % 2) (or_step x y) ∙ digits_mod (bit_or (x / 2) (y / 2)) {r = max (x % 2) (y % 2)} (omega arith)

and_low : (x y : ℕ) → bit_and x y % 2 ≡ min (x % 2) (y % 2)
and_low x y = ap (λ (n : ℕ). n % 2) (and_step x y) ∙ digits_mod (bit_and (x / 2) (y / 2)) {r = min (x % 2) (y % 2)} (omega arith)

or_digit : (p q : ℕ) → p < 2 → q < 2 → eqb (max p q) 1 ≡ (eqb p 1 || eqb q 1)
or_digit p q hp hq =
    on_digit (λ p. eqb (max p q) 1 ≡ (eqb p 1 || eqb q 1)) (on_digit (λ q. eqb (max 0 q) 1 ≡ eqb q 1) refl refl q hq) (on_digit (λ q. eqb (max 1 q) 1 ≡ true) refl refl q hq) p hp

and_digit : (p q : ℕ) → p < 2 → q < 2 → eqb (min p q) 1 ≡ (eqb p 1 && eqb q 1)
and_digit p q hp hq =
    on_digit (λ p. eqb (min p q) 1 ≡ (eqb p 1 && eqb q 1)) (on_digit (λ q. eqb (min 0 q) 1 ≡ false) refl refl q hq) (on_digit (λ q. eqb (min 1 q) 1 ≡ eqb q 1) refl refl q hq) p hp

pub digit_or : (a b i : ℕ) → digit (bit_or a b) i ≡ (digit a i || digit b i)
unfolding digit
digit_or a b i = rw (or_shr, or_low) (or_digit (a / 2 ^ i % 2) (b / 2 ^ i % 2) (omega arith) (omega arith))

pub digit_and : (a b i : ℕ) → digit (bit_and a b) i ≡ (digit a i && digit b i)
unfolding digit
digit_and a b i = rw (and_shr, and_low) (and_digit (a / 2 ^ i % 2) (b / 2 ^ i % 2) (omega arith) (omega arith))

-- ---- 0, powers, masks, complements

pub digit_zero : (i : ℕ) → digit 0 i ≡ false
unfolding digit
digit_zero i = ap (λ (x : ℕ). eqb (x % 2) 1) (zero-div (2 ^ i))

-- nothing stands past a number's digits
pub digit_high : (k w i : ℕ) → w < 2 ^ k → k ≤ i → digit w i ≡ false
unfolding digit
digit_high k w i h l = ap (λ (x : ℕ). eqb (x % 2) 1) (div-eq_of_lt (lt_of_lt_of_le h (pow_mono l)))

-- 2 ^ i has i alone
pub digit_pow : (i j : ℕ) → digit (2 ^ i) j ≡ eqb j i
digit_pow zero zero = digit_low 1
digit_pow zero (suc j) = digit_suc 1 j ∙ digit_zero j ∙ sym (eqb-suc-zero j)
digit_pow (suc i) zero =
    digit_low (2 ^ suc i) ∙ ap (λ (x : ℕ). eqb x 1) (ap (λ (x : ℕ). x % 2) (sym (one-mul (2 ^ suc i))) ∙ shifted_even 1 i) ∙ sym (eqb-zero-suc i)
digit_pow (suc i) (suc j) =
    digit_suc (2 ^ suc i) j
    ∙ ap (λ (x : ℕ). digit x j) (ap (λ (x : ℕ). x / 2) (sym (one-mul (2 ^ suc i))) ∙ shifted_half 1 i ∙ one-mul (2 ^ i))
    ∙ digit_pow i j ∙ sym (eqb-suc-suc j i)

-- the complement of a number of k digits
pub digit_not : (k w i : ℕ) → w < 2 ^ k → i < k → digit (2 ^ k - 1 - w) i ≡ not (digit w i)
digit_not zero w i h l = absurd (not-suc-le-zero l)
digit_not (suc k) w zero h l =
    let p = pow-suc 2 k in
    let e : (2 ^ suc k - 1 - w) % 2 ≡ 1 - w % 2 = omega arith in
    digit_low (2 ^ suc k - 1 - w) ∙ ap (λ (x : ℕ). eqb x 1) e ∙ on_digit (λ d. eqb (1 - d) 1 ≡ not (eqb d 1)) refl refl (w % 2) (omega arith) ∙ ap not (sym (digit_low w))
digit_not (suc k) w (suc i) h l =
    let p = pow-suc 2 k in
    let e : (2 ^ suc k - 1 - w) / 2 ≡ 2 ^ k - 1 - w / 2 = omega arith in
    digit_suc (2 ^ suc k - 1 - w) i ∙ ap (λ (x : ℕ). digit x i) e ∙ digit_not k (w / 2) i (omega arith) (le_of_suc-le-suc l) ∙ ap not (sym (digit_suc w i))

-- 2 ^ k - 1 has the numbers below k
pub digit_mask : (k i : ℕ) → digit (2 ^ k - 1) i ≡ ltb i k
digit_mask k i = go (dec_lt i k)
  where
    go : Dec (i < k) → digit (2 ^ k - 1) i ≡ ltb i k
    go (yes h) =
        let e : 2 ^ k - 1 ≡ 2 ^ k - 1 - 0 = omega arith in
        ap (λ (x : ℕ). digit x i) e ∙ digit_not k 0 i (pow_pos k) h ∙ ap not (digit_zero i) ∙ sym (lt-ltb i k h)
    go (no h) = digit_high k (2 ^ k - 1) i (let p = pow_pos k in omega arith) (omega arith) ∙ sym (le-ltb i k (omega arith))

-- ---- two numbers with the same digits are equal, and a number is what its digits make

digit_same : (p q : ℕ) → p < 2 → q < 2 → eqb p 1 ≡ eqb q 1 → p ≡ q
digit_same p q hp hq =
    on_digit (λ p. eqb p 1 ≡ eqb q 1 → p ≡ q)
    (on_digit (λ q. eqb 0 1 ≡ eqb q 1 → 0 ≡ q) (λ e. refl) (λ e. absurd (false≢true e)) q hq)
    (on_digit (λ q. eqb 1 1 ≡ eqb q 1 → 1 ≡ q) (λ e. absurd (true≢false e)) (λ e. refl) q hq) p hp

pub digit_ext : (k a b : ℕ) → a < 2 ^ k → b < 2 ^ k → ((i : ℕ) → i < k → digit a i ≡ digit b i) → a ≡ b
digit_ext zero a b ha hb f = lt-one ha ∙ sym (lt-one hb)
digit_ext (suc k) a b ha hb f =
    let low : a % 2 ≡ b % 2 = digit_same (a % 2) (b % 2) (omega arith) (omega arith) (sym (digit_low a) ∙ f zero (zero-lt-suc k) ∙ digit_low b) in
    let high : a / 2 ≡ b / 2 = digit_ext k (a / 2) (b / 2) (shr_lt k 1 (rw add-one ha)) (shr_lt k 1 (rw add-one hb)) (λ i h. sym (digit_suc a i) ∙ f (suc i) (suc-le-suc h) ∙ digit_suc b i) in
    omega arith

bit_digit : (b : Bool) → bit b < 2
bit_digit true = omega arith
bit_digit false = omega arith

pub digits_lt : (k : ℕ) (s : ℕ → Bool) → digits_of k s < 2 ^ k
unfolding digits_of
digits_lt zero s = omega arith
digits_lt (suc k) s =
    let p = pow-suc 2 k in
    let h : digits_of k (λ i. s (suc i)) < 2 ^ k = digits_lt k (λ i. s (suc i)) in
    let b : bit (s zero) < 2 = bit_digit (s zero) in
    omega arith

bit_is : (b : Bool) → eqb (bit b) 1 ≡ b
bit_is true = refl
bit_is false = refl

pub digits_has : (k : ℕ) (s : ℕ → Bool) (i : ℕ) → i < k → digit (digits_of k s) i ≡ s i
unfolding digits_of
digits_has zero s i h = absurd (not-suc-le-zero h)
digits_has (suc k) s zero h =
    let b : bit (s zero) < 2 = bit_digit (s zero) in
    let e : (bit (s zero) + 2 * digits_of k (λ i. s (suc i))) % 2 ≡ bit (s zero) = omega arith in
    digit_low (bit (s zero) + 2 * digits_of k (λ i. s (suc i))) ∙ ap (λ (x : ℕ). eqb x 1) e ∙ bit_is (s zero)
digits_has (suc k) s (suc i) h =
    let b : bit (s zero) < 2 = bit_digit (s zero) in
    let e : (bit (s zero) + 2 * digits_of k (λ i. s (suc i))) / 2 ≡ digits_of k (λ i. s (suc i)) = omega arith in
    digit_suc (bit (s zero) + 2 * digits_of k (λ i. s (suc i))) i ∙ ap (λ (x : ℕ). digit x i) e ∙ digits_has k (λ i. s (suc i)) i (le_of_suc-le-suc h)

-- ---- the lowest digit that is 1, and how many are

pub digit_least : (k w : ℕ) → count_trailing_zeros k w ≡ least (digit w) k
unfolding count_trailing_zeros least
digit_least zero w = refl
digit_least (suc k) w =
    ap (λ (t : ℕ). under (w % 2) t) (digit_least k (w / 2) ∙ sym (least_same (λ i. digit w (suc i)) (digit (w / 2)) k (λ i l. digit_suc w i)))
    ∙ on_digit (λ d. under d (least (λ i. digit w (suc i)) k) ≡ cond (eqb d 1) zero (suc (least (λ i. digit w (suc i)) k))) refl refl (w % 2) (omega arith)
    ∙ ap (λ (b : Bool). cond b zero (suc (least (λ i. digit w (suc i)) k))) (sym (digit_low w))

pub digit_count : (k w : ℕ) → w < 2 ^ k → ones w ≡ sum_to (λ i. bit (digit w i)) k
unfolding sum_to ones
digit_count zero w h = rw (lt-one h)
digit_count (suc k) w h =
    let low : w % 2 ≡ bit (digit w 0) = on_digit (λ d. d ≡ bit (eqb d 1)) refl refl (w % 2) (omega arith) ∙ ap bit (sym (digit_low w)) in
    let rest : ones (w / 2) ≡ sum_to (λ i. bit (digit w (suc i))) k = digit_count k (w / 2) (shr_lt k 1 (rw add-one h)) ∙ sym (sum_same (λ i. bit (digit w (suc i))) (λ i. bit (digit (w / 2) i)) k (λ i l. ap bit (digit_suc w i))) in
    ones_step w ∙ ap₂ (λ (a b : ℕ). a + b) low rest ∙ sym (sum_head (λ i. bit (digit w i)) k)
