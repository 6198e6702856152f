-- Words as sets: what each operation on words has, the lowest, the count, and that a word is its set. Assumes nothing.
use Rattle.std.proofs.Common.{◌≡◌, refl, sym, ap, ◌∙◌, Bool, true, false, not, ◌&&◌, ◌||◌, ◌⊎◌, ⊎_elim, ℕ, ◌+◌, ◌-◌, ◌/◌, ◌%◌, ◌^◌, ◌≤◌, ◌<◌, lt_of_le_of_lt, arith, bit_and, bit_or, eqb, ltb, lt-ltb, le-ltb, ltb-true, eq-eqb, eqb-true, ne_eqb, lit<}
use mathlib.Core.Path.{fun_ext}
use mathlib.Core.Bool.{and-or_distrib_left, and-false}
use native.Mathlib.Decide.{dec_lt}
use lib.Bits.{and_le_l}
use lib.Pow.{pow-lt}
use lib.Count.{count_trailing_zeros, ones}
use Rattle.sets.specs.Test.{insert, remove, either, both, less, under, up_to, least, every, bit, size}
use Rattle.sets.specs.Word.{has, kept, digits_of, word, count}
use Rattle.sets.proofs.Bools.{and_left, and_right, and_both, none_true, same_test}
use Rattle.sets.proofs.Sets.{same_set, remove_in, remove_ne, in_remove, up_to_in, in_up_to, every_at, at_every}
use Rattle.sets.proofs.Least.{least_same, least_below, least_none}
use Rattle.sets.proofs.Sums.{sum_same}
use Rattle.sets.proofs.Digits.{digit, digit_or, digit_and, digit_not, digit_pow, digit_zero, digit_mask, digit_ext, digits_has, digits_lt, digit_least, digit_count}

-- two tests that agree below 64 agree as sets of words
cut : (p q : ℕ → Bool) → ((i : ℕ) → i < 64 → p i ≡ q i) → (i : ℕ) → (ltb i 64 && p i) ≡ (ltb i 64 && q i)
cut p q f i = go (dec_lt i 64)
  where
    go : Dec (i < 64) → (ltb i 64 && p i) ≡ (ltb i 64 && q i)
    go (yes h) = ap (λ (b : Bool). ltb i 64 && b) (f i h)
    go (no h) = rw (le-ltb i 64 (omega arith))

-- a word's set, by its digits
pub has_digit : (w : ℕ) → has w ≡ kept (digit w)
unfolding has kept digit
has_digit w = refl

-- the members of a word are below 64
pub has_under : (w i : ℕ) → has w i ≡ true → i < 64
unfolding has
has_under w i e = ltb-true i 64 (and_left (ltb i 64) _ e)

-- a word holds all of its own set, and no set's member past 63
pub kept_has : (w : ℕ) → kept (has w) ≡ has w
unfolding kept has
kept_has w = fun_ext (λ i. twice (ltb i 64) (eqb (w / 2 ^ i % 2) 1))
  where
    twice : (a b : Bool) → (a && (a && b)) ≡ (a && b)
    twice true b = refl
    twice false b = refl

pub kept_at : (s : ℕ → Bool) (i : ℕ) → i < 64 → kept s i ≡ s i
unfolding kept
kept_at s i h = rw (lt-ltb i 64 h)

-- a set of numbers below 64 is held whole
pub kept_small : (s : ℕ → Bool) → ((i : ℕ) → s i ≡ true → i < 64) → kept s ≡ s
unfolding kept
kept_small s f = fun_ext (λ i. same_test (ltb i 64 && s i) (s i) (and_right (ltb i 64) (s i)) (λ e. and_both (ltb i 64) (s i) (lt-ltb i 64 (f i e)) e))

-- the empty word
pub has_none : (i : ℕ) → has 0 i ≡ false
unfolding has digit
has_none i = ap (λ (b : Bool). ltb i 64 && b) (digit_zero i) ∙ and-false (ltb i 64)

-- union, meet, difference
pub has_union : (a b : ℕ) → has (bit_or a b) ≡ either (has a) (has b)
unfolding has either digit
has_union a b = fun_ext (λ i. ap (λ (x : Bool). ltb i 64 && x) (digit_or a b i) ∙ and-or_distrib_left (ltb i 64) (digit a i) (digit b i))

pub has_both : (a b : ℕ) → has (bit_and a b) ≡ both (has a) (has b)
unfolding has both digit
has_both a b = fun_ext (λ i. ap (λ (x : Bool). ltb i 64 && x) (digit_and a b i) ∙ spread (ltb i 64) (digit a i) (digit b i))
  where
    spread : (l x y : Bool) → (l && (x && y)) ≡ ((l && x) && (l && y))
    spread true x y = refl
    spread false x y = refl

pub has_less : (a b : ℕ) → b < 2 ^ 64 → has (bit_and a (2 ^ 64 - 1 - b)) ≡ less (has a) (has b)
unfolding has less digit
has_less a b hb =
    fun_ext
    (λ i. cut (λ i. digit (bit_and a (2 ^ 64 - 1 - b)) i) (λ i. digit a i && not (digit b i)) (λ i h. digit_and a (2 ^ 64 - 1 - b) i ∙ ap (λ (x : Bool). digit a i && x) (digit_not 64 b i hb h)) i
    ∙ spread (ltb i 64) (digit a i) (digit b i))
  where
    spread : (l x y : Bool) → (l && (x && not y)) ≡ ((l && x) && not (l && y))
    spread true x y = refl
    spread false x y = refl

-- one number more, one number less
pub has_with : (w x : ℕ) → has (bit_or w (2 ^ x)) ≡ kept (insert x (has w))
unfolding has kept insert digit
has_with w x = fun_ext (λ i. ap (λ (b : Bool). ltb i 64 && b) (digit_or w (2 ^ x) i ∙ ap (λ (b : Bool). digit w i || b) (digit_pow x i)) ∙ turn (ltb i 64) (digit w i) (eqb i x))
  where
    turn : (l d e : Bool) → (l && (d || e)) ≡ (l && (e || (l && d)))
    turn true true true = refl
    turn true true false = refl
    turn true false true = refl
    turn true false false = refl
    turn false d e = refl

pub has_without : (w x : ℕ) → x < 64 → has (bit_and w (2 ^ 64 - 1 - 2 ^ x)) ≡ remove x (has w)
unfolding has remove less digit
has_without w x h =
    has_less w (2 ^ x) (pow-lt h)
    ∙ fun_ext (λ i. ap (λ (b : Bool). (ltb i 64 && digit w i) && not (ltb i 64 && b)) (digit_pow x i) ∙ turn (ltb i 64) (digit w i) (eqb i x))
  where
    turn : (l d e : Bool) → ((l && d) && not (l && e)) ≡ ((l && d) && not e)
    turn true d e = refl
    turn false d e = refl

-- no number past 63 can be put in or left out
pub with_high : (w x : ℕ) → 64 ≤ x → has w ≡ kept (insert x (has w))
unfolding has kept insert
with_high w x h = fun_ext (λ i. go i (dec_lt i 64))
  where
    go : (i : ℕ) → Dec (i < 64) → has w i ≡ (ltb i 64 && (eqb i x || has w i))
    go i (yes l) = rw (lt-ltb i 64 l, ne_eqb i x (λ e. omega arith))
    go i (no l) = rw (le-ltb i 64 (omega arith))

pub without_high : (w x : ℕ) → 64 ≤ x → has w ≡ remove x (has w)
without_high w x h = same_set (λ i e. in_remove x (has w) i e (λ z. let l = has_under w i e in omega arith)) (λ i e. remove_in x (has w) i e)

-- the numbers below n, those past 63 apart
pub has_mask : (n : ℕ) → has (2 ^ n - 1) ≡ kept (under n)
unfolding has kept under digit
has_mask n = fun_ext (λ i. ap (λ (b : Bool). ltb i 64 && b) (digit_mask n i))

pub under_high : (n m : ℕ) → 64 ≤ n → 64 ≤ m → kept (under n) ≡ kept (under m)
unfolding kept under
under_high n m h l = fun_ext (cut (λ i. ltb i n) (λ i. ltb i m) (λ i k. lt-ltb i n (omega arith) ∙ sym (lt-ltb i m (omega arith))))

-- the numbers 1 to n, those past 63 apart: what is below a bound that leaves out none of them, less 0
pub up_to_less : (n m : ℕ) → (m ≡ n + 1) ⊎ ((m ≡ 64) × (64 ≤ n)) → remove 0 (kept (under m)) ≡ kept (up_to n)
unfolding kept under
up_to_less n m h = same_set to from
  where
    in_both : (i : ℕ) → i < 64 → i < m → i ≤ n
    in_both i a b = ⊎_elim (λ e. omega arith) (λ e. omega arith) h

    in_mask : (i : ℕ) → i < 64 → i ≤ n → i < m
    in_mask i a b = ⊎_elim (λ e. omega arith) (λ e. omega arith) h

    to : (i : ℕ) → remove 0 (kept (under m)) i ≡ true → kept (up_to n) i ≡ true
    to i e =
        let k : kept (under m) i ≡ true = remove_in 0 (kept (under m)) i e in
        let ne : i ≡ 0 → ⊥ = remove_ne 0 (kept (under m)) i e in
        let l : i < 64 = ltb-true i 64 (and_left (ltb i 64) _ k) in
        and_both (ltb i 64) (up_to n i) (lt-ltb i 64 l) (in_up_to n i (omega arith) (in_both i l (ltb-true i m (and_right (ltb i 64) _ k))))

    from : (i : ℕ) → kept (up_to n) i ≡ true → remove 0 (kept (under m)) i ≡ true
    from i e =
        let l : i < 64 = ltb-true i 64 (and_left (ltb i 64) _ e) in
        let u = up_to_in n i (and_right (ltb i 64) (up_to n i) e) in
        in_remove 0 (kept (under m)) i (and_both (ltb i 64) (ltb i m) (lt-ltb i 64 l) (lt-ltb i m (in_mask i l u.1))) (λ z. omega (arith, u.0))

-- the lowest, and how many
pub has_least : (w : ℕ) → count_trailing_zeros 64 w ≡ least (has w) 64
unfolding has digit
has_least w = digit_least 64 w ∙ least_same (digit w) (has w) 64 (λ i h. sym (ap (λ (b : Bool). b && digit w i) (lt-ltb i 64 h)))

pub has_count : (w : ℕ) → w < 2 ^ 64 → ones w ≡ count w
unfolding has size count digit
has_count w h = digit_count 64 w h ∙ sum_same (λ i. bit (digit w i)) (λ i. bit (has w i)) 64 (λ i l. ap bit (sym (ap (λ (b : Bool). b && digit w i) (lt-ltb i 64 l))))

-- words with the same set are equal, and a word is the word of its set
pub same_word : (a b : ℕ) → a < 2 ^ 64 → b < 2 ^ 64 → has a ≡ has b → a ≡ b
unfolding has digit
same_word a b ha hb e = digit_ext 64 a b ha hb (λ i h. sym (in_word a i h) ∙ ap (λ (s : ℕ → Bool). s i) e ∙ in_word b i h)
  where
    in_word : (w i : ℕ) → i < 64 → has w i ≡ digit w i
    in_word w i h = ap (λ (b : Bool). b && digit w i) (lt-ltb i 64 h)

-- a word that is not 0 has a number
pub has_some : (w : ℕ) → w < 2 ^ 64 → (w ≡ 0 → ⊥) → least (has w) 64 < 64
has_some w h ne = go (dec_lt (least (has w) 64) 64)
  where
    go : Dec (least (has w) 64 < 64) → least (has w) 64 < 64
    go (yes l) = l
    go (no l) = absurd (ne (same_word w 0 h (lit< tt) (fun_ext (λ i. absent i (dec_lt i 64) ∙ sym (has_none i)))))
      where
        absent : (i : ℕ) → Dec (i < 64) → has w i ≡ false
        absent i (yes k) = least_below (has w) 64 i (omega arith)
        absent i (no k) = none_true (has w i) (λ e. let q = has_under w i e in omega arith)

-- the empty word has no number
pub none_least : least (has 0) 64 ≡ 64
none_least = least_none (has 0) 64 (λ i h. has_none i)

pub word_lt : (s : ℕ → Bool) → word s < 2 ^ 64
unfolding word
word_lt s = digits_lt 64 s

pub has_word : (s : ℕ → Bool) → has (word s) ≡ kept s
unfolding has kept word digit
has_word s = fun_ext (cut (digit (digits_of 64 s)) s (digits_has 64 s))

pub word_has : (w : ℕ) → w < 2 ^ 64 → word (has w) ≡ w
word_has w h = same_word (word (has w)) w (word_lt (has w)) h (has_word (has w) ∙ kept_has w)

-- one word lies within another exactly when their meet is the first
pub within_is : (a b : ℕ) → a < 2 ^ 64 → eqb (bit_and a b) a ≡ every (λ i. not (has a i) || has b i) 64
unfolding both
within_is a b ha = same_test _ _ to from
  where
    to : eqb (bit_and a b) a ≡ true → every (λ i. not (has a i) || has b i) 64 ≡ true
    to e = at_every _ 64 (λ i h. go (has a i) (has b i) (ap (λ (s : ℕ → Bool). s i) (sym (has_both a b) ∙ ap has (eqb-true (bit_and a b) a e))))
      where
        go : (x y : Bool) → (x && y) ≡ x → not x || y ≡ true
        go true y q = q
        go false y q = refl

    from : every (λ i. not (has a i) || has b i) 64 ≡ true → eqb (bit_and a b) a ≡ true
    from e = eq-eqb (bit_and a b) a (same_word (bit_and a b) a (lt_of_le_of_lt (and_le_l a b) ha) ha (has_both a b ∙ fun_ext (λ i. all i (dec_lt i 64))))
      where
        keep : (x y : Bool) → not x || y ≡ true → (x && y) ≡ x
        keep true y q = q
        keep false y q = refl

        none : (i : ℕ) → 64 ≤ i → (t : Bool) → has a i ≡ t → (has a i && has b i) ≡ has a i
        none i h true q = absurd (let l = has_under a i q in omega arith)
        none i h false q = rw q

        all : (i : ℕ) → Dec (i < 64) → (has a i && has b i) ≡ has a i
        all i (yes h) = keep (has a i) (has b i) (every_at _ 64 e i h)
        all i (no h) = none i (omega arith) (has a i) refl
