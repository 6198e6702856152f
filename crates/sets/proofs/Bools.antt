-- Laws of tests: what a Bool that is true or false says of its parts. Assumes nothing.
use Rattle.std.proofs.Common.{◌≡◌, refl, sym, ◌∙◌, Bool, true, false, not, ◌&&◌, ◌||◌, true≢false, ◌⊎◌, inl, inr}
use mathlib.Core.Bool.{false≢true}

-- a conjunction that holds has a first part that holds
pub and_left : (a b : Bool) → a && b ≡ true → a ≡ true
and_left true b e = refl
and_left false b e = e

-- and a second
pub and_right : (a b : Bool) → a && b ≡ true → b ≡ true
and_right true b e = e
and_right false b e = absurd (false≢true e)

-- two parts that hold make a conjunction
pub and_both : (a b : Bool) → a ≡ true → b ≡ true → a && b ≡ true
and_both a b p q = rw (p, q) refl

-- a conjunction that fails, with a first part that holds, has a second part that fails
pub and_rest : (a b : Bool) → a && b ≡ false → a ≡ true → b ≡ false
and_rest true b e h = e
and_rest false b e h = absurd (false≢true h)

-- a part that fails makes the conjunction fail
pub and_fails : (a b : Bool) → (a ≡ true → b ≡ false) → a && b ≡ false
and_fails true b h = h refl
and_fails false b h = refl

-- a disjunction that holds has a part that holds
pub or_cases : (a b : Bool) → a || b ≡ true → (a ≡ true) ⊎ (b ≡ true)
or_cases true b e = inl refl
or_cases false b e = inr e

-- a part that holds makes the disjunction hold
pub or_left : (a b : Bool) → a ≡ true → a || b ≡ true
or_left a b e = rw e refl

pub or_right : (a b : Bool) → b ≡ true → a || b ≡ true
or_right true b e = refl
or_right false b e = e

-- no test is true and false
pub not_both : {b : Bool} → b ≡ true → b ≡ false → ⊥
not_both p q = true≢false (sym p ∙ q)

-- a test is true or false
pub bool_cases : (b : Bool) → (b ≡ true) ⊎ (b ≡ false)
bool_cases true = inl refl
bool_cases false = inr refl

-- a test that cannot be true is false
pub none_true : (b : Bool) → (b ≡ true → ⊥) → b ≡ false
none_true true h = absurd (h refl)
none_true false h = refl

-- a test that cannot be false is true
pub none_false : (b : Bool) → (b ≡ false → ⊥) → b ≡ true
none_false true h = refl
none_false false h = absurd (h refl)

-- the negation of a test
pub not_is : (b : Bool) → b ≡ false → not b ≡ true
not_is b e = rw e refl

pub is_not : (b : Bool) → not b ≡ true → b ≡ false
is_not true e = absurd (false≢true e)
is_not false e = refl

-- two tests that pass together are equal
pub same_test : (a b : Bool) → (a ≡ true → b ≡ true) → (b ≡ true → a ≡ true) → a ≡ b
same_test true b f g = sym (f refl)
same_test false true f g = g refl
same_test false false f g = refl
