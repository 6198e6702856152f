-- The members of a set in rising order: the first is the least, the rest are those of the set without it, and each stands at one place.
-- Assumes nothing.
use Rattle.std.proofs.Common.{◌≡◌, refl, sym, ap, ◌∙◌, Bool, true, false, cond, List, ◌∷◌, ℕ, zero, suc, ◌+◌, ◌≤◌, ◌<◌, not-suc-le-zero, arith, length, get_or, [], Some, None, ◌-◌}
use native.Mathlib.Decide.{dec_lt, ℕ_discrete}
use Rattle.sets.specs.Test.{remove, least, first_passing, bit, sum_to, size, members_from}
use Rattle.sets.specs.Word.{has, count, members}
use Rattle.sets.proofs.Bools.{not_both, none_true}
use Rattle.sets.proofs.Sets.{remove_in, in_remove, remove_self}
use Rattle.sets.proofs.Least.{least_found, least_none, passing_is, none_passing}

-- the least of the k numbers from i on that is in s, or i + k where none is
unfoldable low_from : (ℕ → Bool) → ℕ → ℕ → ℕ
low_from s i zero = i
low_from s i (suc k) = cond (s i) i (low_from s (suc i) k)

-- what it is: at least i, at most i + k, in s below that, with none of s between
record Low (s : ℕ → Bool) (i k x : ℕ) : Type 0 where
  from : i ≤ x
  within : x ≤ i + k
  found : x < i + k → s x ≡ true
  none : (j : ℕ) → i ≤ j → j < x → s j ≡ false

low_is : (s : ℕ → Bool) (i k : ℕ) → Low s i k (low_from s i k)
unfolding low_from
low_is s i zero = record { from = omega arith; within = omega arith; found = λ h. absurd (omega arith); none = λ j a b. absurd (omega arith) }
low_is s i (suc k) = go (s i) refl (low_is s (suc i) k)
  where
    go : (b : Bool) → s i ≡ b → Low s (suc i) k (low_from s (suc i) k) → Low s i (suc k) (cond b i (low_from s (suc i) k))
    go true e l = record { from = omega arith; within = omega arith; found = λ h. e; none = λ j a b. absurd (omega arith) }
    go false e l = record {
      from = omega (arith, l.from);
      within = omega (arith, l.within);
      found = λ h. l.found (omega arith);
      none = λ j a b. elim (ℕ_discrete j i) [ yes q ↦ rw q e | no ne ↦ l.none j (omega arith) b ];
    }

low_least : (s : ℕ → Bool) (k : ℕ) → low_from s 0 k ≡ least s k
low_least s k = go (dec_lt (low_from s 0 k) k)
  where
    l : Low s 0 k (low_from s 0 k)
    l = low_is s 0 k

    go : Dec (low_from s 0 k < k) → low_from s 0 k ≡ least s k
    go (yes h) = sym (least_found s k (low_from s 0 k) h (λ j a. l.none j (omega arith) a) (l.found (omega arith)))
    go (no h) =
        let e : low_from s 0 k ≡ k = omega (arith, l.within) in
        e ∙ sym (least_none s k (λ j a. l.none j (omega arith) (omega arith)))

-- sets that agree from i on have the same members from i on
same_from : (s t : ℕ → Bool) (i k : ℕ) → ((j : ℕ) → i ≤ j → s j ≡ t j) → members_from s i k ≡ members_from t i k
unfolding members_from
same_from s t i zero f = refl
same_from s t i (suc k) f = rw (f i (omega arith), same_from s t (suc i) k (λ j h. f j (omega arith)))

head_low : (s : ℕ → Bool) (i k : ℕ) → get_or (members_from s i k) 0 (i + k) ≡ low_from s i k
unfolding members_from low_from
head_low s i zero = omega arith
head_low s i (suc k) = go (s i) (ap (get_or (members_from s (suc i) k) 0) (let e : i + suc k ≡ suc i + k = omega arith in e) ∙ head_low s (suc i) k)
  where
    go : (b : Bool) → get_or (members_from s (suc i) k) 0 (i + suc k) ≡ low_from s (suc i) k
        → get_or (cond b (i ∷ members_from s (suc i) k) (members_from s (suc i) k)) 0 (i + suc k) ≡ cond b i (low_from s (suc i) k)
    go true e = refl
    go false e = e

-- leaving x out changes no other number
remove_other : (x j : ℕ) (s : ℕ → Bool) → (j ≡ x → ⊥) → remove x s j ≡ s j
unfolding remove
remove_other x j s ne = go (s j) refl
  where
    go : (b : Bool) → s j ≡ b → remove x s j ≡ b
    go true e = in_remove x s j e ne
    go false e = none_true (remove x s j) (λ h. not_both (remove_in x s j h) e)

tail_low : (s : ℕ → Bool) (i k m d : ℕ) → get_or (members_from s i k) (suc m) d ≡ get_or (members_from (remove (low_from s i k) s) i k) m d
unfolding members_from low_from
tail_low s i zero m d = refl
tail_low s i (suc k) m d = go (s i) refl (tail_low s (suc i) k m d)
  where
    go : (b : Bool) → s i ≡ b → get_or (members_from s (suc i) k) (suc m) d ≡ get_or (members_from (remove (low_from s (suc i) k) s) (suc i) k) m d
        → get_or (cond b (i ∷ members_from s (suc i) k) (members_from s (suc i) k)) (suc m) d
        ≡ get_or (cond (remove (cond b i (low_from s (suc i) k)) s i) (i ∷ members_from (remove (cond b i (low_from s (suc i) k)) s) (suc i) k) (members_from (remove (cond b i (low_from s (suc i) k)) s) (suc i) k)) m d
    go true e h =
        rw (remove_self i s) (ap (λ (l : List ℕ). get_or l m d) (same_from s (remove i s) (suc i) k (λ j a. sym (remove_other i j s (λ q. omega arith)))))
    go false e h =
        let low = low_is s (suc i) k in
        rw (remove_other (low_from s (suc i) k) i s (λ q. omega (arith, low.from)), e) h

-- the first member of a word is its lowest number
pub members_head : (w : ℕ) → get_or (members w) 0 64 ≡ least (has w) 64
unfolding members
members_head w = head_low (has w) 0 64 ∙ low_least (has w) 64

-- the members after the first are those of any word that has all but the lowest number
pub members_tail : (w v m : ℕ) → has v ≡ remove (least (has w) 64) (has w) → get_or (members w) (suc m) 64 ≡ get_or (members v) m 64
unfolding members
members_tail w v m e =
    tail_low (has w) 0 64 m 64
    ∙ ap (λ (x : ℕ). get_or (members_from (remove x (has w)) 0 64) m 64) (low_least (has w) 64)
    ∙ ap (λ (s : ℕ → Bool). get_or (members_from s 0 64) m 64) (sym e)

-- one lowest number less moves the place down by one
pub less_one : (w rest low rest' k i : ℕ) → i < k → get_or (members w) k 64 ≡ get_or (members rest) (k - i) 64
    → low ≡ least (has rest) 64 → has rest' ≡ remove low (has rest) → get_or (members w) k 64 ≡ get_or (members rest') (k - (i + 1)) 64
less_one w rest low rest' k i h e l r =
    let q : k - i ≡ suc (k - (i + 1)) = omega arith in
    e ∙ ap (λ (m : ℕ). get_or (members rest) m 64) q ∙ members_tail rest rest' (k - (i + 1)) (r ∙ ap (λ (x : ℕ). remove x (has rest)) l)

-- where none is low, there is no member
none_low : (s : ℕ → Bool) (i k : ℕ) → low_from s i k ≡ i + k → members_from s i k ≡ []
unfolding members_from low_from
none_low s i zero e = refl
none_low s i (suc k) e = go (s i) e (none_low s (suc i) k)
  where
    go : (b : Bool) → cond b i (low_from s (suc i) k) ≡ i + suc k → (low_from s (suc i) k ≡ suc i + k → members_from s (suc i) k ≡ [])
        → cond b (i ∷ members_from s (suc i) k) (members_from s (suc i) k) ≡ []
    go true e f = absurd (omega arith)
    go false e f = f (omega arith)

-- the members from i on, where there is one: the least, then those of the set without it
cons_low : (s : ℕ → Bool) (i k : ℕ) → low_from s i k < i + k → members_from s i k ≡ low_from s i k ∷ members_from (remove (low_from s i k) s) i k
unfolding members_from low_from
cons_low s i zero h = absurd (omega arith)
cons_low s i (suc k) h = go (s i) refl h (cons_low s (suc i) k)
  where
    go : (b : Bool) → s i ≡ b → cond b i (low_from s (suc i) k) < i + suc k
        → (low_from s (suc i) k < suc i + k → members_from s (suc i) k ≡ low_from s (suc i) k ∷ members_from (remove (low_from s (suc i) k) s) (suc i) k)
        → cond b (i ∷ members_from s (suc i) k) (members_from s (suc i) k)
        ≡ cond b i (low_from s (suc i) k) ∷ cond (remove (cond b i (low_from s (suc i) k)) s i) (i ∷ members_from (remove (cond b i (low_from s (suc i) k)) s) (suc i) k) (members_from (remove (cond b i (low_from s (suc i) k)) s) (suc i) k)
    go true e h f = rw (remove_self i s) (ap (λ (l : List ℕ). i ∷ l) (same_from s (remove i s) (suc i) k (λ j a. sym (remove_other i j s (λ q. omega arith)))))
    go false e h f =
        let low = low_is s (suc i) k in
        rw (remove_other (low_from s (suc i) k) i s (λ q. omega (arith, low.from)), e) (f (omega (arith, h)))

-- a word with no first number has no member
pub members_none : (w : ℕ) → first_passing (has w) 64 ≡ None → members w ≡ []
unfolding members
members_none w e = none_low (has w) 0 64 (low_least (has w) 64 ∙ none_passing (has w) 64 e)

-- the members of a word are its first number and those of any word that has all the others
pub members_cons : (w v i : ℕ) → first_passing (has w) 64 ≡ Some i → has v ≡ remove i (has w) → members w ≡ i ∷ members v
unfolding members
members_cons w v i e less =
    let first = passing_is (has w) 64 i e in
    let low = low_least (has w) 64 ∙ first.1 in
    cons_low (has w) 0 64 (omega (arith, first.0))
    ∙ ap (λ (x : ℕ). x ∷ members_from (remove x (has w)) 0 64) low
    ∙ ap (λ (s : ℕ → Bool). i ∷ members_from s 0 64) (sym less)

-- each call leaves fewer members
pub members_fewer : (w v i : ℕ) → members w ≡ i ∷ members v → length (members v) < length (members w)
members_fewer w v i e = omega (arith, ap (length {A = ℕ}) e)

-- a word has as many members as it has numbers
length_from : (s : ℕ → Bool) (i k : ℕ) → sum_to (λ j. bit (s j)) i + length (members_from s i k) ≡ sum_to (λ j. bit (s j)) (i + k)
unfolding members_from sum_to
length_from s i zero =
    let e : i + 0 ≡ i = omega arith in
    rw e (omega arith)
length_from s i (suc k) =
    let e : i + suc k ≡ suc i + k = omega arith in
    rw e (go (s i) refl (length_from s (suc i) k))
  where
    go : (b : Bool) → s i ≡ b → sum_to (λ j. bit (s j)) (suc i) + length (members_from s (suc i) k) ≡ sum_to (λ j. bit (s j)) (suc i + k)
        → sum_to (λ j. bit (s j)) i + length (cond b (i ∷ members_from s (suc i) k) (members_from s (suc i) k)) ≡ sum_to (λ j. bit (s j)) (suc i + k)
    go true e h = let q : bit (s i) ≡ 1 = ap bit e in omega arith
    go false e h = let q : bit (s i) ≡ 0 = ap bit e in omega arith

length_zero : (s : ℕ → Bool) (k : ℕ) → length (members_from s 0 k) ≡ size s k
unfolding size sum_to
length_zero s k =
    let z : 0 + k ≡ k = omega arith in
    let h : 0 + length (members_from s 0 k) ≡ sum_to (λ j. bit (s j)) k = rw z at (length_from s 0 k) in
    omega arith

pub members_length : (w : ℕ) → length (members w) ≡ count w
unfolding members count
members_length w = length_zero (has w) 64

-- each member is a number of the set, no lower than where the members begin
pub from_has : (s : ℕ → Bool) (i k m d : ℕ) → m < length (members_from s i k) → (s (get_or (members_from s i k) m d) ≡ true) × (i ≤ get_or (members_from s i k) m d)
unfolding members_from
from_has s i zero m d h = absurd (not-suc-le-zero h)
from_has s i (suc k) m d h = go (s i) refl m h (from_has s (suc i) k)
  where
    go : (b : Bool) → s i ≡ b → (m : ℕ) → m < length (cond b (i ∷ members_from s (suc i) k) (members_from s (suc i) k))
        → ((m d : ℕ) → m < length (members_from s (suc i) k) → (s (get_or (members_from s (suc i) k) m d) ≡ true) × (suc i ≤ get_or (members_from s (suc i) k) m d))
        → (s (get_or (cond b (i ∷ members_from s (suc i) k) (members_from s (suc i) k)) m d) ≡ true) × (i ≤ get_or (cond b (i ∷ members_from s (suc i) k) (members_from s (suc i) k)) m d)
    go true e zero h f = (e, omega arith)
    go true e (suc m) h f = let q = f m d (omega arith) in (q.0, omega (arith, q.1))
    go false e m h f = let q = f m d h in (q.0, omega (arith, q.1))

-- each number of the set is a member
pub has_from : (s : ℕ → Bool) (i k x d : ℕ) → i ≤ x → x < i + k → s x ≡ true → (m : ℕ) × (m < length (members_from s i k)) × (get_or (members_from s i k) m d ≡ x)
unfolding members_from
has_from s i zero x d a b e = absurd (omega arith)
has_from s i (suc k) x d a b e = go (s i) refl (ℕ_discrete x i) (has_from s (suc i) k x d)
  where
    go : (t : Bool) → s i ≡ t → Dec (x ≡ i)
        → (suc i ≤ x → x < suc i + k → s x ≡ true → (m : ℕ) × (m < length (members_from s (suc i) k)) × (get_or (members_from s (suc i) k) m d ≡ x))
        → (m : ℕ) × (m < length (cond t (i ∷ members_from s (suc i) k) (members_from s (suc i) k))) × (get_or (cond t (i ∷ members_from s (suc i) k) (members_from s (suc i) k)) m d ≡ x)
    go true q (yes z) f = (0, omega arith, sym z)
    go true q (no ne) f = let w = f (omega arith) (omega arith) e in (suc w.0, omega (arith, w.1), w.2)
    go false q (yes z) f = absurd (not_both e (rw z q))
    go false q (no ne) f = f (omega arith) (omega arith) e

-- members rise
pub from_rising : (s : ℕ → Bool) (i k d p q : ℕ) → p < q → q < length (members_from s i k) → get_or (members_from s i k) p d < get_or (members_from s i k) q d
unfolding members_from
from_rising s i zero d p q l h = absurd (not-suc-le-zero h)
from_rising s i (suc k) d p q l h = go (s i) p q l h (from_rising s (suc i) k d)
  where
    go : (t : Bool) (p q : ℕ) → p < q → q < length (cond t (i ∷ members_from s (suc i) k) (members_from s (suc i) k))
        → ((p q : ℕ) → p < q → q < length (members_from s (suc i) k) → get_or (members_from s (suc i) k) p d < get_or (members_from s (suc i) k) q d)
        → get_or (cond t (i ∷ members_from s (suc i) k) (members_from s (suc i) k)) p d < get_or (cond t (i ∷ members_from s (suc i) k) (members_from s (suc i) k)) q d
    go true p zero l h f = absurd (not-suc-le-zero l)
    go true zero (suc q) l h f = (from_has s (suc i) k q d (omega arith)).1
    go true (suc p) (suc q) l h f = f p q (omega arith) (omega arith)
    go false p q l h f = f p q l h
