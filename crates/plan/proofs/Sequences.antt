-- Sequences: n places that use each of 1 to n use each just once and nothing else. What the loop of `uses_each_once` gathers, and what its
-- answer means by places. Assumes nothing.
use Rattle.std.proofs.Common.{◌≡◌, refl, sym, ap, ◌∙◌, Bool, true, false, ◌&&◌, ◌||◌, List, [], ◌∷◌, ◌++◌, ◌⊎◌, inl, inr, ⊎_elim, ◌↔◌, ℕ, zero, suc, ◌+◌, ◌≤◌, ◌<◌, not-suc-le-zero, add-one, arith, length, get_or, take, take-suc, take_all, w64, Fits, eqb, ltb, leb, eq-eqb, ne_eqb, eqb-true, lt-ltb, ltb-true, le-leb, not}
use mathlib.Core.Path.{fun_ext}
use mathlib.Core.Bool.{and-false}
use native.Mathlib.Decide.{ℕ_discrete, dec_lt}
use borrow.Author.Tests.{lt-leb}
use Rattle.sets.specs.Test.{insert, up_to, bit, sum_to, every}
use Rattle.sets.specs.Word.{has, kept}
use Rattle.sets.proofs.Bools.{and_left, and_right, same_test}
use Rattle.sets.proofs.Sets.{same_set, in_up_to, up_to_in, every_at, at_every}
use Rattle.sets.proofs.Sums.{sum_add, sum_zero}
use Rattle.sets.proofs.Words.{same_word, kept_at, has_none}
use Rattle.model.specs.Sequence.{EachOnce}
use Rattle.plan.specs.Sequences.{occurs, uses_each_once}

-- ---- places and how often a step stands

-- what stands in a list of places
unfoldable pub stands : List ℕ → ℕ → Bool
unfolding occurs
stands s i = ltb 0 (occurs i s)

-- the step at a place stands in the list
occurs_at : (s : List ℕ) (p : ℕ) → p < length s → 1 ≤ occurs (get_or s p 0) s
unfolding occurs
occurs_at [] p h = absurd (not-suc-le-zero h)
occurs_at (x ∷ s) zero h = rw (eq-eqb x x refl) (omega arith)
occurs_at (x ∷ s) (suc p) h = let l : 1 ≤ occurs (get_or s p 0) s = occurs_at s p (omega arith) in omega arith

-- a step that stands in the list stands at a place
occurs_place : (s : List ℕ) (i : ℕ) → 1 ≤ occurs i s → (p : ℕ) × (p < length s) × (get_or s p 0 ≡ i)
unfolding occurs
occurs_place [] i h = absurd (not-suc-le-zero h)
occurs_place (x ∷ s) i h = go (eqb x i) refl h (occurs_place s i)
  where
    go : (b : Bool) → eqb x i ≡ b → 1 ≤ bit b + occurs i s → (1 ≤ occurs i s → (p : ℕ) × (p < length s) × (get_or s p 0 ≡ i))
        → (p : ℕ) × (p < length (x ∷ s)) × (get_or (x ∷ s) p 0 ≡ i)
    go true e l f = (0, omega arith, eqb-true x i e)
    go false e l f = let w = f (omega arith) in (suc w.0, omega (arith, w.1), w.2)

-- a step at two places stands there at least twice
occurs_twice : (s : List ℕ) (p q : ℕ) → p < q → q < length s → get_or s p 0 ≡ get_or s q 0 → 2 ≤ occurs (get_or s q 0) s
unfolding occurs
occurs_twice [] p q l h e = absurd (not-suc-le-zero h)
occurs_twice (x ∷ s) p zero l h e = absurd (not-suc-le-zero l)
occurs_twice (x ∷ s) zero (suc q) l h e = rw (eq-eqb x (get_or s q 0) e) (let a : 1 ≤ occurs (get_or s q 0) s = occurs_at s q (omega arith) in omega arith)
occurs_twice (x ∷ s) (suc p) (suc q) l h e = let a : 2 ≤ occurs (get_or s q 0) s = occurs_twice s p q (omega arith) (omega arith) e in omega arith

-- ---- n places for n steps

-- which of 1 to n a number is: where it is at most one of them, it is at most one of them and another
hits_more : (y n x : ℕ) → ((i : ℕ) → i < n → x ≡ suc i → ⊥) → sum_to (λ i. bit (eqb y (suc i))) n ≤ 1 → sum_to (λ i. bit (eqb y (suc i))) n + bit (eqb y x) ≤ 1
hits_more y n x other h = go (ℕ_discrete y x)
  where
    go : Dec (y ≡ x) → sum_to (λ i. bit (eqb y (suc i))) n + bit (eqb y x) ≤ 1
    go (yes e) =
        let z : sum_to (λ i. bit (eqb y (suc i))) n ≡ 0 = sum_zero (λ i. bit (eqb y (suc i))) n (λ i l. ap bit (ne_eqb y (suc i) (λ q. other i l (sym e ∙ q)))) in
        rw (eq-eqb y x e) (omega arith)
    go (no ne) = rw (ne_eqb y x ne) (omega arith)

-- a number is at most one of 1 to n
hits : (y n : ℕ) → sum_to (λ i. bit (eqb y (suc i))) n ≤ 1
unfolding sum_to
hits y zero = omega arith
hits y (suc n) = hits_more y n (suc n) (λ i l q. omega arith) (hits y n)

-- the places of 1 to n and of another number are among the places
pub places_of : (s : List ℕ) (n x : ℕ) → (x ≡ 0) ⊎ (n < x) → sum_to (λ i. occurs (suc i) s) n + occurs x s ≤ length s
unfolding occurs
places_of [] n x o = let z : sum_to (λ i. 0) n ≡ 0 = sum_zero (λ i. 0) n (λ i l. refl) in omega arith
places_of (y ∷ s) n x o =
    let a : sum_to (λ i. bit (eqb y (suc i))) n + bit (eqb y x) ≤ 1 = hits_more y n x (λ i l q. ⊎_elim (λ z. omega arith) (λ z. omega arith) o) (hits y n) in
    let b : sum_to (λ i. occurs (suc i) s) n + occurs x s ≤ length s = places_of s n x o in
    let e : sum_to (λ i. bit (eqb y (suc i))) n + sum_to (λ i. occurs (suc i) s) n ≡ sum_to (λ i. bit (eqb y (suc i)) + occurs (suc i) s) n
    = sum_add (λ i. bit (eqb y (suc i))) (λ i. occurs (suc i) s) n in
    omega arith

-- terms of at least 1 make a sum of at least their number
sum_at_least : (f : ℕ → ℕ) (n : ℕ) → ((i : ℕ) → i < n → 1 ≤ f i) → n ≤ sum_to f n
unfolding sum_to
sum_at_least f zero h = omega arith
sum_at_least f (suc n) h =
    let a : n ≤ sum_to f n = sum_at_least f n (λ i l. h i (omega arith)) in
    let b : 1 ≤ f n = h n (omega arith) in
    omega arith

-- a sum of at most their number has terms of exactly 1
sum_ones : (f : ℕ → ℕ) (n : ℕ) → ((i : ℕ) → i < n → 1 ≤ f i) → sum_to f n ≤ n → (i : ℕ) → i < n → f i ≡ 1
unfolding sum_to
sum_ones f zero h l i k = absurd (not-suc-le-zero k)
sum_ones f (suc n) h l i k = go (ℕ_discrete i n) (sum_at_least f n (λ i l. h i (omega arith))) (h n (omega arith)) (sum_ones f n (λ i l. h i (omega arith)))
  where
    go : Dec (i ≡ n) → n ≤ sum_to f n → 1 ≤ f n → (sum_to f n ≤ n → (i : ℕ) → i < n → f i ≡ 1) → f i ≡ 1
    go (yes e) a b r = rw e (omega arith)
    go (no ne) a b r = r (omega arith) i (omega arith)

-- n places that have each of 1 to n ..
module _ (n : ℕ) (s : List ℕ) (long : length s ≡ n) (all : (i : ℕ) → i < n → 1 ≤ occurs (suc i) s) where
  -- .. have each just once
  pub once_each : (i : ℕ) → i < n → occurs (suc i) s ≡ 1
  once_each =
      let a : sum_to (λ i. occurs (suc i) s) n + occurs 0 s ≤ length s = places_of s n 0 (inl refl) in
      sum_ones (λ i. occurs (suc i) s) n all (omega arith)

  -- .. and nothing else
  pub none_else : (x : ℕ) → (x ≡ 0) ⊎ (n < x) → occurs x s ≡ 0
  none_else x o =
      let a : sum_to (λ i. occurs (suc i) s) n + occurs x s ≤ length s = places_of s n x o in
      let b : n ≤ sum_to (λ i. occurs (suc i) s) n = sum_at_least (λ i. occurs (suc i) s) n all in
      omega arith

  -- so each place has a step of 1 to n
  pub in_range : (x : ℕ) → 1 ≤ occurs x s → (1 ≤ x) × (x ≤ n)
  in_range x h = (low (dec_lt 0 x), high (dec_lt n x))
    where
      low : Dec (0 < x) → 1 ≤ x
      low (yes l) = omega arith
      low (no l) = absurd (let z : occurs x s ≡ 0 = none_else x (inl (omega arith)) in omega arith)

      high : Dec (n < x) → x ≤ n
      high (yes l) = absurd (let z : occurs x s ≡ 0 = none_else x (inr l) in omega arith)
      high (no l) = omega arith

-- ---- what the loop gathers

-- how often a step stands in two parts
occurs_append : (i : ℕ) (s t : List ℕ) → occurs i (s ++ t) ≡ occurs i s + occurs i t
unfolding occurs
occurs_append i [] t = omega arith
occurs_append i (x ∷ s) t = let e : occurs i (s ++ t) ≡ occurs i s + occurs i t = occurs_append i s t in omega arith

-- one place more puts its step in
stands_more : (s : List ℕ) (x : ℕ) → stands (s ++ (x ∷ [])) ≡ insert x (stands s)
unfolding stands insert occurs
stands_more s x = fun_ext (λ i. go i (ℕ_discrete i x) (occurs_append i s (x ∷ [])))
  where
    go : (i : ℕ) → Dec (i ≡ x) → occurs i (s ++ (x ∷ [])) ≡ occurs i s + (bit (eqb x i) + 0) → ltb 0 (occurs i (s ++ (x ∷ []))) ≡ (eqb i x || ltb 0 (occurs i s))
    go i (yes e) h = let b : bit (eqb x i) ≡ 1 = ap bit (eq-eqb x i (sym e)) in rw (eq-eqb i x e) (lt-ltb 0 (occurs i (s ++ (x ∷ []))) (omega arith))
    go i (no ne) h = let b : bit (eqb x i) ≡ 0 = ap bit (ne_eqb x i (λ q. ne (sym q))) in let z : occurs i (s ++ (x ∷ [])) ≡ occurs i s = omega arith in rw (ne_eqb i x ne, z) refl

-- what a word holds of a set will do to put a number in
kept_insert : (x : ℕ) (s : ℕ → Bool) → kept (insert x (kept s)) ≡ kept (insert x s)
unfolding kept insert
kept_insert x s = fun_ext (λ i. turn (ltb i 64) (eqb i x) (s i))
  where
    turn : (l e d : Bool) → (l && (e || (l && d))) ≡ (l && (e || d))
    turn true e d = refl
    turn false e d = refl

-- nothing stands in no places
pub gather_none : (s : List ℕ) → has 0 ≡ kept (stands (take 0 s))
unfolding kept stands occurs
gather_none s = fun_ext (λ i. has_none i ∙ sym (and-false (ltb i 64)))

-- a turn of the loop
pub gather_more : (s : List ℕ) (p w v : ℕ) → p < length s → has w ≡ kept (stands (take p s)) → has v ≡ kept (insert (get_or s p 0) (has w)) → has v ≡ kept (stands (take (p + 1) s))
gather_more s p w v h e q = rw (add-one, take-suc s p 0 h, stands_more, q, e) (kept_insert (get_or s p 0) (stands (take p s)))

-- ---- the answers

-- more than 62 steps have no sequence
pub many_places : (n : ℕ) (s : List ℕ) → 62 < n → false ≡ uses_each_once n s
unfolding uses_each_once
many_places n s h = rw (lt-leb n 62 h)

-- nor have n steps another number of places
pub other_places : (n : ℕ) (s : List ℕ) → n ≤ 62 → (length s ≡ n → ⊥) → false ≡ uses_each_once n s
unfolding uses_each_once
other_places n s h ne = rw (le-leb n 62 h, ne_eqb (length s) n ne)

-- n places where each of 1 to n stands are a sequence
uses_all : (n : ℕ) (s : List ℕ) → n ≤ 62 → length s ≡ n → ((i : ℕ) → i < n → 1 ≤ occurs (suc i) s) → uses_each_once n s ≡ true
unfolding uses_each_once
uses_all n s h l all =
    rw (le-leb n 62 h, eq-eqb (length s) n l)
    (at_every (λ i. eqb (occurs (suc i) s) 1) n (λ i k. eq-eqb (occurs (suc i) s) 1 (once_each n s l all i k)))

-- a sequence has n places
used_places : (n : ℕ) (s : List ℕ) → uses_each_once n s ≡ true → length s ≡ n
unfolding uses_each_once
used_places n s e = eqb-true (length s) n (and_left (eqb (length s) n) _ (and_right (leb n 62) _ e))

-- each of 1 to n stands at one of them
used_all : (n : ℕ) (s : List ℕ) → uses_each_once n s ≡ true → (i : ℕ) → i < n → occurs (suc i) s ≡ 1
unfolding uses_each_once
used_all n s e i h =
    eqb-true (occurs (suc i) s) 1 (every_at (λ i. eqb (occurs (suc i) s) 1) n (and_right (eqb (length s) n) _ (and_right (leb n 62) _ e)) i h)

-- so what stands in a sequence is 1 to n
used_stands : (n : ℕ) (s : List ℕ) → uses_each_once n s ≡ true → stands s ≡ up_to n
unfolding stands
used_stands n s e = same_set to from
  where
    to : (x : ℕ) → ltb 0 (occurs x s) ≡ true → up_to n x ≡ true
    to x h =
        let r = in_range n s (used_places n s e) (λ i l. let u : occurs (suc i) s ≡ 1 = used_all n s e i l in omega arith) x (ltb-true 0 (occurs x s) h) in
        in_up_to n x r.0 r.1

    from : (x : ℕ) → up_to n x ≡ true → ltb 0 (occurs x s) ≡ true
    from zero h = absurd (let r = up_to_in n zero h in omega (arith, r.0))
    from (suc i) h = let r = up_to_in n (suc i) h in let u : occurs (suc i) s ≡ 1 = used_all n s e i r.1 in lt-ltb 0 (occurs (suc i) s) (omega arith)

-- the word that the loop gathers is that of 1 to n exactly where the places are a sequence
pub gathered : (n : ℕ) (s : List ℕ) (p w v : ℕ) → n ≤ 62 → length s ≡ n → length s ≤ p → Fits w64 w → Fits w64 v
    → has w ≡ kept (stands (take p s)) → has v ≡ kept (up_to n) → eqb w v ≡ uses_each_once n s
unfolding stands
gathered n s p w v few long end wl vl e q = same_test (eqb w v) (uses_each_once n s) to from
  where
    all : has w ≡ kept (stands s)
    all = rw (take_all p s end) at e

    to : eqb w v ≡ true → uses_each_once n s ≡ true
    to h = uses_all n s few long (λ i l. ltb-true 0 (occurs (suc i) s) (in_both i l))
      where
        in_both : (i : ℕ) → i < n → stands s (suc i) ≡ true
        in_both i l =
            sym (kept_at (stands s) (suc i) (omega arith))
            ∙ ap (λ (t : ℕ → Bool). t (suc i)) (sym all ∙ ap has (eqb-true w v h) ∙ q)
            ∙ kept_at (up_to n) (suc i) (omega arith)
            ∙ in_up_to n (suc i) (omega arith) l

    from : uses_each_once n s ≡ true → eqb w v ≡ true
    from h = eq-eqb w v (same_word w v wl.fits vl.fits (all ∙ ap kept (used_stands n s h) ∙ sym q))

-- each of 1 to n is in the word that the loop gathers exactly where the places are a sequence
pub all_seen : (n : ℕ) (s : List ℕ) (p w v : ℕ) (answer : Bool) → n ≤ 62 → length s ≡ n → length s ≤ p
    → has w ≡ kept (stands (take p s)) → has v ≡ kept (up_to n) → answer ≡ every (λ i. not (has v i) || has w i) 64 → answer ≡ uses_each_once n s
unfolding stands
all_seen n s p w v answer few long end e q within = within ∙ same_test (every (λ i. not (has v i) || has w i) 64) (uses_each_once n s) to from
  where
    all : has w ≡ kept (stands s)
    all = rw (take_all p s end) at e

    follows : (x y : Bool) → not x || y ≡ true → x ≡ true → y ≡ true
    follows true y h l = h
    follows false y h l = absurd (cc)

    implies : (x y : Bool) → (x ≡ true → y ≡ true) → not x || y ≡ true
    implies true y f = f refl
    implies false y f = refl

    to : every (λ i. not (has v i) || has w i) 64 ≡ true → uses_each_once n s ≡ true
    to h = uses_all n s few long (λ i l. ltb-true 0 (occurs (suc i) s) (seen i l))
      where
        step : (i : ℕ) → i < n → has v (suc i) ≡ true
        step i l = ap (λ (t : ℕ → Bool). t (suc i)) q ∙ kept_at (up_to n) (suc i) (omega arith) ∙ in_up_to n (suc i) (omega arith) l

        seen : (i : ℕ) → i < n → stands s (suc i) ≡ true
        seen i l =
            sym (kept_at (stands s) (suc i) (omega arith))
            ∙ sym (ap (λ (t : ℕ → Bool). t (suc i)) all)
            ∙ follows (has v (suc i)) (has w (suc i)) (every_at (λ i. not (has v i) || has w i) 64 h (suc i) (omega arith)) (step i l)

    from : uses_each_once n s ≡ true → every (λ i. not (has v i) || has w i) 64 ≡ true
    from h = at_every (λ i. not (has v i) || has w i) 64 (λ i l. implies (has v i) (has w i) (λ e. ap (λ (t : ℕ → Bool). t i) (all ∙ ap kept (used_stands n s h) ∙ sym q) ∙ e))

-- ---- what it means

-- `usesEachOnce` says what the papers' sequences say by places
pub each_once : (n : ℕ) (s : List ℕ) → n ≤ 62 → (uses_each_once n s ≡ true) ↔ EachOnce n s
each_once n s few = (to, from)
  where
    to : uses_each_once n s ≡ true → EachOnce n s
    to e = record { places = long; range = range; uses = uses; once = once }
      where
        long : length s ≡ n
        long = used_places n s e

        all : (i : ℕ) → i < n → 1 ≤ occurs (suc i) s
        all i l = let u : occurs (suc i) s ≡ 1 = used_all n s e i l in omega arith

        range : (p : ℕ) → p < n → (1 ≤ get_or s p 0) × (get_or s p 0 ≤ n)
        range p h = in_range n s long all (get_or s p 0) (occurs_at s p (rw long h))

        uses : (i : ℕ) → 1 ≤ i → i ≤ n → (p : ℕ) × (p < n) × (get_or s p 0 ≡ i)
        uses zero a b = absurd (omega arith)
        uses (suc i) a b = let w = occurs_place s (suc i) (all i b) in (w.0, rw long at w.1, w.2)

        -- two places, the first lower, never have one step
        apart : (p q : ℕ) → p < q → q < n → get_or s p 0 ≡ get_or s q 0 → ⊥
        apart p q l h z = go (get_or s q 0) (range q h) (occurs_twice s p q l (rw long h) z)
          where
            go : (x : ℕ) → (1 ≤ x) × (x ≤ n) → 2 ≤ occurs x s → ⊥
            go zero r t = omega (arith, r.0)
            go (suc i) r t = let u : occurs (suc i) s ≡ 1 = used_all n s e i r.1 in omega arith

        once : (p q : ℕ) → p < n → q < n → get_or s p 0 ≡ get_or s q 0 → p ≡ q
        once p q a b z = go (dec_lt p q) (dec_lt q p)
          where
            go : Dec (p < q) → Dec (q < p) → p ≡ q
            go (yes l) k = absurd (apart p q l b z)
            go (no l) (yes k) = absurd (apart q p k a (sym z))
            go (no l) (no k) = omega arith

    from : EachOnce n s → uses_each_once n s ≡ true
    from r = uses_all n s few r.places (λ i l. let w = r.uses (suc i) (omega arith) l in rw w.2 at (occurs_at s w.0 (rw r.places w.1)))
