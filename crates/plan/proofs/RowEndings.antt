-- The check of rows, or of any list of step sets, ends as the table says, both ways round. Assumes nothing.
use Rattle.std.proofs.Common.{◌≡◌, refl, sym, ap, ◌∙◌, true, false, List, [], ◌∷◌, ◌⊎◌, inl, inr, ℕ, zero, suc, ◌+◌, ◌≤◌, ◌<◌, not-suc-le-zero, add-zero, arith, length, get_or, lt-ltb, le-ltb}
use native.Mathlib.Decide.{ℕ_discrete, dec_lt}
use Rattle.sets.specs.Test.{up_to}
use Rattle.sets.specs.Word.{has}
use Rattle.sets.proofs.Bools.{none_true, none_false, not_both}
use Rattle.sets.proofs.Sets.{up_to_in, in_up_to}
use Rattle.sets.proofs.Words.{has_under}
use Rattle.plan.specs.declared.replies.Reply.{Reply}
use Rattle.plan.specs.Refusal.{fine, refusal}
use Rattle.plan.specs.StepSets.{step_set_fault, step_sets_from, step_sets_fault, rows_fault, order_fault}
use Rattle.plan.specs.Endings.{OfSteps, LowestOutside, SetsEnding, set_outside, sets_fine, RowsEnding, miscounted, counted, OrderEnding, many, few}
use Rattle.plan.proofs.Refusals.{length_right, length_wrong}
use Rattle.plan.proofs.Outside.{look, over, over_small, over_is, is_over, none_over, one_over}

-- a number outside 1 to n
outside_is : (n j : ℕ) → (1 ≤ j → j ≤ n → ⊥) → up_to n j ≡ false
outside_is n j h = none_true (up_to n j) (λ e. let w = up_to_in n j e in h w.0 w.1)

-- a set of steps is fine, one with a lowest number outside is refused with it, and every set is one of the two
of_steps_fine : (n place set : ℕ) → OfSteps n set → step_set_fault n place set ≡ fine
unfolding step_set_fault
of_steps_fine n place set h = rw (none_over (up_to n) set (λ i e. let w = h i e in in_up_to n i w.0 w.1))

outside_refused : (n place set j : ℕ) → LowestOutside n set j → step_set_fault n place set ≡ refusal 5 place 0 j
unfolding step_set_fault
outside_refused n place set j l =
    let e = one_over (up_to n) set j l.named (outside_is n j l.outside) (λ k h q. let w = l.lowest k h q in in_up_to n k w.0 w.1) in
    rw (e, lt-ltb j 64 (has_under set j l.named))

set_cases : (n set : ℕ) → OfSteps n set ⊎ ((j : ℕ) × LowestOutside n set j)
set_cases n set = go (look (over (up_to n) set) (over_small (up_to n) set))
  where
    inside : (i : ℕ) → has set i ≡ true → over (up_to n) set i ≡ false → (1 ≤ i) × (i ≤ n)
    inside i e h = up_to_in n i (none_false (up_to n i) (λ q. not_both (over_is (up_to n) set i e q) h))

    go : ((i : ℕ) → over (up_to n) set i ≡ false) ⊎ ((f : ℕ) × (over (up_to n) set f ≡ true) × ((g : ℕ) → g < f → over (up_to n) set g ≡ false)) → OfSteps n set ⊎ ((j : ℕ) × LowestOutside n set j)
    go (inl w) = inl (λ j e. inside j e (w j))
    go (inr w) =
        let q = is_over (up_to n) set w.0 w.1 in
        inr (w.0, record { named = q.0; outside = λ a b. not_both (in_up_to n w.0 a b) q.1; lowest = λ k h e. inside k e (w.2 k h) })

-- the sets of a list in turn: the first of them has the given place
fine_from : (n place : ℕ) (sets : List ℕ) → ((i : ℕ) → i < length sets → OfSteps n (get_or sets i 0)) → step_sets_from n place sets ≡ fine
unfolding step_sets_from
fine_from n place [] h = refl
fine_from n place (set ∷ sets) h = rw (of_steps_fine n place set (h 0 (omega arith))) (fine_from n (suc place) sets (λ i l. h (suc i) (omega arith)))

refused_from : (n place : ℕ) (sets : List ℕ) (i j : ℕ) → i < length sets → ((k : ℕ) → k < i → OfSteps n (get_or sets k 0)) → LowestOutside n (get_or sets i 0) j
    → step_sets_from n place sets ≡ refusal 5 (place + i) 0 j
unfolding step_sets_from
refused_from n place [] i j l h w = absurd (not-suc-le-zero l)
refused_from n place (set ∷ sets) zero j l h w = rw (outside_refused n place set j w) (ap (λ (p : ℕ). refusal 5 p 0 j) (sym (add-zero place)))
refused_from n place (set ∷ sets) (suc i) j l h w =
    let e : suc place + i ≡ place + suc i = omega arith in
    rw (of_steps_fine n place set (h 0 (omega arith))) (refused_from n (suc place) sets i j (omega arith) (λ k m. h (suc k) (omega arith)) w ∙ ap (λ (p : ℕ). refusal 5 p 0 j) e)

-- the first set of a list that is refused, or none
cases_from : (n : ℕ) (sets : List ℕ) → ((i : ℕ) → i < length sets → OfSteps n (get_or sets i 0))
    ⊎ ((i : ℕ) × (i < length sets) × ((k : ℕ) → k < i → OfSteps n (get_or sets k 0)) × ((j : ℕ) × LowestOutside n (get_or sets i 0) j))
cases_from n [] = inl (λ i l. absurd (not-suc-le-zero l))
cases_from n (set ∷ sets) = go (set_cases n set) (cases_from n sets)
  where
    all : OfSteps n set → ((i : ℕ) → i < length sets → OfSteps n (get_or sets i 0)) → (i : ℕ) → i < suc (length sets) → OfSteps n (get_or (set ∷ sets) i 0)
    all a f zero l = a
    all a f (suc i) l = f i (omega arith)

    before : (i : ℕ) → OfSteps n set → ((k : ℕ) → k < i → OfSteps n (get_or sets k 0)) → (k : ℕ) → k < suc i → OfSteps n (get_or (set ∷ sets) k 0)
    before i a f zero l = a
    before i a f (suc k) l = f k (omega arith)

    go : OfSteps n set ⊎ ((j : ℕ) × LowestOutside n set j)
        → ((i : ℕ) → i < length sets → OfSteps n (get_or sets i 0))
        ⊎ ((i : ℕ) × (i < length sets) × ((k : ℕ) → k < i → OfSteps n (get_or sets k 0)) × ((j : ℕ) × LowestOutside n (get_or sets i 0) j))
        → ((i : ℕ) → i < suc (length sets) → OfSteps n (get_or (set ∷ sets) i 0))
        ⊎ ((i : ℕ) × (i < suc (length sets)) × ((k : ℕ) → k < i → OfSteps n (get_or (set ∷ sets) k 0)) × ((j : ℕ) × LowestOutside n (get_or (set ∷ sets) i 0) j))
    go (inr w) rest = inr (0, omega arith, (λ k l. absurd (not-suc-le-zero l)), w)
    go (inl a) (inl f) = inl (all a f)
    go (inl a) (inr w) = inr (suc w.0, omega (arith, w.1), before w.0 a w.2, w.3)

-- a list of step sets: each ending is the fault, and the fault is one of the endings
pub ending_sets : {n : ℕ} {sets : List ℕ} {r : Reply} → SetsEnding n sets r → r ≡ step_sets_fault n sets
unfolding step_sets_fault
ending_sets {n} {sets} (set_outside i j l h w) = sym (refused_from n 1 sets i j l h w ∙ ap (λ (p : ℕ). refusal 5 p 0 j) (let e : 1 + i ≡ suc i = omega arith in e))
ending_sets {n} {sets} (sets_fine h) = sym (fine_from n 1 sets h)

pub sets_ending : (n : ℕ) (sets : List ℕ) → SetsEnding n sets (step_sets_fault n sets)
sets_ending n sets = go (cases_from n sets)
  where
    go : ((i : ℕ) → i < length sets → OfSteps n (get_or sets i 0))
        ⊎ ((i : ℕ) × (i < length sets) × ((k : ℕ) → k < i → OfSteps n (get_or sets k 0)) × ((j : ℕ) × LowestOutside n (get_or sets i 0) j))
        → SetsEnding n sets (step_sets_fault n sets)
    go (inl f) = rw (← ending_sets (sets_fine f)) (sets_fine f)
    go (inr w) = let e : SetsEnding n sets (refusal 5 (suc w.0) 0 w.3.0) = set_outside w.0 w.3.0 w.1 w.2 w.3.1 in rw (← ending_sets e) e

-- rows: the same, after their number
pub ending_rows : {n : ℕ} {rows : List ℕ} {r : Reply} → RowsEnding n rows r → r ≡ rows_fault n rows
unfolding rows_fault
ending_rows {n} {rows} (miscounted h) = rw (length_wrong n (length rows) h)
ending_rows {n} {rows} (counted h e) = rw (length_right n (length rows) h) (ending_sets e)

pub rows_ending : (n : ℕ) (rows : List ℕ) → RowsEnding n rows (rows_fault n rows)
rows_ending n rows = go (ℕ_discrete (length rows) n)
  where
    go : Dec (length rows ≡ n) → RowsEnding n rows (rows_fault n rows)
    go (yes h) = let e : RowsEnding n rows (step_sets_fault n rows) = counted h (sets_ending n rows) in rw (← ending_rows e) e
    go (no h) = let e : RowsEnding n rows (refusal 3 0 0 0) = miscounted h in rw (← ending_rows e) e

-- rows without a plan: the same, after 62 rows at most
pub ending_order : {rows : List ℕ} {r : Reply} → OrderEnding rows r → r ≡ order_fault rows
unfolding order_fault
ending_order {rows} (many h) = rw (lt-ltb 62 (length rows) h)
ending_order {rows} (few h e) = rw (le-ltb 62 (length rows) h) (ending_sets e)

pub order_ending : (rows : List ℕ) → OrderEnding rows (order_fault rows)
order_ending rows = go (dec_lt 62 (length rows))
  where
    go : Dec (62 < length rows) → OrderEnding rows (order_fault rows)
    go (yes h) = let e : OrderEnding rows (refusal 3 0 0 0) = many h in rw (← ending_order e) e
    go (no h) = let e : OrderEnding rows (step_sets_fault (length rows) rows) = few (omega arith) (sets_ending (length rows) rows) in rw (← ending_order e) e
