-- The refusals of plan words and of step sets, case by case: each law is one return of the code that looks for them. Assumes nothing.
use Rattle.std.proofs.Common.{◌≡◌, sym, ap, ◌∙◌, Bool, true, false, not, ◌&&◌, List, [], ◌∷◌, ℕ, suc, ◌+◌, ◌-◌, ◌≤◌, ◌<◌, add-one, arith, length, get_or, drop, drop_of_length-le, drop-cons, ltb, lt-ltb, le-ltb, eq-eqb, ne_eqb, refl, Some, None}
use borrow.Author.Tests.{not-true, not-false}
use Rattle.sets.specs.Test.{both, less, under, up_to, least, first_passing}
use Rattle.sets.specs.Word.{has, kept}
use Rattle.sets.proofs.Least.{least_same, passing_is, none_passing}
use Rattle.sets.proofs.Words.{kept_at}
use Rattle.plan.specs.declared.replies.Reply.{Reply}
use Rattle.plan.specs.Refusal.{fine, refusal, first_of}
use Rattle.plan.specs.Layout.{facts_of, steps_of, step_word}
use Rattle.plan.specs.Words.{well_shaped, shape_fault, set_fault, meet_fault, step_checks, steps_fault, plan_fault}
use Rattle.plan.specs.StepSets.{step_set_fault, step_sets_from, step_sets_fault, rows_fault, order_fault}
use Rattle.plan.proofs.Refusals.{first_refuses, first_passes, first_none, first_onto, first_stands, Plain, plain_last, plain_either, length_right, length_wrong}

-- the lowest number of a set outside a bound that a word holds is the lowest outside the bound
outside : (bound : ℕ → Bool) (set held rest low : ℕ) → has held ≡ kept bound → has rest ≡ less (has set) (has held) → low ≡ least (has rest) 64
    → low ≡ least (less (has set) bound) 64
unfolding less
outside bound set held rest low h r l =
    l ∙ least_same (has rest) (less (has set) bound) 64 (λ i a. ap (λ (s : ℕ → Bool). s i) r ∙ ap (λ (b : Bool). has set i && not b) (ap (λ (s : ℕ → Bool). s i) h ∙ kept_at bound i a))

-- 4: a set names a fact F or above, or none
module _ (facts step set held rest low : ℕ) (r : Reply) (h : has held ≡ kept (under facts)) (e : has rest ≡ less (has set) (has held)) (l : low ≡ least (has rest) 64) where
  pub set_over : low < 64 → r ≡ refusal 4 step low 0 → r ≡ set_fault facts step set
  unfolding set_fault
  set_over a q = rw (← outside (under facts) set held rest low h e l, lt-ltb low 64 a) q

  pub set_fine : 64 ≤ low → r ≡ fine → r ≡ set_fault facts step set
  unfolding set_fault
  set_fine a q = rw (← outside (under facts) set held rest low h e l, le-ltb low 64 a) q

-- 5: a set of steps has a number outside 1 to n, or none
module _ (n place set held rest low : ℕ) (r : Reply) (h : has held ≡ kept (up_to n)) (e : has rest ≡ less (has set) (has held)) (l : low ≡ least (has rest) 64) where
  pub step_set_over : low < 64 → r ≡ refusal 5 place 0 low → r ≡ step_set_fault n place set
  unfolding step_set_fault
  step_set_over a q = rw (← outside (up_to n) set held rest low h e l, lt-ltb low 64 a) q

  pub step_set_fine : 64 ≤ low → r ≡ fine → r ≡ step_set_fault n place set
  unfolding step_set_fault
  step_set_fine a q = rw (← outside (up_to n) set held rest low h e l, le-ltb low 64 a) q

-- 6: adds and deletes meet, or not
module _ (step adds deletes shared low : ℕ) (r : Reply) (e : has shared ≡ both (has adds) (has deletes)) (l : low ≡ least (has shared) 64) where
  lowest : low ≡ least (both (has adds) (has deletes)) 64
  lowest = l ∙ ap (λ (s : ℕ → Bool). least s 64) e

  pub meet_over : low < 64 → r ≡ refusal 6 step low 0 → r ≡ meet_fault step adds deletes
  unfolding meet_fault
  meet_over a q = rw (← lowest, lt-ltb low 64 a) q

  pub meet_fine : 64 ≤ low → r ≡ fine → r ≡ meet_fault step adds deletes
  unfolding meet_fault
  meet_fine a q = rw (← lowest, le-ltb low 64 a) q

-- a check of a meeting is a refusal or nothing
plain_meet : (step adds deletes : ℕ) → Plain (meet_fault step adds deletes)
unfolding meet_fault
plain_meet step adds deletes =
    let low = least (both (has adds) (has deletes)) 64 in
    plain_either (ltb low 64) (refusal 6 step low 0) (λ z. let y : ◌≡◌ {A = ℕ} 6 0 = z in absurd (omega arith))

-- ---- one step: its needs, its adds, its deletes, then that adds and deletes share no fact
module _ (words : List ℕ) (i F a : ℕ) (r : Reply) (f : F ≡ facts_of words) (ha : a ≡ step_word words i 0) (hr : r ≡ set_fault F i a) where
  first_set : r ≡ set_fault (facts_of words) i (step_word words i 0)
  first_set = rw (← f, ← ha) hr

  pub needs_refused : (r.code ≡ 0 → ⊥) → r ≡ first_of (step_checks words i) fine
  unfolding step_checks
  needs_refused h = rw (← first_set) (sym (first_refuses r _ _ h))

  module _ (b : ℕ) (s : Reply) (z : r.code ≡ 0) (hb : b ≡ step_word words i 1) (hs : s ≡ set_fault F i b) where
    second_set : s ≡ set_fault (facts_of words) i (step_word words i 1)
    second_set = rw (← f, ← hb) hs

    pub adds_refused : (s.code ≡ 0 → ⊥) → s ≡ first_of (step_checks words i) fine
    unfolding step_checks
    adds_refused h = rw (← first_set, ← second_set) (sym (first_passes r _ _ z ∙ first_refuses s _ _ h))

    module _ (d : ℕ) (t : Reply) (y : s.code ≡ 0) (hd : d ≡ step_word words i 2) (ht : t ≡ set_fault F i d) where
      third_set : t ≡ set_fault (facts_of words) i (step_word words i 2)
      third_set = rw (← f, ← hd) ht

      pub deletes_refused : (t.code ≡ 0 → ⊥) → t ≡ first_of (step_checks words i) fine
      unfolding step_checks
      deletes_refused h = rw (← first_set, ← second_set, ← third_set) (sym (first_passes r _ _ z ∙ first_passes s _ _ y ∙ first_refuses t _ _ h))

      pub step_meets : (m : Reply) → t.code ≡ 0 → m ≡ meet_fault i b d → m ≡ first_of (step_checks words i) fine
      unfolding step_checks
      step_meets m x hm =
          let q : m ≡ meet_fault i (step_word words i 1) (step_word words i 2) = rw (← hb, ← hd) hm in
          let p : Plain m = rw q (plain_meet i (step_word words i 1) (step_word words i 2)) in
          rw (← first_set, ← second_set, ← third_set, ← q) (sym (first_passes r _ _ z ∙ first_passes s _ _ y ∙ first_passes t _ _ x ∙ plain_last m p))

-- ---- the steps in turn
module _ (words : List ℕ) (i n : ℕ) (e : n ≡ steps_of words) (r : Reply) (hr : r ≡ first_of (step_checks words i) fine) (within : i ≤ n)
    (here : steps_fault words 1 n ≡ steps_fault words i (n + 1 - i)) where
  one_more : n + 1 - i ≡ suc (n + 1 - (i + 1))
  one_more = omega arith

  pub steps_refused : (r.code ≡ 0 → ⊥) → r ≡ steps_fault words 1 (steps_of words)
  unfolding steps_fault
  steps_refused h = sym (rw (← e) (here ∙ ap (steps_fault words i) one_more ∙ first_stands (step_checks words i) _ r hr h))

  pub steps_more : r.code ≡ 0 → steps_fault words 1 n ≡ steps_fault words (i + 1) (n + 1 - (i + 1))
  unfolding steps_fault
  steps_more h = here ∙ ap (steps_fault words i) one_more ∙ first_onto (step_checks words i) _ r hr h ∙ ap (λ (j : ℕ). steps_fault words j (n + 1 - (i + 1))) (sym (add-one i))

pub steps_passed : (words : List ℕ) (i n : ℕ) (r : Reply) → n ≡ steps_of words → steps_fault words 1 n ≡ steps_fault words i (n + 1 - i) → n < i → r ≡ fine
    → r ≡ steps_fault words 1 (steps_of words)
unfolding steps_fault
steps_passed words i n r e here h q =
    let z : n + 1 - i ≡ 0 = omega arith in
    q ∙ sym (rw (← e) (here ∙ ap (steps_fault words i) z))

-- ---- the whole plan: its shape, the initial facts, the goal, the steps
pub shape_refused : (words : List ℕ) (shaped : Bool) (r : Reply) → shaped ≡ well_shaped words → not shaped ≡ true → r ≡ refusal 3 0 0 0 → r ≡ plan_fault words
unfolding plan_fault shape_fault
shape_refused words shaped r e h q = rw (← e, not-true shaped h) q

module _ (words : List ℕ) (shaped : Bool) (F a : ℕ) (r : Reply) (e : shaped ≡ well_shaped words) (good : not shaped ≡ false) (f : F ≡ facts_of words) (ha : a ≡ get_or words 2 0) (hr : r ≡ set_fault F 0 a) where
  start_set : r ≡ set_fault (facts_of words) 0 (get_or words 2 0)
  start_set = rw (← f, ← ha) hr

  pub initial_refused : (r.code ≡ 0 → ⊥) → r ≡ plan_fault words
  unfolding plan_fault shape_fault
  initial_refused h = rw (← e, not-false shaped good, ← start_set, ne_eqb r.code 0 h)

  module _ (n g : ℕ) (s : Reply) (z : r.code ≡ 0) (hn : n ≡ steps_of words) (hg : g ≡ get_or words 3 0) (hs : s ≡ set_fault F (n + 1) g) where
    end_set : s ≡ set_fault (facts_of words) (suc (steps_of words)) (get_or words 3 0)
    end_set = rw (← f, ← hn, ← hg) (rw add-one at hs)

    pub goal_refused : (s.code ≡ 0 → ⊥) → s ≡ plan_fault words
    unfolding plan_fault shape_fault
    goal_refused h = rw (← e, not-false shaped good, ← start_set, eq-eqb r.code 0 z, ← end_set, ne_eqb s.code 0 h)

    pub plan_steps : (t : Reply) → s.code ≡ 0 → t ≡ steps_fault words 1 (steps_of words) → t ≡ plan_fault words
    unfolding plan_fault shape_fault
    plan_steps t y ht = rw (← e, not-false shaped good, ← start_set, eq-eqb r.code 0 z, ← end_set, eq-eqb s.code 0 y) ht

-- ---- a list of step sets: i of them have been found fine
module _ (n i : ℕ) (sets : List ℕ) (r : Reply) (within : i < length sets) (here : step_sets_fault n sets ≡ step_sets_from n (i + 1) (drop i sets))
    (hr : r ≡ step_set_fault n (i + 1) (get_or sets i 0)) where
  next_set : step_sets_from n (i + 1) (drop i sets) ≡ first_of (r ∷ []) (step_sets_from n (suc (i + 1)) (drop (suc i) sets))
  unfolding step_sets_from
  next_set = rw (drop-cons sets i 0 within, ← hr)

  pub sets_refused : (r.code ≡ 0 → ⊥) → r ≡ step_sets_fault n sets
  sets_refused h = sym (here ∙ next_set ∙ first_refuses r _ _ h)

  pub sets_more : r.code ≡ 0 → step_sets_fault n sets ≡ step_sets_from n (i + 1 + 1) (drop (i + 1) sets)
  sets_more h = here ∙ next_set ∙ first_passes r _ _ h ∙ first_none _ ∙ simp add-one

pub sets_passed : (n i : ℕ) (sets : List ℕ) (r : Reply) → length sets ≤ i → step_sets_fault n sets ≡ step_sets_from n (i + 1) (drop i sets) → r ≡ fine → r ≡ step_sets_fault n sets
unfolding step_sets_from
sets_passed n i sets r h here q = q ∙ sym (here ∙ ap (step_sets_from n (i + 1)) (drop_of_length-le sets h))

-- ---- rows: their number, then their sets
pub rows_miscounted : (n : ℕ) (rows : List ℕ) (r : Reply) → (length rows ≡ n → ⊥) → r ≡ refusal 3 0 0 0 → r ≡ rows_fault n rows
unfolding rows_fault
rows_miscounted n rows r h q = rw (length_wrong n (length rows) h) q

pub rows_counted : (n : ℕ) (rows : List ℕ) (r : Reply) → length rows ≡ n → r ≡ step_sets_fault n rows → r ≡ rows_fault n rows
unfolding rows_fault
rows_counted n rows r h q = rw (length_right n (length rows) h) q

-- rows without a plan: at most 62, then their sets
pub order_many : (rows : List ℕ) (r : Reply) → 62 < length rows → r ≡ refusal 3 0 0 0 → r ≡ order_fault rows
unfolding order_fault
order_many rows r h q = rw (lt-ltb 62 (length rows) h) q

pub order_few : (rows : List ℕ) (r : Reply) → length rows ≤ 62 → r ≡ step_sets_fault (length rows) rows → r ≡ order_fault rows
unfolding order_fault
order_few rows r h q = rw (le-ltb 62 (length rows) h) q

-- ---- what a search that finds a number or none says of a set
module _ (facts step set held rest : ℕ) (h : has held ≡ kept (under facts)) (e : has rest ≡ less (has set) (has held)) where
  pub set_told : (fact : ℕ) → Some fact ≡ first_passing (has rest) 64 → refusal 4 step fact 0 ≡ set_fault facts step set
  set_told fact q = let first = passing_is (has rest) 64 fact (sym q) in set_over facts step set held rest fact (refusal 4 step fact 0) h e (sym first.1) first.0 refl

  pub set_passed : None ≡ first_passing (has rest) 64 → fine ≡ set_fault facts step set
  set_passed q = set_fine facts step set held rest 64 fine h e (sym (none_passing (has rest) 64 (sym q))) (omega arith) refl

module _ (n place set held rest : ℕ) (h : has held ≡ kept (up_to n)) (e : has rest ≡ less (has set) (has held)) where
  pub step_set_told : (bad : ℕ) → Some bad ≡ first_passing (has rest) 64 → refusal 5 place 0 bad ≡ step_set_fault n place set
  step_set_told bad q = let first = passing_is (has rest) 64 bad (sym q) in step_set_over n place set held rest bad (refusal 5 place 0 bad) h e (sym first.1) first.0 refl

  pub step_set_passed : None ≡ first_passing (has rest) 64 → fine ≡ step_set_fault n place set
  step_set_passed q = step_set_fine n place set held rest 64 fine h e (sym (none_passing (has rest) 64 (sym q))) (omega arith) refl

module _ (step adds deletes shared : ℕ) (e : has shared ≡ both (has adds) (has deletes)) where
  pub meet_told : (fact : ℕ) → Some fact ≡ first_passing (has shared) 64 → refusal 6 step fact 0 ≡ meet_fault step adds deletes
  meet_told fact q = let first = passing_is (has shared) 64 fact (sym q) in meet_over step adds deletes shared fact (refusal 6 step fact 0) e (sym first.1) first.0 refl

  pub meet_passed : None ≡ first_passing (has shared) 64 → fine ≡ meet_fault step adds deletes
  meet_passed q = meet_fine step adds deletes shared 64 fine e (sym (none_passing (has shared) 64 (sym q))) (omega arith) refl

pub ruleset sets_looked_at = (set_told, set_passed, step_set_told, step_set_passed, meet_told, meet_passed)

-- the last of the steps
pub steps_last : (words : List ℕ) (i n : ℕ) → n ≡ steps_of words → i ≤ n → n ≤ i → steps_fault words 1 n ≡ steps_fault words i (n + 1 - i)
    → fine ≡ first_of (step_checks words i) fine → fine ≡ steps_fault words 1 (steps_of words)
steps_last words i n e within last here q = steps_passed words (i + 1) n fine e (steps_more words i n e fine q within here refl) (omega arith) refl
