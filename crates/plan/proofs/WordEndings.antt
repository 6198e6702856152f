-- The check of plan words ends as the table says, both ways round: the fault is one of the endings, and each ending is the fault. Assumes nothing.
use Rattle.std.proofs.Common.{◌≡◌, refl, sym, ◌∙◌, Bool, true, false, List, ◌⊎◌, inl, inr, ℕ, zero, suc, ◌+◌, ◌≤◌, ◌<◌, arith, length, get_or, leb, lt-ltb, le-ltb, ltb-false, leb-true, le-leb, eqb-true, eq-eqb}
use native.Mathlib.Decide.{ℕ_discrete}
use Rattle.sets.specs.Test.{both, under, least}
use Rattle.sets.specs.Word.{has}
use Rattle.sets.proofs.Bools.{and_left, and_right, and_both, none_true, none_false, not_both, bool_cases}
use Rattle.sets.proofs.Least.{least_found, least_none}
use Rattle.sets.proofs.Words.{has_under}
use Rattle.plan.specs.declared.replies.Reply.{Reply}
use Rattle.plan.specs.Refusal.{fine, refusal, first_of}
use Rattle.plan.specs.Layout.{facts_of, steps_of, words_for, step_word}
use Rattle.plan.specs.Words.{well_shaped, shape_fault, set_fault, meet_fault, step_checks, steps_fault, plan_fault}
use Rattle.plan.specs.Endings.{Shaped, Inside, LowestOver, Disjoint, LowestShared, StepFine, StepEnding, needs_over, adds_over, deletes_over, sets_meet, WellFormed, PlanEnding, misshapen, initial_over, goal_over, step_refused, well_formed}
use Rattle.plan.proofs.Outside.{look, over, is_over, over_is, over_small, none_over, one_over}

-- a number is below F or not
above : (F i : ℕ) → under F i ≡ false → F ≤ i
unfolding under
above F i q = ltb-false i F q

not_under : (F i : ℕ) → F ≤ i → under F i ≡ false
unfolding under
not_under F i h = le-ltb i F h

-- ---- the facts of a set

-- a set inside F is fine
inside_fine : (F set step : ℕ) → Inside F set → set_fault F step set ≡ fine
unfolding set_fault
inside_fine F set step h = rw (none_over (under F) set (λ i e. under_false F i (λ l. h i l) e))
  where
    under_false : (F i : ℕ) → (F ≤ i → has set i ≡ false) → has set i ≡ true → under F i ≡ true
    under_false F i f e = none_false (under F i) (λ q. not_both e (f (above F i q)))

-- one with a lowest fact F or above is refused with it
over_refused : (F set step f : ℕ) → LowestOver F set f → set_fault F step set ≡ refusal 4 step f 0
unfolding set_fault
over_refused F set step f l =
    let w = one_over (under F) set f l.named (not_under F f l.over) (λ i h e. none_false (under F i) (λ q. not_both e (l.lowest i (above F i q) h))) in
    rw (w, lt-ltb f 64 (has_under set f l.named))

-- and every set is one of the two
set_cases : (F set : ℕ) → Inside F set ⊎ ((f : ℕ) × LowestOver F set f)
set_cases F set = go (look (over (under F) set) (over_small (under F) set))
  where
    go : ((i : ℕ) → over (under F) set i ≡ false) ⊎ ((f : ℕ) × (over (under F) set f ≡ true) × ((g : ℕ) → g < f → over (under F) set g ≡ false)) → Inside F set ⊎ ((f : ℕ) × LowestOver F set f)
    go (inl w) = inl (λ f h. none_true (has set f) (λ e. not_both (over_is (under F) set f e (not_under F f h)) (w f)))
    go (inr w) =
        let q = is_over (under F) set w.0 w.1 in
        inr (w.0, record { over = above F w.0 q.1; named = q.0; lowest = λ g a b. none_true (has set g) (λ e. not_both (over_is (under F) set g e (not_under F g a)) (w.2 g b)) })

module _ (a b : ℕ) where
  meeting : ℕ → Bool
  meeting = both (has a) (has b)

  meeting_small : (i : ℕ) → meeting i ≡ true → i < 64
  unfolding meeting both
  meeting_small i e = has_under a i (and_left (has a i) (has b i) e)

  meeting_is : (i : ℕ) → has a i ≡ true → has b i ≡ true → meeting i ≡ true
  unfolding meeting both
  meeting_is i p q = and_both (has a i) (has b i) p q

  is_meeting : (i : ℕ) → meeting i ≡ true → (has a i ≡ true) × (has b i ≡ true)
  unfolding meeting both
  is_meeting i e = (and_left (has a i) (has b i) e, and_right (has a i) (has b i) e)

  -- two sets that share no fact are fine, and two with a lowest shared fact are refused with it
  disjoint_fine : (step : ℕ) → Disjoint a b → meet_fault step a b ≡ fine
  unfolding meet_fault meeting
  disjoint_fine step h = rw (least_none meeting 64 (λ i l. none_true (meeting i) (λ e. let q = is_meeting i e in not_both q.1 (h i q.0))))

  shared_refused : (step f : ℕ) → LowestShared a b f → meet_fault step a b ≡ refusal 6 step f 0
  unfolding meet_fault meeting
  shared_refused step f l =
      let small : f < 64 = has_under a f l.in_first in
      let e : least meeting 64 ≡ f = least_found meeting 64 f small (λ i h. none_true (meeting i) (λ q. let w = is_meeting i q in not_both w.1 (l.lowest i h w.0))) (meeting_is f l.in_first l.in_second) in
      rw (e, lt-ltb f 64 small)

  -- and every two sets are one of the two
  meet_cases : Disjoint a b ⊎ ((f : ℕ) × LowestShared a b f)
  meet_cases = go (look meeting meeting_small)
    where
      go : ((i : ℕ) → meeting i ≡ false) ⊎ ((f : ℕ) × (meeting f ≡ true) × ((g : ℕ) → g < f → meeting g ≡ false)) → Disjoint a b ⊎ ((f : ℕ) × LowestShared a b f)
      go (inl w) = inl (λ f e. none_true (has b f) (λ q. not_both (meeting_is f e q) (w f)))
      go (inr w) =
          let q = is_meeting w.0 w.1 in
          inr (w.0, record { in_first = q.0; in_second = q.1; lowest = λ g h e. none_true (has b g) (λ z. not_both (meeting_is g e z) (w.2 g h)) })

-- ---- one step

module _ (words : List ℕ) (i : ℕ) where
  step_cases : StepFine words i ⊎ ((r : Reply) × StepEnding words i r)
  step_cases = first (set_cases (facts_of words) (step_word words i 0))
    where
      fourth : Inside (facts_of words) (step_word words i 0) → Inside (facts_of words) (step_word words i 1) → Inside (facts_of words) (step_word words i 2)
          → Disjoint (step_word words i 1) (step_word words i 2) ⊎ ((f : ℕ) × LowestShared (step_word words i 1) (step_word words i 2) f) → StepFine words i ⊎ ((r : Reply) × StepEnding words i r)
      fourth a b d (inl h) = inl (record { needs = a; adds = b; deletes = d; apart = h })
      fourth a b d (inr w) = inr (refusal 6 i w.0 0, sets_meet w.0 a b d w.1)

      third : Inside (facts_of words) (step_word words i 0) → Inside (facts_of words) (step_word words i 1)
          → Inside (facts_of words) (step_word words i 2) ⊎ ((f : ℕ) × LowestOver (facts_of words) (step_word words i 2) f) → StepFine words i ⊎ ((r : Reply) × StepEnding words i r)
      third a b (inl d) = fourth a b d (meet_cases (step_word words i 1) (step_word words i 2))
      third a b (inr w) = inr (refusal 4 i w.0 0, deletes_over w.0 a b w.1)

      second : Inside (facts_of words) (step_word words i 0) → Inside (facts_of words) (step_word words i 1) ⊎ ((f : ℕ) × LowestOver (facts_of words) (step_word words i 1) f) → StepFine words i ⊎ ((r : Reply) × StepEnding words i r)
      second a (inl b) = third a b (set_cases (facts_of words) (step_word words i 2))
      second a (inr w) = inr (refusal 4 i w.0 0, adds_over w.0 a w.1)

      first : Inside (facts_of words) (step_word words i 0) ⊎ ((f : ℕ) × LowestOver (facts_of words) (step_word words i 0) f) → StepFine words i ⊎ ((r : Reply) × StepEnding words i r)
      first (inl a) = second a (set_cases (facts_of words) (step_word words i 1))
      first (inr w) = inr (refusal 4 i w.0 0, needs_over w.0 w.1)

  -- a fine step is passed over, whatever follows
  fine_passes : (rest : Reply) → StepFine words i → first_of (step_checks words i) rest ≡ rest
  unfolding step_checks first_of
  fine_passes rest s =
      rw (
        inside_fine (facts_of words) (step_word words i 0) i s.needs,
        inside_fine (facts_of words) (step_word words i 1) i s.adds,
        inside_fine (facts_of words) (step_word words i 2) i s.deletes,
        disjoint_fine (step_word words i 1) (step_word words i 2) i s.apart,
      )

  -- a refused step is the reply, whatever follows
  ending_refuses : {r : Reply} (rest : Reply) → StepEnding words i r → first_of (step_checks words i) rest ≡ r
  unfolding step_checks first_of
  ending_refuses rest (needs_over f l) = rw (over_refused (facts_of words) (step_word words i 0) i f l)
  ending_refuses rest (adds_over f a l) = rw (inside_fine (facts_of words) (step_word words i 0) i a, over_refused (facts_of words) (step_word words i 1) i f l)
  ending_refuses rest (deletes_over f a b l) =
      rw (inside_fine (facts_of words) (step_word words i 0) i a, inside_fine (facts_of words) (step_word words i 1) i b, over_refused (facts_of words) (step_word words i 2) i f l)
  ending_refuses rest (sets_meet f a b d l) =
      rw (
        inside_fine (facts_of words) (step_word words i 0) i a,
        inside_fine (facts_of words) (step_word words i 1) i b,
        inside_fine (facts_of words) (step_word words i 2) i d,
        shared_refused (step_word words i 1) (step_word words i 2) i f l,
      )

-- ---- the steps in turn

-- all of k steps from i on are fine
all_fine : (words : List ℕ) (i k : ℕ) → ((j : ℕ) → i ≤ j → j < i + k → StepFine words j) → steps_fault words i k ≡ fine
unfolding steps_fault
all_fine words i zero h = refl
all_fine words i (suc k) h = fine_passes words i _ (h i (omega arith) (omega arith)) ∙ all_fine words (suc i) k (λ j a b. h j (omega arith) (omega arith))

-- step j is the first of k steps from i on that is refused
one_refused : (words : List ℕ) (i k j : ℕ) {r : Reply} → i ≤ j → j < i + k → ((m : ℕ) → i ≤ m → m < j → StepFine words m) → StepEnding words j r → steps_fault words i k ≡ r
unfolding steps_fault
one_refused words i zero j a b h e = absurd (omega arith)
one_refused words i (suc k) j {r} a b h e = go (ℕ_discrete i j) (one_refused words (suc i) k j)
  where
    go : Dec (i ≡ j) → (suc i ≤ j → j < suc i + k → ((m : ℕ) → suc i ≤ m → m < j → StepFine words m) → StepEnding words j r → steps_fault words (suc i) k ≡ r)
        → first_of (step_checks words i) (steps_fault words (suc i) k) ≡ r
    go (yes q) f = ending_refuses words i (steps_fault words (suc i) k) (rw q e)
    go (no ne) f = fine_passes words i (steps_fault words (suc i) k) (h i (omega arith) (omega arith)) ∙ f (omega arith) (omega arith) (λ m c d. h m (omega arith) d) e

-- k steps from i on are all fine, or one is the first to be refused
steps_cases : (words : List ℕ) (i k : ℕ)
    → ((j : ℕ) → i ≤ j → j < i + k → StepFine words j)
    ⊎ ((j : ℕ) × (i ≤ j) × (j < i + k) × ((m : ℕ) → i ≤ m → m < j → StepFine words m) × ((r : Reply) × StepEnding words j r))
steps_cases words i zero = inl (λ j a b. absurd (omega arith))
steps_cases words i (suc k) = go (step_cases words i) (steps_cases words (suc i) k)
  where
    both_fine : StepFine words i → ((j : ℕ) → suc i ≤ j → j < suc i + k → StepFine words j) → (j : ℕ) → i ≤ j → j < i + suc k → StepFine words j
    both_fine s h j a b = elim (ℕ_discrete i j) [ yes q ↦ rw (← q) s | no ne ↦ h j (omega arith) (omega arith) ]

    go : StepFine words i ⊎ ((r : Reply) × StepEnding words i r)
        → ((j : ℕ) → suc i ≤ j → j < suc i + k → StepFine words j)
        ⊎ ((j : ℕ) × (suc i ≤ j) × (j < suc i + k) × ((m : ℕ) → suc i ≤ m → m < j → StepFine words m) × ((r : Reply) × StepEnding words j r))
        → ((j : ℕ) → i ≤ j → j < i + suc k → StepFine words j)
        ⊎ ((j : ℕ) × (i ≤ j) × (j < i + suc k) × ((m : ℕ) → i ≤ m → m < j → StepFine words m) × ((r : Reply) × StepEnding words j r))
    go (inr e) rest = inr (i, omega arith, omega arith, (λ m a b. absurd (omega arith)), e)
    go (inl s) (inl h) = inl (both_fine s h)
    go (inl s) (inr w) = inr (w.0, omega (arith, w.1), omega (arith, w.2), (λ m a b. elim (ℕ_discrete i m) [ yes q ↦ rw (← q) s | no ne ↦ w.3 m (omega arith) b ]), w.4)

-- ---- the whole

shape_is : (words : List ℕ) → well_shaped words ≡ true → Shaped words
unfolding well_shaped
shape_is words e =
    let rest = and_right (leb (facts_of words) 64) _ e in
    record {
      facts = leb-true (facts_of words) 64 (and_left (leb (facts_of words) 64) _ e);
      steps = leb-true (get_or words 1 0) 62 (and_left (leb (get_or words 1 0) 62) _ rest);
      words_right = eqb-true (length words) (words_for (get_or words 1 0)) (and_right (leb (get_or words 1 0) 62) _ rest);
    }

is_shape : (words : List ℕ) → Shaped words → well_shaped words ≡ true
unfolding well_shaped
is_shape words s =
    and_both (leb (facts_of words) 64) _ (le-leb (facts_of words) 64 s.facts)
    (and_both (leb (get_or words 1 0) 62) _ (le-leb (get_or words 1 0) 62 s.steps) (eq-eqb (length words) (words_for (get_or words 1 0)) s.words_right))

-- each ending is the fault
pub ending_plan : {words : List ℕ} {r : Reply} → PlanEnding words r → r ≡ plan_fault words
unfolding plan_fault shape_fault
ending_plan {words} (misshapen no_shape) = rw (none_true (well_shaped words) (λ e. no_shape (shape_is words e)))
ending_plan {words} (initial_over f s l) = rw (is_shape words s, over_refused (facts_of words) (get_or words 2 0) 0 f l)
ending_plan {words} (goal_over f s a l) =
    rw (is_shape words s, inside_fine (facts_of words) (get_or words 2 0) 0 a, over_refused (facts_of words) (get_or words 3 0) (suc (steps_of words)) f l)
ending_plan {words} (step_refused i s a b low high before e) =
    rw (is_shape words s, inside_fine (facts_of words) (get_or words 2 0) 0 a, inside_fine (facts_of words) (get_or words 3 0) (suc (steps_of words)) b)
    (sym (one_refused words 1 (steps_of words) i low (omega arith) before e))
ending_plan {words} (well_formed w) =
    rw (is_shape words w.shaped, inside_fine (facts_of words) (get_or words 2 0) 0 w.initial, inside_fine (facts_of words) (get_or words 3 0) (suc (steps_of words)) w.goal)
    (sym (all_fine words 1 (steps_of words) (λ j a b. w.steps j a (omega arith))))

-- plan words have one of the endings
some_ending : (words : List ℕ) → (r : Reply) × PlanEnding words r
some_ending words = go (bool_cases (well_shaped words)) (set_cases (facts_of words) (get_or words 2 0)) (set_cases (facts_of words) (get_or words 3 0)) (steps_cases words 1 (steps_of words))
  where
    go : (well_shaped words ≡ true) ⊎ (well_shaped words ≡ false) → Inside (facts_of words) (get_or words 2 0) ⊎ ((f : ℕ) × LowestOver (facts_of words) (get_or words 2 0) f)
        → Inside (facts_of words) (get_or words 3 0) ⊎ ((f : ℕ) × LowestOver (facts_of words) (get_or words 3 0) f)
        → ((j : ℕ) → 1 ≤ j → j < 1 + steps_of words → StepFine words j)
        ⊎ ((j : ℕ) × (1 ≤ j) × (j < 1 + steps_of words) × ((m : ℕ) → 1 ≤ m → m < j → StepFine words m) × ((r : Reply) × StepEnding words j r))
        → (r : Reply) × PlanEnding words r
    go (inr e) a b d = (refusal 3 0 0 0, misshapen (λ s. not_both (is_shape words s) e))
    go (inl e) (inr w) b d = (refusal 4 0 w.0 0, initial_over w.0 (shape_is words e) w.1)
    go (inl e) (inl a) (inr w) d = (refusal 4 (suc (steps_of words)) w.0 0, goal_over w.0 (shape_is words e) a w.1)
    go (inl e) (inl a) (inl b) (inr w) = (w.4.0, step_refused w.0 (shape_is words e) a b w.1 (omega (arith, w.2)) w.3 w.4.1)
    go (inl e) (inl a) (inl b) (inl h) = (fine, well_formed (record { shaped = shape_is words e; initial = a; goal = b; steps = λ i l m. h i l (omega arith) }))

-- the fault is one of the endings
pub plan_ending : (words : List ℕ) → PlanEnding words (plan_fault words)
plan_ending words = let w = some_ending words in rw (← ending_plan w.1) w.1

-- the fault is nothing exactly when the words are well formed
pub fine_formed : (words : List ℕ) → (plan_fault words).code ≡ 0 → WellFormed words
fine_formed words e = go (plan_ending words) e
  where
    refused : {r : Reply} {i : ℕ} → StepEnding words i r → r.code ≡ 0 → ⊥
    refused (needs_over f l) z = let y : ◌≡◌ {A = ℕ} 4 0 = z in omega arith
    refused (adds_over f a l) z = let y : ◌≡◌ {A = ℕ} 4 0 = z in omega arith
    refused (deletes_over f a b l) z = let y : ◌≡◌ {A = ℕ} 4 0 = z in omega arith
    refused (sets_meet f a b d l) z = let y : ◌≡◌ {A = ℕ} 6 0 = z in omega arith

    go : {r : Reply} → PlanEnding words r → r.code ≡ 0 → WellFormed words
    go (misshapen s) z = let y : ◌≡◌ {A = ℕ} 3 0 = z in absurd (omega arith)
    go (initial_over f s l) z = let y : ◌≡◌ {A = ℕ} 4 0 = z in absurd (omega arith)
    go (goal_over f s a l) z = let y : ◌≡◌ {A = ℕ} 4 0 = z in absurd (omega arith)
    go (step_refused i s a b low high before e) z = absurd (refused e z)
    go (well_formed w) z = w

pub formed_fine : {words : List ℕ} → WellFormed words → plan_fault words ≡ fine
formed_fine w = sym (ending_plan (well_formed w))
