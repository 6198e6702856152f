-- A run ends as the table says, both ways round: each ending is the reply, and the reply is one of the endings. Assumes nothing.
use Rattle.std.proofs.Common.{◌≡◌, refl, sym, ◌∙◌, Bool, true, false, List, ◌⊎◌, inl, inr, ℕ, zero, suc, ◌+◌, ◌≤◌, ◌<◌, arith, length, get_or, drop, drop_of_length-le, drop-cons, lt-ltb}
use native.Mathlib.Decide.{ℕ_discrete}
use Rattle.sets.specs.Test.{less, least}
use Rattle.sets.specs.Word.{has}
use Rattle.sets.proofs.Bools.{and_left, and_right, and_both, bool_cases, none_true, not_both, not_is, is_not, none_false}
use Rattle.sets.proofs.Least.{least_found, least_none}
use Rattle.sets.proofs.Words.{has_under}
use Rattle.model.specs.Run.{CanRun, state, Runs}
use Rattle.model.specs.Sequence.{EachOnce}
use Rattle.plan.specs.declared.replies.Reply.{Reply}
use Rattle.plan.specs.Refusal.{fine, refusal}
use Rattle.plan.specs.Layout.{steps_of, needs_of, plan_of}
use Rattle.plan.specs.Words.{plan_fault}
use Rattle.plan.specs.Sequences.{uses_each_once}
use Rattle.plan.specs.Endings.{WellFormed}
use Rattle.plan.proofs.Layouts.{steps_at_most}
use Rattle.plan.proofs.Outside.{look}
use Rattle.plan.proofs.Sequences.{each_once}
use Rattle.plan.proofs.WordEndings.{ending_plan, plan_ending, fine_formed, formed_fine}
use Rattle.run.specs.Call.{lacking, unmet, ended, run_from, begun, run_reply}
use Rattle.run.specs.Endings.{LowestUnmet, RunsTo, RunEnding, plan_bad, miscounted, not_once, step_unmet, goal_unmet, run_through}
use Rattle.run.proofs.Steps.{plan_refused, length_refused, once_refused, run_follows}

-- ---- one step in its turn
module _ (words : List ℕ) (i : ℕ) (s : ℕ → Bool) where
  -- what the step needs and the state lacks
  unfoldable missing : ℕ → Bool
  missing = less (has (needs_of words i)) s

  missing_is : (f : ℕ) → missing f ≡ true → (has (needs_of words i) f ≡ true) × (s f ≡ false)
  unfolding missing less
  missing_is f e = (and_left (has (needs_of words i) f) _ e, is_not (s f) (and_right (has (needs_of words i) f) _ e))

  is_missing : (f : ℕ) → has (needs_of words i) f ≡ true → s f ≡ false → missing f ≡ true
  unfolding missing less
  is_missing f e h = and_both (has (needs_of words i) f) _ e (not_is (s f) h)

  -- a step that can run lets the run go on, one with a lowest unmet need ends it, and every step is one of the two
  can_goes : (rest : Reply) → CanRun (plan_of words) i s → unmet (plan_of words) i s rest ≡ rest
  unfolding unmet lacking missing
  can_goes rest can =
      let none : least missing 64 ≡ 64 = least_none missing 64 (λ f h. none_true (missing f) (λ e. let w = missing_is f e in not_both (can f w.0) w.1)) in
      rw none refl

  unmet_ends : (rest : Reply) (f : ℕ) → LowestUnmet (plan_of words) i s f → unmet (plan_of words) i s rest ≡ refusal 9 i f 0
  unfolding unmet lacking missing
  unmet_ends rest f l =
      let small = has_under (needs_of words i) f l.needed in
      let found : least missing 64 ≡ f =
      least_found missing 64 f small (λ g h. none_true (missing g) (λ e. let w = missing_is g e in not_both (l.lowest g h w.0) w.1)) (is_missing f l.needed l.lacked)
      in
      rw (found, lt-ltb f 64 small) refl

  need_cases : CanRun (plan_of words) i s ⊎ ((f : ℕ) × LowestUnmet (plan_of words) i s f)
  need_cases = go (look missing (λ f e. has_under (needs_of words i) f (missing_is f e).0))
    where
      holds : (f : ℕ) → has (needs_of words i) f ≡ true → missing f ≡ false → s f ≡ true
      holds f e h = none_false (s f) (λ q. not_both (is_missing f e q) h)

      go : ((f : ℕ) → missing f ≡ false) ⊎ ((f : ℕ) × (missing f ≡ true) × ((g : ℕ) → g < f → missing g ≡ false)) → CanRun (plan_of words) i s ⊎ ((f : ℕ) × LowestUnmet (plan_of words) i s f)
      go (inl w) = inl (λ f e. holds f e (w f))
      go (inr w) = let q = missing_is w.0 w.1 in inr (w.0, record { needed = q.0; lacked = q.1; lowest = λ g h e. holds g e (w.2 g h) })

-- ---- the steps in turn: what is run from place p on is the rest of the sequence, in the state before p
module _ (words sequence : List ℕ) where
  turn_at : (p : ℕ) → p < length sequence → run_from (plan_of words) (drop p sequence) (state (plan_of words) sequence p)
      ≡ unmet (plan_of words) (get_or sequence p 0) (state (plan_of words) sequence p) (run_from (plan_of words) (drop (suc p) sequence) (state (plan_of words) sequence (suc p)))
  unfolding run_from state
  turn_at p h = rw (drop-cons sequence p 0 h) refl

  goal_at : run_from (plan_of words) (drop (length sequence) sequence) (state (plan_of words) sequence (length sequence))
      ≡ unmet (plan_of words) (suc (steps_of words)) (state (plan_of words) sequence (length sequence)) (ended (state (plan_of words) sequence (length sequence)))
  unfolding run_from
  goal_at = let all : length sequence ≤ length sequence = omega arith in rw (drop_of_length-le sequence all) refl

  -- while each step can run, the run goes on
  runs_on : (p : ℕ) → p ≤ length sequence → RunsTo (plan_of words) sequence p
      → run_from (plan_of words) sequence (begun (plan_of words)) ≡ run_from (plan_of words) (drop p sequence) (state (plan_of words) sequence p)
  unfolding begun state
  runs_on zero l runs = refl
  runs_on (suc p) l runs =
      runs_on p (omega arith) (λ q h. runs q (omega arith)) ∙ turn_at p (omega arith) ∙ can_goes words (get_or sequence p 0) (state (plan_of words) sequence p) _ (runs p (omega arith))

  -- it ends at the first step that cannot run, at the goal, or well
  stuck_at : (p f : ℕ) → p < length sequence → RunsTo (plan_of words) sequence p → LowestUnmet (plan_of words) (get_or sequence p 0) (state (plan_of words) sequence p) f
      → run_from (plan_of words) sequence (begun (plan_of words)) ≡ refusal 9 (get_or sequence p 0) f 0
  stuck_at p f h runs l = runs_on p (omega arith) runs ∙ turn_at p h ∙ unmet_ends words (get_or sequence p 0) (state (plan_of words) sequence p) _ f l

  goal_lacked : (f : ℕ) → RunsTo (plan_of words) sequence (length sequence)
      → LowestUnmet (plan_of words) (suc (steps_of words)) (state (plan_of words) sequence (length sequence)) f
      → run_from (plan_of words) sequence (begun (plan_of words)) ≡ refusal 9 (suc (steps_of words)) f 0
  goal_lacked f runs l =
      runs_on (length sequence) (omega arith) runs ∙ goal_at ∙ unmet_ends words (suc (steps_of words)) (state (plan_of words) sequence (length sequence)) _ f l

  goal_held : Runs (plan_of words) sequence → run_from (plan_of words) sequence (begun (plan_of words)) ≡ ended (state (plan_of words) sequence (length sequence))
  goal_held r =
      runs_on (length sequence) (omega arith) r.turn ∙ goal_at ∙ can_goes words (suc (steps_of words)) (state (plan_of words) sequence (length sequence)) _ r.goal

  -- a step is the first that cannot run, or each can
  turn_cases : (k p : ℕ) → p + k ≡ length sequence → RunsTo (plan_of words) sequence p
      → RunsTo (plan_of words) sequence (length sequence)
      ⊎ ((q : ℕ) × (q < length sequence) × RunsTo (plan_of words) sequence q × ((f : ℕ) × LowestUnmet (plan_of words) (get_or sequence q 0) (state (plan_of words) sequence q) f))
  turn_cases zero p e runs = inl (λ q h. runs q (omega arith))
  turn_cases (suc k) p e runs = go (need_cases words (get_or sequence p 0) (state (plan_of words) sequence p)) (λ next. turn_cases k (suc p) (omega arith) next)
    where
      more : CanRun (plan_of words) (get_or sequence p 0) (state (plan_of words) sequence p) → RunsTo (plan_of words) sequence (suc p)
      more can q h = elim (ℕ_discrete q p) [ yes same ↦ rw same can | no other ↦ runs q (omega arith) ]

      go : CanRun (plan_of words) (get_or sequence p 0) (state (plan_of words) sequence p)
          ⊎ ((f : ℕ) × LowestUnmet (plan_of words) (get_or sequence p 0) (state (plan_of words) sequence p) f)
          → (RunsTo (plan_of words) sequence (suc p)
          → RunsTo (plan_of words) sequence (length sequence)
          ⊎ ((q : ℕ) × (q < length sequence) × RunsTo (plan_of words) sequence q × ((f : ℕ) × LowestUnmet (plan_of words) (get_or sequence q 0) (state (plan_of words) sequence q) f)))
          → RunsTo (plan_of words) sequence (length sequence)
          ⊎ ((q : ℕ) × (q < length sequence) × RunsTo (plan_of words) sequence q × ((f : ℕ) × LowestUnmet (plan_of words) (get_or sequence q 0) (state (plan_of words) sequence q) f))
      go (inl can) rest = rest (more can)
      go (inr w) rest = inr (p, omega arith, runs, w)

-- ---- the whole

-- n places that use each step once, and what the test of them says
used : (words sequence : List ℕ) → EachOnce (steps_of words) sequence → true ≡ uses_each_once (steps_of words) sequence
used words sequence each = sym ((each_once (steps_of words) sequence (steps_at_most words)).1 each)

unused : (words sequence : List ℕ) → (EachOnce (steps_of words) sequence → ⊥) → false ≡ uses_each_once (steps_of words) sequence
unused words sequence h = sym (none_true (uses_each_once (steps_of words) sequence) (λ e. h ((each_once (steps_of words) sequence (steps_at_most words)).0 e)))

-- each ending is the reply
pub ending_run : {words sequence : List ℕ} {r : Reply} → RunEnding words sequence r → r ≡ run_reply words sequence
ending_run {words} {sequence} {r} (plan_bad e h) = plan_refused words sequence r (ending_plan e) h
ending_run {words} {sequence} (miscounted w ne) = length_refused words sequence fine (steps_of words) (sym (formed_fine w)) refl refl (refusal 3 0 0 0) ne refl
ending_run {words} {sequence} (not_once w e h) =
    once_refused words sequence fine (steps_of words) (sym (formed_fine w)) refl refl e false (unused words sequence h) (refusal 15 0 0 0) refl refl
ending_run {words} {sequence} (step_unmet p f w each l runs u) =
    run_follows words sequence fine (steps_of words) (sym (formed_fine w)) refl refl each.places true (used words sequence each) _ refl (sym (stuck_at words sequence p f l runs u))
ending_run {words} {sequence} (goal_unmet f w each runs u) =
    run_follows words sequence fine (steps_of words) (sym (formed_fine w)) refl refl each.places true (used words sequence each) _ refl (sym (goal_lacked words sequence f runs u))
ending_run {words} {sequence} (run_through w each runs) =
    run_follows words sequence fine (steps_of words) (sym (formed_fine w)) refl refl each.places true (used words sequence each) _ refl (sym (goal_held words sequence runs))

-- plan words and a sequence have one of the endings
some_run : (words sequence : List ℕ) → (r : Reply) × RunEnding words sequence r
some_run words sequence = plan_first (ℕ_discrete (plan_fault words).code 0)
  where
    goal_last : WellFormed words → EachOnce (steps_of words) sequence → RunsTo (plan_of words) sequence (length sequence)
        → CanRun (plan_of words) (suc (steps_of words)) (state (plan_of words) sequence (length sequence))
        ⊎ ((f : ℕ) × LowestUnmet (plan_of words) (suc (steps_of words)) (state (plan_of words) sequence (length sequence)) f)
        → (r : Reply) × RunEnding words sequence r
    goal_last w each runs (inl can) = (ended (state (plan_of words) sequence (length sequence)), run_through w each (record { turn = runs; goal = can }))
    goal_last w each runs (inr u) = (refusal 9 (suc (steps_of words)) u.0 0, goal_unmet u.0 w each runs u.1)

    turns_then : WellFormed words → EachOnce (steps_of words) sequence
        → RunsTo (plan_of words) sequence (length sequence)
        ⊎ ((q : ℕ) × (q < length sequence) × RunsTo (plan_of words) sequence q × ((f : ℕ) × LowestUnmet (plan_of words) (get_or sequence q 0) (state (plan_of words) sequence q) f))
        → (r : Reply) × RunEnding words sequence r
    turns_then w each (inl runs) = goal_last w each runs (need_cases words (suc (steps_of words)) (state (plan_of words) sequence (length sequence)))
    turns_then w each (inr u) = (refusal 9 (get_or sequence u.0 0) u.3.0 0, step_unmet u.0 u.3.0 w each u.1 u.2 u.3.1)

    once_then : WellFormed words → length sequence ≡ steps_of words → (uses_each_once (steps_of words) sequence ≡ true) ⊎ (uses_each_once (steps_of words) sequence ≡ false)
        → (r : Reply) × RunEnding words sequence r
    once_then w e (inl u) = turns_then w ((each_once (steps_of words) sequence (steps_at_most words)).0 u) (turn_cases words sequence (length sequence) 0 (omega arith) (λ q h. absurd (omega arith)))
    once_then w e (inr u) = (refusal 15 0 0 0, not_once w e (λ each. not_both ((each_once (steps_of words) sequence (steps_at_most words)).1 each) u))

    length_then : WellFormed words → Dec (length sequence ≡ steps_of words) → (r : Reply) × RunEnding words sequence r
    length_then w (yes e) = once_then w e (bool_cases (uses_each_once (steps_of words) sequence))
    length_then w (no ne) = (refusal 3 0 0 0, miscounted w ne)

    plan_first : Dec ((plan_fault words).code ≡ 0) → (r : Reply) × RunEnding words sequence r
    plan_first (yes z) = length_then (fine_formed words z) (ℕ_discrete (length sequence) (steps_of words))
    plan_first (no h) = (plan_fault words, plan_bad (plan_ending words) h)

-- the reply is one of the endings
pub run_ending : (words sequence : List ℕ) → RunEnding words sequence (run_reply words sequence)
run_ending words sequence = let w = some_run words sequence in rw (← ending_run w.1) w.1

-- a malformed plan has the reply of the check of plan words
pub malformed_told : (words sequence : List ℕ) → ((plan_fault words).code ≡ 0 → ⊥) → run_reply words sequence ≡ plan_fault words
malformed_told words sequence h = sym (ending_run (plan_bad (plan_ending words) h))

-- the reply is code 0 exactly when plan and sequence are well formed, each step is used once, and the sequence runs
pub record RunsWell (words sequence : List ℕ) : Type 0 where
  pub formed : WellFormed words
  pub each : EachOnce (steps_of words) sequence
  pub runs : Runs (plan_of words) sequence

pub zero_runs : (words sequence : List ℕ) → (run_reply words sequence).code ≡ 0 → RunsWell words sequence
zero_runs words sequence z = go (run_ending words sequence) z
  where
    go : {r : Reply} → RunEnding words sequence r → r.code ≡ 0 → RunsWell words sequence
    go (plan_bad e h) z = absurd (h z)
    go (miscounted w ne) z = let y : ◌≡◌ {A = ℕ} 3 0 = z in absurd (omega arith)
    go (not_once w e h) z = let y : ◌≡◌ {A = ℕ} 15 0 = z in absurd (omega arith)
    go (step_unmet p f w each l runs u) z = let y : ◌≡◌ {A = ℕ} 9 0 = z in absurd (omega arith)
    go (goal_unmet f w each runs u) z = let y : ◌≡◌ {A = ℕ} 9 0 = z in absurd (omega arith)
    go (run_through w each runs) z = record { formed = w; each = each; runs = runs }

pub runs_zero : (words sequence : List ℕ) → RunsWell words sequence → run_reply words sequence ≡ ended (state (plan_of words) sequence (length sequence))
runs_zero words sequence r = sym (ending_run (run_through r.formed r.each r.runs))
