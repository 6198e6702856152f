-- How a run ends, row by row of the table in docs/RULES.md 'Replies': a constructor for each ending carries its own fact and that nothing earlier in the
-- order of checks holds. proofs/RunEndings.antt: the reply is one of these, and each of these is the reply.
use Rattle.std.specs.Prelude.{◌≡◌, Bool, true, false, List, ℕ, suc, ◌<◌, length, slice_index}
use Rattle.model.specs.Plan.{Plan}
use Rattle.model.specs.Run.{CanRun, state, Runs}
use Rattle.model.specs.Sequence.{EachOnce}
use Rattle.plan.specs.declared.replies.Reply.{Reply}
use Rattle.plan.specs.Refusal.{refusal}
use Rattle.plan.specs.Layout.{steps_of, plan_of}
use Rattle.plan.specs.Endings.{WellFormed, PlanEnding}
use Rattle.run.specs.Call.{ended}

-- f is the lowest fact that step i needs and a state lacks
pub record LowestUnmet (P : Plan) (i : ℕ) (s : ℕ → Bool) (f : ℕ) : Type 0 where
  pub needed : P.needs i f ≡ true
  pub lacked : s f ≡ false
  pub lowest : (g : ℕ) → g < f → P.needs i g ≡ true → s g ≡ true

-- each step at a place below p can run in its turn
abbrev pub RunsTo : Plan → List ℕ → ℕ → Type 0
RunsTo P sequence p = (q : ℕ) → q < p → CanRun P (slice_index sequence q) (state P sequence q)

-- how a run ends
pub data RunEnding (words sequence : List ℕ) : Reply → Type 0 where
  -- the plan words are refused
  plan_bad : {r : Reply} → PlanEnding words r → (r.code ≡ 0 → ⊥) → RunEnding words sequence r
  -- another number of places than of steps
  miscounted : WellFormed words → (length sequence ≡ steps_of words → ⊥) → RunEnding words sequence (refusal 3 0 0 0)
  -- some step is not used exactly once
  not_once : WellFormed words → length sequence ≡ steps_of words → (EachOnce (steps_of words) sequence → ⊥) → RunEnding words sequence (refusal 15 0 0 0)
  -- the step at place p is the first that cannot run in its turn
  step_unmet : (p f : ℕ) → WellFormed words → EachOnce (steps_of words) sequence → p < length sequence → RunsTo (plan_of words) sequence p
      → LowestUnmet (plan_of words) (slice_index sequence p) (state (plan_of words) sequence p) f → RunEnding words sequence (refusal 9 (slice_index sequence p) f 0)
  -- each step can run, and the last state does not hold the goal
  goal_unmet : (f : ℕ) → WellFormed words → EachOnce (steps_of words) sequence → RunsTo (plan_of words) sequence (length sequence)
      → LowestUnmet (plan_of words) (suc (steps_of words)) (state (plan_of words) sequence (length sequence)) f
      → RunEnding words sequence (refusal 9 (suc (steps_of words)) f 0)
  -- the sequence runs, and its last state is told
  run_through : WellFormed words → EachOnce (steps_of words) sequence → Runs (plan_of words) sequence
      → RunEnding words sequence (ended (state (plan_of words) sequence (length sequence)))
