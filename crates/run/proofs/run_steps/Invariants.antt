-- What is left of the sequence, run from the state, gives the reply of the whole.
use Rattle.std.proofs.Common.{◌≡◌, drop}
use Rattle.sets.specs.Word.{has}
use Rattle.plan.specs.Layout.{plan_of}
use Rattle.run.specs.Call.{run_from, begun}
use Rattle.run.proofs.run_steps.Given as goal

abbrev pub invariant-loop-step : goal.invariant-loop-step
invariant-loop-step l = run_from (plan_of l.plan) l.sequence (begun (plan_of l.plan)) ≡ run_from (plan_of l.plan) (drop l.step-index l.sequence) (has l.state)
