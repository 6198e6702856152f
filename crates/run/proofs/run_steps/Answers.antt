-- A step that cannot run ends the run, one that can leads on to the next; then the end in its turn.
use Rattle.std.proofs.Common.{rules}
use Rattle.plan.proofs.Refusals.{exits}
use Rattle.run.proofs.Steps.{run_begins, step_stops, step_goes, goal_stops, goal_holds}
use Rattle.run.proofs.run_steps.Goals as goal

pub loop-step-init : goal.loop-step-init
loop-step-init c = search (rules, run_begins)

pub returns-in_err-need_fault : goal.returns-in_err-need_fault
returns-in_err-need_fault c = exits _ _ _ _ c.from_residual.ensures.1 (search (rules, step_stops))

pub loop-step-preserved : goal.loop-step-preserved
loop-step-preserved c = search (rules, step_goes)

pub returns-in_err-need_fault-2 : goal.returns-in_err-need_fault-2
returns-in_err-need_fault-2 c = exits _ _ _ _ c.from_residual-in_err-need_fault-2.ensures.1 (search (rules, goal_stops))

pub returns : goal.returns
returns c = search (rules, goal_holds)
