-- A set that is fine leads on to the next.
use Rattle.std.proofs.Common.{refl, rules}
use Rattle.plan.specs.StepSets.{step_sets_fault}
use Rattle.plan.proofs.Refusals.{exits}
use Rattle.plan.proofs.Faults.{sets_refused, sets_more, sets_passed}
use Rattle.plan.proofs.step_sets_fault.Goals as goal

pub loop-i-init : goal.loop-i-init
unfolding step_sets_fault
loop-i-init c = refl

pub returns-in_err-step_set_fault : goal.returns-in_err-step_set_fault
returns-in_err-step_set_fault c = exits _ _ _ _ c.from_residual.ensures.1 (search (rules, sets_refused))

pub loop-i-preserved : goal.loop-i-preserved
loop-i-preserved c = search (rules, sets_more)

pub returns : goal.returns
returns c = search (rules, sets_passed)
