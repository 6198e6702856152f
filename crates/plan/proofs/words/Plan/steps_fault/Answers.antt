-- A step that is fine leads on to the next.
use Rattle.std.proofs.Common.{refl, rules, arith}
use Rattle.plan.specs.Layout.{steps_of}
use Rattle.plan.specs.Refusal.{fine}
use Rattle.plan.proofs.Refusals.{exits, told_refuses}
use Rattle.plan.proofs.Faults.{steps_refused, steps_more, steps_last, steps_passed}
use Rattle.plan.proofs.words.Plan.steps_fault.Goals as goal

pub returns-in_err-step_fault : goal.returns-in_err-step_fault
returns-in_err-step_fault c = exits _ _ _ _ c.from_residual.ensures.1 (search (rules, steps_refused, told_refuses))

pub loop-step-preserved : goal.loop-step-preserved
loop-step-preserved c =
    steps_more c.args.self.now c.loop-step.step (steps_of c.args.self.now) refl fine c.in_ok-step_fault.ensures (omega (arith, c.steps-step-end.ensures.value)) c.loop-step.invariant refl

pub returns : goal.returns
returns c = search (rules, steps_passed)

pub returns-in_ok-step_fault : goal.returns-in_ok-step_fault
returns-in_ok-step_fault c = search (rules, steps_last)
