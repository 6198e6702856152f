-- The steps before the one looked at are fine.
use Rattle.std.proofs.Common.{◌-◌, ◌+◌, ◌≡◌}
use Rattle.plan.specs.Layout.{steps_of}
use Rattle.plan.specs.Words.{steps_fault}
use Rattle.plan.proofs.words.Plan.steps_fault.Given as goal

abbrev pub invariant-loop-step : goal.invariant-loop-step
invariant-loop-step l = steps_fault l.self 1 (steps_of l.self) ≡ steps_fault l.self l.step (steps_of l.self + 1 - l.step)
