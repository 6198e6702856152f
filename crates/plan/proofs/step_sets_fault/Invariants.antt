-- The sets before the one looked at are fine.
use Rattle.std.proofs.Common.{◌+◌, ◌≡◌, drop}
use Rattle.plan.specs.StepSets.{step_sets_from, step_sets_fault}
use Rattle.plan.proofs.step_sets_fault.Given as goal

abbrev pub invariant-loop-i : goal.invariant-loop-i
invariant-loop-i l = step_sets_fault l.n l.sets ≡ step_sets_from l.n (l.i + 1) (drop l.i l.sets)
