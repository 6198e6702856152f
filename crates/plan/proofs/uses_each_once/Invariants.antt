-- What is seen is what stands in the places before this one.
use Rattle.std.proofs.Common.{◌≡◌, take}
use Rattle.sets.specs.Word.{has, kept}
use Rattle.plan.proofs.Sequences.{stands}
use Rattle.plan.proofs.uses_each_once.Given as goal

abbrev pub invariant-loop-step : goal.invariant-loop-step
invariant-loop-step l = has l.seen ≡ kept (stands (take l.step-index l.sequence))
