-- Need k stands at the place rest of the needs from consumer on.
use Rattle.std.proofs.Common.{◌≡◌, slice_index_or}
use Rattle.plan.specs.Layout.{steps_of}
use Rattle.plan.specs.Links.{need_for, need_list}
use Rattle.plan.proofs.NeedSteps.{left_at}
use Rattle.plan.proofs.words.Plan.need_at.Given as goal

abbrev pub invariant-loop-consumer : goal.invariant-loop-consumer
invariant-loop-consumer l = slice_index_or (need_list l.self) l.k (need_for 0 0) ≡ left_at l.self (steps_of l.self) l.consumer l.rest
