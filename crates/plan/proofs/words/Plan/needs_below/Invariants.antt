-- The sum counts the needs of the steps below i; where there is none to count, i stays at 1.
use Rattle.std.proofs.Common.{◌≡◌, ◌<◌, ◌≤◌}
use Rattle.plan.specs.Links.{needs_below}
use Rattle.plan.proofs.words.Plan.needs_below.Given as goal

abbrev pub invariant-loop-i : goal.invariant-loop-i
invariant-loop-i l = (l.sum ≡ needs_below l.self l.i) × (l.step < 1 → l.i ≤ 1)
