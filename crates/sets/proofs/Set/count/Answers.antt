-- The ones of a word are counted one by one.
use Rattle.std.proofs.Common.{◌∙◌}
use Rattle.sets.proofs.Words.{has_count}
use Rattle.sets.proofs.Set.count.Goals as goal

pub returns : goal.returns
returns c = rw (← c.self.view_is) (c.from.ensures ∙ has_count c.self.inside.word c.self.invariant)
