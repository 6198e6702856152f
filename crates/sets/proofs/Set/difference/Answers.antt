-- The digits of the other set are cleared one by one.
use Rattle.sets.proofs.Words.{has_less}
use Rattle.sets.proofs.Set.difference.Goals as goal

pub returns : goal.returns
returns c = rw (← c.self.view_is, ← c.other.view_is) (has_less c.self.inside.word c.other.inside.word c.other.invariant)
