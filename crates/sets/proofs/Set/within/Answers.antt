-- A word is within another just where masking leaves it as it is.
use Rattle.sets.proofs.Words.{within_is}
use Rattle.sets.proofs.Set.within.Goals as goal

pub returns : goal.returns
returns c = rw (← c.self.view_is, ← c.other.view_is) (within_is c.self.inside.word c.other.inside.word c.self.invariant)
