-- Digits are joined one by one.
use Rattle.std.proofs.lemmas.Nat.{or_lt}
use Rattle.sets.proofs.Words.{has_union}
use Rattle.sets.proofs.Set.union.Goals as goal

pub invariant_of-result : goal.invariant_of-result
invariant_of-result c = or_lt 64 c.self.inside.word c.other.inside.word c.self.invariant c.other.invariant

pub returns : goal.returns
returns c = rw (← c.self.view_is, ← c.other.view_is) (has_union c.self.inside.word c.other.inside.word)
