-- Digits are met one by one.
use Rattle.sets.proofs.Words.{has_both}
use Rattle.sets.proofs.Set.shared.Goals as goal

pub returns : goal.returns
returns c = rw (← c.self.view_is, ← c.other.view_is) (has_both c.self.inside.word c.other.inside.word)
