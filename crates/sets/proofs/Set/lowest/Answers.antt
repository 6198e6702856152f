-- With 64 for none, the first is the least.
use Rattle.sets.specs.Word.{has}
use Rattle.std.proofs.Common.{ap, ◌∙◌, ℕ, Option, unwrap_or}
use Rattle.sets.proofs.Least.{passing_or}
use Rattle.sets.proofs.Set.lowest.Goals as goal

pub returns : goal.returns
returns c = c.unwrap_or.ensures ∙ ap (λ (o : Option ℕ). unwrap_or o 64) c.first.ensures ∙ passing_or (has c.args.self) 64
