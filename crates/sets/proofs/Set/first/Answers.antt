-- The zeros below the lowest digit are as many as its place, and only the empty word has no digit.
use Rattle.std.proofs.Common.{◌≡◌, sym, ap, ◌∙◌, ℕ, Some}
use Rattle.sets.specs.Test.{least}
use Rattle.sets.specs.Word.{has}
use Rattle.sets.proofs.Least.{passing_some, passing_none}
use Rattle.sets.proofs.Words.{has_least, has_some, none_least}
use Rattle.sets.proofs.Set.first.Goals as goal

pub returns-then-self-eq0 : goal.returns-then-self-eq0
returns-then-self-eq0 c =
    let none : least (has c.self.inside.word) 64 ≡ 64 = ap (λ (w : ℕ). least (has w) 64) c.if-self-eq0.true ∙ none_least in
    rw (← c.self.view_is) (sym (passing_none (has c.self.inside.word) 64 none))

pub returns-else-self-eq0 : goal.returns-else-self-eq0
returns-else-self-eq0 c =
    let w = c.self.inside.word in
    rw (← c.self.view_is) (ap (λ (i : ℕ). Some i) (c.from.ensures ∙ has_least w) ∙ sym (passing_some (has w) 64 (has_some w c.self.invariant c.if-self-eq0.false)))
