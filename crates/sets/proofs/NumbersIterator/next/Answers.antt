-- The lowest number comes first, and the others are left.
use Rattle.std.proofs.Common.{sym, ap, ◌∙◌}
use Rattle.sets.specs.Word.{members}
use Rattle.sets.proofs.Members.{members_cons, members_none, members_fewer}
use Rattle.sets.proofs.NumbersIterator.next.Goals as goal

pub returns-in_err-i-clause-steps : goal.returns-in_err-i-clause-steps
returns-in_err-i-clause-steps c =
    let none = ap members (sym c.self.view_is) ∙ members_none c.self.inside.rest (sym c.in_err-i.ensures) in
    rw c.from_residual.ensures (none, none)

pub returns-clause-steps : goal.returns-clause-steps
returns-clause-steps c = ap members (sym c.self.view_is) ∙ members_cons c.self.inside.rest _ c.in_ok-i.i (sym c.in_ok-i.ensures) c.without-self-inside.ensures

pub returns-clause-goes : goal.returns-clause-goes
returns-clause-goes c =
    let came = ap members (sym c.self.view_is) ∙ members_cons c.self.inside.rest _ c.in_ok-i.i (sym c.in_ok-i.ensures) c.without-self-inside.ensures in
    record { on = λ _. (tt, tt, members_fewer _ _ _ came); keeps = tt; rests = λ _. tt }
