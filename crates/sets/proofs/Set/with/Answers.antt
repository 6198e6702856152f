-- The digit i set by a shifted one; a number past 63 cannot be kept.
use Rattle.std.proofs.Common.{ℕ, ◌^◌, bit_or, ap, ◌∙◌, one-mul, lit<, shl_exact, arith}
use Rattle.std.proofs.lemmas.Nat.{or_lt}
use Rattle.sets.specs.Word.{has}
use Rattle.sets.proofs.Words.{has_with, with_high}
use Rattle.sets.proofs.Set.with.Goals as goal

pub invariant_of-result-2 : goal.invariant_of-result-2
invariant_of-result-2 c = or_lt 64 c.self.inside.word _ c.self.invariant (omega arith)

pub returns : goal.returns
returns c =
    let w = c.self.inside.word in
    rw (← c.self.view_is) (ap (λ (x : ℕ). has (bit_or w x)) (shl_exact 1 c.args.i 64 (lit< tt) (omega arith) ∙ one-mul (2 ^ c.args.i)) ∙ has_with w c.args.i)

pub returns-then-i-ge64 : goal.returns-then-i-ge64
returns-then-i-ge64 c = rw (← c.self.view_is) (with_high c.self.inside.word c.args.i c.if-i-ge64.true)
