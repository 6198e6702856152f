-- The digit i cleared by the complement of a shifted one; a number past 63 is not there.
use Rattle.std.proofs.Common.{ℕ, ◌-◌, ◌^◌, bit_and, ap, ◌∙◌, one-mul, lit<, shl_exact, arith}
use Rattle.sets.specs.Word.{has}
use Rattle.sets.proofs.Words.{has_without, without_high}
use Rattle.sets.proofs.Set.without.Goals as goal

pub returns : goal.returns
returns c =
    let w = c.self.inside.word in
    rw (← c.self.view_is) (ap (λ (x : ℕ). has (bit_and w (2 ^ 64 - 1 - x))) (shl_exact 1 c.args.i 64 (lit< tt) (omega arith) ∙ one-mul (2 ^ c.args.i)) ∙ has_without w c.args.i c.if-i-ge64.false)

pub returns-then-i-ge64 : goal.returns-then-i-ge64
returns-then-i-ge64 c = rw (← c.self.view_is) (without_high c.self.inside.word c.args.i c.if-i-ge64.true)
