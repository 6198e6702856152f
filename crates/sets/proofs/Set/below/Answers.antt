-- One less than a shifted one has all digits below it; past 63 every digit is there.
use Rattle.std.proofs.Common.{ℕ, ◌-◌, ◌^◌, ap, ◌∙◌, one-mul, lit<, shl_exact, arith}
use Rattle.sets.specs.Word.{has}
use Rattle.sets.proofs.Words.{has_mask, under_high}
use Rattle.sets.proofs.Set.below.Goals as goal

pub returns : goal.returns
returns c =
    let n = c.args.n in
    ap (λ (x : ℕ). has (x - 1)) (shl_exact 1 n 64 (lit< tt) (omega arith) ∙ one-mul (2 ^ n)) ∙ has_mask n

pub returns-then-n-ge64 : goal.returns-then-n-ge64
returns-then-n-ge64 c = has_mask 64 ∙ under_high 64 c.args.n (omega arith) c.if-n-ge64.true
