-- The digit i of the word, read by a shift and a mask.
use Rattle.std.proofs.Common.{ℕ, ◌/◌, ◌^◌, eqb, ap, lt-ltb, le-ltb}
use lib.Bits.{and_mask}
use Rattle.sets.specs.Word.{has}
use Rattle.sets.proofs.Set.holds.Goals as goal

pub returns-then-i-lt64 : goal.returns-then-i-lt64
unfolding has
returns-then-i-lt64 c =
    let i = c.args.i in
    rw (← c.self.view_is, lt-ltb i 64 c.if-i-lt64.true) (ap (λ (x : ℕ). eqb x 1) (and_mask (c.self.inside.word / 2 ^ i) 1))

pub returns-else-i-lt64 : goal.returns-else-i-lt64
unfolding has
returns-else-i-lt64 c = rw (le-ltb c.args.i 64 c.if-i-lt64.false)
