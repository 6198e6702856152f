-- Below step 1 there are no needs, and each turn counts those of one step more; a step has at most 64.
use Rattle.std.proofs.Common.{sym, arith}
use Rattle.plan.proofs.Needs.{below_one}
use Rattle.plan.proofs.NeedSteps.{below_turn, below_fits, below_all}
use Rattle.plan.proofs.words.Plan.needs_below.Goals as goal

pub loop-i-init : goal.loop-i-init
loop-i-init c = (sym (below_one c.args.self.now), λ h. omega arith)

pub overflow_add-sum : goal.overflow_add-sum
overflow_add-sum c = below_fits _ _ c.loop-i.i c.needs_of.result _ _ c.requires c.loop-i-test.true c.count-sum.ensures c.loop-i.invariant.0

pub loop-i-preserved : goal.loop-i-preserved
loop-i-preserved c = (below_turn _ c.loop-i.i _ _ _ c.needs_of.ensures c.count-sum.ensures c.loop-i.invariant.0, λ h. absurd (omega (arith, c.loop-i-test.true, c.loop-i.auto.i)))

pub returns : goal.returns
returns c = below_all _ _ c.loop-i.i _ c.loop-i-test.false c.loop-i.auto.i-end c.loop-i.auto.i c.loop-i.invariant.1 c.loop-i.invariant.0
