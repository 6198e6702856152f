-- A place past the needs of a consumer is sought from the next one on.
use Rattle.std.proofs.Common.{rules, arith}
use Rattle.plan.proofs.NeedSteps.{need_start, need_past, need_here, need_last}
use Rattle.plan.proofs.words.Plan.need_at.Goals as goal

pub loop-consumer-init : goal.loop-consumer-init
loop-consumer-init c = search (rules, need_start)

pub returns-then-rest-own : goal.returns-then-rest-own
returns-then-rest-own c = search (rules, need_here)

pub loop-consumer-preserved : goal.loop-consumer-preserved
loop-consumer-preserved c = search (rules, need_past)

pub returns-else-rest-own : goal.returns-else-rest-own
returns-else-rest-own c =
    need_last _ _ _ c.loop-consumer.rest _ _ _ (omega (arith, c.steps-consumer-end.ensures.value)) (omega (arith, c.steps-consumer-end.ensures.value)) c.needs_of-needs.ensures c.count-own.ensures
    c.if-rest-own.false c.loop-consumer.invariant
