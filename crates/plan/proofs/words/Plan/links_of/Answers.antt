-- The needs of the consumer, after those below it, or none.
use Rattle.std.proofs.Common.{rules, arith}
use Rattle.plan.proofs.Stretches.{empty_part, own_part, part_within, small_consumer, few_links}
use Rattle.plan.proofs.words.Plan.links_of.Goals as goal

pub returns-then-not-has_stretch : goal.returns-then-not-has_stretch
returns-then-not-has_stretch c = search (rules, empty_part)

pub needs_below-start-requires : goal.needs_below-start-requires
needs_below-start-requires c = search (rules, small_consumer)

pub overflow_add-result : goal.overflow_add-result
overflow_add-result c = omega (arith, few_links _ _ _ _ _ _ c.if-not-has_stretch.ensures c.needs_below-start.ensures c.needs_of.ensures c.count-own.ensures)

pub slice_bounds-result-end-2 : goal.slice_bounds-result-end-2
slice_bounds-result-end-2 c = search (rules, part_within)

pub returns : goal.returns
returns c = search (rules, own_part)
