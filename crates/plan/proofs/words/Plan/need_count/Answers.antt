-- The needs of all steps and of the end.
use Rattle.std.proofs.Common.{rules}
use Rattle.plan.proofs.NeedSteps.{count_is, count_few}
use Rattle.plan.proofs.words.Plan.need_count.Goals as goal

pub returns-clause-value : goal.returns-clause-value
returns-clause-value c = search (rules, count_is)

pub returns-clause-at_most : goal.returns-clause-at_most
returns-clause-at_most c = search (rules, count_few)
