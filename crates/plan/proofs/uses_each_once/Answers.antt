-- Each of 1 to n is seen just where n places have each of them once.
use Rattle.std.proofs.Common.{sym, ap, ◌∙◌, rules}
use Rattle.sets.specs.Word.{has}
use Rattle.plan.proofs.Sequences.{gather_none, gather_more, many_places, other_places, all_seen}
use Rattle.plan.proofs.uses_each_once.Goals as goal
use Rattle.plan.proofs.uses_each_once.Goals.{then-n-gt-MOST_STEPS-via-then-n-gt-MOST_STEPS, then-n-gt-MOST_STEPS-via-else-n-gt-MOST_STEPS+then-sequence-n}

pub returns-then-n-gt-MOST_STEPS : goal.returns-then-n-gt-MOST_STEPS
returns-then-n-gt-MOST_STEPS c =
    elim c.then-n-gt-MOST_STEPS.branch [
      | then-n-gt-MOST_STEPS-via-then-n-gt-MOST_STEPS w ↦ search (rules, many_places)
      | then-n-gt-MOST_STEPS-via-else-n-gt-MOST_STEPS+then-sequence-n w ↦ search (rules, other_places)
    ]

pub loop-step-init : goal.loop-step-init
loop-step-init c = ap has (sym c.default-seen.ensures.1 ∙ c.default-seen.ensures.2) ∙ gather_none c.args.sequence.now

pub loop-step-preserved : goal.loop-step-preserved
loop-step-preserved c = search (rules, gather_more)

pub returns : goal.returns
returns c = search (rules, all_seen)
