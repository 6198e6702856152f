-- The three things that a stretch takes.
use Rattle.std.proofs.Common.{sym, ◌∙◌, eqb-true}
use borrow.Author.Tests.{eqb-false}
use Rattle.sets.proofs.Bools.{not_both}
use Rattle.plan.proofs.Stretches.{plan_denies, count_denies, consumer_decides}
use Rattle.plan.proofs.words.Plan.has_stretch.Goals as goal
use Rattle.plan.proofs.words.Plan.has_stretch.Goals.{then-is_ok, else-is_ok}

pub returns-then-links-need_count : goal.returns-then-links-need_count
returns-then-links-need_count c =
    elim c.if-is_ok.branch [
      | then-is_ok w ↦
          let count = eqb-true _ _ (sym w.value-is ∙ c.if-links-need_count.true) in
          c.holds.ensures
          ∙ consumer_decides _ _ _ c.fault.result _ _ _ c.fault.ensures w.if-is_ok.ensures.negation w.need_count.ensures.value count c.steps.ensures.value c.steps-then-links-need_count.ensures
      | else-is_ok w ↦ absurd (not_both c.if-links-need_count.true (w.value-is ∙ w.if-is_ok.false))
    ]

pub returns-else-links-need_count : goal.returns-else-links-need_count
returns-else-links-need_count c =
    elim c.if-is_ok.branch [
      | then-is_ok w ↦ c.if-links-need_count.false ∙ count_denies _ _ _ _ w.need_count.ensures.value (eqb-false _ _ (sym w.value-is ∙ c.if-links-need_count.false))
      | else-is_ok w ↦ c.if-links-need_count.false ∙ plan_denies _ _ _ c.fault.result c.fault.ensures w.if-is_ok.ensures.negation
    ]
