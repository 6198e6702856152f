-- The shape, the initial facts, the goal, then the steps.
use Rattle.std.proofs.Common.{refl, ◌∙◌, not, ap, rules}
use Rattle.plan.proofs.Refusals.{exits, told_refuses}
use Rattle.plan.proofs.Faults.{shape_refused, initial_refused, goal_refused, plan_steps}
use Rattle.plan.proofs.words.Plan.fault.Goals as goal

pub returns-then-not-is_well_shaped : goal.returns-then-not-is_well_shaped
returns-then-not-is_well_shaped c = search (rules, shape_refused)

pub returns-in_err-set_fault : goal.returns-in_err-set_fault
returns-in_err-set_fault c =
    exits _ _ _ _ c.from_residual.ensures.1
    (initial_refused c.args.self.now _ _ _ _ c.is_well_shaped.ensures (ap not c.if-not-is_well_shaped.false) c.facts-facts.ensures (c.from.ensures ∙ c.word_at.ensures) c.in_err-set_fault.ensures
    (told_refuses _))

pub returns-in_err-set_fault-2 : goal.returns-in_err-set_fault-2
returns-in_err-set_fault-2 c =
    exits _ _ _ _ c.from_residual-in_err-set_fault-2.ensures.1
    (goal_refused c.args.self.now _ _ _ _ c.is_well_shaped.ensures (ap not c.if-not-is_well_shaped.false) c.facts-facts.ensures (c.from.ensures ∙ c.word_at.ensures) c.in_ok-set_fault.ensures
    _ _ _ refl c.steps-end.ensures.value (c.from-2.ensures ∙ c.word_at-2.ensures) c.in_err-set_fault-2.ensures (told_refuses _))

pub returns : goal.returns
returns c =
    plan_steps c.args.self.now _ _ _ _ c.is_well_shaped.ensures (ap not c.if-not-is_well_shaped.false) c.facts-facts.ensures (c.from.ensures ∙ c.word_at.ensures) c.in_ok-set_fault.ensures
    _ _ _ refl c.steps-end.ensures.value (c.from-2.ensures ∙ c.word_at-2.ensures) c.in_ok-set_fault-2.ensures _ refl c.steps_fault.ensures
