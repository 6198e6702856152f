-- A producer above n, or nothing to refuse.
use Rattle.plan.proofs.LinkEndings.{above_told, none_above}
use Rattle.plan.proofs.words.Plan.links_fault.Goals as goal

pub returns-in_default : goal.returns-in_default
returns-in_default c = none_above c.args.self.now c.args.links.now _ _ c.steps.ensures.value c.need_count.ensures.value c.in_ok-length_fault.ensures c.in_default.ensures

pub returns : goal.returns
returns c =
    above_told c.args.self.now c.args.links.now _ _ c.steps.ensures.value c.need_count.ensures.value c.in_ok-length_fault.ensures
    _ _ _ c.in-Some.ensures c.need_at-need.ensures c.from.ensures
