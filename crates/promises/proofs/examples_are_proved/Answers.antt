-- Each example is worked out by the definitions.
use Rattle.std.proofs.Common.{refl}
use Rattle.sets.specs.Test.{both, less, under, up_to, least, every, sum_to, size, members_from}
use Rattle.sets.specs.Word.{has, digits_of, word, count, members}
use Rattle.model.specs.Run.{after}
use Rattle.plan.specs.Refusal.{first_of, length_fault, room_fault}
use Rattle.plan.specs.Layout.{facts_of, steps_of, words_for, place_of, step_word, needs_of, adds_of, deletes_of}
use Rattle.plan.specs.Words.{well_shaped, shape_fault, set_fault, meet_fault, step_checks, steps_fault, plan_fault}
use Rattle.plan.specs.StepSets.{step_set_fault, step_sets_from, step_sets_fault, order_fault}
use Rattle.plan.specs.Links.{needs_from, need_list, needs_below, need_count, link_fault, producers_fault, links_fault}
use Rattle.plan.specs.Sequences.{occurs, uses_each_once}
use Rattle.run.specs.Call.{once_fault, lacking, unmet, ended, run_from, begun, run_reply}
use Rattle.promises.proofs.examples_are_proved.Goals as goal

pub returns : goal.returns
unfolding both less under up_to least every sum_to size members_from has digits_of word count members after first_of length_fault room_fault facts_of steps_of words_for place_of step_word needs_of adds_of deletes_of well_shaped shape_fault set_fault meet_fault step_checks steps_fault plan_fault step_set_fault step_sets_from step_sets_fault order_fault needs_from need_list needs_below need_count link_fault producers_fault links_fault occurs uses_each_once once_fault lacking unmet ended run_from begun run_reply
returns c = (refl, (refl, (refl, (refl, (refl, (refl, (refl, (refl, (refl, (refl, (refl, (refl, (refl, (refl, tt))))))))))))))
