-- A set that a program holds is the set of a word, and that word is told.
use Rattle.std.proofs.Common.{sym, ap, ◌∙◌, ℕ, arith}
use Rattle.sets.proofs.Words.{word_has}
use Rattle.plan.specs.Refusal.{refusal}
use Rattle.plan.proofs.replies.SetDone.said.Goals as goal

pub returns : goal.returns
returns c = c.refuse.ensures ∙ ap (λ (w : ℕ). refusal 0 0 0 w) (c.from.ensures ∙ sym (word_has c.args.self (omega (arith, c.from.type_inv, c.from.ensures))))
