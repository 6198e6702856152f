-- What the links of one consumer are, case by case, as docs/RULES.md 'Words, rows and links' says: a constructor for each case carries its own fact and that
-- nothing earlier in the order of checks holds. proofs/StretchEndings.antt: the stretch is one of these, and each of these is the stretch.
use Rattle.std.specs.Prelude.{◌≡◌, List, [], ℕ, suc, ◌≤◌, length, take, drop}
use Rattle.sets.specs.Word.{count}
use Rattle.plan.specs.declared.replies.Reply.{Reply}
use Rattle.plan.specs.Layout.{steps_of, needs_of}
use Rattle.plan.specs.Endings.{WellFormed, PlanEnding}
use Rattle.plan.specs.Links.{needs_below, need_count}

-- the stretch of a consumer
pub data StretchEnding (words links : List ℕ) (consumer : ℕ) : List ℕ → Type 0 where
  -- the plan words are refused
  plan_bad : {r : Reply} → PlanEnding words r → (r.code ≡ 0 → ⊥) → StretchEnding words links consumer []
  -- another number of links than of needs
  miscounted : WellFormed words → (length links ≡ need_count words → ⊥) → StretchEnding words links consumer []
  -- the consumer is not one of 1 to n + 1
  no_consumer : WellFormed words → length links ≡ need_count words → (1 ≤ consumer → consumer ≤ suc (steps_of words) → ⊥)
      → StretchEnding words links consumer []
  -- the links of the consumer: after those of the lower consumers, as many as its own needs
  its_links : WellFormed words → length links ≡ need_count words → 1 ≤ consumer → consumer ≤ suc (steps_of words)
      → StretchEnding words links consumer (take (count (needs_of words consumer)) (drop (needs_below words consumer) links))
