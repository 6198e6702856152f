-- What `run` replies: the plan words, the sequence's length, that each step is used once, then the run itself by the STRIPS rule of model.
-- Source: docs/RULES.md 'The planning rules', 'Replies', 'Order of checks'.
use Rattle.std.specs.Prelude.{Bool, false, List, [], ◌∷◌, ℕ, suc, length, nat_lt, if◌then◌else◌, Result}
use Rattle.sets.specs.Test.{less, least}
use Rattle.sets.specs.Word.{word}
use Rattle.model.specs.Plan.{Plan}
use Rattle.model.specs.Run.{after}
use Rattle.plan.specs.declared.replies.Reply.{Reply}
use Rattle.plan.specs.declared.replies.Refusal.{Refusal}
use Rattle.plan.specs.Refusal.{fine, refusal, reply_of, holding, first_of, length_fault}
use Rattle.plan.specs.Layout.{steps_of, plan_of}
use Rattle.plan.specs.Words.{plan_fault}
use Rattle.plan.specs.Sequences.{uses_each_once}

-- 15 where some step is not used exactly once
unfoldable pub once_fault : ℕ → List ℕ → Reply
once_fault n sequence = if uses_each_once n sequence then fine else refusal 15 0 0 0

-- the lowest fact that step i needs and the state lacks, 64 where there is none
unfoldable pub lacking : Plan → ℕ → (ℕ → Bool) → ℕ
lacking P i state = least (less (P.needs i) state) 64

-- 9 where step i cannot run in the state: the step and the lowest fact that it lacks; else what follows
unfoldable pub unmet : Plan → ℕ → (ℕ → Bool) → Reply → Reply
unmet P i state rest = let fact = lacking P i state in if nat_lt fact 64 then refusal 9 i fact 0 else rest

-- done, with the final state
unfoldable pub ended : (ℕ → Bool) → Reply
ended state = record { code = 0; step = 0; fact = 0; other = word state; at = 0 }

-- the reply of a run: its final state, or why it is refused
abbrev pub ran : Result ℕ Refusal → Reply
ran outcome = reply_of holding outcome

-- the rest of a sequence, run from a state: each step in its turn, then the end, which needs the goal
unfoldable pub run_from : Plan → List ℕ → (ℕ → Bool) → Reply
run_from P [] state = unmet P (suc P.n) state (ended state)
run_from P (i ∷ sequence) state = let rest = run_from P sequence (after P i state) in unmet P i state rest

-- the start has run, in the empty state
unfoldable pub begun : Plan → ℕ → Bool
begun P = after P 0 (λ f. false)

-- the reply
unfoldable pub run_reply : List ℕ → List ℕ → Reply
run_reply words sequence =
    first_of
    (plan_fault words ∷ length_fault (steps_of words) (length sequence) ∷ once_fault (steps_of words) sequence ∷ [])
    (run_from (plan_of words) sequence (begun (plan_of words)))
