-- What is refused of plan words: 3, then 4 and 6 set by set in word order, 6 after the step's third set. Source: docs/RULES.md 'Replies', 'Order of checks'.
-- Stands on Refusal and Layout.
use Rattle.std.specs.Prelude.{Bool, ◌&&◌, List, [], ◌∷◌, ℕ, zero, suc, length, ◌==◌, nat_lt, nat_le, if◌then◌else◌, slice_index}
use Rattle.sets.specs.Test.{both, less, under, least}
use Rattle.sets.specs.Word.{has}
use Rattle.plan.specs.declared.replies.Reply.{Reply}
use Rattle.plan.specs.Refusal.{fine, refusal, first_of}
use Rattle.plan.specs.Layout.{facts_of, steps_of, words_for, step_word}

-- F is at most 64, n at most 62, and there are just the words of n steps
unfoldable pub well_shaped : List ℕ → Bool
unfolding facts_of words_for
well_shaped words = nat_le (facts_of words) 64 && (nat_le (slice_index words 1) 62 && length words == words_for (slice_index words 1))

-- 3 where F, n or the length is wrong
unfoldable pub shape_fault : List ℕ → Reply
unfolding well_shaped
shape_fault words = if well_shaped words then fine else refusal 3 0 0 0

-- 4 where a set names a fact F or above: the step and the lowest such fact
unfoldable pub set_fault : ℕ → ℕ → ℕ → Reply
unfolding least less under has
set_fault facts step set = let fact = least (less (has set) (under facts)) 64 in if nat_lt fact 64 then refusal 4 step fact 0 else fine

-- 6 where adds and deletes meet: the step and the lowest shared fact
unfoldable pub meet_fault : ℕ → ℕ → ℕ → Reply
unfolding least both has
meet_fault step adds deletes = let fact = least (both (has adds) (has deletes)) 64 in if nat_lt fact 64 then refusal 6 step fact 0 else fine

-- the checks of step i: its three sets in word order, then that its adds and deletes share no fact
unfoldable pub step_checks : List ℕ → ℕ → List Reply
unfolding facts_of step_word set_fault meet_fault
step_checks words i =
    set_fault (facts_of words) i (step_word words i 0)
    ∷ set_fault (facts_of words) i (step_word words i 1)
    ∷ set_fault (facts_of words) i (step_word words i 2)
    ∷ meet_fault i (step_word words i 1) (step_word words i 2)
    ∷ []

-- the first refusal of k steps, from step i on
unfoldable pub steps_fault : List ℕ → ℕ → ℕ → Reply
unfolding step_checks first_of
steps_fault words i zero = fine
steps_fault words i (suc k) = let rest = steps_fault words (suc i) k in first_of (step_checks words i) rest

-- the first refusal of plan words, in word order
unfoldable pub plan_fault : List ℕ → Reply
unfolding facts_of steps_of shape_fault set_fault steps_fault first_of
plan_fault words =
    first_of
    (shape_fault words ∷ set_fault (facts_of words) 0 (slice_index words 2) ∷ set_fault (facts_of words) (suc (steps_of words)) (slice_index words 3) ∷ [])
    (steps_fault words 1 (steps_of words))
