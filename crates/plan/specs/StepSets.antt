-- What is refused of rows, or of any other list of step sets: 5 for a number outside 1 to n. Source: docs/RULES.md 'Replies', 'Order of checks'.
-- Stands on Refusal.
use Rattle.std.specs.Prelude.{List, [], ◌∷◌, ℕ, suc, length, nat_lt, if◌then◌else◌}
use Rattle.sets.specs.Test.{less, up_to, least}
use Rattle.sets.specs.Word.{has}
use Rattle.plan.specs.declared.replies.Reply.{Reply}
use Rattle.plan.specs.Refusal.{fine, refusal, first_of, length_fault}

-- 5 where a set of steps has a number outside 1 to n: its place in the list and the lowest such number
unfoldable pub step_set_fault : ℕ → ℕ → ℕ → Reply
unfolding least less up_to has
step_set_fault n place set = let bad = least (less (has set) (up_to n)) 64 in if nat_lt bad 64 then refusal 5 place 0 bad else fine

-- the first refusal of a list of step sets, the first of which has the given place
unfoldable pub step_sets_from : ℕ → ℕ → List ℕ → Reply
unfolding step_set_fault first_of
step_sets_from n place [] = fine
step_sets_from n place (set ∷ sets) = let rest = step_sets_from n (suc place) sets in first_of (step_set_fault n place set ∷ []) rest

-- the first refusal of a list of step sets, places counted from 1
unfoldable pub step_sets_fault : ℕ → List ℕ → Reply
unfolding step_sets_from
step_sets_fault n sets = step_sets_from n 1 sets

-- the first refusal of the rows of n steps: 3 for their number, then 5
unfoldable pub rows_fault : ℕ → List ℕ → Reply
unfolding length_fault step_sets_fault first_of
rows_fault n rows = first_of (length_fault n (length rows) ∷ []) (step_sets_fault n rows)

-- the first refusal of rows that come without a plan: n is their number, more than 62 gives 3, then 5
unfoldable pub order_fault : List ℕ → Reply
unfolding step_sets_fault first_of
order_fault rows = first_of ((if nat_lt 62 (length rows) then refusal 3 0 0 0 else fine) ∷ []) (step_sets_fault (length rows) rows)
