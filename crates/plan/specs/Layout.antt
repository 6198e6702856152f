-- Where the words of a plan stand, and the plan of the papers that they are read as. Source: docs/RULES.md 'Words, rows and links'.
-- The start (step 0) and the end (step n + 1) are in their places, so that no definition above has a special case for them.
use Rattle.std.specs.Prelude.{List, ℕ, suc, ◌+◌, ◌-◌, ◌*◌, min, ◌==◌, if◌then◌else◌, slice_index}
use Rattle.sets.specs.Test.{up_to}
use Rattle.sets.specs.Word.{has}
use Rattle.model.specs.Plan.{Plan}

-- F, the number of facts
unfoldable pub facts_of : List ℕ → ℕ
facts_of words = slice_index words 0

-- n, the number of steps; a plan has at most 62
unfoldable pub steps_of : List ℕ → ℕ
steps_of words = min (slice_index words 1) 62

-- the words of a plan of n steps: F, n, initial, goal, then three words a step
unfoldable pub words_for : ℕ → ℕ
words_for n = 4 + 3 * n

-- where the words of step i begin
unfoldable pub place_of : ℕ → ℕ
place_of i = 4 + 3 * (i - 1)

-- word k of step i, 0 for its needs, 1 for its adds, 2 for its deletes; a number that is no step has none
unfoldable pub step_word : List ℕ → ℕ → ℕ → ℕ
unfolding steps_of place_of up_to
step_word words i k = if up_to (steps_of words) i then slice_index words (place_of i + k) else 0

-- what step i needs: the end needs the goal
unfoldable pub needs_of : List ℕ → ℕ → ℕ
unfolding step_word steps_of
needs_of words i = if i == suc (steps_of words) then slice_index words 3 else step_word words i 0

-- what step i adds: the start adds the initial facts
unfoldable pub adds_of : List ℕ → ℕ → ℕ
unfolding step_word
adds_of words i = if i == 0 then slice_index words 2 else step_word words i 1

-- what step i deletes
unfoldable pub deletes_of : List ℕ → ℕ → ℕ
unfolding step_word
deletes_of words i = step_word words i 2

-- the plan of the papers that the words are read as
abbrev pub plan_of : List ℕ → Plan
plan_of words = record {
  n = steps_of words;
  needs = λ i. has (needs_of words i);
  adds = λ i. has (adds_of words i);
  deletes = λ i. has (deletes_of words i);
}
