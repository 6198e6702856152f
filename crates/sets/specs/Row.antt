-- Rows: a list of words counted from 1. Row i has j when i is to be before j. Stands on Word.
use Rattle.std.specs.Prelude.{Bool, List, [], ◌∷◌, ℕ, zero, suc, slice_index}
use Rattle.sets.specs.Word.{has, word}

-- row i, counted from 1; there is no row 0 and none past the last, and each of those is empty
abbrev pub row : List ℕ → ℕ → ℕ
row rows i = slice_index (0 ∷ rows) i

-- the pairs that rows give: i is to be before j
unfoldable pub pairs : List ℕ → ℕ → ℕ → Bool
unfolding has
pairs rows i j = has (row rows i) j

-- the rows of k steps from step i on, in which each step's row has what the test pairs it with
unfoldable pub rows_from : (ℕ → ℕ → Bool) → ℕ → ℕ → List ℕ
rows_from R i zero = []
rows_from R i (suc k) = word (R i) ∷ rows_from R (suc i) k

-- the rows of the steps 1 to n
unfoldable pub rows_of : ℕ → (ℕ → ℕ → Bool) → List ℕ
rows_of n R = rows_from R 1 n
