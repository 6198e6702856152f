-- What each refusal of plan words and of rows says, row by row of the table in docs/RULES.md 'Replies': a constructor for each ending carries its own fact
-- and that nothing earlier in the order of its own checks holds. proofs/WordEndings.antt and RowEndings.antt: the fault is one of these, and each of these is the fault.
use Rattle.std.specs.Prelude.{◌≡◌, true, false, List, ℕ, suc, ◌≤◌, ◌<◌, length, slice_index}
use Rattle.sets.specs.Word.{has}
use Rattle.plan.specs.declared.replies.Reply.{Reply}
use Rattle.plan.specs.Refusal.{fine, refusal}
use Rattle.plan.specs.Layout.{facts_of, steps_of, words_for, step_word}

-- F is at most 64, n at most 62, and there are just the words of n steps
pub record Shaped (words : List ℕ) : Type 0 where
  pub facts : facts_of words ≤ 64
  pub steps : slice_index words 1 ≤ 62
  pub words_right : length words ≡ words_for (slice_index words 1)

-- a set names no fact F or above
abbrev pub Inside : ℕ → ℕ → Type 0
Inside F set = (f : ℕ) → F ≤ f → has set f ≡ false

-- f is the lowest fact F or above that a set names
pub record LowestOver (F set f : ℕ) : Type 0 where
  pub over : F ≤ f
  pub named : has set f ≡ true
  pub lowest : (g : ℕ) → F ≤ g → g < f → has set g ≡ false

-- two sets share no fact
abbrev pub Disjoint : ℕ → ℕ → Type 0
Disjoint a b = (f : ℕ) → has a f ≡ true → has b f ≡ false

-- f is the lowest fact that two sets share
pub record LowestShared (a b f : ℕ) : Type 0 where
  pub in_first : has a f ≡ true
  pub in_second : has b f ≡ true
  pub lowest : (g : ℕ) → g < f → has a g ≡ true → has b g ≡ false

-- a step whose words are all fine
pub record StepFine (words : List ℕ) (i : ℕ) : Type 0 where
  pub needs : Inside (facts_of words) (step_word words i 0)
  pub adds : Inside (facts_of words) (step_word words i 1)
  pub deletes : Inside (facts_of words) (step_word words i 2)
  pub apart : Disjoint (step_word words i 1) (step_word words i 2)

-- a step whose words are refused: its sets in word order, then a shared fact
pub data StepEnding (words : List ℕ) (i : ℕ) : Reply → Type 0 where
  needs_over : (f : ℕ) → LowestOver (facts_of words) (step_word words i 0) f → StepEnding words i (refusal 4 i f 0)
  adds_over : (f : ℕ) → Inside (facts_of words) (step_word words i 0) → LowestOver (facts_of words) (step_word words i 1) f
      → StepEnding words i (refusal 4 i f 0)
  deletes_over : (f : ℕ) → Inside (facts_of words) (step_word words i 0) → Inside (facts_of words) (step_word words i 1)
      → LowestOver (facts_of words) (step_word words i 2) f → StepEnding words i (refusal 4 i f 0)
  sets_meet : (f : ℕ) → Inside (facts_of words) (step_word words i 0) → Inside (facts_of words) (step_word words i 1)
      → Inside (facts_of words) (step_word words i 2) → LowestShared (step_word words i 1) (step_word words i 2) f → StepEnding words i (refusal 6 i f 0)

-- the plan words are well formed
pub record WellFormed (words : List ℕ) : Type 0 where
  pub shaped : Shaped words
  pub initial : Inside (facts_of words) (slice_index words 2)
  pub goal : Inside (facts_of words) (slice_index words 3)
  pub steps : (i : ℕ) → 1 ≤ i → i ≤ steps_of words → StepFine words i

-- how the check of plan words ends
pub data PlanEnding (words : List ℕ) : Reply → Type 0 where
  misshapen : (Shaped words → ⊥) → PlanEnding words (refusal 3 0 0 0)
  initial_over : (f : ℕ) → Shaped words → LowestOver (facts_of words) (slice_index words 2) f → PlanEnding words (refusal 4 0 f 0)
  goal_over : (f : ℕ) → Shaped words → Inside (facts_of words) (slice_index words 2) → LowestOver (facts_of words) (slice_index words 3) f
      → PlanEnding words (refusal 4 (suc (steps_of words)) f 0)
  step_refused : {r : Reply} (i : ℕ) → Shaped words → Inside (facts_of words) (slice_index words 2) → Inside (facts_of words) (slice_index words 3)
      → 1 ≤ i → i ≤ steps_of words → ((j : ℕ) → 1 ≤ j → j < i → StepFine words j) → StepEnding words i r → PlanEnding words r
  well_formed : WellFormed words → PlanEnding words fine

-- a set of steps has only numbers of 1 to n
abbrev pub OfSteps : ℕ → ℕ → Type 0
OfSteps n set = (j : ℕ) → has set j ≡ true → (1 ≤ j) × (j ≤ n)

-- j is the lowest number outside 1 to n of a set of steps
pub record LowestOutside (n set j : ℕ) : Type 0 where
  pub named : has set j ≡ true
  pub outside : 1 ≤ j → j ≤ n → ⊥
  pub lowest : (k : ℕ) → k < j → has set k ≡ true → (1 ≤ k) × (k ≤ n)

-- how the check of a list of step sets ends; places are counted from 1
pub data SetsEnding (n : ℕ) (sets : List ℕ) : Reply → Type 0 where
  set_outside : (i j : ℕ) → i < length sets → ((k : ℕ) → k < i → OfSteps n (slice_index sets k)) → LowestOutside n (slice_index sets i) j
      → SetsEnding n sets (refusal 5 (suc i) 0 j)
  sets_fine : ((i : ℕ) → i < length sets → OfSteps n (slice_index sets i)) → SetsEnding n sets fine

-- how the check of the rows of n steps ends
pub data RowsEnding (n : ℕ) (rows : List ℕ) : Reply → Type 0 where
  miscounted : (length rows ≡ n → ⊥) → RowsEnding n rows (refusal 3 0 0 0)
  counted : {r : Reply} → length rows ≡ n → SetsEnding n rows r → RowsEnding n rows r

-- how the check of rows that come without a plan ends
pub data OrderEnding (rows : List ℕ) : Reply → Type 0 where
  many : 62 < length rows → OrderEnding rows (refusal 3 0 0 0)
  few : {r : Reply} → length rows ≤ 62 → SetsEnding (length rows) rows r → OrderEnding rows r
