-- What is before what, and when an order is a cycle. Source: docs/RULES.md 'The planning rules'; Siddiqui and Haslum, section 2.
-- Given pairs are a test R: R i j says that i is to be before j.
use Rattle.std.specs.Prelude.{◌≡◌, Bool, true, ℕ, suc, ◌≤◌}

-- i is before j: the transitive closure of the given pairs with the pairs of start and end (docs/RULES.md 'The planning rules'; Siddiqui and Haslum, section 2)
pub data Before (n : ℕ) (R : ℕ → ℕ → Bool) : ℕ → ℕ → Type 0 where
  -- the pair is given
  given : {i j : ℕ} → R i j ≡ true → Before n R i j
  -- the start is before every other step
  start : {i j : ℕ} → i ≡ 0 → 1 ≤ j → j ≤ suc n → Before n R i j
  -- every other step is before the end
  end : {i j : ℕ} → i ≤ n → j ≡ suc n → Before n R i j
  -- what is before a step that is before another is before that other
  chain : {i j k : ℕ} → Before n R i j → Before n R j k → Before n R i k

-- an order is a cycle if some step is before itself (docs/RULES.md 'The planning rules')
abbrev pub Cycle : ℕ → (ℕ → ℕ → Bool) → Type 0
Cycle n R = (i : ℕ) × Before n R i i

-- the given pairs are of steps 1 to n: those of start and end are never written down (docs/RULES.md 'What the work covers')
abbrev pub Pairs : ℕ → (ℕ → ℕ → Bool) → Type 0
Pairs n R = (i j : ℕ) → R i j ≡ true → (1 ≤ i) × (i ≤ n) × (1 ≤ j) × (j ≤ n)
