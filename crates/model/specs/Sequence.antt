-- Sequences of the steps 1 to n, stated by places counted from 0, and their rising order. Source: docs/RULES.md 'The planning rules' and 'Words, rows and links'.
-- A sequence is a list of step numbers; given pairs are a test R as in Order.
use Rattle.std.specs.Prelude.{◌≡◌, Bool, true, List, ℕ, ◌≤◌, ◌<◌, length, slice_index}

-- each of n places has a step of 1 to n, and each of those steps stands at exactly one place (docs/RULES.md 'Words, rows and links')
pub record EachOnce (n : ℕ) (sequence : List ℕ) : Type 0 where
  pub places : length sequence ≡ n
  pub range : (p : ℕ) → p < n → (1 ≤ slice_index sequence p) × (slice_index sequence p ≤ n)
  pub uses : (i : ℕ) → 1 ≤ i → i ≤ n → (p : ℕ) × (p < n) × (slice_index sequence p ≡ i)
  pub once : (p q : ℕ) → p < n → q < n → slice_index sequence p ≡ slice_index sequence q → p ≡ q

-- of each given pair the first stands at a lower place than the second (Siddiqui and Haslum, section 2)
abbrev pub Keeps : (ℕ → ℕ → Bool) → List ℕ → Type 0
Keeps R sequence =
    (p q : ℕ) → p < length sequence → q < length sequence → R (slice_index sequence p) (slice_index sequence q) ≡ true → p < q

-- a sequence of an order uses each step once and keeps the pairs (Siddiqui and Haslum, section 2)
pub record Sequence (n : ℕ) (R : ℕ → ℕ → Bool) (sequence : List ℕ) : Type 0 where
  pub each : EachOnce n sequence
  pub keeps : Keeps R sequence

-- s is lower than t: they are compared at the first place where they differ, and there s has the lower step number
-- (docs/RULES.md 'The planning rules')
pub record Lower (s t : List ℕ) : Type 0 where
  pub place : ℕ
  pub in_s : place < length s
  pub in_t : place < length t
  pub same : (p : ℕ) → p < place → slice_index s p ≡ slice_index t p
  pub lower : slice_index s place < slice_index t place
