-- Sequences as bytes: n of them, one step number each. Source: docs/RULES.md 'Words, rows and links', 'Order of checks'.
use Rattle.std.specs.Prelude.{Bool, ◌&&◌, List, [], ◌∷◌, ℕ, suc, ◌+◌, length, ◌==◌, nat_le}
use Rattle.sets.specs.Test.{bit, every}

-- at how many places of a sequence step i stands
unfoldable pub occurs : ℕ → List ℕ → ℕ
occurs i [] = 0
occurs i (step ∷ sequence) = bit (step == i) + occurs i sequence

-- there are n places, n at most 62, and each step of 1 to n stands at exactly one
unfoldable pub uses_each_once : ℕ → List ℕ → Bool
unfolding occurs every
uses_each_once n sequence = nat_le n 62 && (length sequence == n && every (λ i. occurs (suc i) sequence == 1) n)
