-- Listing sequences: which steps are free to come next, the first sequence, the next one after a given one.
-- Stated over any test `free` on the set of steps that are left; given pairs are one such test. Source: docs/RULES.md 'The planning rules'.
use Rattle.std.specs.Prelude.{Bool, not, ◌&&◌, length, List, [], ◌∷◌, ℕ, zero, suc, nat_lt, if◌then◌else◌}
use Rattle.std.proofs.Math.Option.{Option, none, some}
use Rattle.sets.specs.Test.{remove, up_to, least, every}

-- by given pairs x is free: it is left, and no step that is left is to be before it
unfoldable pub free_by : ℕ → (ℕ → ℕ → Bool) → (ℕ → Bool) → ℕ → Bool
unfolding every
free_by n R left x = left x && every (λ i. not (left i && R i x)) (suc n)

module _ (n : ℕ) (free : (ℕ → Bool) → ℕ → Bool) where
  -- the first sequence of k steps that are left: the lowest free step, again and again
  unfoldable pub first_of : ℕ → (ℕ → Bool) → List ℕ
  unfolding least remove
  first_of zero left = []
  first_of (suc k) left = let x = least (free left) (suc n) in x ∷ first_of k (remove x left)

  -- the lowest free step above x
  unfoldable pub free_above : (ℕ → Bool) → ℕ → ℕ
  unfolding least
  free_above left x = least (λ y. nat_lt x y && free left y) (suc n)

  -- the next sequence: a change as late as can be, there the lowest larger free step, then the first of what is left
  unfoldable pub next_of : (ℕ → Bool) → List ℕ → Option (List ℕ)
  unfolding remove free_above first_of
  next_of left [] = none
  next_of left (x ∷ s) = elim (next_of (remove x left) s) [ some t ↦ some (x ∷ t) | none ↦ let y = free_above left x in if nat_lt n y then none else some (y ∷ first_of (length s) (remove y left)) ]

-- the first sequence of an order on steps 1 to n
unfoldable pub first : ℕ → (ℕ → ℕ → Bool) → List ℕ
unfolding first_of free_by up_to
first n R = first_of n (free_by n R) n (up_to n)

-- the next sequence of an order after a given one, or none
unfoldable pub next : ℕ → (ℕ → ℕ → Bool) → List ℕ → Option (List ℕ)
unfolding next_of free_by up_to
next n R s = next_of n (free_by n R) (up_to n) s
