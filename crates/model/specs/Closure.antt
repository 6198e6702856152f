-- The closure of given pairs as a test that computes: which pairs follow from the given ones. Source: docs/RULES.md 'The planning rules'.
-- Stands on nothing but tests; proofs/Closure.antt says that it is Before between the steps 1 to n.
use Rattle.std.specs.Prelude.{◌≡◌, refl, Bool, true, false, ◌&&◌, ◌||◌, ℕ, zero, suc, ◌==◌}

-- the pairs that follow from the given ones by going over steps 1 to k only (Warshall)
unfoldable pub closed_to : ℕ → (ℕ → ℕ → Bool) → ℕ → ℕ → Bool
closed_to zero R i j = R i j
closed_to (suc k) R i j = closed_to k R i j || (closed_to k R i (suc k) && closed_to k R (suc k) j)

-- all pairs that follow from given pairs of the steps 1 to n
unfoldable pub closed : ℕ → (ℕ → ℕ → Bool) → ℕ → ℕ → Bool
unfolding closed_to
closed n R = closed_to n R

-- an example: of 1 before 2 and 2 before 3 it follows that 1 is before 3, and not that 3 is before 1
next_to : ℕ → ℕ → Bool
next_to i j = suc i == j

closed_up : closed 3 next_to 1 3 ≡ true
unfolding closed next_to
closed_up = refl

closed_down : closed 3 next_to 3 1 ≡ false
unfolding closed next_to
closed_down = refl
