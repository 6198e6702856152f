-- Before, threats and good links as tests that compute, from the closed pairs C of an order. Source: docs/RULES.md 'The planning rules'.
-- Stands on Plan and Link; proofs/Check.antt says that each test is what it is named after.
use Rattle.std.specs.Prelude.{Bool, not, ◌&&◌, ◌||◌, ℕ, suc, ◌==◌, nat_lt, nat_le}
use Rattle.sets.specs.Test.{least}
use Rattle.model.specs.Plan.{Plan}
use Rattle.model.specs.Link.{Link}

-- i is before j: the start before every other step, every other step before the end, and the closed pairs
unfoldable pub is_before : ℕ → (ℕ → ℕ → Bool) → ℕ → ℕ → Bool
is_before n C i j = (i == 0 && (nat_le 1 j && nat_le j (suc n))) || ((nat_le i n && j == suc n) || C i j)

-- t threatens a link
unfoldable pub threatens : Plan → (ℕ → ℕ → Bool) → Link → ℕ → Bool
unfolding is_before
threatens P C link t =
    (P.deletes t link.fact && not (t == link.consumer))
    && (not (is_before P.n C t link.producer) && not (is_before P.n C link.consumer t))

-- the lowest step that threatens a link, or n + 2 where none does
unfoldable pub lowest_threat : Plan → (ℕ → ℕ → Bool) → Link → ℕ
unfolding threatens least
lowest_threat P C link = least (threatens P C link) (suc (suc P.n))

-- a link is good
unfoldable pub is_good : Plan → (ℕ → ℕ → Bool) → Link → Bool
unfolding is_before lowest_threat
is_good P C link =
    P.adds link.producer link.fact
    && (is_before P.n C link.producer link.consumer && nat_lt (suc P.n) (lowest_threat P C link))
