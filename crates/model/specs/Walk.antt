-- All sequences of an order, one after another: the first, then each time the next, until there is none. Source: docs/RULES.md 'The planning rules'.
-- Stands on Sequence and Lister; proofs/Walk.antt says that a walk has each sequence once, in rising order, and no other.
use Rattle.std.specs.Prelude.{◌≡◌, refl, Bool, ◌&&◌, List, [], ◌∷◌, ℕ, ◌<◌, length, ◌==◌, slice_index_or}
use Rattle.std.proofs.Math.Option.{Option, none, some}
use Rattle.model.specs.Sequence.{Lower}
use Rattle.model.specs.Lister.{first, next}

-- from s on, asking for the one after until there is none, one meets w
pub data Onwards (after : List ℕ → Option (List ℕ)) : List ℕ → List (List ℕ) → Type 0 where
  -- s was the last
  last : {s : List ℕ} → after s ≡ none → Onwards after s (s ∷ [])
  -- after s comes t, and from t on one meets w
  more : {s t : List ℕ} {w : List (List ℕ)} → after s ≡ some t → Onwards after t w → Onwards after s (s ∷ w)

-- w is what one meets from the first sequence of an order on
abbrev pub Walk : ℕ → (ℕ → ℕ → Bool) → List (List ℕ) → Type 0
Walk n R w = Onwards (next n R) (first n R) w

-- s stands in w
abbrev pub Member : List ℕ → List (List ℕ) → Type 0
Member s w = (p : ℕ) × (p < length w) × (slice_index_or w p [] ≡ s)

-- what stands at a lower place of w is lower
abbrev pub Rising : List (List ℕ) → Type 0
Rising w = (p q : ℕ) → p < q → q < length w → Lower (slice_index_or w p []) (slice_index_or w q [])

-- an example: of three steps, 1 is to be before 2
one_two : ℕ → ℕ → Bool
one_two i j = i == 1 && j == 2

walk_three : Walk 3 one_two ((1 ∷ 2 ∷ 3 ∷ []) ∷ (1 ∷ 3 ∷ 2 ∷ []) ∷ (3 ∷ 1 ∷ 2 ∷ []) ∷ [])
unfolding first next one_two
walk_three = more refl (more refl (last refl))
