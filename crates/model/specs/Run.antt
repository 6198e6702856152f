-- Running a sequence of steps by the STRIPS rule. Source: Muise, Beck and McIlraith, section 2.1; docs/RULES.md 'The planning rules'.
-- Stands on Plan.
use Rattle.std.specs.Prelude.{◌≡◌, Bool, true, false, not, ◌&&◌, ◌||◌, List, ℕ, zero, suc, ◌<◌, length, slice_index}
use Rattle.model.specs.Plan.{Plan}

-- step i can run in state s if its needs lie within s (Muise, Beck and McIlraith, section 2.1)
abbrev pub CanRun : Plan → ℕ → (ℕ → Bool) → Type 0
CanRun P i s = (f : ℕ) → P.needs i f ≡ true → s f ≡ true

-- the state after step i: s without its deletes, then with its adds (Muise, Beck and McIlraith, section 2.1)
unfoldable pub after : Plan → ℕ → (ℕ → Bool) → ℕ → Bool
after P i s f = (s f && not (P.deletes i f)) || P.adds i f

-- the state before place p of a sequence, places counted from 0: the start has run, and each step at a lower place
-- (Muise, Beck and McIlraith, section 2.1)
unfoldable pub state : Plan → List ℕ → ℕ → ℕ → Bool
unfolding after
state P sequence zero = after P 0 (λ f. false)
state P sequence (suc p) = after P (slice_index sequence p) (state P sequence p)

-- a sequence runs if each step can run in its turn and the last state holds the goal, which the end needs (Muise, Beck and McIlraith, section 2.1)
pub record Runs (P : Plan) (sequence : List ℕ) : Type 0 where
  pub turn : (p : ℕ) → p < length sequence → CanRun P (slice_index sequence p) (state P sequence p)
  pub goal : CanRun P (suc P.n) (state P sequence (length sequence))
