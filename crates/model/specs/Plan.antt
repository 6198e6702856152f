-- A plan as the papers have it: facts are numbers, a fact set is a test on them, and the start and the end are steps like any other.
-- Source: Muise, Beck and McIlraith, section 2.1 (STRIPS); docs/RULES.md 'What the work covers'. Nothing stands below this file.
use Rattle.std.specs.Prelude.{◌≡◌, Bool, true, false, ℕ, suc}

-- steps 0 (the start) to n + 1 (the end), each with the facts that it needs, adds and deletes (Muise, Beck and McIlraith, section 2.1)
pub record Plan : Type 0 where
  pub n : ℕ
  pub needs : ℕ → ℕ → Bool
  pub adds : ℕ → ℕ → Bool
  pub deletes : ℕ → ℕ → Bool

-- the start needs nothing, the end adds nothing, and neither deletes (docs/RULES.md 'What the work covers')
pub record Framed (P : Plan) : Type 0 where
  pub start_needs : (f : ℕ) → P.needs 0 f ≡ false
  pub start_deletes : (f : ℕ) → P.deletes 0 f ≡ false
  pub end_adds : (f : ℕ) → P.adds (suc P.n) f ≡ false
  pub end_deletes : (f : ℕ) → P.deletes (suc P.n) f ≡ false

-- no step deletes what it adds (docs/RULES.md 'The planning rules': adds and deletes share no fact)
abbrev pub Apart : Plan → Type 0
Apart P = (i f : ℕ) → P.adds i f ≡ true → P.deletes i f ≡ false
