-- A plan whose facts got other numbers. Source: docs/RULES.md 'The planning rules'.
-- Stands on Plan; proofs/Renumbering.antt says that the relaxer keeps the same pairs.
use Rattle.std.specs.Prelude.{◌≡◌, ℕ, ◌<◌}
use Rattle.model.specs.Plan.{Plan}

-- each fact below F gets a number below F, and no two facts the same
pub record OneToOne (F : ℕ) (to : ℕ → ℕ) : Type 0 where
  pub below : (fact : ℕ) → fact < F → to fact < F
  pub once : (fact other : ℕ) → fact < F → other < F → to fact ≡ to other → fact ≡ other

-- Q is the plan P with the number `to fact` for each fact below F
pub record Renumbered (F : ℕ) (to : ℕ → ℕ) (P Q : Plan) : Type 0 where
  pub steps : Q.n ≡ P.n
  pub needs : (i fact : ℕ) → fact < F → Q.needs i (to fact) ≡ P.needs i fact
  pub adds : (i fact : ℕ) → fact < F → Q.adds i (to fact) ≡ P.adds i fact
  pub deletes : (i fact : ℕ) → fact < F → Q.deletes i (to fact) ≡ P.deletes i fact
