-- The numbers below the end, without 0.
use Rattle.std.proofs.Common.{◌≡◌, ◌+◌, ◌≤◌, ◌⊎◌, inl, inr, min, ap, ◌∙◌, ℕ, arith}
use native.Mathlib.Decide.{dec_lt}
use Rattle.sets.specs.Test.{remove, under}
use Rattle.sets.specs.Word.{kept}
use Rattle.sets.proofs.Words.{up_to_less}
use Rattle.sets.proofs.Set.steps.Goals as goal

-- one past n, or 64
one_past : (n : ℕ) → (min n 63 + 1 ≡ n + 1) ⊎ ((min n 63 + 1 ≡ 64) × (64 ≤ n))
one_past n = elim (dec_lt n 64) [ yes h ↦ inl (omega arith) | no h ↦ inr (omega arith, omega arith) ]

pub returns : goal.returns
returns c =
    let n = c.args.n in
    c.without.ensures ∙ ap (remove 0) c.below.ensures ∙ ap (λ (m : ℕ). remove 0 (kept (under (m + 1)))) c.min.ensures ∙ up_to_less n (min n 63 + 1) (one_past n)
