-- Laws of Before: where its steps lie, that between the steps 1 to n the given pairs alone decide it, and what it says of a sequence.
-- Stands on the definitions only. Assumes nothing.
use Rattle.std.proofs.Common.{◌≡◌, refl, Bool, true, List, ◌↔◌, ℕ, suc, ◌≤◌, ◌<◌, arith, get_or}
use Rattle.model.specs.Order.{Before, given, start, end, chain, Cycle, Pairs}
use Rattle.model.specs.Sequence.{Sequence}

-- one or more given pairs lead from i to j
pub data Chain (R : ℕ → ℕ → Bool) : ℕ → ℕ → Type 0 where
  one : {i j : ℕ} → R i j ≡ true → Chain R i j
  more : {i k j : ℕ} → R i k ≡ true → Chain R k j → Chain R i j

-- two chains that meet make one
pub chain_join : {R : ℕ → ℕ → Bool} {i j k : ℕ} → Chain R i j → Chain R j k → Chain R i k
chain_join (one e) d = more e d
chain_join (more e c) d = more e (chain_join c d)

-- from where a chain starts is before where it leads
pub chain_before : {n : ℕ} {R : ℕ → ℕ → Bool} {i j : ℕ} → Chain R i j → Before n R i j
chain_before (one e) = given e
chain_before (more e c) = chain (given e) (chain_before c)

module _ {n : ℕ} {R : ℕ → ℕ → Bool} (pairs : Pairs n R) where
  -- a chain leads from a step of 1 to n to another
  pub chain_in : {i j : ℕ} → Chain R i j → (1 ≤ i) × (i ≤ n) × (1 ≤ j) × (j ≤ n)
  chain_in (one {i = i} {j = j} e) = pairs i j e
  chain_in (more {i = i} {k = k} e c) = ((pairs i k e).0, (pairs i k e).1, (chain_in c).2, (chain_in c).3)

  -- nothing is before the start, and nothing comes after the end
  pub before_in : {i j : ℕ} → Before n R i j → (i ≤ n) × (1 ≤ j) × (j ≤ suc n)
  before_in (given {i = i} {j = j} e) = let w = pairs i j e in (w.1, w.2, omega arith)
  before_in (start e a b) = (omega arith, a, b)
  before_in (end a e) = (a, omega arith, omega arith)
  before_in (chain b c) = ((before_in b).0, (before_in c).1, (before_in c).2)

  -- before, from a step that is not the start to one that is not the end, goes by given pairs only
  before_only : {i j : ℕ} → Before n R i j → 1 ≤ i → j ≤ n → Chain R i j
  before_only (given e) a b = one e
  before_only (start e c d) a b = absurd (omega arith)
  before_only (end c e) a b = absurd (omega arith)
  before_only (chain c d) a b = chain_join (before_only c a (before_in d).0) (before_only d (before_in c).1 b)

  -- between the steps 1 to n, before is a chain of given pairs
  pub before_chain : (i j : ℕ) → 1 ≤ i → i ≤ n → 1 ≤ j → j ≤ n → Before n R i j ↔ Chain R i j
  before_chain i j a b c d = ((λ w. before_only w a d), chain_before)

  module _ {s : List ℕ} (sequence : Sequence n R s) where
    -- of a given pair the first stands at a lower place
    pair_kept : {i j : ℕ} → R i j ≡ true → (p q : ℕ) → p < n → q < n → get_or s p 0 ≡ i → get_or s q 0 ≡ j → p < q
    pair_kept e p q a b f g =
        let k = sequence.each.places in
        sequence.keeps p q (omega (arith, k)) (omega (arith, k)) (rw (f, g) e)

    -- and so of a chain
    pub chain_kept : {i j : ℕ} → Chain R i j → (p q : ℕ) → p < n → q < n → get_or s p 0 ≡ i → get_or s q 0 ≡ j → p < q
    chain_kept (one e) p q a b f g = pair_kept e p q a b f g
    chain_kept (more {i = i} {k = k} e c) p q a b f g =
        let u = sequence.each.uses k (pairs i k e).2 (pairs i k e).3 in
        omega (arith, pair_kept e p u.0 a u.1 f u.2, chain_kept c u.0 q u.1 b u.2 g)

    -- what is before stands at a lower place
    pub before_kept : (p q : ℕ) → p < n → q < n → Before n R (get_or s p 0) (get_or s q 0) → p < q
    before_kept p q a b w =
        chain_kept (before_only w (sequence.each.range p a).0 (sequence.each.range q b).1) p q a b refl refl

    -- where there is a sequence there is no cycle
    pub cycle_none : Cycle n R → ⊥
    cycle_none c =
        let b = before_in c.1 in
        let i = c.0 in
        let w : Chain R i i = before_only c.1 b.1 b.0 in
        let u = sequence.each.uses i b.1 b.0 in
        omega (arith, chain_kept w u.0 u.0 u.1 u.1 u.2 u.2)
