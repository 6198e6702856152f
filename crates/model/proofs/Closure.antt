-- The closure that computes: it is Before between the steps 1 to n, a sequence keeps it as it keeps the given pairs,
-- and it tells whether there is a cycle. Stands on Before. Assumes nothing.
use Rattle.std.proofs.Common.{◌≡◌, refl, Bool, true, ◌&&◌, List, ◌⊎◌, inl, inr, ◌↔◌, ℕ, zero, suc, ◌≤◌, ◌<◌, arith}
use native.Mathlib.Decide.{ℕ_discrete, dec_lt}
use Rattle.sets.specs.Test.{least}
use Rattle.sets.proofs.Bools.{and_left, and_right, and_both, or_cases, or_left, or_right}
use Rattle.sets.proofs.Least.{least_at, least_at_most}
use Rattle.model.specs.Order.{Before, Cycle, Pairs}
use Rattle.model.specs.Sequence.{Sequence}
use Rattle.model.specs.Closure.{closed_to, closed}
use Rattle.model.proofs.Before.{Chain, one, more, chain_join, chain_in, chain_before, before_in, before_chain, chain_kept}

module _ (R : ℕ → ℕ → Bool) where
  -- a pair over steps up to k + 1 goes over steps up to k, or does so to and from k + 1
  abbrev Over : ℕ → ℕ → ℕ → Type 0
  Over k i j = (closed_to k R i j ≡ true) ⊎ ((closed_to k R i (suc k) ≡ true) × (closed_to k R (suc k) j ≡ true))

  over : (k i j : ℕ) → closed_to (suc k) R i j ≡ true → Over k i j
  unfolding closed_to
  over k i j e = go (or_cases (closed_to k R i j) _ e)
    where
      go : (closed_to k R i j ≡ true) ⊎ (closed_to k R i (suc k) && closed_to k R (suc k) j ≡ true) → Over k i j
      go (inl h) = inl h
      go (inr h) = inr (and_left (closed_to k R i (suc k)) _ h, and_right (closed_to k R i (suc k)) _ h)

  -- a pair over steps up to k is one over steps up to k + 1
  stays : (k i j : ℕ) → closed_to k R i j ≡ true → closed_to (suc k) R i j ≡ true
  unfolding closed_to
  stays k i j e = or_left (closed_to k R i j) _ e

  -- two pairs that meet at k + 1 make one over steps up to k + 1
  meet : (k i j : ℕ) → closed_to k R i (suc k) ≡ true → closed_to k R (suc k) j ≡ true → closed_to (suc k) R i j ≡ true
  unfolding closed_to
  meet k i j e f = or_right (closed_to k R i j) _ (and_both (closed_to k R i (suc k)) _ e f)

  -- each pair over steps up to k is a chain of given pairs
  closed_to_chain : (k i j : ℕ) → closed_to k R i j ≡ true → Chain R i j
  unfolding closed_to
  closed_to_chain zero i j e = one e
  closed_to_chain (suc k) i j e = go (over k i j e) (closed_to_chain k)
    where
      go : Over k i j → ((i j : ℕ) → closed_to k R i j ≡ true → Chain R i j) → Chain R i j
      go (inl h) f = f i j h
      go (inr h) f = chain_join (f i (suc k) h.0) (f (suc k) j h.1)

  -- each given pair is one over steps up to k
  given_closed_to : (k i j : ℕ) → R i j ≡ true → closed_to k R i j ≡ true
  unfolding closed_to
  given_closed_to zero i j e = e
  given_closed_to (suc k) i j e = stays k i j (given_closed_to k i j e)

  -- the closure over steps up to m is transitive at each of them
  through : (m k : ℕ) → 1 ≤ k → k ≤ m → (i j : ℕ) → closed_to m R i k ≡ true → closed_to m R k j ≡ true → closed_to m R i j ≡ true
  through zero k a b i j e f = absurd (omega arith)
  through (suc m) k a b i j e f = go (ℕ_discrete k (suc m)) (over m i k e) (over m k j f) (through m k a)
    where
      go : Dec (k ≡ suc m) → Over m i k → Over m k j
          → (k ≤ m → (i j : ℕ) → closed_to m R i k ≡ true → closed_to m R k j ≡ true → closed_to m R i j ≡ true)
          → closed_to (suc m) R i j ≡ true
      go d (inr x) (inr y) h = meet m i j x.0 y.1
      go (yes q) (inl x) (inl y) h = meet m i j (rw q at x) (rw q at y)
      go (no ne) (inl x) (inl y) h = stays m i j (h (omega arith) i j x y)
      go (yes q) (inl x) (inr y) h = meet m i j (rw q at x) y.1
      go (no ne) (inl x) (inr y) h = meet m i j (h (omega arith) i (suc m) x y.0) y.1
      go (yes q) (inr x) (inl y) h = meet m i j x.0 (rw q at y)
      go (no ne) (inr x) (inl y) h = meet m i j x.0 (h (omega arith) (suc m) j x.1 y)

-- each pair of the closure is a chain of given pairs
pub closed_chain : (n : ℕ) {R : ℕ → ℕ → Bool} {i j : ℕ} → closed n R i j ≡ true → Chain R i j
unfolding closed
closed_chain n {R} {i} {j} e = closed_to_chain R n i j e

-- step i is before itself, and no lower step is
abbrev pub LowestCycle : ℕ → (ℕ → ℕ → Bool) → ℕ → Type 0
LowestCycle n R i = Before n R i i × ((k : ℕ) → Before n R k k → i ≤ k)

module _ {n : ℕ} {R : ℕ → ℕ → Bool} (pairs : Pairs n R) where
  -- each chain of given pairs is a pair of the closure
  pub chain_closed : {i j : ℕ} → Chain R i j → closed n R i j ≡ true
  unfolding closed
  chain_closed (one {i = i} {j = j} e) = given_closed_to R n i j e
  chain_closed (more {i = i} {k = k} {j = j} e c) =
      through R n k (pairs i k e).2 (pairs i k e).3 i j (given_closed_to R n i k e) (chain_closed c)

  -- between the steps 1 to n the closure is Before
  pub closed_before : (i j : ℕ) → 1 ≤ i → i ≤ n → 1 ≤ j → j ≤ n → (closed n R i j ≡ true) ↔ Before n R i j
  closed_before i j a b c d = ((λ e. chain_before (closed_chain n e)), λ w. chain_closed ((before_chain pairs i j a b c d).0 w))

  -- the closure's pairs are of the steps 1 to n
  pub closed_pairs : Pairs n (closed n R)
  closed_pairs i j e = chain_in pairs (closed_chain n e)

  -- a sequence keeps the given pairs exactly if it keeps the closed ones
  pub closed_keeps : (s : List ℕ) → Sequence n R s ↔ Sequence n (closed n R) s
  closed_keeps s = (to, from)
    where
      to : Sequence n R s → Sequence n (closed n R) s
      to w = record {
        each = w.each;
        keeps = λ p q a b e. let k = w.each.places in chain_kept pairs w (closed_chain n e) p q (omega arith) (omega arith) refl refl;
      }

      from : Sequence n (closed n R) s → Sequence n R s
      from w = record { each = w.each; keeps = λ p q a b e. w.keeps p q a b (chain_closed (one e)) }

  -- the closure tells the lowest step that is before itself, or that there is none
  pub cycle_lowest : ((i : ℕ) × LowestCycle n R i) ⊎ (Cycle n R → ⊥)
  cycle_lowest = go (dec_lt low (suc n))
    where
      low : ℕ
      low = least (λ i. closed n R i i) (suc n)

      itself : (k : ℕ) → Before n R k k → closed n R k k ≡ true
      itself k w = let r = before_in pairs w in (closed_before k k r.1 r.0 r.1 r.0).1 w

      go : Dec (low < suc n) → ((i : ℕ) × LowestCycle n R i) ⊎ (Cycle n R → ⊥)
      go (yes h) =
          inl (
            low,
            (
              chain_before (closed_chain n (least_at (λ i. closed n R i i) (suc n) h)),
              λ k w. least_at_most (λ i. closed n R i i) (suc n) k (itself k w),
            ),
          )
      go (no h) = inr (λ c. omega (arith, least_at_most (λ i. closed n R i i) (suc n) c.0 (itself c.0 c.1), before_in pairs c.1))

  -- an order has a cycle or it has none
  pub cycle_or_not : Cycle n R ⊎ (Cycle n R → ⊥)
  cycle_or_not = go cycle_lowest
    where
      go : ((i : ℕ) × LowestCycle n R i) ⊎ (Cycle n R → ⊥) → Cycle n R ⊎ (Cycle n R → ⊥)
      go (inl w) = inl (w.0, w.1.0)
      go (inr h) = inr h
