-- The test of given pairs, freeBy: what it says, and that it is steady, so that all of Lister holds of it.
-- Stands on Lister. Assumes nothing.
use Rattle.std.proofs.Common.{◌≡◌, refl, sym, Bool, true, false, not, ◌&&◌, List, [], ◌∷◌, ℕ, suc, ◌≤◌, arith, length}
use native.Mathlib.Decide.{ℕ_discrete}
use Rattle.sets.specs.Test.{remove, every}
use Rattle.sets.proofs.Bools.{and_left, and_right, and_both, and_rest, and_fails, not_both, is_not, not_is}
use Rattle.sets.proofs.Sets.{remove_in, in_remove, remove_swap, every_at, at_every}
use Rattle.model.specs.Lister.{free_by}
use Rattle.model.proofs.Lister.{Taken, Without, Steady}

-- of what is left, no step is to be before x
abbrev pub Clear : ℕ → (ℕ → ℕ → Bool) → (ℕ → Bool) → ℕ → Type 0
Clear n R left x = (i : ℕ) → i ≤ n → left i ≡ true → R i x ≡ false

module _ (n : ℕ) (R : ℕ → ℕ → Bool) where
  -- a free step is left
  pub free_left : (left : ℕ → Bool) (x : ℕ) → free_by n R left x ≡ true → left x ≡ true
  unfolding free_by
  free_left left x e = and_left (left x) _ e

  -- and nothing that is left is to be before it
  pub free_clear : (left : ℕ → Bool) (x : ℕ) → free_by n R left x ≡ true → Clear n R left x
  unfolding free_by
  free_clear left x e i l h =
      let all : every (λ i. not (left i && R i x)) (suc n) ≡ true = and_right (left x) _ e in
      and_rest (left i) (R i x) (is_not _ (every_at (λ i. not (left i && R i x)) (suc n) all i (omega arith))) h

  -- a step that is left, with nothing that is left to be before it, is free
  pub clear_free : (left : ℕ → Bool) (x : ℕ) → left x ≡ true → Clear n R left x → free_by n R left x ≡ true
  unfolding free_by
  clear_free left x h c =
      and_both (left x) _ h (at_every (λ i. not (left i && R i x)) (suc n) (λ i l. not_is _ (and_fails (left i) (R i x) (c i (omega arith)))))

  -- a free step stays free when another is taken
  free_stays : (left : ℕ → Bool) (x y : ℕ) → free_by n R left y ≡ true → (y ≡ x → ⊥) → free_by n R (remove x left) y ≡ true
  free_stays left x y e ne =
      clear_free (remove x left) y (in_remove x left y (free_left left y e) ne) (λ i l h. free_clear left y e i l (remove_in x left i h))

  -- a free step left out of a way to take what is left leaves a way to take the rest
  leave_out : (s : List ℕ) (left : ℕ → Bool) (y : ℕ) → free_by n R left y ≡ true → Taken (free_by n R) left s → Without (free_by n R) left y (length s)
  leave_out [] left y e o = absurd (not_both (free_left left y e) (o y))
  leave_out (x ∷ s) left y e o = go (ℕ_discrete y x) (λ f. leave_out s (remove x left) y f o.1)
    where
      go : Dec (y ≡ x) → (free_by n R (remove x left) y ≡ true → Without (free_by n R) (remove x left) y (length s))
          → Without (free_by n R) left y (suc (length s))
      go (yes q) f = (s, rw q o.1, refl)
      go (no ne) f =
          let w = f (free_stays left x y e ne) in
          (x ∷ w.0, (free_stays left y x o.0 (λ q. ne (sym q)), rw remove_swap w.1), omega (arith, w.2))

  -- the test of given pairs is steady
  pub free_steady : Steady n (free_by n R)
  free_steady = record { only_left = free_left; never_stuck = λ left x s w e o. leave_out s left x e o }

-- no step is to be before another
abbrev pub unordered : ℕ → ℕ → Bool
unordered i j = false

-- what can be taken by a steady test can be taken where no order is given
pub taken_unordered : {n : ℕ} {free : (ℕ → Bool) → ℕ → Bool} → Steady n free
    → (s : List ℕ) (left : ℕ → Bool) → Taken free left s → Taken (free_by n unordered) left s
taken_unordered steady [] left o = o
taken_unordered {n} steady (x ∷ s) left o =
    (clear_free n unordered left x (steady.only_left left x o.0) (λ i l h. refl), taken_unordered steady s (remove x left) o.1)
