-- An order that is transitive and has no step before itself has a sequence: the steps are put in one by one.
-- With it, that the steps 1 to n are taken in n turns. Stands on Free. Assumes nothing.
use Rattle.std.proofs.Common.{◌≡◌, refl, ap, ◌∙◌, Bool, true, false, not, ◌&&◌, ◌⊎◌, inl, inr, List, [], ◌∷◌, ℕ, zero, suc, ◌≤◌, arith, length}
use Rattle.sets.specs.Test.{insert, remove, up_to, every}
use Rattle.sets.proofs.Bools.{and_left, and_right, and_rest, not_both, none_true, none_false, not_is, is_not}
use Rattle.sets.proofs.Sets.{remove_in, in_insert, insert_in, insert_self, remove_insert, remove_insert_other, up_to_in, up_to_more, every_at, every_not}
use Rattle.model.specs.Lister.{free_by}
use Rattle.model.proofs.Lister.{Taken, Steady, same_length}
use Rattle.model.proofs.Free.{Clear, free_left, free_clear, clear_free, free_steady, unordered, taken_unordered}

-- what is left and x can be taken, in one turn more than k
abbrev With : ℕ → (ℕ → ℕ → Bool) → (ℕ → Bool) → ℕ → ℕ → Type 0
With n B left x k = (u : List ℕ) × Taken (free_by n B) (insert x left) u × (length u ≡ suc k)

module _ (n : ℕ) (B : ℕ → ℕ → Bool) (itself : (i : ℕ) → B i i ≡ false) (joins : (i j k : ℕ) → B i j ≡ true → B j k ≡ true → B i k ≡ true) where
  -- x goes in front of a way to take what is left, where nothing that is left is to be before it
  in_front : (t : List ℕ) (left : ℕ → Bool) (x : ℕ) → left x ≡ false → Taken (free_by n B) left t → Clear n B left x → With n B left x (length t)
  in_front t left x fresh o c = (x ∷ t, (clear_free n B (insert x left) x (insert_self x left) clear, rw (remove_insert x left fresh) o), refl)
    where
      clear : Clear n B (insert x left) x
      clear i l e = go (insert_in x left i e)
        where
          go : (i ≡ x) ⊎ (left i ≡ true) → B i x ≡ false
          go (inl q) = rw q (itself x)
          go (inr h) = c i l h

  -- x goes behind y, where something that is left is to be before x
  behind : (left : ℕ → Bool) (x y i : ℕ) → i ≤ n → left i ≡ true → B i x ≡ true → left x ≡ false → free_by n B left y ≡ true
      → (k : ℕ) → With n B (remove y left) x k → With n B left x (suc k)
  behind left x y i l h e fresh f k w =
      (y ∷ w.0, (clear_free n B (insert x left) y (in_insert x left y here) clear, rw (remove_insert_other x y left other) w.1), ap suc w.2)
    where
      here : left y ≡ true
      here = free_left n B left y f

      other : x ≡ y → ⊥
      other q = not_both here (rw (← q) fresh)

      clear : Clear n B (insert x left) y
      clear j m g = go (insert_in x left j g)
        where
          go : (j ≡ x) ⊎ (left j ≡ true) → B j y ≡ false
          go (inl q) = rw q (none_true (B x y) (λ r. not_both (joins i x y e r) (free_clear n B left y f i l h)))
          go (inr r) = free_clear n B left y f j m r

  -- a new step can be put into a way to take what is left
  put_in : (t : List ℕ) (left : ℕ → Bool) (x : ℕ) → left x ≡ false → Taken (free_by n B) left t → With n B left x (length t)
  put_in [] left x fresh o = in_front [] left x fresh o (λ i l h. absurd (not_both h (o i)))
  put_in (y ∷ t) left x fresh o =
      go (every test (suc n)) refl (put_in t (remove y left) x (none_true _ (λ e. not_both (remove_in y left x e) fresh)) o.1)
    where
      test : ℕ → Bool
      test i = not (left i && B i x)

      go : (b : Bool) → every test (suc n) ≡ b → With n B (remove y left) x (length t) → With n B left x (suc (length t))
      go true e w = in_front (y ∷ t) left x fresh o (λ i l h. and_rest (left i) (B i x) (is_not _ (every_at test (suc n) e i (omega arith))) h)
      go false e w =
          let v = every_not test (suc n) e in
          let i = v.0 in
          let h : left i && B i x ≡ true = none_false _ (λ f. not_both (not_is _ f) v.2) in
          behind left x y i (omega (arith, v.1)) (and_left (left i) _ h) (and_right (left i) _ h) fresh o.0 (length t) w

  -- the steps 1 to m can be taken, in m turns
  pub sorted : (m : ℕ) → (t : List ℕ) × Taken (free_by n B) (up_to m) t × (length t ≡ m)
  sorted zero = ([], (λ i. none_true _ (λ e. omega (arith, up_to_in 0 i e))), refl)
  sorted (suc m) =
      let w = sorted m in
      let v = put_in w.0 (up_to m) (suc m) (none_true _ (λ e. omega (arith, up_to_in m (suc m) e))) w.1 in
      (v.0, rw up_to_more v.1, v.2 ∙ ap suc w.2)

-- whatever the test, the steps 1 to n are taken in n turns
pub taken_length : {n : ℕ} {free : (ℕ → Bool) → ℕ → Bool} → Steady n free → (s : List ℕ) → Taken free (up_to n) s → length s ≡ n
taken_length {n} steady s o =
    let w = sorted n unordered (λ i. refl) (λ i j k e f. e) n in
    same_length (free_steady n unordered) s w.0 (up_to n) (up_to_in n) (taken_unordered steady s (up_to n) o) w.1 ∙ w.2
