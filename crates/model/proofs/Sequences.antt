-- The sequences of an order: an order with no cycle has one, the first is the lowest of them, the next is the lowest above
-- the given one or there is none. Stands on Closure, Free, Sorted and Lister. Assumes nothing.
use Rattle.std.proofs.Common.{◌≡◌, refl, sym, ap, Bool, true, false, ◌⊎◌, ◌↔◌, List, [], ◌∷◌, ℕ, zero, suc, ◌≤◌, ◌<◌, arith, length, get_or}
use mathlib.Core.Option.{none, some}
use native.Mathlib.Decide.{ℕ_discrete}
use Rattle.sets.specs.Test.{remove, up_to}
use Rattle.sets.proofs.Bools.{not_both, none_true}
use Rattle.sets.proofs.Sets.{remove_in, remove_ne, in_remove, up_to_in, in_up_to}
use Rattle.model.specs.Order.{Cycle, Pairs}
use Rattle.model.specs.Sequence.{EachOnce, Keeps, Sequence, Lower}
use Rattle.model.specs.Closure.{closed}
use Rattle.model.specs.Lister.{free_by, first, next}
use Rattle.model.proofs.Before.{chain_join, chain_before}
use Rattle.model.proofs.Closure.{closed_chain, chain_closed, closed_keeps}
use Rattle.model.proofs.Lister.{Within, Taken, within_remove, first_way, next_way, no_way}
use Rattle.model.proofs.Free.{free_left, free_clear, clear_free, free_steady}
use Rattle.model.proofs.Sorted.{sorted, taken_length}

-- s has the steps that are left, each at exactly one place, and keeps the pairs
record Placed (R : ℕ → ℕ → Bool) (left : ℕ → Bool) (s : List ℕ) : Type 0 where
  only : (p : ℕ) → p < length s → left (get_or s p 0) ≡ true
  uses : (i : ℕ) → left i ≡ true → (p : ℕ) × (p < length s) × (get_or s p 0 ≡ i)
  once : (p q : ℕ) → p < length s → q < length s → get_or s p 0 ≡ get_or s q 0 → p ≡ q
  keeps : Keeps R s

module _ (n : ℕ) (R : ℕ → ℕ → Bool) where
  -- what has its places is a way to take what is left
  placed_taken : (s : List ℕ) (left : ℕ → Bool) → Placed R left s → Taken (free_by n R) left s
  placed_taken [] left w = λ i. none_true (left i) (λ e. omega (arith, (w.uses i e).1))
  placed_taken (x ∷ s) left w = (clear_free n R left x (w.only 0 (omega arith)) clear, placed_taken s (remove x left) rest)
    where
      clear : (i : ℕ) → i ≤ n → left i ≡ true → R i x ≡ false
      clear i l h = none_true (R i x) (λ e. let u = w.uses i h in omega (arith, w.keeps u.0 0 u.1 (omega arith) (rw u.2 e)))

      behind : (i : ℕ) → (i ≡ x → ⊥) → (p : ℕ) → p < suc (length s) → get_or (x ∷ s) p 0 ≡ i → (p : ℕ) × (p < length s) × (get_or s p 0 ≡ i)
      behind i ne zero l e = absurd (ne (sym e))
      behind i ne (suc p) l e = (p, omega arith, e)

      rest : Placed R (remove x left) s
      rest = record {
        only = λ p l.
            in_remove x left (get_or s p 0) (w.only (suc p) (omega arith)) (λ e. omega (arith, w.once (suc p) 0 (omega arith) (omega arith) e));
        uses = λ i h. let u = w.uses i (remove_in x left i h) in behind i (remove_ne x left i h) u.0 u.1 u.2;
        once = λ p q a b e. omega (arith, w.once (suc p) (suc q) (omega arith) (omega arith) e);
        keeps = λ p q a b e. omega (arith, w.keeps (suc p) (suc q) (omega arith) (omega arith) e);
      }

  -- a free step in front of what has its places has its own
  placed_behind : (x : ℕ) (s : List ℕ) (left : ℕ → Bool) → Within n left → free_by n R left x ≡ true
      → Placed R (remove x left) s → Placed R left (x ∷ s)
  placed_behind x s left within f w = record { only = only; uses = λ i h. uses i h (ℕ_discrete i x); once = once; keeps = keeps }
    where
      only : (p : ℕ) → p < suc (length s) → left (get_or (x ∷ s) p 0) ≡ true
      only zero l = free_left n R left x f
      only (suc p) l = remove_in x left (get_or s p 0) (w.only p (omega arith))

      uses : (i : ℕ) → left i ≡ true → Dec (i ≡ x) → (p : ℕ) × (p < suc (length s)) × (get_or (x ∷ s) p 0 ≡ i)
      uses i h (yes q) = (0, omega arith, sym q)
      uses i h (no ne) = let u = w.uses i (in_remove x left i h ne) in (suc u.0, omega (arith, u.1), u.2)

      other : (p : ℕ) → p < length s → get_or s p 0 ≡ x → ⊥
      other p l e = remove_ne x left (get_or s p 0) (w.only p l) e

      once : (p q : ℕ) → p < suc (length s) → q < suc (length s) → get_or (x ∷ s) p 0 ≡ get_or (x ∷ s) q 0 → p ≡ q
      once zero zero a b e = refl
      once zero (suc q) a b e = absurd (other q (omega arith) (sym e))
      once (suc p) zero a b e = absurd (other p (omega arith) e)
      once (suc p) (suc q) a b e = ap suc (w.once p q (omega arith) (omega arith) e)

      keeps : Keeps R (x ∷ s)
      keeps p zero a b e = absurd (not_both e (free_clear n R left x f _ (within _ (only p a)).1 (only p a)))
      keeps zero (suc q) a b e = omega arith
      keeps (suc p) (suc q) a b e = omega (arith, w.keeps p q (omega arith) (omega arith) e)

  -- a way to take what is left has its places
  taken_placed : (s : List ℕ) (left : ℕ → Bool) → Within n left → Taken (free_by n R) left s → Placed R left s
  taken_placed [] left within o = record {
    only = λ p l. absurd (omega arith);
    uses = λ i h. absurd (not_both h (o i));
    once = λ p q a b e. absurd (omega arith);
    keeps = λ p q a b e. absurd (omega arith);
  }
  taken_placed (x ∷ s) left within o = placed_behind x s left within o.0 (taken_placed s (remove x left) (within_remove x within) o.1)

  -- a sequence of the order is a way to take the steps 1 to n
  pub sequence_taken : (s : List ℕ) → Sequence n R s → Taken (free_by n R) (up_to n) s
  sequence_taken s w = placed_taken s (up_to n) (record {
    only = λ p l. let r = each.range p (omega arith) in in_up_to n (get_or s p 0) r.0 r.1;
    uses = λ i h. let r = up_to_in n i h in let u = each.uses i r.0 r.1 in (u.0, omega (arith, u.1), u.2);
    once = λ p q a b e. each.once p q (omega arith) (omega arith) e;
    keeps = w.keeps;
  })
    where
      each : EachOnce n s
      each = w.each

  -- a way to take the steps 1 to n is a sequence of the order
  pub taken_sequence : (s : List ℕ) → Taken (free_by n R) (up_to n) s → Sequence n R s
  taken_sequence s o = record {
    each = record {
      places = places;
      range = λ p l. up_to_in n (get_or s p 0) (w.only p (omega (arith, places)));
      uses = λ i a b. let u = w.uses i (in_up_to n i a b) in (u.0, omega (arith, places, u.1), u.2);
      once = λ p q a b e. w.once p q (omega (arith, places)) (omega (arith, places)) e;
    };
    keeps = w.keeps;
  }
    where
      places : length s ≡ n
      places = taken_length (free_steady n R) s o

      w : Placed R (up_to n) s
      w = taken_placed s (up_to n) (up_to_in n) o

  -- the sequences of the order are the ways to take the steps 1 to n, each when it is free by the given pairs
  pub taken_is_sequence : (s : List ℕ) → Taken (free_by n R) (up_to n) s ↔ Sequence n R s
  taken_is_sequence s = (taken_sequence s, sequence_taken s)

module _ {n : ℕ} {R : ℕ → ℕ → Bool} (pairs : Pairs n R) (no_cycle : Cycle n R → ⊥) where
  -- an order with no cycle has a sequence
  pub sequence_exists : (s : List ℕ) × Sequence n R s
  sequence_exists = (w.0, (closed_keeps pairs w.0).1 (taken_sequence n (closed n R) w.0 w.1))
    where
      w : (t : List ℕ) × Taken (free_by n (closed n R)) (up_to n) t × (length t ≡ n)
      w =
          sorted n (closed n R)
          (λ i. none_true (closed n R i i) (λ e. no_cycle (i, chain_before (closed_chain n e))))
          (λ i j k e f. chain_closed pairs (chain_join (closed_chain n e) (closed_chain n f)))
          n

  -- the first is a sequence, and the lowest of them
  pub first_sequence : Sequence n R (first n R) × ((t : List ℕ) → Sequence n R t → (first n R ≡ t) ⊎ Lower (first n R) t)
  unfolding first
  first_sequence =
      let v = sequence_exists in
      let f = first_way (free_steady n R) n (up_to n) v.0 (up_to_in n) (sequence_taken n R v.0 v.1) v.1.each.places in
      (taken_sequence n R _ f.0, λ t w. f.1 t (sequence_taken n R t w))

module _ {n : ℕ} {R : ℕ → ℕ → Bool} {s : List ℕ} (sequence : Sequence n R s) where
  -- the next is a sequence above, and the lowest of those
  pub next_some : {t : List ℕ} → next n R s ≡ some t → Sequence n R t × Lower s t × ((u : List ℕ) → Sequence n R u → Lower s u → (t ≡ u) ⊎ Lower t u)
  unfolding next
  next_some {t} e =
      let w = next_way (free_steady n R) (up_to_in n) (sequence_taken n R s sequence) e in
      (taken_sequence n R t w.0, w.1, λ u v l. w.2 u (sequence_taken n R u v) l)

  -- where there is no next there is no sequence above
  pub next_none : next n R s ≡ none → (u : List ℕ) → Sequence n R u → Lower s u → ⊥
  unfolding next
  next_none e u v l = no_way (free_steady n R) (up_to_in n) (sequence_taken n R s sequence) e u (sequence_taken n R u v) l
