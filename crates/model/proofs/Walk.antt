-- The walk from the first sequence on has each sequence of an order once, in rising order, and no other; and there is one walk only.
-- Proved for the ways of any steady test, then for the sequences of an order. Stands on Sequences. Assumes nothing.
use Rattle.std.proofs.Common.{◌≡◌, refl, sym, ap, Bool, ◌⊎◌, inl, inr, ◌↔◌, List, [], ◌∷◌, ℕ, zero, suc, ◌+◌, ◌*◌, ◌^◌, ◌≤◌, ◌<◌, arith, suc-mul, mul-le-mul_right, length, get_or}
use mathlib.Core.Option.{Option, none, some}
use native.Mathlib.Decide.{dec_lt}
use native.Mathlib.Nat.{pow-zero, pow-succ'}
use Rattle.sets.specs.Test.{remove, up_to}
use Rattle.sets.proofs.Sets.{up_to_in}
use Rattle.model.specs.Order.{Cycle, Pairs}
use Rattle.model.specs.Sequence.{Sequence, Lower}
use Rattle.model.specs.Lister.{first_of, next_of, first, next}
use Rattle.model.specs.Walk.{Onwards, last, more, Walk, Member, Rising}
use Rattle.model.proofs.Rising.{Lex, lower_lex, lower_itself, lower_chain}
use Rattle.model.proofs.Lister.{Within, Taken, Steady, within_remove, same_length, first_way, next_way, no_way}
use Rattle.model.proofs.Free.{free_steady}
use Rattle.model.proofs.Sorted.{taken_length}
use Rattle.model.proofs.Sequences.{sequence_exists, sequence_taken, taken_sequence}

-- a list as a number in base b
value : ℕ → List ℕ → ℕ
value b [] = 0
value b (x ∷ s) = x * b ^ length s + value b s

-- no step of s is above n
abbrev Bounded : ℕ → List ℕ → Type 0
Bounded n s = (p : ℕ) → p < length s → get_or s p 0 ≤ n

-- and none of its rest
bounded_rest : {n x : ℕ} (s : List ℕ) → Bounded n (x ∷ s) → Bounded n s
bounded_rest s h p l = h (suc p) (omega arith)

-- the number of a list is below a bound
value_below : (n : ℕ) (s : List ℕ) → Bounded n s → value (suc n) s < suc n ^ length s
unfolding value
value_below n [] h = rw pow-zero (omega arith)
value_below n (x ∷ s) h =
    let b = suc n ^ length s in
    rw pow-succ' (omega (arith, value_below n s (bounded_rest s h), suc-mul x b, mul-le-mul_right b (h 0 (omega arith)), suc-mul n b))

-- a lower list has a lower number
value_rises : (n : ℕ) (s t : List ℕ) → Bounded n s → length s ≡ length t → Lex s t → value (suc n) s < value (suc n) t
unfolding value
value_rises n [] t h e l = absurd l
value_rises n (x ∷ s) [] h e l = absurd l
value_rises n (x ∷ s) (y ∷ t) h e (inl l) =
    let k : length t ≡ length s = omega arith in
    let b = suc n ^ length s in
    rw k (omega (arith, value_below n s (bounded_rest s h), suc-mul x b, mul-le-mul_right b l))
value_rises n (x ∷ s) (y ∷ t) h e (inr l) =
    let k : length t ≡ length s = omega arith in
    rw (k, l.0) (omega (arith, value_rises n s t (bounded_rest s h) (sym k) l.1))

-- s stands in a list that has it in front
member_here : {s u : List ℕ} (w : List (List ℕ)) → s ≡ u → Member u (s ∷ w)
member_here w e = (0, omega arith, e)

-- and so does what stood there before
member_behind : {u : List ℕ} (s : List ℕ) (w : List (List ℕ)) → Member u w → Member u (s ∷ w)
member_behind s w m = (suc m.0, omega (arith, m.1), m.2)

-- and nothing else
member_cases : {u : List ℕ} (s : List ℕ) (w : List (List ℕ)) → Member u (s ∷ w) → (s ≡ u) ⊎ Member u w
member_cases {u} s w m = go m.0 m.1 m.2
  where
    go : (p : ℕ) → p < suc (length w) → get_or (s ∷ w) p [] ≡ u → (s ≡ u) ⊎ Member u w
    go zero l e = inl e
    go (suc p) l e = inr (p, omega arith, e)

-- a list that is lower than all of a rising list goes in front of it
rising_front : (s : List ℕ) (w : List (List ℕ)) → ((u : List ℕ) → Member u w → Lower s u) → Rising w → Rising (s ∷ w)
rising_front s w low r p zero h l = absurd (omega arith)
rising_front s w low r zero (suc q) h l = low (get_or w q []) (q, omega arith, refl)
rising_front s w low r (suc p) (suc q) h l = r p q (omega arith) (omega arith)

-- in a rising list each member stands once
pub rising_once : (w : List (List ℕ)) → Rising w → (p q : ℕ) → p < length w → q < length w → get_or w p [] ≡ get_or w q [] → p ≡ q
rising_once w r p q a b e = go (dec_lt p q) (dec_lt q p)
  where
    go : Dec (p < q) → Dec (q < p) → p ≡ q
    go (yes h) d = absurd (lower_itself (get_or w q []) (rw e at (r p q h b)))
    go (no g) (yes h) = absurd (lower_itself (get_or w q []) (rw e at (r q p h a)))
    go (no g) (no h) = omega arith

-- from one list on there is one walk only
pub onwards_one : {after : List ℕ → Option (List ℕ)} {s : List ℕ} {v w : List (List ℕ)} → Onwards after s v → Onwards after s w → v ≡ w
onwards_one (last e) (last f) = refl
onwards_one (last e) (more f b) = let z : ◌≡◌ {A = ℕ} 0 1 = cc in absurd (omega arith)
onwards_one (more e a) (last f) = let z : ◌≡◌ {A = ℕ} 0 1 = cc in absurd (omega arith)
onwards_one {s} (more {t = t} e a) (more {t = u} f b) = ap {B = List (List ℕ)} (λ w. s ∷ w) (onwards_one a (rw same b))
  where
    same : t ≡ u
    same = cc

-- s is a way to take the steps 1 to n
abbrev Way : ℕ → ((ℕ → Bool) → ℕ → Bool) → List ℕ → Type 0
Way n free s = Taken free (up_to n) s

-- the way after s
abbrev after : ℕ → ((ℕ → Bool) → ℕ → Bool) → List ℕ → Option (List ℕ)
after n free s = next_of n free (up_to n) s

-- w is the walk from s on: it rises, it has each way that is not below s, and no other
record From (n : ℕ) (free : (ℕ → Bool) → ℕ → Bool) (s : List ℕ) (w : List (List ℕ)) : Type 0 where
  onwards : Onwards (after n free) s w
  rising : Rising w
  each : (u : List ℕ) → Way n free u → (s ≡ u) ⊎ Lower s u → Member u w
  only : (u : List ℕ) → Member u w → Way n free u × ((s ≡ u) ⊎ Lower s u)

module _ {n : ℕ} {free : (ℕ → Bool) → ℕ → Bool} (steady : Steady n free) where
  -- no step of a way is above n
  taken_bounded : (s : List ℕ) (left : ℕ → Bool) → Within n left → Taken free left s → Bounded n s
  taken_bounded [] left w o p l = absurd (omega arith)
  taken_bounded (x ∷ s) left w o zero l = (w x (steady.only_left left x o.0)).1
  taken_bounded (x ∷ s) left w o (suc p) l = taken_bounded s (remove x left) (within_remove x w) o.1 p (omega arith)

  -- the walk from the last way on
  from_last : (s : List ℕ) → Way n free s → after n free s ≡ none → From n free s (s ∷ [])
  from_last s o e = record { onwards = last e; rising = λ p q h l. absurd (omega arith); each = each; only = λ u m. only u (member_cases s [] m) }
    where
      each : (u : List ℕ) → Way n free u → (s ≡ u) ⊎ Lower s u → Member u (s ∷ [])
      each u v (inl q) = member_here [] q
      each u v (inr l) = absurd (no_way steady (up_to_in n) o e u v l)

      only : (u : List ℕ) → (s ≡ u) ⊎ Member u [] → Way n free u × ((s ≡ u) ⊎ Lower s u)
      only u (inl q) = (rw q at o, inl q)
      only u (inr m) = absurd (omega (arith, m.1))

  -- the walk from a way on, where the walk from the one after it is known
  from_more : (s t : List ℕ) (w : List (List ℕ)) → Way n free s → after n free s ≡ some t → From n free t w → From n free s (s ∷ w)
  from_more s t w o e f = record {
    onwards = more e f.onwards;
    rising = rising_front s w above f.rising;
    each = each;
    only = λ u m. only u (member_cases s w m);
  }
    where
      higher : Way n free t × Lower s t × ((u : List ℕ) → Way n free u → Lower s u → (t ≡ u) ⊎ Lower t u)
      higher = next_way steady (up_to_in n) o e

      above : (u : List ℕ) → Member u w → Lower s u
      above u m = go (f.only u m).1
        where
          go : (t ≡ u) ⊎ Lower t u → Lower s u
          go (inl q) = rw q at higher.1
          go (inr l) = lower_chain higher.1 l

      each : (u : List ℕ) → Way n free u → (s ≡ u) ⊎ Lower s u → Member u (s ∷ w)
      each u v (inl q) = member_here w q
      each u v (inr l) = member_behind s w (f.each u v (higher.2 u v l))

      only : (u : List ℕ) → (s ≡ u) ⊎ Member u w → Way n free u × ((s ≡ u) ⊎ Lower s u)
      only u (inl q) = (rw q at o, inl q)
      only u (inr m) = ((f.only u m).0, inr (above u m))

  -- from each way on there is a walk; room is how far the number of the way may still rise
  walk_from : (room : ℕ) (s : List ℕ) → Way n free s → suc n ^ n ≤ value (suc n) s + room → (w : List (List ℕ)) × From n free s w
  walk_from zero s o b =
      let k : length s ≡ n = taken_length steady s o in
      absurd (omega (arith, rw k at (value_below n s (taken_bounded s (up_to n) (up_to_in n) o))))
  walk_from (suc room) s o b = go (after n free s) refl (walk_from room)
    where
      go : (a : Option (List ℕ)) → after n free s ≡ a
          → ((t : List ℕ) → Way n free t → suc n ^ n ≤ value (suc n) t + room → (w : List (List ℕ)) × From n free t w)
          → (w : List (List ℕ)) × From n free s w
      go none e f = (s ∷ [], from_last s o e)
      go (some t) e f =
          let v = next_way steady (up_to_in n) o e in
          let same : length s ≡ length t = same_length steady s t (up_to n) (up_to_in n) o v.0 in
          let rest = f t v.0 (omega (arith, value_rises n s t (taken_bounded s (up_to n) (up_to_in n) o) same (lower_lex s t v.1))) in
          (s ∷ rest.0, from_more s t rest.0 o e rest.1)

  -- where there is a way at all, the walk from the first on has each way, in rising order, and no other
  pub walk_ways : (t : List ℕ) → Taken free (up_to n) t
      → (w : List (List ℕ)) × Onwards (next_of n free (up_to n)) (first_of n free n (up_to n)) w × Rising w
      × ((s : List ℕ) → Taken free (up_to n) s ↔ Member s w)
  walk_ways t o =
      let f = first_way steady n (up_to n) t (up_to_in n) o (taken_length steady t o) in
      let v = walk_from (suc n ^ n) (first_of n free n (up_to n)) f.0 (omega arith) in
      (v.0, v.1.onwards, v.1.rising, λ s. ((λ a. v.1.each s a (f.1 s a)), λ m. (v.1.only s m).0))

-- an order with no cycle has a walk; it has each sequence, in rising order, and no other
pub walk : {n : ℕ} {R : ℕ → ℕ → Bool} → Pairs n R → (Cycle n R → ⊥)
    → (w : List (List ℕ)) × Walk n R w × Rising w × ((s : List ℕ) → Sequence n R s ↔ Member s w)
unfolding first next
walk {n} {R} pairs no_cycle =
    let v = sequence_exists pairs no_cycle in
    let w = walk_ways (free_steady n R) v.0 (sequence_taken n R v.0 v.1) in
    (w.0, w.1, w.2, λ s. ((λ a. (w.3 s).0 (sequence_taken n R s a)), λ m. taken_sequence n R s ((w.3 s).1 m)))

-- there is one walk only
pub walk_one : (n : ℕ) (R : ℕ → ℕ → Bool) {v w : List (List ℕ)} → Walk n R v → Walk n R w → v ≡ w
walk_one n R a b = onwards_one a b

-- every walk through an order with no cycle has each sequence, in rising order, and no other
pub walk_all : {n : ℕ} {R : ℕ → ℕ → Bool} → Pairs n R → (Cycle n R → ⊥) → {w : List (List ℕ)} → Walk n R w
    → Rising w × ((s : List ℕ) → Sequence n R s ↔ Member s w)
walk_all {n} {R} pairs no_cycle a = let v = walk pairs no_cycle in rw (walk_one n R a v.1) (v.2, v.3)
