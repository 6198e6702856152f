-- Soundness: where each need has a good link, every sequence of the order runs. Source: Siddiqui and Haslum, section 2; Muise, Beck and McIlraith, section 2.1.
-- Stands on Before. Assumes nothing.
use Rattle.std.proofs.Common.{◌≡◌, refl, Bool, true, false, not, ◌&&◌, List, ℕ, zero, suc, ◌≤◌, ◌<◌, arith, length, get_or}
use mathlib.Core.Bool.{or-true}
use native.Mathlib.Decide.{ℕ_discrete}
use Rattle.sets.proofs.Bools.{none_true}
use Rattle.model.specs.Plan.{Plan}
use Rattle.model.specs.Run.{CanRun, after, state, Runs}
use Rattle.model.specs.Order.{Before, Pairs}
use Rattle.model.specs.Link.{Good, Served}
use Rattle.model.specs.Sequence.{Sequence}
use Rattle.model.proofs.Before.{before_in, before_kept}

module _ (P : Plan) (s : List ℕ) (f : ℕ) where
  -- behind a step that adds a fact the fact holds
  holds_added : (p : ℕ) → P.adds (get_or s p 0) f ≡ true → state P s (suc p) f ≡ true
  unfolding state after
  holds_added p e = rw e (or-true (state P s p f && not (P.deletes (get_or s p 0) f)))

  -- a fact that holds still holds behind a step that does not delete it
  holds_kept : (p : ℕ) → state P s p f ≡ true → P.deletes (get_or s p 0) f ≡ false → state P s (suc p) f ≡ true
  unfolding state after
  holds_kept p e d = rw (e, d) refl

  -- a fact that holds at a place holds at a later one if no step between them deletes it
  holds_on : (p : ℕ) → state P s p f ≡ true → (q : ℕ) → p ≤ q → ((m : ℕ) → p ≤ m → m < q → P.deletes (get_or s m 0) f ≡ false)
      → state P s q f ≡ true
  holds_on p e zero l h =
      let z : p ≡ zero = omega arith in
      rw z at e
  holds_on p e (suc q) l h = go (ℕ_discrete p (suc q)) (holds_on p e q)
    where
      go : Dec (p ≡ suc q) → (p ≤ q → ((m : ℕ) → p ≤ m → m < q → P.deletes (get_or s m 0) f ≡ false) → state P s q f ≡ true)
          → state P s (suc q) f ≡ true
      go (yes z) g = rw z at e
      go (no ne) g = holds_kept q (g (omega arith) (λ m a b. h m a (omega arith))) (h q (omega arith) (omega arith))

-- a consumer's turn in the sequence s comes at place p: the steps of lower places are others and need not come after it,
-- and what is before it stands at a lower place
record Turn (n : ℕ) (R : ℕ → ℕ → Bool) (s : List ℕ) (consumer p : ℕ) : Type 0 where
  place : p ≤ n
  other : (m : ℕ) → m < p → get_or s m 0 ≡ consumer → ⊥
  not_after : (m : ℕ) → m < p → Before n R consumer (get_or s m 0) → ⊥
  earlier : (m : ℕ) → m < n → Before n R (get_or s m 0) consumer → m < p

module _ {n : ℕ} {R : ℕ → ℕ → Bool} (pairs : Pairs n R) {s : List ℕ} (sequence : Sequence n R s) where
  -- the turn of a step comes at its own place
  step_turn : (p : ℕ) → p < n → Turn n R s (get_or s p 0) p
  step_turn p l = record {
    place = omega arith;
    other = λ m a e. omega (arith, sequence.each.once m p (omega arith) l e);
    not_after = λ m a b. omega (arith, before_kept pairs sequence p m l (omega arith) b);
    earlier = λ m a b. before_kept pairs sequence m p a l b;
  }

  -- the turn of the end comes behind all places
  end_turn : Turn n R s (suc n) n
  end_turn = record {
    place = omega arith;
    other = λ m a e. omega (arith, sequence.each.range m a);
    not_after = λ m a b. omega (arith, before_in pairs b);
    earlier = λ m a b. a;
  }

module _ (P : Plan) {R : ℕ → ℕ → Bool} (pairs : Pairs P.n R) {s : List ℕ} (sequence : Sequence P.n R s) where
  -- the fact of a good link holds when the consumer's turn comes
  good_holds : {consumer p : ℕ} → Turn P.n R s consumer p → (producer fact : ℕ)
      → Good P R (record { producer = producer; fact = fact; consumer = consumer }) → state P s p fact ≡ true
  unfolding state after
  good_holds {consumer} {p} turn producer fact good = go (ℕ_discrete producer 0)
    where
      -- no step of a lower place deletes the fact, if it is not before the producer
      safe : (m : ℕ) → m < p → (Before P.n R (get_or s m 0) producer → ⊥) → P.deletes (get_or s m 0) fact ≡ false
      safe m l nb =
          none_true _
          (λ d. good.safe (get_or s m 0) (record {
            step = omega (arith, turn.place, sequence.each.range m (omega (arith, turn.place)));
            deletes = d;
            other = turn.other m l;
            not_before = nb;
            not_after = turn.not_after m l;
          }))

      go : Dec (producer ≡ 0) → state P s p fact ≡ true
      go (yes z) = holds_on P s fact 0 (rw z at good.adds) p (omega arith) (λ m a l. safe m l (λ b. omega (arith, before_in pairs b)))
      go (no ne) =
          let u = sequence.each.uses producer (omega arith) (before_in pairs good.before).0 in
          let l : u.0 < p = turn.earlier u.0 u.1 (rw u.2 good.before) in
          holds_on P s fact (suc u.0) (holds_added P s fact u.0 (rw u.2 good.adds)) p l
          (λ m a b. safe m b (λ c. omega (arith, before_kept pairs sequence m u.0 (omega (arith, turn.place)) u.1 (rw u.2 c))))

-- where each need has a good link, every sequence of the order runs
pub linked_runs : {P : Plan} {R : ℕ → ℕ → Bool} → Pairs P.n R → Served P R → (s : List ℕ) → Sequence P.n R s → Runs P s
linked_runs {P} {R} pairs served s sequence = record { turn = λ p l. turn p (omega (arith, places)); goal = rw places goal }
  where
    places : length s ≡ P.n
    places = sequence.each.places

    turn : (p : ℕ) → p < P.n → CanRun P (get_or s p 0) (state P s p)
    turn p l f e =
        let r = sequence.each.range p l in
        let w = served (get_or s p 0) f r.0 (omega (arith, r)) e in
        good_holds P pairs sequence (step_turn pairs sequence p l) w.0 f w.1

    goal : CanRun P (suc P.n) (state P s P.n)
    goal f e = let w = served (suc P.n) f (omega arith) (omega arith) e in good_holds P pairs sequence (end_turn pairs sequence) w.0 f w.1
