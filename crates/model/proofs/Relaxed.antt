-- The relaxed order: 1 to n is a sequence of it, so it is no cycle, and where 1 to n runs each need has the link that the
-- walk finds, and that link is good. Stands on Before and Relaxing. Assumes nothing.
use Rattle.std.proofs.Common.{◌≡◌, refl, ap, ◌∙◌, true, false, not, ◌&&◌, ◌⊎◌, inl, inr, ℕ, zero, suc, ◌+◌, ◌-◌, ◌≤◌, ◌<◌, arith, length, get_or}
use mathlib.Core.Option
use mathlib.Core.Option.{Option, none, some}
use native.Mathlib.Decide.{ℕ_discrete, dec_lt}
use Rattle.sets.proofs.Bools.{and_left, and_right, or_cases, not_both, is_not}
use Rattle.model.specs.Plan.{Plan, Framed, Apart}
use Rattle.model.specs.Run.{after, state, Runs}
use Rattle.model.specs.Order.{Before, given, start, end, Cycle}
use Rattle.model.specs.Link.{Threat, Good, Served}
use Rattle.model.specs.Sequence.{EachOnce, Sequence}
use Rattle.model.specs.Relax.{found, producer_of, Earliest, Kept, link, earlier, later, NeedsBelow, relaxed, numbers_from, line}
use Rattle.model.proofs.Before.{cycle_none}
use Rattle.model.proofs.Relaxing.{kept_more, walk_finds, found_none, relaxed_up, relaxed_pairs, relaxed_kept}

-- ---- the sequence 1 to n

-- the numbers from i on are as many as asked for
numbers_length : (k i : ℕ) → length (numbers_from i k) ≡ k
unfolding numbers_from
numbers_length zero i = refl
numbers_length (suc k) i = ap suc (numbers_length k (suc i))

-- i + p stands at place p of the numbers from i on
numbers_at : (k i p : ℕ) → p < k → get_or (numbers_from i k) p 0 ≡ i + p
unfolding numbers_from
numbers_at zero i p l = absurd (omega arith)
numbers_at (suc k) i zero l = omega arith
numbers_at (suc k) i (suc p) l = numbers_at k (suc i) p (omega arith) ∙ omega arith

module _ (n : ℕ) where
  -- the sequence 1 to n has n places
  pub line_length : length (line n) ≡ n
  unfolding line
  line_length = numbers_length n 1

  -- p + 1 stands at place p of it
  pub line_at : (p : ℕ) → p < n → get_or (line n) p 0 ≡ suc p
  unfolding line
  line_at p l = numbers_at n 1 p l ∙ omega arith

  -- each step of 1 to n stands at exactly one place of it
  pub line_each : EachOnce n (line n)
  line_each = record {
    places = line_length;
    range = λ p l. let e = line_at p l in (omega arith, omega arith);
    uses = λ i a b. let z : suc (i - 1) ≡ i = omega arith in (i - 1, omega arith, line_at (i - 1) (omega arith) ∙ z);
    once = λ p q a b e. omega (arith, line_at p a, line_at q b);
  }

module _ (P : Plan) (F : ℕ) where
  -- the sequence 1 to n is one of the relaxed order
  pub line_is_sequence : Sequence P.n (relaxed P F) (line P.n)
  line_is_sequence = record { each = line_each P.n; keeps = λ p q a b e. keeps p q (omega (arith, places)) (omega (arith, places)) e }
    where
      places : length (line P.n) ≡ P.n
      places = line_length P.n

      keeps : (p q : ℕ) → p < P.n → q < P.n → relaxed P F (get_or (line P.n) p 0) (get_or (line P.n) q 0) ≡ true → p < q
      keeps p q a b e = omega (arith, line_at P.n p a, line_at P.n q b, relaxed_up P F _ _ e)

  -- so the relaxed order is no cycle
  pub relaxed_no_cycle : Cycle P.n (relaxed P F) → ⊥
  relaxed_no_cycle = cycle_none (relaxed_pairs P F) line_is_sequence

-- ---- where it runs, each need has a producer

-- some step before the consumer adds the fact, and none from there to the consumer deletes it
abbrev Brought : Plan → ℕ → ℕ → Type 0
Brought P consumer fact =
    (q : ℕ) × (q < consumer) × (P.adds q fact ≡ true) × ((d : ℕ) → q < d → d < consumer → P.deletes d fact ≡ false)

-- a fact that holds when the steps 1 to m have run was brought for the step after them
holds_brought : (P : Plan) (fact m : ℕ) → m ≤ P.n → state P (line P.n) m fact ≡ true → Brought P (suc m) fact
unfolding state after
holds_brought P fact zero l e = (0, omega arith, e, λ d a b. absurd (omega arith))
holds_brought P fact (suc m) l e =
    go (or_cases (state P (line P.n) m fact && not (P.deletes (suc m) fact)) _ (rw (line_at P.n m) at e)) (holds_brought P fact m (omega arith))
  where
    go : (state P (line P.n) m fact && not (P.deletes (suc m) fact) ≡ true) ⊎ (P.adds (suc m) fact ≡ true)
        → (state P (line P.n) m fact ≡ true → Brought P (suc m) fact) → Brought P (suc (suc m)) fact
    go (inl h) f =
        let w = f (and_left (state P (line P.n) m fact) _ h) in
        let kept = is_not _ (and_right (state P (line P.n) m fact) _ h) in
        (w.0, omega (arith, w.1), w.2, kept_more P fact w.0 (suc m) w.3 kept)
    go (inr h) f = (suc m, omega arith, h, λ d a b. absurd (omega arith))

module _ {P : Plan} (runs : Runs P (line P.n)) where
  -- each need holds when the steps before the consumer have run
  need_holds : (m fact : ℕ) → m ≤ P.n → P.needs (suc m) fact ≡ true → state P (line P.n) m fact ≡ true
  need_holds m fact l e = go (ℕ_discrete m P.n)
    where
      places : length (line P.n) ≡ P.n
      places = line_length P.n

      go : Dec (m ≡ P.n) → state P (line P.n) m fact ≡ true
      go (yes z) = rw z (rw places at (runs.goal fact (rw z at e)))
      go (no ne) = runs.turn m (omega (arith, places)) fact (rw (line_at P.n m (omega arith)) e)

  -- where 1 to n runs, the walk finds a producer for each need
  pub found_runs : (consumer fact : ℕ) → 1 ≤ consumer → consumer ≤ suc P.n → P.needs consumer fact ≡ true
      → found P consumer fact ≡ some (producer_of P consumer fact)
  unfolding producer_of
  found_runs zero fact a b e = absurd (omega arith)
  found_runs (suc m) fact a b e = go (found P (suc m) fact) refl
    where
      go : (r : Option ℕ) → found P (suc m) fact ≡ r → r ≡ some (Option.get_or r 0)
      go none f =
          let w = holds_brought P fact m (omega arith) (need_holds m fact (omega arith) e) in
          let v = (found_none P (suc m) fact a).0 f w.0 w.1 w.2 in
          absurd (not_both v.3 (w.3 v.0 v.1 v.2))
      go (some p) f = refl

-- ---- the links are good

module _ {P : Plan} {F : ℕ} (framed : Framed P) (apart : Apart P) (below : NeedsBelow F P) where
  -- a kept pair of the steps 1 to n is before in the relaxed order
  kept_before : (i j : ℕ) → 1 ≤ i → i ≤ P.n → 1 ≤ j → j ≤ P.n → Kept P i j → Before P.n (relaxed P F) i j
  kept_before i j a b c d w = given ((relaxed_kept P F i j framed below).1 (a, b, c, d, w))

  -- a step that deletes a fact is neither the start nor the end
  deletes_inside : (t fact : ℕ) → t ≤ suc P.n → P.deletes t fact ≡ true → (1 ≤ t) × (t ≤ P.n)
  deletes_inside t fact l e = go (ℕ_discrete t 0) (ℕ_discrete t (suc P.n))
    where
      go : Dec (t ≡ 0) → Dec (t ≡ suc P.n) → (1 ≤ t) × (t ≤ P.n)
      go (yes z) d = absurd (not_both e (rw z (framed.start_deletes fact)))
      go (no ne) (yes z) = absurd (not_both e (rw z (framed.end_deletes fact)))
      go (no ne) (no me) = (omega arith, omega arith)

  -- the link that the walk finds for a need is good in the relaxed order
  pub found_good : (producer fact consumer : ℕ) → 1 ≤ consumer → consumer ≤ suc P.n → P.needs consumer fact ≡ true
      → found P consumer fact ≡ some producer → Good P (relaxed P F) (record { producer = producer; fact = fact; consumer = consumer })
  found_good producer fact consumer a b e f = record {
    adds = w.adds;
    before = before (ℕ_discrete producer 0) (ℕ_discrete consumer (suc P.n));
    safe = λ t h. safe t h (dec_lt t producer) (dec_lt consumer t);
  }
    where
      w : Earliest P consumer fact producer
      w = (walk_finds P consumer fact a producer).0 f

      before : Dec (producer ≡ 0) → Dec (consumer ≡ suc P.n) → Before P.n (relaxed P F) producer consumer
      before (yes z) d = start z a b
      before (no ne) (yes z) = end {i = producer} (omega (arith, w.before)) z
      before (no ne) (no me) = kept_before producer consumer (omega arith) (omega (arith, w.before)) a (omega arith) (link fact a b e f)

      between : (t : ℕ) → producer ≤ t → t ≤ consumer → P.deletes t fact ≡ true → (t ≡ consumer → ⊥) → ⊥
      between t l m d ne = go (ℕ_discrete t producer)
        where
          go : Dec (t ≡ producer) → ⊥
          go (yes z) = not_both d (rw z (apart producer fact w.adds))
          go (no me) = not_both d (w.kept t (omega arith) (omega arith))

      safe : (t : ℕ) → Threat P (relaxed P F) (record { producer = producer; fact = fact; consumer = consumer }) t
          → Dec (t < producer) → Dec (consumer < t) → ⊥
      safe t h (yes l) d =
          let r = deletes_inside t fact h.step h.deletes in
          h.not_before (kept_before t producer r.0 r.1 (omega arith) (omega (arith, w.before)) (earlier consumer fact a b e f h.deletes l))
      safe t h (no g) (yes l) =
          let r = deletes_inside t fact h.step h.deletes in
          h.not_after (kept_before consumer t a (omega (arith, r.1)) r.0 r.1 (later fact a b e h.deletes l))
      safe t h (no g) (no l) = between t (omega arith) (omega arith) h.deletes h.other

  module _ (runs : Runs P (line P.n)) where
    -- where 1 to n runs, the link of each need is good in the relaxed order
    pub relaxed_good : (consumer fact : ℕ) → 1 ≤ consumer → consumer ≤ suc P.n → P.needs consumer fact ≡ true
        → Good P (relaxed P F) (record { producer = producer_of P consumer fact; fact = fact; consumer = consumer })
    relaxed_good consumer fact a b e = found_good (producer_of P consumer fact) fact consumer a b e (found_runs runs consumer fact a b e)

    -- so each need is served in the relaxed order
    pub relaxed_served : Served P (relaxed P F)
    relaxed_served consumer fact a b e = (producer_of P consumer fact, relaxed_good consumer fact a b e)
