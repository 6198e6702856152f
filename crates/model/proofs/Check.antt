-- The tests of specs/Check.antt over the closed pairs of an order: each is what it is named after, both ways round.
-- Stands on Before and Closure. Assumes nothing.
use Rattle.std.proofs.Common.{◌≡◌, Bool, true, not, ◌&&◌, ◌||◌, ◌⊎◌, inl, inr, ◌↔◌, ℕ, suc, ◌≤◌, ◌<◌, arith, eqb, leb, eq-eqb, ne_eqb, eqb-true, lt-ltb, ltb-true, le-leb, leb-true}
use native.Mathlib.Decide.{ℕ_discrete}
use borrow.Author.Tests.{eqb-false}
use Rattle.sets.proofs.Bools.{and_left, and_right, and_both, or_cases, or_left, or_right, not_both, none_true, not_is, is_not}
use Rattle.sets.proofs.Least.{least_at, least_below, least_none}
use Rattle.model.specs.Plan.{Plan}
use Rattle.model.specs.Order.{Before, start, end, Pairs}
use Rattle.model.specs.Closure.{closed}
use Rattle.model.specs.Link.{Link, Threat, Good}
use Rattle.model.specs.Check.{is_before, threatens, lowest_threat, is_good}
use Rattle.model.proofs.Before.{chain_before, before_in}
use Rattle.model.proofs.Closure.{closed_chain, closed_before}

module _ {n : ℕ} {R : ℕ → ℕ → Bool} (pairs : Pairs n R) where
  -- what the test of before accepts is before
  test_before : (i j : ℕ) → is_before n (closed n R) i j ≡ true → Before n R i j
  unfolding is_before
  test_before i j e = first (or_cases (eqb i 0 && (leb 1 j && leb j (suc n))) _ e)
    where
      second : (leb i n && eqb j (suc n) ≡ true) ⊎ (closed n R i j ≡ true) → Before n R i j
      second (inl h) = end (leb-true i n (and_left (leb i n) _ h)) (eqb-true j (suc n) (and_right (leb i n) _ h))
      second (inr h) = chain_before (closed_chain n h)

      first : (eqb i 0 && (leb 1 j && leb j (suc n)) ≡ true) ⊎ ((leb i n && eqb j (suc n)) || closed n R i j ≡ true) → Before n R i j
      first (inl h) =
          let k = and_right (eqb i 0) _ h in
          start (eqb-true i 0 (and_left (eqb i 0) _ h)) (leb-true 1 j (and_left (leb 1 j) _ k)) (leb-true j (suc n) (and_right (leb 1 j) _ k))
      first (inr h) = second (or_cases (leb i n && eqb j (suc n)) _ h)

  -- what is before the test accepts
  before_test : (i j : ℕ) → Before n R i j → is_before n (closed n R) i j ≡ true
  unfolding is_before
  before_test i j w = go (ℕ_discrete i 0) (ℕ_discrete j (suc n))
    where
      r : (i ≤ n) × (1 ≤ j) × (j ≤ suc n)
      r = before_in pairs w

      go : Dec (i ≡ 0) → Dec (j ≡ suc n) → is_before n (closed n R) i j ≡ true
      go (yes z) d =
          or_left (eqb i 0 && (leb 1 j && leb j (suc n))) _
          (and_both (eqb i 0) _ (eq-eqb i 0 z) (and_both (leb 1 j) _ (le-leb 1 j r.1) (le-leb j (suc n) r.2)))
      go (no ne) (yes z) =
          or_right (eqb i 0 && (leb 1 j && leb j (suc n))) _
          (or_left (leb i n && eqb j (suc n)) _ (and_both (leb i n) _ (le-leb i n r.0) (eq-eqb j (suc n) z)))
      go (no ne) (no me) =
          or_right (eqb i 0 && (leb 1 j && leb j (suc n))) _
          (or_right (leb i n && eqb j (suc n)) _ ((closed_before pairs i j (omega arith) r.0 r.1 (omega (arith, r))).1 w))

  -- the test of before is before
  pub before_is : (i j : ℕ) → (is_before n (closed n R) i j ≡ true) ↔ Before n R i j
  before_is i j = (test_before i j, before_test i j)

  -- what the test of before refuses is not before, and back
  before_not : (i j : ℕ) → (not (is_before n (closed n R) i j) ≡ true) ↔ (Before n R i j → ⊥)
  before_not i j = ((λ e w. not_both (before_test i j w) (is_not _ e)), λ h. not_is _ (none_true _ (λ e. h (test_before i j e))))

module _ (P : Plan) {R : ℕ → ℕ → Bool} (pairs : Pairs P.n R) (link : Link) where
  -- the closed pairs
  abbrev C : ℕ → ℕ → Bool
  C = closed P.n R

  -- what threatens a link the test accepts
  threat_test : (t : ℕ) → Threat P R link t → threatens P C link t ≡ true
  unfolding threatens
  threat_test t w =
      and_both (P.deletes t link.fact && not (eqb t link.consumer)) _
      (and_both (P.deletes t link.fact) _ w.deletes (not_is _ (ne_eqb t link.consumer w.other)))
      (and_both (not (is_before P.n C t link.producer)) _ ((before_not pairs t link.producer).1 w.not_before)
      ((before_not pairs link.consumer t).1 w.not_after))

  -- the step that the test accepts threatens the link
  test_threat : (t : ℕ) → t ≤ suc P.n → threatens P C link t ≡ true → Threat P R link t
  unfolding threatens
  test_threat t l e = record {
    step = l;
    deletes = and_left (P.deletes t link.fact) _ first;
    other = eqb-false t link.consumer (is_not _ (and_right (P.deletes t link.fact) _ first));
    not_before = (before_not pairs t link.producer).0 (and_left (not (is_before P.n C t link.producer)) _ second);
    not_after = (before_not pairs link.consumer t).0 (and_right (not (is_before P.n C t link.producer)) _ second);
  }
    where
      first : P.deletes t link.fact && not (eqb t link.consumer) ≡ true
      first = and_left (P.deletes t link.fact && not (eqb t link.consumer)) _ e

      second : not (is_before P.n C t link.producer) && not (is_before P.n C link.consumer t) ≡ true
      second = and_right (P.deletes t link.fact && not (eqb t link.consumer)) _ e

  -- the test of threats is Threat
  pub threat_is : (t : ℕ) → t ≤ suc P.n → (threatens P C link t ≡ true) ↔ Threat P R link t
  threat_is t l = (test_threat t l, threat_test t)

  -- a lowest threat that is a step is a threat, and no lower step is one
  pub lowest_threat_lem : lowest_threat P C link ≤ suc P.n
      → Threat P R link (lowest_threat P C link) × ((t : ℕ) → t < lowest_threat P C link → Threat P R link t → ⊥)
  unfolding lowest_threat
  lowest_threat_lem l = (
    test_threat _ l (least_at (threatens P C link) (suc (suc P.n)) (omega arith)),
    λ t h w. not_both (threat_test t w) (least_below (threatens P C link) (suc (suc P.n)) t h),
  )

  -- where the lowest threat is no step there is no threat, and back
  pub threat_none : (suc P.n < lowest_threat P C link) ↔ ((t : ℕ) → Threat P R link t → ⊥)
  unfolding lowest_threat
  threat_none = (none_below, none_at)
    where
      none_below : suc P.n < lowest_threat P C link → (t : ℕ) → Threat P R link t → ⊥
      none_below l t w = not_both (threat_test t w) (least_below (threatens P C link) (suc (suc P.n)) t (omega (arith, w.step)))

      none_at : ((t : ℕ) → Threat P R link t → ⊥) → suc P.n < lowest_threat P C link
      none_at h =
          omega (arith, least_none (threatens P C link) (suc (suc P.n)) (λ t l. none_true _ (λ e. h t (test_threat t (omega arith) e))))

  -- the test of a good link is Good
  pub good_is : (is_good P C link ≡ true) ↔ Good P R link
  unfolding is_good
  good_is = (to, from)
    where
      to : is_good P C link ≡ true → Good P R link
      to e =
          let rest = and_right (P.adds link.producer link.fact) _ e in
          record {
            adds = and_left (P.adds link.producer link.fact) _ e;
            before = test_before pairs link.producer link.consumer (and_left (is_before P.n C link.producer link.consumer) _ rest);
            safe = threat_none.0 (ltb-true (suc P.n) _ (and_right (is_before P.n C link.producer link.consumer) _ rest));
          }

      from : Good P R link → is_good P C link ≡ true
      from w =
          and_both (P.adds link.producer link.fact) _ w.adds
          (and_both (is_before P.n C link.producer link.consumer) _ (before_test pairs link.producer link.consumer w.before)
          (lt-ltb (suc P.n) _ (threat_none.1 w.safe)))
