-- The walk back and the pairs that are kept: what the walk finds and when it finds nothing, and that the relaxed pairs are
-- those that Kept names. Stands on the definitions only. Assumes nothing.
use Rattle.std.proofs.Common.{◌≡◌, refl, ap, ◌∙◌, Bool, true, false, cond, ◌&&◌, ◌||◌, ◌⊎◌, inl, inr, ◌↔◌, ℕ, zero, suc, ◌-◌, ◌≤◌, ◌<◌, arith, eqb, ltb, eq-eqb, eqb-true, lt-ltb, ltb-true}
use mathlib.Core.Option.{Option, none, some}
use native.Mathlib.Decide.{ℕ_discrete, dec_lt}
use Rattle.sets.specs.Test.{up_to, any}
use Rattle.sets.proofs.Bools.{and_left, and_right, and_both, or_cases, or_left, or_right, not_both}
use Rattle.sets.proofs.Sets.{up_to_in, in_up_to, any_both_at, at_any_both}
use Rattle.model.specs.Plan.{Plan, Framed}
use Rattle.model.specs.Order.{Pairs}
use Rattle.model.specs.Relax.{walk_back, found, Earliest, Lost, Kept, link, earlier, later, NeedsBelow, finds, kept_link, kept_earlier, kept_later, relaxed}

-- ---- what the walk finds

module _ (P : Plan) (fact : ℕ) where
  -- what no step from p up to k deletes, and k does not, no step from p up to k + 1 deletes
  pub kept_more : (p k : ℕ) → ((d : ℕ) → p < d → d < k → P.deletes d fact ≡ false) → P.deletes k fact ≡ false
      → (d : ℕ) → p < d → d < suc k → P.deletes d fact ≡ false
  kept_more p k h e d l m = go (ℕ_discrete d k)
    where
      go : Dec (d ≡ k) → P.deletes d fact ≡ false
      go (yes z) = rw z e
      go (no ne) = h d l (omega arith)

  -- each step before k that adds the fact has a deleter of it after it, k at the latest
  abbrev Covered : ℕ → Type 0
  Covered k = (q : ℕ) → q < k → P.adds q fact ≡ true → (d : ℕ) × (q < d) × (d ≤ k) × (P.deletes d fact ≡ true)

  -- what a walk for a consumer ends with: the earliest step that adds the fact, or what it began with where the fact is lost
  abbrev Ends : ℕ → Option ℕ → Option ℕ → Type 0
  Ends consumer producer r = ((p : ℕ) × (r ≡ some p) × Earliest P consumer fact p) ⊎ ((r ≡ producer) × Lost P consumer fact)

  -- where no step before k will do, a walk that looks at k last ends so
  ends_here : (k : ℕ) (producer : Option ℕ) → Covered k → (a : Bool) → P.adds k fact ≡ a
      → (r : Option ℕ) → r ≡ cond a (some k) producer → Ends (suc k) producer r
  ends_here k producer h true e r f =
      inl (k, f, record { before = omega arith; adds = e; kept = λ d l m. absurd (omega arith); earliest = h })
  ends_here k producer h false e r f = inr (f, λ q l m. go q l m (ℕ_discrete q k))
    where
      go : (q : ℕ) → q < suc k → P.adds q fact ≡ true → Dec (q ≡ k) → (d : ℕ) × (q < d) × (d < suc k) × (P.deletes d fact ≡ true)
      go q l m (yes z) = absurd (not_both m (rw z e))
      go q l m (no ne) = let w = h q (omega arith) m in (w.0, w.1, omega (arith, w.2), w.3)

  -- a walk that goes on over a step that does not delete the fact ends so if the rest of it does
  ends_further : (k : ℕ) (producer : Option ℕ) → P.deletes (suc k) fact ≡ false
      → (r : Option ℕ) → Ends (suc k) (cond (P.adds (suc k) fact) (some (suc k)) producer) r → Ends (suc (suc k)) producer r
  ends_further k producer g r (inl (p, f, w)) =
      inl (p, f, record { before = omega (arith, w.before); adds = w.adds; kept = kept_more p (suc k) w.kept g; earliest = w.earliest })
  ends_further k producer g r (inr (f, h)) =
      ends_here (suc k) producer (λ q l m. let w = h q l m in (w.0, w.1, omega (arith, w.2), w.3)) (P.adds (suc k) fact) refl r f

  -- each walk ends so
  walk_ends : (k : ℕ) (producer : Option ℕ) → Ends (suc k) producer (walk_back P fact k producer)
  unfolding walk_back
  walk_ends zero producer = ends_here zero producer (λ q l m. absurd (omega arith)) (P.adds zero fact) refl (walk_back P fact zero producer) refl
  walk_ends (suc k) producer = go (P.deletes (suc k) fact) refl (walk_ends k so_far)
    where
      so_far : Option ℕ
      so_far = cond (P.adds (suc k) fact) (some (suc k)) producer

      go : (b : Bool) → P.deletes (suc k) fact ≡ b → Ends (suc k) so_far (walk_back P fact k so_far)
          → Ends (suc (suc k)) producer (cond b so_far (walk_back P fact k so_far))
      go true g h = ends_here (suc k) producer (λ q l m. (suc k, l, omega arith, g)) (P.adds (suc k) fact) refl so_far refl
      go false g h = ends_further k producer g (walk_back P fact k so_far) h

-- a fact that has an earliest producer is not lost
earliest_kept : {P : Plan} {consumer fact p : ℕ} → Earliest P consumer fact p → Lost P consumer fact → ⊥
earliest_kept {p} w h = let v = h p w.before w.adds in not_both v.3 (w.kept v.0 v.1 v.2)

-- there is no earlier producer than the earliest
earliest_none : {P : Plan} {consumer fact p q : ℕ} → Earliest P consumer fact p → Earliest P consumer fact q → q < p → ⊥
earliest_none {q} w v l =
    let u = w.earliest q l v.adds in
    not_both u.3 (v.kept u.0 u.1 (omega (arith, w.before, u.2)))

-- there is one earliest producer only
earliest_one : {P : Plan} {consumer fact p q : ℕ} → Earliest P consumer fact p → Earliest P consumer fact q → p ≡ q
earliest_one {p} {q} w v = go (dec_lt p q) (dec_lt q p)
  where
    go : Dec (p < q) → Dec (q < p) → p ≡ q
    go (yes h) d = absurd (earliest_none v w h)
    go (no g) (yes h) = absurd (earliest_none w v h)
    go (no g) (no h) = omega arith

module _ (P : Plan) (consumer fact : ℕ) (first : 1 ≤ consumer) where
  -- a consumer finds the earliest producer, or nothing where the fact is lost
  found_ends : Ends P fact consumer none (found P consumer fact)
  unfolding found
  found_ends = let z : suc (consumer - 1) ≡ consumer = omega arith in rw z at (walk_ends P fact (consumer - 1) none)

  -- the walk finds p exactly if p is the earliest producer
  pub walk_finds : (p : ℕ) → (found P consumer fact ≡ some p) ↔ Earliest P consumer fact p
  walk_finds p = go found_ends
    where
      go : Ends P fact consumer none (found P consumer fact) → (found P consumer fact ≡ some p) ↔ Earliest P consumer fact p
      go (inl (q, e, w)) = ((λ f. let z : q ≡ p = cc in rw z at w), λ v. e ∙ ap some (earliest_one w v))
      go (inr (e, h)) = ((λ f. let z : ◌≡◌ {A = ℕ} 0 1 = cc in absurd (omega arith)), λ v. absurd (earliest_kept v h))

  -- the walk finds nothing exactly if the fact is lost
  pub found_none : (found P consumer fact ≡ none) ↔ Lost P consumer fact
  found_none = go found_ends
    where
      go : Ends P fact consumer none (found P consumer fact) → (found P consumer fact ≡ none) ↔ Lost P consumer fact
      go (inl (q, e, w)) = ((λ f. let z : ◌≡◌ {A = ℕ} 0 1 = cc in absurd (omega arith)), λ h. absurd (earliest_kept w h))
      go (inr (e, h)) = ((λ f. h), λ v. e)

-- ---- the pairs that are kept

-- each pair that is kept goes up
pub kept_up : {P : Plan} {i j : ℕ} → Kept P i j → i < j
kept_up {P} {i} {j} (link fact a b e f) = ((walk_finds P j fact a i).0 f).before
kept_up (earlier consumer fact a b e f g l) = l
kept_up (later fact a b e f l) = l

-- the test of finding is finding
pub finds_is : (P : Plan) (consumer fact p : ℕ) → (finds P consumer fact p ≡ true) ↔ (found P consumer fact ≡ some p)
unfolding finds
finds_is P consumer fact p = (to (found P consumer fact), λ e. rw (e, finds) (eq-eqb p p refl))
  where
    to : (r : Option ℕ) → elim r as (λ x. Bool) [ none ↦ false | some q ↦ eqb q p ] ≡ true → r ≡ some p
    to none e = absurd (not_both e refl)
    to (some q) e = ap some (eqb-true q p e)

-- what needs a fact is not the start
not_start : {P : Plan} {consumer fact : ℕ} → Framed P → P.needs consumer fact ≡ true → 1 ≤ consumer
not_start {consumer = zero} {fact} framed e = absurd (not_both e (framed.start_needs fact))
not_start {consumer = suc k} framed e = omega arith

-- a consumer needs the fact and finds p for it
abbrev served_by : Plan → ℕ → ℕ → ℕ → Bool
served_by P p fact consumer = P.needs consumer fact && finds P consumer fact p

module _ (P : Plan) (F i j : ℕ) where
  -- one of the three tests accepts the pair
  abbrev Accepted : Type 0
  Accepted = (kept_link P F i j ≡ true) ⊎ ((kept_earlier P F i j ≡ true) ⊎ (kept_later P F i j ≡ true))

  -- a relaxed pair is of two steps of 1 to n, and one of the three tests accepts it
  relaxed_cases : relaxed P F i j ≡ true
      → (1 ≤ i) × (i ≤ P.n) × (1 ≤ j) × (j ≤ P.n) × Accepted
  unfolding relaxed
  relaxed_cases e =
      let both : up_to P.n i && up_to P.n j ≡ true = and_left (up_to P.n i && up_to P.n j) _ e in
      let a = up_to_in P.n i (and_left (up_to P.n i) _ both) in
      let b = up_to_in P.n j (and_right (up_to P.n i) _ both) in
      (a.0, a.1, b.0, b.1, causes (or_cases (kept_link P F i j) _ (and_right (up_to P.n i && up_to P.n j) _ e)))
    where
      causes : (kept_link P F i j ≡ true) ⊎ (kept_earlier P F i j || kept_later P F i j ≡ true)
          → Accepted
      causes (inl h) = inl h
      causes (inr h) = inr (or_cases (kept_earlier P F i j) _ h)

  -- two steps of 1 to n that one of the three tests accepts are a relaxed pair
  cases_relaxed : 1 ≤ i → i ≤ P.n → 1 ≤ j → j ≤ P.n → kept_link P F i j || (kept_earlier P F i j || kept_later P F i j) ≡ true
      → relaxed P F i j ≡ true
  unfolding relaxed
  cases_relaxed a b c d e =
      and_both (up_to P.n i && up_to P.n j) _ (and_both (up_to P.n i) _ (in_up_to P.n i a b) (in_up_to P.n j c d)) e

  -- what the test of links accepts is the producer of a need
  link_cause : kept_link P F i j ≡ true → (fact : ℕ) × (P.needs j fact ≡ true) × (found P j fact ≡ some i)
  unfolding kept_link
  link_cause e =
      let w = any_both_at (P.needs j) (λ fact. finds P j fact i) F e in
      (w.0, w.2, (finds_is P j w.0 i).0 w.3)

  -- what the test of earlier deleters accepts is kept for a cause
  earlier_cause : Framed P → kept_earlier P F i j ≡ true → Kept P i j
  unfolding kept_earlier
  earlier_cause framed e =
      let w = any_both_at (P.deletes i) (λ fact. any (served_by P j fact) (suc (suc P.n))) F (and_right (ltb i j) _ e) in
      let fact = w.0 in
      let v = any_both_at (λ consumer. P.needs consumer fact) (λ consumer. finds P consumer fact j) (suc (suc P.n)) w.3 in
      let f = (finds_is P v.0 fact j).0 v.3 in
      earlier v.0 fact (not_start framed v.2) (omega (arith, v.1)) v.2 f w.2 (ltb-true i j (and_left (ltb i j) _ e))

  -- what the test of later deleters accepts is kept for a cause
  later_cause : 1 ≤ i → i ≤ P.n → kept_later P F i j ≡ true → Kept P i j
  unfolding kept_later
  later_cause a b e =
      let w = any_both_at (P.needs i) (P.deletes j) F (and_right (ltb i j) _ e) in
      later w.0 a (omega arith) w.2 w.3 (ltb-true i j (and_left (ltb i j) _ e))

  -- the producer of a need passes the test of links
  cause_link : (fact : ℕ) → fact < F → P.needs j fact ≡ true → found P j fact ≡ some i → kept_link P F i j ≡ true
  unfolding kept_link
  cause_link fact b e f = at_any_both (P.needs j) (λ fact. finds P j fact i) F fact b e ((finds_is P j fact i).1 f)

  -- a deleter that is earlier than a producer passes the test of earlier deleters
  cause_earlier : (consumer fact : ℕ) → consumer ≤ suc P.n → fact < F → P.needs consumer fact ≡ true → found P consumer fact ≡ some j
      → P.deletes i fact ≡ true → i < j → kept_earlier P F i j ≡ true
  unfolding kept_earlier
  cause_earlier consumer fact a b e f g l =
      let h = at_any_both (λ c. P.needs c fact) (λ c. finds P c fact j) (suc (suc P.n)) consumer (omega arith) e ((finds_is P consumer fact j).1 f) in
      and_both (ltb i j) _ (lt-ltb i j l) (at_any_both (P.deletes i) (λ fact. any (served_by P j fact) (suc (suc P.n))) F fact b g h)

  -- a deleter that is later than a consumer passes the test of later deleters
  cause_later : (fact : ℕ) → fact < F → P.needs i fact ≡ true → P.deletes j fact ≡ true → i < j → kept_later P F i j ≡ true
  unfolding kept_later
  cause_later fact b e f l = and_both (ltb i j) _ (lt-ltb i j l) (at_any_both (P.needs i) (P.deletes j) F fact b e f)

  -- a relaxed pair is kept for a cause
  relaxed_cause : Framed P → relaxed P F i j ≡ true → (1 ≤ i) × (i ≤ P.n) × (1 ≤ j) × (j ≤ P.n) × Kept P i j
  relaxed_cause framed e = let w = relaxed_cases e in (w.0, w.1, w.2, w.3, go w.0 w.1 w.2 w.3 w.4)
    where
      go : 1 ≤ i → i ≤ P.n → 1 ≤ j → j ≤ P.n → Accepted → Kept P i j
      go a b c d (inl h) = let w = link_cause h in link w.0 c (omega arith) w.1 w.2
      go a b c d (inr (inl h)) = earlier_cause framed h
      go a b c d (inr (inr h)) = later_cause a b h

  -- a pair of the steps 1 to n that is kept for a cause is relaxed
  cause_relaxed : NeedsBelow F P → 1 ≤ i → i ≤ P.n → 1 ≤ j → j ≤ P.n → Kept P i j → relaxed P F i j ≡ true
  cause_relaxed below a b c d w = cases_relaxed a b c d (go w)
    where
      go : Kept P i j → kept_link P F i j || (kept_earlier P F i j || kept_later P F i j) ≡ true
      go (link fact x y e f) = or_left (kept_link P F i j) _ (cause_link fact (below j fact e) e f)
      go (earlier consumer fact x y e f g l) =
          or_right (kept_link P F i j) _ (or_left (kept_earlier P F i j) _ (cause_earlier consumer fact y (below consumer fact e) e f g l))
      go (later fact x y e f l) = or_right (kept_link P F i j) _ (or_right (kept_earlier P F i j) _ (cause_later fact (below i fact e) e f l))

  -- the relaxed pairs are those of the steps 1 to n that are kept for a cause
  pub relaxed_kept : Framed P → NeedsBelow F P → (relaxed P F i j ≡ true) ↔ ((1 ≤ i) × (i ≤ P.n) × (1 ≤ j) × (j ≤ P.n) × Kept P i j)
  relaxed_kept framed below = (relaxed_cause framed, λ w. cause_relaxed below w.0 w.1 w.2 w.3 w.4)

  -- a relaxed pair goes up
  pub relaxed_up : relaxed P F i j ≡ true → i < j
  unfolding kept_earlier kept_later
  relaxed_up e = let w = relaxed_cases e in go w.2 w.4
    where
      go : 1 ≤ j → Accepted → i < j
      go c (inl h) = let w = link_cause h in ((walk_finds P j w.0 c i).0 w.2).before
      go c (inr (inl h)) = ltb-true i j (and_left (ltb i j) _ h)
      go c (inr (inr h)) = ltb-true i j (and_left (ltb i j) _ h)

-- the relaxed pairs are of the steps 1 to n
pub relaxed_pairs : (P : Plan) (F : ℕ) → Pairs P.n (relaxed P F)
relaxed_pairs P F i j e = let w = relaxed_cases P F i j e in (w.0, w.1, w.2, w.3)
