-- Renumbering the facts changes neither what the walk finds nor the relaxed pairs.
-- Stands on the definitions only. Assumes nothing.
use Rattle.std.proofs.Common.{◌≡◌, refl, sym, ap, ap₂, ◌∙◌, Bool, true, cond, ◌&&◌, ℕ, zero, suc, ◌-◌, ◌<◌, arith, eqb, ltb, eq-eqb, ne_eqb}
use mathlib.Core.Path.{fun_ext}
use mathlib.Core.Option.{Option, none, some}
use native.Mathlib.Decide.{ℕ_discrete}
use Rattle.sets.specs.Test.{any}
use Rattle.sets.proofs.Bools.{same_test}
use Rattle.sets.proofs.Sets.{any_at, at_any}
use Rattle.model.specs.Plan.{Plan}
use Rattle.model.specs.Relax.{walk_back, found, finds, kept_link, kept_earlier, kept_later, relaxed}
use Rattle.model.specs.Renumber.{OneToOne, Renumbered}

-- ---- a one-to-one map of the numbers below F meets each of them

-- the map with F left out: the fact that had the number F gets the number that F had
skip : ℕ → (ℕ → ℕ) → ℕ → ℕ
skip F to fact = cond (eqb (to fact) F) (to F) (to fact)

-- what the fact with the number F gets
skip_hit : (F : ℕ) (to : ℕ → ℕ) (fact : ℕ) → to fact ≡ F → skip F to fact ≡ to F
unfolding skip
skip_hit F to fact e = rw (eq-eqb (to fact) F e) refl

-- every other fact keeps its number
skip_other : (F : ℕ) (to : ℕ → ℕ) (fact : ℕ) → (to fact ≡ F → ⊥) → skip F to fact ≡ to fact
unfolding skip
skip_other F to fact ne = rw (ne_eqb (to fact) F ne) refl

-- the map with F left out is one-to-one too
skip_once : (F : ℕ) (to : ℕ → ℕ) → OneToOne (suc F) to → OneToOne F (skip F to)
skip_once F to w = record {
  below = λ f l. below f l (ℕ_discrete (to f) F);
  once = λ f g a b e. once f g a b e (ℕ_discrete (to f) F) (ℕ_discrete (to g) F);
}
  where
    apart : (f : ℕ) → f < F → to f ≡ to F → ⊥
    apart f l e = omega (arith, w.once f F (omega arith) (omega arith) e)

    below : (f : ℕ) → f < F → Dec (to f ≡ F) → skip F to f < F
    below f l (yes z) =
        let ne : to F ≡ F → ⊥ = λ e. apart f l (z ∙ sym e) in
        omega (arith, skip_hit F to f z, w.below F (omega arith))
    below f l (no ne) = omega (arith, skip_other F to f ne, w.below f (omega arith))

    once : (f g : ℕ) → f < F → g < F → skip F to f ≡ skip F to g → Dec (to f ≡ F) → Dec (to g ≡ F) → f ≡ g
    once f g a b e (yes x) (yes y) = w.once f g (omega arith) (omega arith) (x ∙ sym y)
    once f g a b e (yes x) (no y) = absurd (apart g b (sym (sym (skip_hit F to f x) ∙ e ∙ skip_other F to g y)))
    once f g a b e (no x) (yes y) = absurd (apart f a (sym (skip_other F to f x) ∙ e ∙ skip_hit F to g y))
    once f g a b e (no x) (no y) = w.once f g (omega arith) (omega arith) (sym (skip_other F to f x) ∙ e ∙ skip_other F to g y)

-- each number below F is the number of some fact
onto : (F : ℕ) (to : ℕ → ℕ) → OneToOne F to → (g : ℕ) → g < F → (fact : ℕ) × (fact < F) × (to fact ≡ g)
onto zero to w g l = absurd (omega arith)
onto (suc F) to w g l = go (ℕ_discrete (to F) g) (ℕ_discrete g F) (onto F (skip F to) (skip_once F to w))
  where
    last : (f : ℕ) → f < F → skip F to f ≡ to F → Dec (to f ≡ F) → to f ≡ F
    last f a e (yes z) = z
    last f a e (no ne) = absurd (omega (arith, w.once f F (omega arith) (omega arith) (sym (skip_other F to f ne) ∙ e)))

    other : (f : ℕ) → skip F to f ≡ g → (to F ≡ g → ⊥) → Dec (to f ≡ F) → to f ≡ g
    other f e ne (yes z) = absurd (ne (sym (skip_hit F to f z) ∙ e))
    other f e ne (no me) = sym (skip_other F to f me) ∙ e

    go : Dec (to F ≡ g) → Dec (g ≡ F) → ((h : ℕ) → h < F → (fact : ℕ) × (fact < F) × (skip F to fact ≡ h))
        → (fact : ℕ) × (fact < suc F) × (to fact ≡ g)
    go (yes z) d k = (F, omega arith, z)
    go (no ne) (yes z) k =
        let v = k (to F) (omega (arith, w.below F (omega arith))) in
        (v.0, omega (arith, v.1), last v.0 v.1 v.2 (ℕ_discrete (to v.0) F) ∙ sym z)
    go (no ne) (no me) k =
        let v = k g (omega arith) in
        (v.0, omega (arith, v.1), other v.0 v.2 ne (ℕ_discrete (to v.0) F))

-- a test passes for some fact exactly if the renumbered test does for its number
any_renumbered : {F : ℕ} {to : ℕ → ℕ} → OneToOne F to → (p q : ℕ → Bool) → ((fact : ℕ) → fact < F → q (to fact) ≡ p fact) → any q F ≡ any p F
any_renumbered {F} {to} w p q e = same_test (any q F) (any p F) there back
  where
    there : any q F ≡ true → any p F ≡ true
    there h =
        let v = any_at q F h in
        let u = onto F to w v.0 v.1 in
        at_any p F u.0 u.1 (sym (e u.0 u.1) ∙ rw u.2 v.2)

    back : any p F ≡ true → any q F ≡ true
    back h = let v = any_at p F h in at_any q F (to v.0) (w.below v.0 v.1) (e v.0 v.1 ∙ v.2)

module _ {F : ℕ} {to : ℕ → ℕ} {P Q : Plan} (same : Renumbered F to P Q) where
  -- the walk back ends with the same
  walk_renumbered : (fact : ℕ) → fact < F → (k : ℕ) (producer : Option ℕ) → walk_back Q (to fact) k producer ≡ walk_back P fact k producer
  unfolding walk_back
  walk_renumbered fact l zero producer = rw (same.adds zero fact l)
  walk_renumbered fact l (suc k) producer =
      rw (same.adds (suc k) fact l, same.deletes (suc k) fact l)
      (ap (λ (r : Option ℕ). cond (P.deletes (suc k) fact) (cond (P.adds (suc k) fact) (some (suc k)) producer) r) (walk_renumbered fact l k _))

  -- a consumer finds the same producer
  pub renumber_found : (consumer fact : ℕ) → fact < F → found Q consumer (to fact) ≡ found P consumer fact
  unfolding found
  renumber_found consumer fact l = walk_renumbered fact l (consumer - 1) none

  -- the test of finding accepts the same
  finds_renumbered : (consumer fact p : ℕ) → fact < F → finds Q consumer (to fact) p ≡ finds P consumer fact p
  unfolding finds
  finds_renumbered consumer fact p l = rw (renumber_found consumer fact l, finds)

  module _ (map : OneToOne F to) (i j : ℕ) where
    -- the test of links accepts the same
    link_renumbered : kept_link Q F i j ≡ kept_link P F i j
    unfolding kept_link
    link_renumbered = any_renumbered map _ _ (λ fact l. ap₂ (λ (a b : Bool). a && b) (same.needs j fact l) (finds_renumbered j fact i l))

    -- and so does the test of earlier deleters
    earlier_renumbered : kept_earlier Q F i j ≡ kept_earlier P F i j
    unfolding kept_earlier
    earlier_renumbered =
        ap (λ (b : Bool). ltb i j && b)
        (any_renumbered map _ _ (λ fact l. ap₂ (λ (a b : Bool). a && b) (same.deletes i fact l) (wanted fact l)))
      where
        wanted : (fact : ℕ) → fact < F
            → any (λ consumer. Q.needs consumer (to fact) && finds Q consumer (to fact) j) (suc (suc Q.n))
            ≡ any (λ consumer. P.needs consumer fact && finds P consumer fact j) (suc (suc P.n))
        wanted fact l =
            ap₂ (λ (test : ℕ → Bool) (n : ℕ). any test (suc (suc n)))
            (fun_ext (λ consumer. ap₂ (λ (a b : Bool). a && b) (same.needs consumer fact l) (finds_renumbered consumer fact j l)))
            same.steps

    -- and the test of later deleters
    later_renumbered : kept_later Q F i j ≡ kept_later P F i j
    unfolding kept_later
    later_renumbered =
        ap (λ (b : Bool). ltb i j && b)
        (any_renumbered map _ _ (λ fact l. ap₂ (λ (a b : Bool). a && b) (same.needs i fact l) (same.deletes j fact l)))

    -- the relaxed pairs are the same
    pub renumber_keeps : relaxed Q F i j ≡ relaxed P F i j
    unfolding relaxed
    renumber_keeps = rw (link_renumbered, earlier_renumbered, later_renumbered, same.steps)
