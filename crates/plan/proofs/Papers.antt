-- Well-formed words are read as a plan that the theorems of model speak of: the start and the end are in their places, no step deletes what it adds,
-- and every fact that is needed is one of F. Assumes nothing.
use Rattle.std.proofs.Common.{◌≡◌, refl, sym, ap, ◌∙◌, true, false, ℕ, List, suc, ◌+◌, ◌≤◌, ◌<◌, arith, get_or}
use native.Mathlib.Decide.{ℕ_discrete, dec_lt}
use Rattle.sets.specs.Word.{has}
use Rattle.sets.proofs.Bools.{none_false, not_both}
use Rattle.sets.proofs.Words.{has_none}
use Rattle.model.specs.Plan.{Framed, Apart}
use Rattle.model.specs.Relax.{NeedsBelow}
use Rattle.plan.specs.Layout.{facts_of, steps_of, step_word, needs_of, adds_of, deletes_of, plan_of}
use Rattle.plan.specs.Endings.{WellFormed}
use Rattle.plan.proofs.Layouts.{low_step, high_step, needs_end, needs_step, adds_start, adds_step, deletes_is}

module _ (words : List ℕ) where
  -- a number that is no step has none of its three words
  no_step : (i k : ℕ) → (1 ≤ i → i ≤ steps_of words → ⊥) → step_word words i k ≡ 0
  no_step i k h = go (dec_lt i 1) (dec_lt (steps_of words) i)
    where
      go : Dec (i < 1) → Dec (steps_of words < i) → step_word words i k ≡ 0
      go (yes l) d = sym (low_step words i k l)
      go (no l) (yes m) = sym (high_step words (steps_of words) i k refl m)
      go (no l) (no m) = absurd (h (omega arith) (omega arith))

  -- the start and the end are in their places
  pub framed : Framed (plan_of words)
  framed =
      record {
        start_needs = λ f. rw (← needs_step words (steps_of words) 0 0 refl (λ e. omega arith) (low_step words 0 0 (omega arith))) (has_none f);
        start_deletes = λ f. rw (← deletes_is words 0 0 (low_step words 0 2 (omega arith))) (has_none f);
        end_adds = λ f.
            rw (← adds_step words (suc (steps_of words)) 0 (λ e. omega arith) (high_step words (steps_of words) (suc (steps_of words)) 1 refl (omega arith)))
            (has_none f);
        end_deletes = λ f. rw (← deletes_is words (suc (steps_of words)) 0 (high_step words (steps_of words) (suc (steps_of words)) 2 refl (omega arith))) (has_none f);
      }

  -- no step deletes what it adds
  pub apart : WellFormed words → Apart (plan_of words)
  apart w i f e = go (dec_lt i 1) (dec_lt (steps_of words) i)
    where
      none : step_word words i 2 ≡ 0 → has (deletes_of words i) f ≡ false
      none z = rw (← deletes_is words i 0 (sym z)) (has_none f)

      go : Dec (i < 1) → Dec (steps_of words < i) → has (deletes_of words i) f ≡ false
      go (yes l) d = none (no_step i 2 (λ a b. omega (arith, l, a)))
      go (no l) (yes m) = none (no_step i 2 (λ a b. omega (arith, m, b)))
      go (no l) (no m) =
          rw (← deletes_is words i (step_word words i 2) refl)
          ((w.steps i (omega arith) (omega arith)).apart f (rw (← adds_step words i (step_word words i 1) (λ z. omega arith) refl) at e))

  -- every fact that is needed is one of F
  pub needs_below_facts : WellFormed words → NeedsBelow (facts_of words) (plan_of words)
  needs_below_facts w i f e = go (dec_lt f (facts_of words))
    where
      outside : facts_of words ≤ f → has (needs_of words i) f ≡ false
      outside h = by_end (ℕ_discrete i (steps_of words + 1)) (dec_lt i 1) (dec_lt (steps_of words) i)
        where
          none : (i ≡ steps_of words + 1 → ⊥) → step_word words i 0 ≡ 0 → has (needs_of words i) f ≡ false
          none ne z = rw (← needs_step words (steps_of words) i 0 refl ne (sym z)) (has_none f)

          by_end : Dec (i ≡ steps_of words + 1) → Dec (i < 1) → Dec (steps_of words < i) → has (needs_of words i) f ≡ false
          by_end (yes q) d m = rw (← needs_end words (steps_of words) i (get_or words 3 0) refl q refl) (w.goal f h)
          by_end (no ne) (yes l) m = none ne (no_step i 0 (λ a b. omega (arith, l, a)))
          by_end (no ne) (no l) (yes m) = none ne (no_step i 0 (λ a b. omega (arith, m, b)))
          by_end (no ne) (no l) (no m) =
              rw (← needs_step words (steps_of words) i (step_word words i 0) refl ne refl) ((w.steps i (omega arith) (omega arith)).needs f h)

      go : Dec (f < facts_of words) → f < facts_of words
      go (yes l) = l
      go (no h) = absurd (not_both e (outside (omega arith)))
