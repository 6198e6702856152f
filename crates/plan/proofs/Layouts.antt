-- The layout of plan words, case by case: each law is one way on of the code that reads a word. Assumes nothing.
use Rattle.std.proofs.Common.{◌≡◌, sym, ap, ◌∙◌, false, List, ℕ, suc, ◌+◌, ◌-◌, ◌*◌, ◌≤◌, ◌<◌, add-one, arith, length, get_or, eqb, le-leb, eq-eqb, ne_eqb}
use lib.ListN.{get_or-eq_default}
use borrow.Author.Tests.{lt-leb}
use Rattle.sets.specs.Test.{up_to}
use Rattle.plan.specs.Layout.{facts_of, steps_of, words_for, place_of, step_word, needs_of, adds_of, deletes_of}
use Rattle.plan.specs.Words.{well_shaped}

-- a word past the end is 0
pub word_past : (words : List ℕ) (i : ℕ) → length words ≤ i → 0 ≡ get_or words i 0
word_past words i h = sym (get_or-eq_default words 0 h)

module _ (words : List ℕ) where
  -- n, and at most 62
  pub steps_few : (n : ℕ) → n ≡ get_or words 1 0 → n < 62 → n ≡ steps_of words
  unfolding steps_of
  steps_few n e h = omega arith

  pub steps_many : (n : ℕ) → n ≡ get_or words 1 0 → 62 ≤ n → 62 ≡ steps_of words
  unfolding steps_of
  steps_many n e h = omega arith

  -- a plan never has more than 62 steps
  pub steps_at_most : steps_of words ≤ 62
  unfolding steps_of
  steps_at_most = omega arith

  -- a number that is no step has no words
  pub low_step : (i k : ℕ) → i < 1 → 0 ≡ step_word words i k
  unfolding step_word up_to
  low_step i k h = rw (lt-leb 1 i h)

  pub high_step : (n i k : ℕ) → n ≡ steps_of words → n < i → 0 ≡ step_word words i k
  unfolding step_word up_to
  high_step n i k e h = rw (le-leb 1 i (omega arith), ← e, lt-leb i n h)

  -- a step's words
  pub own_word : (n i k r : ℕ) → n ≡ steps_of words → 1 ≤ i → i ≤ n → r ≡ get_or words (4 + 3 * (i - 1) + k) 0 → r ≡ step_word words i k
  unfolding step_word up_to place_of
  own_word n i k r e a b q = rw (le-leb 1 i a, ← e, le-leb i n b) q

  -- what the end needs, and any other step
  pub needs_end : (n i r : ℕ) → n ≡ steps_of words → i ≡ n + 1 → r ≡ get_or words 3 0 → r ≡ needs_of words i
  unfolding needs_of
  needs_end n i r e h q = rw (eq-eqb i (suc (steps_of words)) (h ∙ add-one n ∙ ap suc e)) q

  pub needs_step : (n i r : ℕ) → n ≡ steps_of words → (i ≡ n + 1 → ⊥) → r ≡ step_word words i 0 → r ≡ needs_of words i
  unfolding needs_of
  needs_step n i r e h q = rw (ne_eqb i (suc (steps_of words)) (λ z. h (z ∙ ap suc (sym e) ∙ sym (add-one n)))) q

  -- what the start adds, and any other step
  pub adds_start : (i r : ℕ) → i ≡ 0 → r ≡ get_or words 2 0 → r ≡ adds_of words i
  unfolding adds_of
  adds_start i r h q = rw (eq-eqb i 0 h) q

  pub adds_step : (i r : ℕ) → (i ≡ 0 → ⊥) → r ≡ step_word words i 1 → r ≡ adds_of words i
  unfolding adds_of
  adds_step i r h q = rw (ne_eqb i 0 h) q

  pub deletes_is : (i r : ℕ) → r ≡ step_word words i 2 → r ≡ deletes_of words i
  unfolding deletes_of
  deletes_is i r q = q

  pub facts_is : (r : ℕ) → r ≡ get_or words 0 0 → r ≡ facts_of words
  unfolding facts_of
  facts_is r q = q

  -- the shape: F, then n, then the length
  pub many_facts : (F : ℕ) → F ≡ get_or words 0 0 → 64 < F → false ≡ well_shaped words
  unfolding well_shaped facts_of
  many_facts F e h = rw (← e, lt-leb F 64 h)

  pub many_steps : (F n : ℕ) → F ≡ get_or words 0 0 → F ≤ 64 → n ≡ get_or words 1 0 → 62 < n → false ≡ well_shaped words
  unfolding well_shaped facts_of
  many_steps F n e h q l = rw (← e, le-leb F 64 h, ← q, lt-leb n 62 l)

  pub by_length : (F n : ℕ) → F ≡ get_or words 0 0 → F ≤ 64 → n ≡ get_or words 1 0 → n ≤ 62 → eqb (length words) (4 + 3 * n) ≡ well_shaped words
  unfolding well_shaped facts_of words_for
  by_length F n e h q l = rw (← e, le-leb F 64 h, ← q, le-leb n 62 l)
