-- The ways on of the code that counts needs and finds need k: each law is one turn or one return. Assumes nothing.
use Rattle.std.proofs.Common.{◌≡◌, refl, sym, ap, ◌∙◌, false, List, ℕ, zero, suc, ◌+◌, ◌-◌, ◌≤◌, ◌<◌, add-one, arith, length, get_or, ltb, w64, Fits, below_more, lt-ltb, le-ltb}
use Rattle.sets.specs.Test.{least}
use Rattle.sets.specs.Word.{count, members}
use Rattle.sets.proofs.Least.{least_found, least_none}
use Rattle.plan.specs.declared.words.Need.{Need}
use Rattle.plan.specs.Layout.{steps_of, needs_of}
use Rattle.plan.specs.Links.{need_for, needs_from, need_list, needs_below, need_count}
use Rattle.plan.proofs.Needs.{below_zero, below_one, below_suc, below_at_most, count_at_most, count_below, need_count_at_most, list_from, from_zero, from_here, from_past}

module _ (words : List ℕ) where
  -- a turn counts one step more
  pub below_turn : (i needs own sum : ℕ) → needs ≡ needs_of words i → own ≡ count needs → sum ≡ needs_below words i → sum + own ≡ needs_below words (i + 1)
  below_turn i needs own sum e q s = rw (add-one, below_suc, s, q, e) refl

  -- the sum fits a word
  pub below_fits : (step i needs own sum : ℕ) → step ≤ 64 → i < step → own ≡ count needs → sum ≡ needs_below words i → Fits w64 (sum + own)
  below_fits step i needs own sum b h q s = record { fits = omega (arith, below_at_most words i, count_at_most needs) }

  -- at the end every step below has been counted
  pub below_end : (step i sum : ℕ) → i ≤ step → step ≤ i → sum ≡ needs_below words i → sum ≡ needs_below words step
  below_end step i sum a b s = s ∙ ap (needs_below words) (let e : i ≡ step = omega arith in e)

  -- and also where the count begins at step 1, since the start needs nothing
  pub below_all : (step i sum : ℕ) → step ≤ i → (1 ≤ step → i ≤ step) → 1 ≤ i → (step < 1 → i ≤ 1) → sum ≡ needs_below words i → sum ≡ needs_below words step
  below_all zero i sum a b c d s = s ∙ ap (needs_below words) (let e : i ≡ 1 = let f : i ≤ 1 = d (omega arith) in omega arith in e) ∙ below_one words ∙ below_zero words
  below_all (suc step) i sum a b c d s = below_end (suc step) i sum (b (omega arith)) a s

  -- the number of needs is what stands below step n + 2
  pub count_is : (n r : ℕ) → n ≡ steps_of words → r ≡ needs_below words (n + 2) → r ≡ need_count words
  count_is n r e q = q ∙ ap (needs_below words) (let z : n + 2 ≡ suc (suc (steps_of words)) = omega arith in z) ∙ sym (count_below words)

  -- and at most 4032
  pub count_few : (n r : ℕ) → n ≡ steps_of words → r ≡ needs_below words (n + 2) → r ≤ 4032
  count_few n r e q = rw (count_is n r e q) (need_count_at_most words)

  -- what stands at a place of the needs from one consumer on
  abbrev pub left_at : ℕ → ℕ → ℕ → Need
  left_at n consumer rest = get_or (needs_from words consumer (n + 2 - consumer)) rest (need_for 0 0)

  -- need k is at place k from consumer 1 on
  pub need_start : (n k : ℕ) → n ≡ steps_of words → get_or (need_list words) k (need_for 0 0) ≡ left_at n 1 k
  need_start n k e = rw list_from (ap (λ (m : ℕ). get_or (needs_from words 1 m) k (need_for 0 0)) (let z : suc (steps_of words) ≡ n + 2 - 1 = omega arith in z))

  -- a place past the needs of this consumer is sought from the next one on
  pub need_past : (n consumer rest needs own : ℕ) (need : Need) → consumer ≤ n + 1 → needs ≡ needs_of words consumer → own ≡ count needs → own ≤ rest
      → need ≡ left_at n consumer rest → need ≡ left_at n (consumer + 1) (rest - own)
  need_past n consumer rest needs own need h e q l s =
      let a : n + 2 - consumer ≡ suc (n + 2 - suc consumer) = omega arith in
      let b : rest ≡ count (needs_of words consumer) + (rest - own) = let z : own ≡ count (needs_of words consumer) = q ∙ ap count e in omega arith in
      s
      ∙ ap (λ (m : ℕ). get_or (needs_from words consumer m) rest (need_for 0 0)) a
      ∙ ap (λ (m : ℕ). get_or (needs_from words consumer (suc (n + 2 - suc consumer))) m (need_for 0 0)) b
      ∙ from_past words consumer (n + 2 - suc consumer) (rest - own)
      ∙ ap (λ (c : ℕ). get_or (needs_from words c (n + 2 - c)) (rest - own) (need_for 0 0)) (sym (add-one consumer))

  -- a place among the needs of this consumer is found
  pub need_here : (n consumer rest needs own fact : ℕ) (need : Need) → consumer ≤ n + 1 → needs ≡ needs_of words consumer → own ≡ count needs → rest < own
      → fact ≡ get_or (members needs) rest 64 → need ≡ left_at n consumer rest → need_for consumer fact ≡ need
  need_here n consumer rest needs own fact need h e q l f s =
      let a : n + 2 - consumer ≡ suc (n + 2 - suc consumer) = omega arith in
      let z : own ≡ count (needs_of words consumer) = q ∙ ap count e in
      sym
      (s
      ∙ ap (λ (m : ℕ). get_or (needs_from words consumer m) rest (need_for 0 0)) a
      ∙ from_here words consumer (n + 2 - suc consumer) rest (omega arith)
      ∙ ap (need_for consumer) (ap (λ (w : ℕ). get_or (members w) rest 64) (sym e) ∙ sym f))

  -- past the last consumer there is no need
  pub need_none : (n consumer rest : ℕ) (need : Need) → n + 1 < consumer → need ≡ left_at n consumer rest → need_for 0 0 ≡ need
  need_none n consumer rest need h s =
      sym
      (s
      ∙ ap (λ (m : ℕ). get_or (needs_from words consumer m) rest (need_for 0 0)) (let a : n + 2 - consumer ≡ 0 = omega arith in a)
      ∙ ap (λ (l : List Need). get_or l rest (need_for 0 0)) (from_zero words consumer))

  -- nor in those of the last consumer
  pub need_last : (n consumer rest needs own : ℕ) (need : Need) → consumer ≤ n + 1 → n + 1 ≤ consumer → needs ≡ needs_of words consumer → own ≡ count needs → own ≤ rest
      → need ≡ left_at n consumer rest → need_for 0 0 ≡ need
  need_last n consumer rest needs own need h last e q l s = need_none n (consumer + 1) (rest - own) need (omega arith) (need_past n consumer rest needs own need h e q l s)

-- the search for the first producer above n, where none is above before link k
module _ (n : ℕ) (links : List ℕ) (k : ℕ) (none : (j : ℕ) → j < k → ltb n (get_or links j 0) ≡ false) where
  -- a producer above n is found
  pub above_hit : k < length links → n < get_or links k 0 → k ≡ least (λ k. ltb n (get_or links k 0)) (length links)
  above_hit h l = sym (least_found (λ k. ltb n (get_or links k 0)) (length links) k h none (lt-ltb n (get_or links k 0) l))

  -- a turn: this producer is not above n either
  pub above_more : get_or links k 0 ≤ n → (j : ℕ) → j < k + 1 → ltb n (get_or links j 0) ≡ false
  above_more l = below_more (λ j. ltb n (get_or links j 0) ≡ false) k none (le-ltb n (get_or links k 0) l)

  -- at the end there is none
  pub above_none : k ≤ length links → length links ≤ k → k ≡ least (λ k. ltb n (get_or links k 0)) (length links)
  above_none a b =
      let e : k ≡ length links = omega arith in
      e ∙ sym (least_none (λ k. ltb n (get_or links k 0)) (length links) (λ j l. none j (omega arith)))
