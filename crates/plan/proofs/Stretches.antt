-- The stretch of one consumer, case by case: each law is one return of `links_of`. Assumes nothing.
use Rattle.std.proofs.Common.{◌≡◌, sym, ap, ap₂, ◌∙◌, true, List, [], ℕ, suc, ◌+◌, ◌-◌, ◌≤◌, ◌<◌, arith, length, take, drop, eqb, eq-eqb, eqb-true, refl, Bool, false, add-one, ne_eqb, Result, Ok, Err, is_err}
use Rattle.sets.specs.Word.{count, has, kept}
use Rattle.sets.proofs.Bools.{and_left, and_right, and_both, none_true}
use Rattle.sets.proofs.Sets.{up_to_in, in_up_to}
use Rattle.plan.specs.declared.replies.Reply.{Reply}
use Rattle.plan.specs.Layout.{steps_of, needs_of}
use Rattle.plan.specs.Words.{plan_fault}
use Rattle.plan.specs.Links.{needs_below, need_count, has_stretch, stretch_of}
use Rattle.plan.proofs.Needs.{needs_below_sum, need_count_at_most}
use Rattle.plan.specs.declared.replies.Refusal.{Refusal}
use Rattle.plan.specs.Refusal.{told, checked}
use Rattle.sets.specs.Test.{up_to}
use Rattle.sets.proofs.Words.{kept_small}
use Rattle.plan.proofs.Layouts.{steps_at_most}
use Rattle.plan.proofs.Refusals.{told_refuses}

module _ (words links : List ℕ) (consumer : ℕ) where
  -- there is a stretch: the three things that it takes, and back
  pub stretch_is : has_stretch words links consumer ≡ true → ((plan_fault words).code ≡ 0) × (length links ≡ need_count words) × (1 ≤ consumer) × (consumer ≤ suc (steps_of words))
  unfolding has_stretch
  stretch_is e =
      let rest = and_right (eqb (plan_fault words).code 0) _ e in
      let range = up_to_in (suc (steps_of words)) consumer (and_right (eqb (length links) (need_count words)) _ rest) in
      (eqb-true (plan_fault words).code 0 (and_left (eqb (plan_fault words).code 0) _ e), eqb-true (length links) (need_count words) (and_left (eqb (length links) (need_count words)) _ rest), range.0, range.1)

  pub is_stretch : (plan_fault words).code ≡ 0 → length links ≡ need_count words → 1 ≤ consumer → consumer ≤ suc (steps_of words) → has_stretch words links consumer ≡ true
  unfolding has_stretch
  is_stretch a b l h =
      and_both (eqb (plan_fault words).code 0) _ (eq-eqb (plan_fault words).code 0 a)
      (and_both (eqb (length links) (need_count words)) _ (eq-eqb (length links) (need_count words) b) (in_up_to (suc (steps_of words)) consumer l h))

  -- without one of them there is none
  pub no_stretch : (has_stretch words links consumer ≡ true → ⊥) → [] ≡ stretch_of words links consumer
  unfolding stretch_of
  no_stretch h = rw (none_true (has_stretch words links consumer) h)

  pub own_stretch : has_stretch words links consumer ≡ true → take (count (needs_of words consumer)) (drop (needs_below words consumer) links) ≡ stretch_of words links consumer
  unfolding stretch_of
  own_stretch h = rw h

  -- the plan is refused
  pub refused_plan : (fault : Reply) → fault ≡ plan_fault words → (fault.code ≡ 0 → ⊥) → [] ≡ stretch_of words links consumer
  refused_plan fault e h = no_stretch (λ s. h (ap (λ (r : Reply). r.code) e ∙ (stretch_is s).0))

  -- the links are not as many as the needs
  pub wrong_count : (needs : ℕ) → needs ≡ need_count words → (length links ≡ needs → ⊥) → [] ≡ stretch_of words links consumer
  wrong_count needs e h = no_stretch (λ s. h ((stretch_is s).1 ∙ sym e))

  -- the consumer is the start, or past the end
  pub start_consumer : consumer < 1 → [] ≡ stretch_of words links consumer
  start_consumer h = no_stretch (λ s. omega (arith, (stretch_is s).2))

  pub past_consumer : (n : ℕ) → n ≡ steps_of words → n + 1 < consumer → [] ≡ stretch_of words links consumer
  past_consumer n e h = no_stretch (λ s. omega (arith, (stretch_is s).3))

  -- the stretch
  pub the_stretch : (fault : Reply) (needs n start own set : ℕ) → fault ≡ plan_fault words → fault.code ≡ 0 → needs ≡ need_count words → length links ≡ needs
      → 1 ≤ consumer → n ≡ steps_of words → consumer ≤ n + 1 → start ≡ needs_below words consumer → set ≡ needs_of words consumer → own ≡ count set
      → take (start + own - start) (drop start links) ≡ stretch_of words links consumer
  the_stretch fault needs n start own set ef hf en hn low e high es ew eo =
      let s = is_stretch (sym (ap (λ (r : Reply). r.code) ef) ∙ hf) (hn ∙ en) low (omega arith) in
      let k : start + own - start ≡ own = omega arith in
      ap₂ (λ (a b : ℕ). take a (drop b links)) (k ∙ eo ∙ ap count ew) es ∙ own_stretch s

  -- it lies within the links
  pub stretch_within : (needs n start own set : ℕ) → needs ≡ need_count words → length links ≡ needs → n ≡ steps_of words → consumer ≤ n + 1
      → start ≡ needs_below words consumer → set ≡ needs_of words consumer → own ≡ count set → start + own ≤ length links
  stretch_within needs n start own set en hn e high es ew eo = omega (arith, needs_below_sum words consumer (omega arith), eo ∙ ap count ew)

-- ---- whether there is a stretch, and which
module _ (words links : List ℕ) (consumer : ℕ) where
  -- the plan is refused
  pub plan_denies : (outcome : Result Unit Refusal) → checked outcome ≡ plan_fault words → is_err outcome ≡ true → false ≡ has_stretch words links consumer
  unfolding has_stretch
  plan_denies (Ok done) e h = absurd (cc)
  plan_denies (Err r) e h = rw (← e, ne_eqb (told r).code 0 (told_refuses r)) refl

  -- the links are not as many as the needs
  pub count_denies : (needs : ℕ) → needs ≡ need_count words → (length links ≡ needs → ⊥) → false ≡ has_stretch words links consumer
  count_denies needs e h = sym (none_true (has_stretch words links consumer) (λ s. h ((stretch_is words links consumer s).1 ∙ sym e)))

  -- else the consumer decides
  pub consumer_decides : (outcome : Result Unit Refusal) (needs n steps : ℕ) → checked outcome ≡ plan_fault words → is_err outcome ≡ false → needs ≡ need_count words
      → length links ≡ needs → n ≡ steps_of words → has steps ≡ kept (up_to (n + 1)) → has steps consumer ≡ has_stretch words links consumer
  unfolding has_stretch
  consumer_decides (Ok done) needs n steps e h c l s m =
      let few : n + 1 ≤ 63 = omega (arith, s, steps_at_most words) in
      let held : has steps consumer ≡ up_to (n + 1) consumer = ap (λ (t : ℕ → Bool). t consumer) (m ∙ kept_small (up_to (n + 1)) (λ i q. omega (arith, (up_to_in (n + 1) i q).1))) in
      held ∙ rw (← e, eq-eqb (length links) (need_count words) (l ∙ c), s, add-one) refl
  consumer_decides (Err r) needs n steps e h c l s m = absurd (cc)

  -- the stretch
  pub own_part : (start own set : ℕ) → true ≡ has_stretch words links consumer → start ≡ needs_below words consumer → set ≡ needs_of words consumer → own ≡ count set
      → take (start + own - start) (drop start links) ≡ stretch_of words links consumer
  own_part start own set s es ew eo =
      let k : start + own - start ≡ own = omega arith in
      ap₂ (λ (a b : ℕ). take a (drop b links)) (k ∙ eo ∙ ap count ew) es ∙ own_stretch words links consumer (sym s)

  -- it lies within the links
  pub part_within : (start own set : ℕ) → true ≡ has_stretch words links consumer → start ≡ needs_below words consumer → set ≡ needs_of words consumer → own ≡ count set
      → start + own ≤ length links
  part_within start own set s es ew eo = let is = stretch_is words links consumer (sym s) in omega (arith, needs_below_sum words consumer (is.3), eo ∙ ap count ew, is.1)

  -- there is none
  pub empty_part : false ≡ has_stretch words links consumer → [] ≡ stretch_of words links consumer
  unfolding stretch_of
  empty_part s = rw (← s) refl

  -- the consumer of a stretch is small, and the stretch lies among at most 4032 links
  pub small_consumer : true ≡ has_stretch words links consumer → consumer ≤ 64
  small_consumer s = omega (arith, (stretch_is words links consumer (sym s)).3, steps_at_most words)

  pub few_links : (start own set : ℕ) → true ≡ has_stretch words links consumer → start ≡ needs_below words consumer → set ≡ needs_of words consumer → own ≡ count set
      → start + own ≤ 4032
  few_links start own set s es ew eo = omega (arith, part_within start own set s es ew eo, (stretch_is words links consumer (sym s)).1, need_count_at_most words)
