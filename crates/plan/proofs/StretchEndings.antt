-- The stretch of a consumer comes out as the page says, both ways round: each case is the stretch, and the stretch is one of the cases. Assumes nothing.
use Rattle.std.proofs.Common.{◌≡◌, sym, ap, ◌∙◌, List, ℕ, suc, ◌+◌, ◌≤◌, ◌<◌, arith, length, get_or, drop, get_or-take, get_or-drop}
use native.Mathlib.Decide.{ℕ_discrete, dec_lt}
use Rattle.sets.specs.Word.{count}
use Rattle.plan.specs.declared.replies.Reply.{Reply}
use Rattle.plan.specs.Layout.{steps_of, needs_of}
use Rattle.plan.specs.Words.{plan_fault}
use Rattle.plan.specs.Links.{needs_below, need_count, stretch_of}
use Rattle.plan.specs.Endings.{WellFormed}
use Rattle.plan.specs.StretchEndings.{StretchEnding, plan_bad, miscounted, no_consumer, its_links}
use Rattle.plan.proofs.Stretches.{stretch_is, is_stretch, no_stretch, own_stretch, refused_plan}
use Rattle.plan.proofs.WordEndings.{ending_plan, plan_ending, fine_formed, formed_fine}

-- each case is the stretch
pub ending_stretch : {words links : List ℕ} {consumer : ℕ} {stretch : List ℕ} → StretchEnding words links consumer stretch → stretch ≡ stretch_of words links consumer
ending_stretch {words} {links} {consumer} (plan_bad e h) = refused_plan words links consumer _ (ending_plan e) h
ending_stretch {words} {links} {consumer} (miscounted w h) = no_stretch words links consumer (λ s. h (stretch_is words links consumer s).1)
ending_stretch {words} {links} {consumer} (no_consumer w e h) =
    no_stretch words links consumer (λ s. let x = stretch_is words links consumer s in h x.2 x.3)
ending_stretch {words} {links} {consumer} (its_links w e low high) =
    own_stretch words links consumer (is_stretch words links consumer (ap (λ (r : Reply). r.code) (formed_fine w)) e low high)

-- words, links and a consumer have one of the cases
some_stretch : (words links : List ℕ) (consumer : ℕ) → (stretch : List ℕ) × StretchEnding words links consumer stretch
some_stretch words links consumer = plan_first (ℕ_discrete (plan_fault words).code 0)
  where
    range_then : WellFormed words → length links ≡ need_count words → Dec (consumer < 1) → Dec (suc (steps_of words) < consumer)
        → (stretch : List ℕ) × StretchEnding words links consumer stretch
    range_then w e (yes l) h = (_, no_consumer w e (λ low high. omega (arith, l, low)))
    range_then w e (no l) (yes h) = (_, no_consumer w e (λ low high. omega (arith, h, high)))
    range_then w e (no l) (no h) = (_, its_links w e (omega arith) (omega arith))

    count_then : WellFormed words → Dec (length links ≡ need_count words) → (stretch : List ℕ) × StretchEnding words links consumer stretch
    count_then w (yes e) = range_then w e (dec_lt consumer 1) (dec_lt (suc (steps_of words)) consumer)
    count_then w (no h) = (_, miscounted w h)

    plan_first : Dec ((plan_fault words).code ≡ 0) → (stretch : List ℕ) × StretchEnding words links consumer stretch
    plan_first (yes z) = count_then (fine_formed words z) (ℕ_discrete (length links) (need_count words))
    plan_first (no h) = (_, plan_bad (plan_ending words) h)

-- the stretch is one of the cases
pub stretch_ending : (words links : List ℕ) (consumer : ℕ) → StretchEnding words links consumer (stretch_of words links consumer)
stretch_ending words links consumer = let w = some_stretch words links consumer in rw (← ending_stretch w.1) w.1

-- place m of a stretch is the link that stands m places after those of the lower consumers
pub stretch_at : (words links : List ℕ) (consumer m : ℕ) → WellFormed words → length links ≡ need_count words → 1 ≤ consumer → consumer ≤ suc (steps_of words)
    → m < count (needs_of words consumer) → get_or (stretch_of words links consumer) m 0 ≡ get_or links (needs_below words consumer + m) 0
stretch_at words links consumer m w e low high l =
    rw (← ending_stretch (its_links w e low high))
    (get_or-take (count (needs_of words consumer)) (drop (needs_below words consumer) links) m 0 l ∙ get_or-drop (needs_below words consumer) links m 0)
