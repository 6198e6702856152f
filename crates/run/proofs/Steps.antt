-- The run step by step: each law is one turn or one return of the code that runs a sequence. Assumes nothing.
use Rattle.std.proofs.Common.{◌≡◌, refl, sym, ap, ap₂, ◌∙◌, Bool, true, false, not, List, [], ◌∷◌, ℕ, suc, ◌+◌, ◌≤◌, ◌<◌, add-one, arith, length, get_or, drop, drop_of_length-le, drop-cons, Fits, w64, lt-ltb, le-ltb, Some, None, cond, ltb, Result, Ok, Err, ◌^◌}
use borrow.Author.Tests.{not-true, not-false}
use Rattle.sets.specs.Test.{either, less, least, first_passing}
use Rattle.sets.specs.Word.{has}
use Rattle.sets.proofs.Words.{word_has}
use Rattle.model.specs.Plan.{Plan}
use Rattle.model.specs.Run.{after}
use Rattle.plan.specs.declared.replies.Reply.{Reply}
use Rattle.plan.specs.Refusal.{fine, refusal, first_of, length_fault, told, holding}
use Rattle.plan.specs.Layout.{steps_of, needs_of, adds_of, deletes_of, plan_of}
use Rattle.plan.specs.Words.{plan_fault}
use Rattle.plan.specs.Sequences.{uses_each_once}
use Rattle.plan.proofs.Refusals.{first_refuses, first_passes, first_none, length_right, length_wrong, told_refuses, refuses, told_once, holding_once}
use Rattle.run.specs.Call.{once_fault, lacking, unmet, ended, run_from, begun, run_reply, ran}
use Rattle.sets.proofs.Least.{passing_is, none_passing}
use Rattle.plan.specs.declared.replies.Refusal.{Refusal}
use Rattle.plan.specs.declared.replies.Refusal.TheVariants.{NotOnceEach}

-- the lowest fact that a step lacks
pub lacks_is : (words : List ℕ) (i needs state rest low : ℕ) → needs ≡ needs_of words i → has rest ≡ less (has needs) (has state) → low ≡ least (has rest) 64
    → low ≡ lacking (plan_of words) i (has state)
unfolding lacking
lacks_is words i needs state rest low n r l = l ∙ ap (λ (s : ℕ → Bool). least s 64) (r ∙ ap (λ (w : ℕ). less (has w) (has state)) n)

-- the state after a step
pub after_is : (words : List ℕ) (i state deletes stays adds r : ℕ) → deletes ≡ deletes_of words i → has stays ≡ less (has state) (has deletes) → adds ≡ adds_of words i
    → has r ≡ either (has stays) (has adds) → has r ≡ after (plan_of words) i (has state)
unfolding after either less
after_is words i state deletes stays adds r d k a e = e ∙ ap₂ (λ (s t : ℕ → Bool). either s t) (k ∙ ap (λ (w : ℕ). less (has state) (has w)) d) (ap has a)

-- a step that cannot run ends the run, one that can does not
unmet_stops : (P : Plan) (i fact : ℕ) (state : ℕ → Bool) (rest r : Reply) → fact ≡ lacking P i state → fact < 64 → r ≡ refusal 9 i fact 0 → r ≡ unmet P i state rest
unfolding unmet
unmet_stops P i fact state rest r e h q = rw (← e, lt-ltb fact 64 h) q

unmet_goes : (P : Plan) (i fact : ℕ) (state : ℕ → Bool) (rest : Reply) → fact ≡ lacking P i state → 64 ≤ fact → unmet P i state rest ≡ rest
unfolding unmet
unmet_goes P i fact state rest e h = rw (← e, le-ltb fact 64 h)

-- the run begins with the start's adds as its state
pub run_begins : (words sequence : List ℕ) (state : ℕ) → state ≡ adds_of words 0
    → run_from (plan_of words) sequence (begun (plan_of words)) ≡ run_from (plan_of words) (drop 0 sequence) (has state)
unfolding begun after
run_begins words sequence state e = ap (λ (w : ℕ). run_from (plan_of words) sequence (has w)) (sym e)

module _ (words sequence : List ℕ) (p state : ℕ) (here : run_from (plan_of words) sequence (begun (plan_of words)) ≡ run_from (plan_of words) (drop p sequence) (has state)) where
  -- the step in its turn
  turn : p < length sequence → run_from (plan_of words) sequence (begun (plan_of words))
      ≡ unmet (plan_of words) (get_or sequence p 0) (has state) (run_from (plan_of words) (drop (suc p) sequence) (after (plan_of words) (get_or sequence p 0) (has state)))
  unfolding run_from
  turn h = here ∙ ap (λ (l : List ℕ). run_from (plan_of words) l (has state)) (drop-cons sequence p 0 h)

  pub turn_stops : (fact : ℕ) (r : Reply) → p < length sequence → fact ≡ lacking (plan_of words) (get_or sequence p 0) (has state) → fact < 64
      → r ≡ refusal 9 (get_or sequence p 0) fact 0 → r ≡ run_from (plan_of words) sequence (begun (plan_of words))
  turn_stops fact r h e l q = unmet_stops (plan_of words) (get_or sequence p 0) fact (has state) _ r e l q ∙ sym (turn h)

  pub turn_goes : (fact next : ℕ) → p < length sequence → fact ≡ lacking (plan_of words) (get_or sequence p 0) (has state) → 64 ≤ fact
      → has next ≡ after (plan_of words) (get_or sequence p 0) (has state)
      → run_from (plan_of words) sequence (begun (plan_of words)) ≡ run_from (plan_of words) (drop (p + 1) sequence) (has next)
  turn_goes fact next h e l a =
      turn h ∙ unmet_goes (plan_of words) (get_or sequence p 0) fact (has state) _ e l
      ∙ ap₂ (λ (k : ℕ) (s : ℕ → Bool). run_from (plan_of words) (drop k sequence) s) (sym (add-one p)) (sym a)

  -- the end in its turn
  end_turn : length sequence ≤ p → run_from (plan_of words) sequence (begun (plan_of words)) ≡ unmet (plan_of words) (suc (steps_of words)) (has state) (ended (has state))
  unfolding run_from
  end_turn h = here ∙ ap (λ (l : List ℕ). run_from (plan_of words) l (has state)) (drop_of_length-le sequence h)

  pub end_stops : (n fact : ℕ) (r : Reply) → length sequence ≤ p → n ≡ steps_of words → fact ≡ lacking (plan_of words) (n + 1) (has state) → fact < 64
      → r ≡ refusal 9 (n + 1) fact 0 → r ≡ run_from (plan_of words) sequence (begun (plan_of words))
  end_stops n fact r h e f l q =
      unmet_stops (plan_of words) (n + 1) fact (has state) (ended (has state)) r f l q
      ∙ ap (λ (i : ℕ). unmet (plan_of words) i (has state) (ended (has state))) (add-one n ∙ ap suc e) ∙ sym (end_turn h)

  pub end_goes : (n fact : ℕ) (r : Reply) → length sequence ≤ p → Fits w64 state → n ≡ steps_of words → fact ≡ lacking (plan_of words) (n + 1) (has state) → 64 ≤ fact
      → r ≡ refusal 0 0 0 state → r ≡ run_from (plan_of words) sequence (begun (plan_of words))
  unfolding ended
  end_goes n fact r h fits e f l q =
      q ∙ ap (λ (w : ℕ). refusal 0 0 0 w) (sym (word_has state fits.fits))
      ∙ sym (unmet_goes (plan_of words) (n + 1) fact (has state) (ended (has state)) f l)
      ∙ ap (λ (i : ℕ). unmet (plan_of words) i (has state) (ended (has state))) (add-one n ∙ ap suc e) ∙ sym (end_turn h)

-- ---- the call: a refused plan, a wrong length, a step not used once, and the run
pub plan_refused : (words sequence : List ℕ) (fault : Reply) → fault ≡ plan_fault words → (fault.code ≡ 0 → ⊥) → fault ≡ run_reply words sequence
unfolding run_reply
plan_refused words sequence fault e h = rw (← e) (sym (first_refuses fault _ _ h))

module _ (words sequence : List ℕ) (fault : Reply) (n : ℕ) (e : fault ≡ plan_fault words) (z : fault.code ≡ 0) (en : n ≡ steps_of words) where
  past_plan : run_reply words sequence
      ≡ first_of (length_fault n (length sequence) ∷ once_fault n sequence ∷ []) (run_from (plan_of words) sequence (begun (plan_of words)))
  unfolding run_reply
  past_plan = rw (← e, ← en) (first_passes fault _ _ z)

  pub length_refused : (r : Reply) → (length sequence ≡ n → ⊥) → r ≡ refusal 3 0 0 0 → r ≡ run_reply words sequence
  length_refused r h q =
      q ∙ sym (past_plan ∙ ap (λ (x : Reply). first_of (x ∷ once_fault n sequence ∷ []) (run_from (plan_of words) sequence (begun (plan_of words)))) (length_wrong n (length sequence) h)
      ∙ first_refuses (refusal 3 0 0 0) _ _ (λ y. let x : ◌≡◌ {A = ℕ} 3 0 = y in absurd (omega arith)))

  module _ (long : length sequence ≡ n) (each : Bool) (ee : each ≡ uses_each_once n sequence) where
    past_length : run_reply words sequence ≡ first_of (once_fault n sequence ∷ []) (run_from (plan_of words) sequence (begun (plan_of words)))
    past_length = past_plan ∙ ap (λ (x : Reply). first_of (x ∷ once_fault n sequence ∷ []) (run_from (plan_of words) sequence (begun (plan_of words)))) (length_right n (length sequence) long) ∙ first_passes fine _ _ refl

    pub once_refused : (r : Reply) → not each ≡ true → r ≡ refusal 15 0 0 0 → r ≡ run_reply words sequence
    unfolding once_fault
    once_refused r h q =
        q ∙ sym (past_length ∙ rw (← ee, not-true each h) (first_refuses (refusal 15 0 0 0) _ _ (λ y. let x : ◌≡◌ {A = ℕ} 15 0 = y in absurd (omega arith))))

    pub run_follows : (r : Reply) → not each ≡ false → r ≡ run_from (plan_of words) sequence (begun (plan_of words)) → r ≡ run_reply words sequence
    unfolding once_fault
    run_follows r h q = q ∙ sym (past_length ∙ rw (← ee, not-false each h) (first_passes fine _ _ refl ∙ first_none _))

-- ---- the check of one step's needs, and the turns that it decides
module _ (words : List ℕ) (i needs state rest : ℕ) (n : needs ≡ needs_of words i) (r : has rest ≡ less (has needs) (has state)) where
  pub need_told : (fact : ℕ) → Some fact ≡ first_passing (has rest) 64 → refusal 9 i fact 0 ≡ unmet (plan_of words) i (has state) fine
  need_told fact q =
      let first = passing_is (has rest) 64 fact (sym q) in
      unmet_stops (plan_of words) i fact (has state) fine (refusal 9 i fact 0) (lacks_is words i needs state rest fact n r (sym first.1)) first.0 refl

  pub needs_met : None ≡ first_passing (has rest) 64 → fine ≡ unmet (plan_of words) i (has state) fine
  needs_met q = sym (unmet_goes (plan_of words) i 64 (has state) fine (lacks_is words i needs state rest 64 n r (sym (none_passing (has rest) 64 (sym q)))) (omega arith))

pub ruleset looked_at = (need_told, needs_met)

-- a need that is refused ends the run, needs that are met do not
module _ (P : Plan) (i : ℕ) (state : ℕ → Bool) (rest : Reply) where
  told_stops : (r : Refusal) → told r ≡ unmet P i state fine → told r ≡ unmet P i state rest
  unfolding unmet
  told_stops r e = go (ltb (lacking P i state) 64) e
    where
      go : (b : Bool) → told r ≡ cond b (refusal 9 i (lacking P i state) 0) fine → told r ≡ cond b (refusal 9 i (lacking P i state) 0) rest
      go true e = e
      go false e = absurd (told_refuses r (ap (λ (x : Reply). x.code) e))

  met_goes : fine ≡ unmet P i state fine → unmet P i state rest ≡ rest
  unfolding unmet
  met_goes e = go (ltb (lacking P i state) 64) e
    where
      go : (b : Bool) → fine ≡ cond b (refusal 9 i (lacking P i state) 0) fine → cond b (refusal 9 i (lacking P i state) 0) rest ≡ rest
      go true e = let y : ◌≡◌ {A = ℕ} 0 9 = ap (λ (x : Reply). x.code) e in absurd (omega arith)
      go false e = refl

module _ (words sequence : List ℕ) (p state : ℕ) (here : run_from (plan_of words) sequence (begun (plan_of words)) ≡ run_from (plan_of words) (drop p sequence) (has state)) where
  -- step i in its turn
  module _ (i : ℕ) (e : i ≡ get_or sequence p 0) (h : p < length sequence) where
    pub step_stops : (r : Refusal) → told r ≡ unmet (plan_of words) i (has state) fine → told r ≡ run_from (plan_of words) sequence (begun (plan_of words))
    step_stops r q =
        told_stops (plan_of words) (get_or sequence p 0) (has state) _ r (q ∙ ap (λ (j : ℕ). unmet (plan_of words) j (has state) fine) e) ∙ sym (turn words sequence p state here h)

    pub step_goes : (next : ℕ) → fine ≡ unmet (plan_of words) i (has state) fine → has next ≡ after (plan_of words) i (has state)
        → run_from (plan_of words) sequence (begun (plan_of words)) ≡ run_from (plan_of words) (drop (p + 1) sequence) (has next)
    step_goes next q a =
        turn words sequence p state here h
        ∙ met_goes (plan_of words) (get_or sequence p 0) (has state) _ (q ∙ ap (λ (j : ℕ). unmet (plan_of words) j (has state) fine) e)
        ∙ ap₂ (λ (k : ℕ) (s : ℕ → Bool). run_from (plan_of words) (drop k sequence) s) (sym (add-one p)) (ap (λ (j : ℕ). after (plan_of words) j (has state)) (sym e) ∙ sym a)

  -- the end in its turn
  module _ (n : ℕ) (h : length sequence ≤ p) (e : n ≡ steps_of words) where
    last_turn : run_from (plan_of words) sequence (begun (plan_of words)) ≡ unmet (plan_of words) (n + 1) (has state) (ended (has state))
    last_turn = end_turn words sequence p state here h ∙ ap (λ (i : ℕ). unmet (plan_of words) i (has state) (ended (has state))) (ap suc (sym e) ∙ sym (add-one n))

    pub goal_stops : (r : Refusal) → told r ≡ unmet (plan_of words) (n + 1) (has state) fine → told r ≡ run_from (plan_of words) sequence (begun (plan_of words))
    goal_stops r q = told_stops (plan_of words) (n + 1) (has state) (ended (has state)) r q ∙ sym last_turn

    pub goal_holds : fine ≡ unmet (plan_of words) (n + 1) (has state) fine → holding state ≡ run_from (plan_of words) sequence (begun (plan_of words))
    unfolding ended
    goal_holds q = sym (met_goes (plan_of words) (n + 1) (has state) (ended (has state)) q) ∙ sym last_turn

-- a step not used once, or each
module _ (words sequence : List ℕ) (n : ℕ) (each : Bool) (en : n ≡ steps_of words) (ee : each ≡ uses_each_once n sequence) where
  pub once_told : (done : Reply) → not each ≡ true → refusal 15 0 0 0 ≡ first_of (once_fault (steps_of words) sequence ∷ []) done
  unfolding once_fault
  once_told done h =
      let said : told NotOnceEach ≡ once_fault (steps_of words) sequence = rw (← en, ← ee, not-true each h) refl in
      refuses NotOnceEach _ _ done said

  pub once_passed : not each ≡ false → fine ≡ once_fault (steps_of words) sequence
  unfolding once_fault
  once_passed h = rw (← en, ← ee, not-false each h) refl

pub ruleset once = (once_told, once_passed)

-- two runs that are told alike have one outcome, where the sets that they end with are those of words
pub ran_once : (a b : Result ℕ Refusal) → ((s : ℕ) → a ≡ Ok s → s < 2 ^ 64) → ((s : ℕ) → b ≡ Ok s → s < 2 ^ 64) → ran a ≡ ran b → a ≡ b
ran_once (Ok s) (Ok t) ha hb e = ap Ok (holding_once s t (ha s refl) (hb t refl) e)
ran_once (Ok s) (Err q) ha hb e = absurd (told_refuses q (sym (ap (λ (r : Reply). r.code) e)))
ran_once (Err r) (Ok t) ha hb e = absurd (told_refuses r (ap (λ (r : Reply). r.code) e))
ran_once (Err r) (Err q) ha hb e = ap Err (told_once r q e)
