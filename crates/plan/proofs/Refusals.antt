-- Laws of 'the first of these that refuses, else what is done', and of the rule for buffers. Assumes nothing.
use Rattle.std.proofs.Common.{◌≡◌, refl, sym, ap, ◌∙◌, Bool, true, false, cond, List, [], ◌∷◌, ◌++◌, ℕ, ◌≤◌, ◌<◌, arith, length, drop, length-append, length-drop, eqb, lt-ltb, le-ltb, eqb-true, eq-eqb, ne_eqb, ◌^◌, Result, Ok, Err}
use lib.Seq.{drop-append_seam}
use borrow.Author.Tests.{eqb-false}
use Rattle.plan.specs.declared.replies.Reply.{Reply}
use Rattle.plan.specs.Refusal.{fine, refusal, first_of, length_fault, room_fault, left, when_done, told, reply_of, checked, holding}
use native.Mathlib.Decide.{ℕ_discrete}
use Rattle.std.specs.Result.{IsErrAnd}
use Rattle.sets.proofs.Words.{word_has}
use Rattle.plan.specs.declared.replies.Refusal.{Refusal}
use Rattle.plan.specs.declared.replies.Refusal.TheVariants.{WrongLength, FactOutside, StepOutside, SetsMeet, ShortOutput, NeedUnmet, NotOnceEach}

-- a refusal says so: its code is not 0
pub told_refuses : (r : Refusal) → (told r).code ≡ 0 → ⊥
told_refuses WrongLength z = let y : ◌≡◌ {A = ℕ} 3 0 = z in absurd (omega arith)
told_refuses (FactOutside step fact) z = let y : ◌≡◌ {A = ℕ} 4 0 = z in absurd (omega arith)
told_refuses (StepOutside step fact other) z = let y : ◌≡◌ {A = ℕ} 5 0 = z in absurd (omega arith)
told_refuses (SetsMeet step fact) z = let y : ◌≡◌ {A = ℕ} 6 0 = z in absurd (omega arith)
told_refuses (ShortOutput needed) z = let y : ◌≡◌ {A = ℕ} 8 0 = z in absurd (omega arith)
told_refuses (NeedUnmet step fact) z = let y : ◌≡◌ {A = ℕ} 9 0 = z in absurd (omega arith)
told_refuses NotOnceEach z = let y : ◌≡◌ {A = ℕ} 15 0 = z in absurd (omega arith)

-- the refusal that a reply tells
unfoldable refusal_in : Reply → Refusal
refusal_in reply =
    cond (eqb reply.code 3) WrongLength
    (cond (eqb reply.code 4) (FactOutside reply.step reply.fact)
    (cond (eqb reply.code 5) (StepOutside reply.step reply.fact reply.other)
    (cond (eqb reply.code 6) (SetsMeet reply.step reply.fact)
    (cond (eqb reply.code 8) (ShortOutput reply.other)
    (cond (eqb reply.code 9) (NeedUnmet reply.step reply.fact)
    NotOnceEach)))))

told_back : (r : Refusal) → refusal_in (told r) ≡ r
unfolding refusal_in
told_back WrongLength = refl
told_back (FactOutside step fact) = refl
told_back (StepOutside step fact other) = refl
told_back (SetsMeet step fact) = refl
told_back (ShortOutput needed) = refl
told_back (NeedUnmet step fact) = refl
told_back NotOnceEach = refl

-- two refusals that are told alike are one
pub told_once : (r s : Refusal) → told r ≡ told s → r ≡ s
told_once r s e = sym (told_back r) ∙ ap refusal_in e ∙ told_back s

-- and so are two outcomes with the same reply, where what is done is told by code 0 and told apart
pub reply_once : {T : Type 0} (done : T → Reply) → ((x : T) → (done x).code ≡ 0) → ((x y : T) → done x ≡ done y → x ≡ y) → (a b : Result T Refusal)
    → reply_of done a ≡ reply_of done b → a ≡ b
reply_once done zero once (Ok x) (Ok y) e = ap Ok (once x y e)
reply_once done zero once (Ok x) (Err s) e = absurd (told_refuses s (sym (ap (λ (r : Reply). r.code) e) ∙ zero x))
reply_once done zero once (Err r) (Ok y) e = absurd (told_refuses r (ap (λ (r : Reply). r.code) e ∙ zero y))
reply_once done zero once (Err r) (Err s) e = ap Err (told_once r s e)

-- so a check has one outcome
pub checked_once : (a b : Result Unit Refusal) → checked a ≡ checked b → a ≡ b
checked_once a b e = reply_once (λ _. fine) (λ _. refl) (λ x y _. refl) a b e

-- and a call that ends with a set of facts has one, since a program's sets are those of words
pub holding_once : (a b : ℕ) → a < 2 ^ 64 → b < 2 ^ 64 → holding a ≡ holding b → a ≡ b
holding_once a b ha hb e = sym (word_has a ha) ∙ ap (λ (r : Reply). r.other) e ∙ word_has b hb

-- a check that refuses is the reply
pub first_refuses : (check : Reply) (checks : List Reply) (done : Reply) → (check.code ≡ 0 → ⊥) → first_of (check ∷ checks) done ≡ check
unfolding first_of
first_refuses check checks done h = rw (ne_eqb check.code 0 h)

-- a check that refuses nothing is passed over
pub first_passes : (check : Reply) (checks : List Reply) (done : Reply) → check.code ≡ 0 → first_of (check ∷ checks) done ≡ first_of checks done
unfolding first_of
first_passes check checks done h = rw (eq-eqb check.code 0 h)

-- with no check left it is what is done
pub first_none : (done : Reply) → first_of [] done ≡ done
unfolding first_of
first_none done = refl

-- ---- the ways on of a function that makes these checks in turn

-- a refusal that is passed on is told
pub exits : {T : Type 0} (done : T → Reply) (outcome : Result T Refusal) (r : Refusal) (reply : Reply) → IsErrAnd outcome (λ x. x ≡ r) → told r ≡ reply → reply_of done outcome ≡ reply
exits done (Ok x) r reply h e = absurd h
exits done (Err x) r reply h e = ap told h ∙ e

-- a check that refuses ends it
pub refuses : (r : Refusal) (check : Reply) (checks : List Reply) (done : Reply) → told r ≡ check → told r ≡ first_of (check ∷ checks) done
refuses r check checks done e = e ∙ sym (first_refuses check checks done (λ z. told_refuses r (ap (λ (x : Reply). x.code) e ∙ z)))

-- a check that refuses nothing leads on to the next
pub passes : (check : Reply) (checks : List Reply) (done reply : Reply) → fine ≡ check → reply ≡ first_of checks done → reply ≡ first_of (check ∷ checks) done
passes check checks done reply e q = q ∙ sym (first_passes check checks done (ap (λ (x : Reply). x.code) (sym e)))

-- with no check left it is as what is done says
pub all_pass : (done reply : Reply) → reply ≡ done → reply ≡ first_of [] done
all_pass done reply e = e ∙ sym (first_none done)

-- the last check decides where nothing else is done
pub last_decides : (outcome : Result Unit Refusal) (check : Reply) → checked outcome ≡ check → checked outcome ≡ first_of (check ∷ []) fine
last_decides (Ok done) check e = passes check [] fine fine e (all_pass fine fine refl)
last_decides (Err r) check e = refuses r check [] fine e

pub ruleset in_turn = (exits, refuses, passes, all_pass, last_decides)

-- checks that refuse nothing are passed over together, and the first refusal among them stands whatever follows
pub first_onto : (checks : List Reply) (rest r : Reply) → r ≡ first_of checks fine → r.code ≡ 0 → first_of checks rest ≡ rest
unfolding first_of
first_onto [] rest r e h = refl
first_onto (check ∷ checks) rest r e h = go (eqb check.code 0) refl e (first_onto checks rest r)
  where
    go : (b : Bool) → eqb check.code 0 ≡ b → r ≡ cond b (first_of checks fine) check → (r ≡ first_of checks fine → r.code ≡ 0 → first_of checks rest ≡ rest)
        → cond b (first_of checks rest) check ≡ rest
    go true q z f = f z h
    go false q z f = absurd (eqb-false check.code 0 q (sym (ap (λ (x : Reply). x.code) z) ∙ h))

pub first_stands : (checks : List Reply) (rest r : Reply) → r ≡ first_of checks fine → (r.code ≡ 0 → ⊥) → first_of checks rest ≡ r
unfolding first_of
first_stands [] rest r e h = absurd (h (ap (λ (x : Reply). x.code) e))
first_stands (check ∷ checks) rest r e h = go (eqb check.code 0) e (first_stands checks rest r)
  where
    go : (b : Bool) → r ≡ cond b (first_of checks fine) check → (r ≡ first_of checks fine → (r.code ≡ 0 → ⊥) → first_of checks rest ≡ r)
        → cond b (first_of checks rest) check ≡ r
    go true z f = f z h
    go false z f = sym z

-- a check that refuses nothing says nothing else either
abbrev pub Plain : Reply → Type 0
Plain check = check.code ≡ 0 → check ≡ fine

pub plain_last : (check : Reply) → Plain check → first_of (check ∷ []) fine ≡ check
unfolding first_of
plain_last check p = go (eqb check.code 0) refl
  where
    go : (b : Bool) → eqb check.code 0 ≡ b → cond b fine check ≡ check
    go true q = sym (p (eqb-true check.code 0 q))
    go false q = refl

-- a check that is a refusal or nothing is plain
pub plain_either : (b : Bool) (r : Reply) → (r.code ≡ 0 → ⊥) → Plain (cond b r fine)
plain_either true r h z = absurd (h z)
plain_either false r h z = refl

-- a length: as wanted, or refused
pub length_right : (wanted sent : ℕ) → sent ≡ wanted → length_fault wanted sent ≡ fine
unfolding length_fault
length_right wanted sent h = rw (eq-eqb sent wanted h)

pub length_wrong : (wanted sent : ℕ) → (sent ≡ wanted → ⊥) → length_fault wanted sent ≡ refusal 3 0 0 0
unfolding length_fault
length_wrong wanted sent h = rw (ne_eqb sent wanted h)

-- the two returns of the function that tests a length
pub length_accepts : (wanted sent : ℕ) (r : Reply) → sent ≡ wanted → r ≡ fine → r ≡ length_fault wanted sent
length_accepts wanted sent r h q = q ∙ sym (length_right wanted sent h)

pub length_refuses : (wanted sent : ℕ) (r : Reply) → (sent ≡ wanted → ⊥) → r ≡ refusal 3 0 0 0 → r ≡ length_fault wanted sent
length_refuses wanted sent r h q = q ∙ sym (length_wrong wanted sent h)

-- room for what is to be written, or not
pub room_short : (needed room : ℕ) (r : Reply) → room < needed → r ≡ refusal 8 0 0 needed → r ≡ room_fault needed room
unfolding room_fault
room_short needed room r h q = rw (lt-ltb room needed h) q

pub room_enough : (needed room : ℕ) (r : Reply) → needed ≤ room → r ≡ fine → r ≡ room_fault needed room
unfolding room_fault
room_enough needed room r h q = rw (le-ltb room needed h) q

-- a length that nothing is refused of is the one wanted
pub length_passed : (wanted sent : ℕ) → fine ≡ length_fault wanted sent → sent ≡ wanted
length_passed wanted sent e = go (ℕ_discrete sent wanted)
  where
    go : Dec (sent ≡ wanted) → sent ≡ wanted
    go (yes h) = h
    go (no h) = let y : ◌≡◌ {A = ℕ} 0 3 = ap (λ (x : Reply). x.code) (e ∙ length_wrong wanted sent h) in absurd (omega arith)

-- ---- the one rule for buffers

-- a refusal leaves a lent buffer as it was
pub refused_keeps : (reply : Reply) (new old : List ℕ) → (reply.code ≡ 0 → ⊥) → left when_done reply new old ≡ old
unfolding left when_done
refused_keeps reply new old h = rw (ne_eqb reply.code 0 h)

-- code 0 writes the new content
pub done_writes : (reply : Reply) (new old : List ℕ) → reply.code ≡ 0 → left when_done reply new old ≡ new ++ drop (length new) old
unfolding left when_done
done_writes reply new old h = rw (eq-eqb reply.code 0 h)

-- it changes only the needed front: what stood past it still stands there
pub past_front : (writes : ℕ → Bool) (reply : Reply) (new old : List ℕ) → drop (length new) (left writes reply new old) ≡ drop (length new) old
unfolding left
past_front writes reply new old = go (writes reply.code)
  where
    go : (b : Bool) → drop (length new) (cond b (new ++ drop (length new) old) old) ≡ drop (length new) old
    go true = drop-append_seam new (drop (length new) old)
    go false = refl

-- a buffer with room keeps its length
pub left_length : (writes : ℕ → Bool) (reply : Reply) (new old : List ℕ) → length new ≤ length old → length (left writes reply new old) ≡ length old
unfolding left
left_length writes reply new old h = go (writes reply.code)
  where
    go : (b : Bool) → length (cond b (new ++ drop (length new) old) old) ≡ length old
    go true = simp (length-append, length-drop) (omega arith)
    go false = refl
