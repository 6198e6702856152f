-- Refusals, 'the first of these that refuses, else what is done', and the one rule for buffers. Source: docs/RULES.md 'Replies'.
-- Every call's reply and every lent buffer is stated with these.
use Rattle.std.specs.Prelude.{Bool, List, [], ◌∷◌, ◌++◌, ℕ, length, drop, ◌==◌, nat_lt, if◌then◌else◌, Result, Ok, Err}
use Rattle.sets.specs.Word.{has, word}
use Rattle.plan.specs.declared.replies.Reply.{Reply}
use Rattle.plan.specs.declared.replies.Refusal.{Refusal}
use Rattle.plan.specs.declared.replies.Refusal.TheVariants.{WrongLength, FactOutside, StepOutside, SetsMeet, ShortOutput, NeedUnmet, NotOnceEach}

-- nothing to refuse: every number is 0
abbrev pub fine : Reply
fine = record { code = 0; step = 0; fact = 0; other = 0; at = 0 }

-- a refusal of a call other than the reader: a field that its row of the table does not name is 0
abbrev pub refusal : ℕ → ℕ → ℕ → ℕ → Reply
refusal code step fact other = record { code = code; step = step; fact = fact; other = other; at = 0 }

-- the number and the fields of each refusal: its row of the table
abbrev pub told : Refusal → Reply
told WrongLength = refusal 3 0 0 0
told (FactOutside step fact) = refusal 4 step fact 0
told (StepOutside step fact other) = refusal 5 step fact other
told (SetsMeet step fact) = refusal 6 step fact 0
told (ShortOutput needed) = refusal 8 0 0 needed
told (NeedUnmet step fact) = refusal 9 step fact 0
told NotOnceEach = refusal 15 0 0 0

-- done, with a set of facts: its word
abbrev pub holding : ℕ → Reply
holding set = record { code = 0; step = 0; fact = 0; other = word (has set); at = 0 }

-- the reply of a call: what is said where it is done, or the refusal
abbrev pub reply_of : {T : Type 0} → (T → Reply) → Result T Refusal → Reply
reply_of done (Ok x) = done x
reply_of done (Err refusal) = told refusal

-- the reply to a check, which says nothing where it refuses nothing
abbrev pub checked : Result Unit Refusal → Reply
checked outcome = reply_of (λ _. fine) outcome

-- the first of these that refuses, else what is done; a check that refuses nothing has code 0
unfoldable pub first_of : List Reply → Reply → Reply
first_of [] done = done
first_of (check ∷ checks) done = let rest = first_of checks done in if check.code == 0 then rest else check

-- a length that is not the one wanted is refused with 3
unfoldable pub length_fault : ℕ → ℕ → Reply
length_fault wanted sent = if sent == wanted then fine else refusal 3 0 0 0

-- 8 where an output buffer is shorter than what is to be written into it: the length needed
unfoldable pub room_fault : ℕ → ℕ → Reply
room_fault needed room = if nat_lt room needed then refusal 8 0 0 needed else fine

-- what a call leaves in a lent buffer: after a code that writes the new content stands in front of what stood past it, after any other all is as it was
unfoldable pub left : (ℕ → Bool) → Reply → List ℕ → List ℕ → List ℕ
left writes reply new old = if writes reply.code then new ++ drop (length new) old else old

-- only code 0 writes
unfoldable pub when_done : ℕ → Bool
when_done code = code == 0
