-- The examples that are proved, one table under one statement: what is asked of a call, with its plan by its sets, and the reply.
use Rattle.std.specs.Prelude.{◌≡◌, List, [], ◌∷◌, ℕ, ◌+◌, ◌^◌, length}
use Rattle.plan.specs.declared.replies.Reply.{Reply}
use Rattle.plan.specs.declared.replies.Refusal.TheVariants.{WrongLength, FactOutside, StepOutside, SetsMeet, ShortOutput, NeedUnmet, NotOnceEach}
use Rattle.plan.specs.Refusal.{fine, told, holding, room_fault}
use Rattle.plan.specs.StepSets.{order_fault}
use Rattle.plan.specs.Links.{links_fault}
use Rattle.run.specs.Call.{run_reply}

-- a step by the numbers in its sets
pub record StepSets : Type 0 where
  pub needs : List ℕ
  pub adds : List ℕ
  pub deletes : List ℕ

-- a plan by its sets
pub record Sets : Type 0 where
  pub facts : ℕ
  pub initial : List ℕ
  pub goal : List ℕ
  pub steps : List StepSets

-- the word of a set, by its numbers
abbrev pub word_of : List ℕ → ℕ
word_of [] = 0
word_of (i ∷ set) = 2 ^ i + word_of set

-- the words of a list of sets
abbrev pub words_of : List (List ℕ) → List ℕ
words_of [] = []
words_of (set ∷ sets) = word_of set ∷ words_of sets

-- the words of steps
abbrev pub step_words : List StepSets → List ℕ
step_words [] = []
step_words (step ∷ steps) = word_of step.needs ∷ word_of step.adds ∷ word_of step.deletes ∷ step_words steps

-- the words of a plan
abbrev pub plan_words : Sets → List ℕ
plan_words plan = plan.facts ∷ length plan.steps ∷ word_of plan.initial ∷ word_of plan.goal ∷ step_words plan.steps

-- what is asked: to run a sequence of a plan, to check its links, to check rows that come without a plan, whether an output has room
pub data Asked : Type 0 where
  runs : Sets → List ℕ → Asked
  links : Sets → List ℕ → Asked
  rows : List (List ℕ) → Asked
  room : ℕ → ℕ → Asked

-- what is replied
abbrev pub replied : Asked → Reply
replied (runs plan sequence) = run_reply (plan_words plan) sequence
replied (links plan producers) = links_fault (plan_words plan) producers
replied (rows sets) = order_fault (words_of sets)
replied (room needed sent) = room_fault needed sent

-- what is asked, and what the reply must be
pub record Example : Type 0 where
  pub asked : Asked
  pub reply : Reply

-- three facts, 0 at the start, 1 and 2 wanted; step 1 needs 0 and adds 1, step 2 deletes 0 and adds 2
abbrev pub deleting : Sets
deleting = record {
  facts = 3;
  initial = 0 ∷ [];
  goal = 1 ∷ 2 ∷ [];
  steps = record { needs = 0 ∷ []; adds = 1 ∷ []; deletes = [] } ∷ record { needs = []; adds = 2 ∷ []; deletes = 0 ∷ [] } ∷ [];
}

-- one fact, none at the start, and a goal
abbrev pub wanting : List ℕ → Sets
wanting goal = record { facts = 1; initial = []; goal = goal; steps = [] }

-- one fact, which the one step adds and deletes
abbrev pub meeting : Sets
meeting = record { facts = 1; initial = []; goal = []; steps = record { needs = []; adds = 0 ∷ []; deletes = 0 ∷ [] } ∷ [] }

-- the table: the plan run as it is planned ends with facts 1 and 2; the other way round step 1 lacks fact 0; a sequence too short; a step used twice;
-- a goal that is no fact; adds and deletes that meet; a goal that is not reached; links as the plan wants them; a producer that is no step; a link too few;
-- an order that is a cycle, which is no refusal of rows; a row with a step that is none; an output with room, and without
abbrev pub examples : List Example
examples =
    record { asked = runs deleting (1 ∷ 2 ∷ []); reply = holding (word_of (1 ∷ 2 ∷ [])) }
    ∷ record { asked = runs deleting (2 ∷ 1 ∷ []); reply = told (NeedUnmet 1 0) }
    ∷ record { asked = runs deleting (1 ∷ []); reply = told WrongLength }
    ∷ record { asked = runs deleting (2 ∷ 2 ∷ []); reply = told NotOnceEach }
    ∷ record { asked = runs (wanting (1 ∷ [])) []; reply = told (FactOutside 1 1) }
    ∷ record { asked = runs meeting (1 ∷ []); reply = told (SetsMeet 1 0) }
    ∷ record { asked = runs (wanting (0 ∷ [])) []; reply = told (NeedUnmet 1 0) }
    ∷ record { asked = links deleting (0 ∷ 1 ∷ 2 ∷ []); reply = fine }
    ∷ record { asked = links deleting (0 ∷ 1 ∷ 3 ∷ []); reply = told (StepOutside 3 2 3) }
    ∷ record { asked = links deleting (0 ∷ 1 ∷ []); reply = told WrongLength }
    ∷ record { asked = rows ((2 ∷ []) ∷ (1 ∷ []) ∷ []); reply = fine }
    ∷ record { asked = rows ((2 ∷ []) ∷ (1 ∷ 3 ∷ []) ∷ []); reply = told (StepOutside 2 0 3) }
    ∷ record { asked = room 5 5; reply = fine }
    ∷ record { asked = room 5 4; reply = told (ShortOutput 5) }
    ∷ []

-- what an example asks has its reply
abbrev pub IsAnswered : Example → Type 0
IsAnswered e = replied e.asked ≡ e.reply

abbrev pub EachIsAnswered : List Example → Type 0
EachIsAnswered [] = Unit {0}
EachIsAnswered (e ∷ table) = IsAnswered e × EachIsAnswered table
