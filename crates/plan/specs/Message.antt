-- What a refusal says to a reader, beside its numbers. Stands on the enum alone.
use Rattle.std.specs.Prelude.{List, ℕ, ◌++◌, codes}
use Rattle.std.specs.Fmt.{decimal}
use Rattle.plan.specs.declared.replies.Refusal.{Refusal}
use Rattle.plan.specs.declared.replies.Refusal.TheVariants.{WrongLength, FactOutside, StepOutside, SetsMeet, ShortOutput, NeedUnmet, NotOnceEach}

-- the message of each refusal
abbrev pub message : Refusal → List ℕ
message WrongLength = codes "wrong F, n or length"
message (FactOutside step fact) = codes "step " ++ (decimal step ++ (codes " names " ++ (decimal fact ++ codes ", which is no fact")))
message (StepOutside step fact other) = codes "at " ++ (decimal step ++ (codes ": " ++ (decimal other ++ codes " is out of range")))
message (SetsMeet step fact) = codes "step " ++ (decimal step ++ (codes " adds and deletes fact " ++ decimal fact))
message (ShortOutput needed) = codes "an output is shorter than " ++ decimal needed
message (NeedUnmet step fact) = codes "step " ++ (decimal step ++ (codes " lacks fact " ++ decimal fact))
message NotOnceEach = codes "a step is not used exactly once"
