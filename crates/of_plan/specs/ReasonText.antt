-- The text that is printed of each reason.
use Rattle.std.specs.Prelude.{ℕ, List, ◌++◌, codes, decimal}
use Rattle.of_plan.specs.declared.reason.Reason.{Reason}
use Rattle.of_plan.specs.declared.reason.Reason.TheVariants.{Flawed, TitleExpected, CallersExpected, BlocksExpected, AfterEnd, UnknownLine, UnknownInstruction, NoCaller, NoCell, InstructionMissing, TooManyInstructions, TooManyScripts, TooManyTurns, StopTwice, SecondStop, HeadingOver, EndMissing}
use Rattle.of_plan.specs.FlawText.{flaw_text}

-- the text that is printed of a reason
abbrev pub reason_text : Reason → List ℕ
reason_text (Flawed flaw) = flaw_text flaw
reason_text TitleExpected = codes "the first line of a plan is `onefile plan 1`"
reason_text CallersExpected = codes "the second line of a plan is `callers N`, N from 1 to 16"
reason_text BlocksExpected = codes "the third line of a plan is `blocks B`, B from 0 to 512"
reason_text AfterEnd = codes "a line after `end`"
reason_text UnknownLine = codes "no line of a plan begins with this word"
reason_text UnknownInstruction = codes "no instruction has this name"
reason_text (NoCaller caller callers) =
    codes "caller " ++ (decimal caller ++ (codes " of a plan with " ++ (decimal callers
    ++ codes "; the first is 0")))
reason_text (NoCell cell cells) =
    codes "cell " ++ (decimal cell ++ (codes " of a plan with " ++ (decimal cells
    ++ codes "; the first is 0")))
reason_text InstructionMissing = codes "an instruction is missing here"
reason_text TooManyInstructions = codes "a script has at most 16 instructions"
reason_text TooManyScripts = codes "a plan has at most 20000 scripts"
reason_text TooManyTurns = codes "a plan has at most 10000000 turns in all"
reason_text (StopTwice caller) = codes "this caller has a stop already"
reason_text (SecondStop line) = codes "this caller has a stop already, in line " ++ decimal line
reason_text HeadingOver = codes "this line comes once, in the heading of a plan"
reason_text EndMissing = codes "the text ends before `end`"
