-- How a call of `tool` ends: each status comes for its cause, and there is no other.
use Rattle.std.specs.Prelude.{◌≡◌, ℕ, List, codes}
use Rattle.of_io.specs.Faults.{HasRisen, AppendsFront}
use Rattle.of_tool.specs.declared.command.Command.{Command}
use Rattle.of_tool.specs.declared.command.Command.TheVariants.{Check, CheckLife, Continue}
use Rattle.of_tool.specs.declared.status.TheConstants.{DONE, OUT_OF_MEMORY, USAGE, WRITE_FAULT, ILLEGAL, DOES_NOT_FIT}
use Rattle.of_tool.specs.Commands.{AreWordsOf, IsNoCommand}
use Rattle.of_tool.specs.Seen.{Change, Seen, IsWritten, IsUntouched, IsFresh}
use Rattle.of_tool.specs.Inputs.{input_of, IsValidInput}
use Rattle.of_tool.specs.Refusals.{IsRefusal, FindsWrong}
use Rattle.of_tool.specs.Makes.{Makes, Did}

-- the status and the text are a command's answer to its input: the command is done, or its input is
-- refused
pub data IsAnswerTo (command : Command) (source : Change) (status : ℕ) (text : List ℕ)
    : Type 0 where
  Done : status ≡ DONE → Makes command source text → IsAnswerTo command source status text
  Refused : IsRefusal command source status text → IsAnswerTo command source status text

-- the status and the text are the answer to the words of a command line; words that are no command
-- have an answer too
pub data IsAnswer (words : List (List ℕ)) (source : Change) (status : ℕ) (text : List ℕ)
    : Type 0 where
  To : (command : Command) → AreWordsOf words command → IsAnswerTo command source status text
      → IsAnswer words source status text
  NoCommand : IsNoCommand words → status ≡ USAGE → text ≡ codes "error: usage\n"
      → IsAnswer words source status text

-- the status is that of an answer to the words, and the answer's text was written without a fault
pub record IsAnsweredAndWritten (seen : Seen) (status : ℕ) : Type 0 where
  pub text : List ℕ
  pub answer : IsAnswer seen.words seen.source status text
  pub written : IsWritten seen text
  pub no_fault : seen.sink.faults_after ≡ seen.sink.faults

-- a write failed: of the text of an answer only a first part may have been written
pub record IsWriteFault (seen : Seen) (status : ℕ) : Type 0 where
  pub is : status ≡ WRITE_FAULT
  pub fault : HasRisen seen.sink.faults seen.sink.faults_after
  pub text : List ℕ
  pub meant : ℕ
  pub answer : IsAnswer seen.words seen.source meant text
  pub written : AppendsFront seen.sink.before seen.sink.after text

-- memory ran out, and nothing was written
pub record IsOutOfMemory (seen : Seen) (status : ℕ) : Type 0 where
  pub is : status ≡ OUT_OF_MEMORY
  pub untouched : IsUntouched seen

-- the status comes for its cause: an answer was written, a write failed, or memory ran out
pub data AnswersWords (seen : Seen) (status : ℕ) : Type 0 where
  Told : IsAnsweredAndWritten seen status → AnswersWords seen status
  WriteFault : IsWriteFault seen status → AnswersWords seen status
  OutOfMemory : IsOutOfMemory seen status → AnswersWords seen status

-- what a call was given and did is the cause of one status only
abbrev pub OneStatus : Type 0
OneStatus =
    (seen : Seen) (status other : ℕ) → IsFresh seen
    → AnswersWords seen status → AnswersWords seen other → status ≡ other

-- an error, which is any status above 0, has only one text
abbrev pub OneError : Type 0
OneError =
    (seen : Seen) (status other : ℕ) (text said : List ℕ) → IsFresh seen
    → IsAnswer seen.words seen.source status text → IsAnswer seen.words seen.source other said
    → (status ≡ DONE → ⊥) → text ≡ said

-- how a command with a valid input ends if no read and no write fails
pub data Ends (command : Command) (status : ℕ) : Type 0 where
  IsDone : status ≡ DONE → Ends command status
  LacksMemory : status ≡ OUT_OF_MEMORY → Ends command status
  FindsReportIllegal : command ≡ Check → status ≡ ILLEGAL → Ends command status
  FindsLifeIllegal : command ≡ CheckLife → status ≡ ILLEGAL → Ends command status
  FindsMisfit : command ≡ Continue → status ≡ DOES_NOT_FIT → Ends command status
  FindsLifeMisfit : command ≡ CheckLife → status ≡ DOES_NOT_FIT → Ends command status

-- ---- what an answer says of a command

-- the words are those of this command, and the command is done
pub record HasDone (seen : Seen) (command : Command) : Type 0 where
  pub asked : AreWordsOf seen.words command
  pub done : seen.status ≡ DONE

-- With status 0 each command has read its whole input and written what it makes of it. `Makes` says
-- what this is for each command.
abbrev pub DoneIsMade : Type 0
DoneIsMade =
    (seen : Seen) (command : Command) → AnswersWords seen seen.status → HasDone seen command
    → Did command seen

-- With status 8 the report that `check` reads, or the life that `check-life` reads, is not legal.
-- With status 9 the plan that `continue` or `check-life` reads does not fit the image, or the input
-- of `part N` has fewer than N texts.
abbrev pub FoundIsWrong : Type 0
FoundIsWrong =
    (seen : Seen) (command : Command) → AnswersWords seen seen.status
    → AreWordsOf seen.words command → FindsWrong (input_of command) seen.source seen.status

-- A command with a valid input is done, or memory runs out, unless a read or a write fails. What
-- `check`, `continue` and `check-life` judge may be found wrong.
abbrev pub ValidIsDone : Type 0
ValidIsDone =
    (seen : Seen) (command : Command) → AnswersWords seen seen.status
    → AreWordsOf seen.words command → IsValidInput command seen.source.before
    → (HasRisen seen.source.faults seen.source.faults_after → ⊥)
    → (HasRisen seen.sink.faults seen.sink.faults_after → ⊥) → Ends command seen.status
