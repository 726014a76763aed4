-- What a command makes of its input before anything is written, and why it makes nothing.
use Rattle.std.specs.Prelude.{◌≡◌, ◌≤◌, ℕ, List, Option, Some, None}
use Rattle.of_plan.specs.Plan.{Plan}
use Rattle.of_plan.specs.Grammar.{SpellsPlan, IsPlanText}
use Rattle.of_plan.specs.BadLine.{HasBadLine}
use Rattle.of_plan.specs.Report.{Report}
use Rattle.of_plan.specs.Ended.{Ended}
use Rattle.of_plan.specs.Generated.{generated_plan}
use Rattle.of_report.specs.ReportText.{report_text}
use Rattle.of_report.specs.LoadText.{load_text}
use Rattle.of_report.specs.Image.{Image}
use Rattle.of_row.specs.Views.{View}
use Rattle.of_row.specs.declared.member.Pass.{Pass}
use Rattle.of_image.specs.declared.version.Version.{Version as Edition}
use Rattle.of_image.specs.declared.version.Version.TheVariants.{Two}
use Rattle.of_image.specs.ImageText.{IsImageText}
use Rattle.of_image.specs.Parsed.{ReadsImage, IsUnlawful}
use Rattle.of_lives.specs.Images.{PlanFitsImage}
use Rattle.of_tool.specs.declared.status.TheConstants.{DONE}
use Rattle.of_tool.specs.declared.refusal.Refusal.{Refusal}
use Rattle.of_tool.specs.declared.refusal.Refusal.TheVariants.{BadPlan, BadImage, UnlawfulImage, DoesNotFit}
use Rattle.of_tool.specs.declared.refusal.Failure.{Failure}
use Rattle.of_tool.specs.declared.refusal.Failure.TheVariants.{Memory, Refused}
use Rattle.of_tool.specs.declared.refusal.Output.{Output}
use Rattle.of_tool.specs.declared.commands.TheConstants.{MOST_WITH_REPORT}
use Rattle.of_tool.specs.declared.command.Command.{Command}
use Rattle.of_tool.specs.declared.command.Command.TheVariants.{Run, Load, Continue}
use Rattle.of_tool.specs.Commands.{AreWordsOf, AreWordsOfTeam}
use Rattle.of_tool.specs.Ran.{IsRunReport}
use Rattle.of_tool.specs.Continued.{WritesLife}
use Rattle.of_tool.specs.Seen.{Change, StepsLeft, ReadsAll, RecordHolds}
use Rattle.of_tool.specs.Inputs.{Input, input_of, most_of, ReadsPlan, ReadsLife}
use Rattle.of_tool.specs.Refusals.{IsRefused, status_of, text_of}
use Rattle.of_tool.specs.Makes.{Makes}
use Rattle.of_tool.specs.Headline.{IsWholeLoad}

-- ---- the input

-- the command reads an input, which has at most this many bytes
pub record IsMostOf (command : Command) (most : ℕ) : Type 0 where
  pub input : Input
  pub reads : input_of command ≡ Some input
  pub is : most ≡ most_of input
  pub few : most ≤ MOST_WITH_REPORT

-- the bytes are the whole input of the command, if it reads one
abbrev pub IsInputFor : Command → Change → List ℕ → Type 0
IsInputFor command source bytes =
    (input : Input) → input_of command ≡ Some input → ReadsAll (most_of input) source bytes

-- ---- failures

-- memory ran out, or `Is` holds of the refusal
abbrev pub FailsBy : (Refusal → Type 0) → Failure → Type 0
FailsBy Is Memory = Unit {0}
FailsBy Is (Refused why reason) = Is why

-- the output has the status and the text of the refusal; no output tells that memory ran out
abbrev pub TellsFailure : Command → Output → Failure → Type 0
TellsFailure command output Memory = ⊥
TellsFailure command output (Refused why reason) =
    (output.status ≡ status_of why) × (output.text.items ≡ text_of command why)

-- the refusal is true of each kind of input that has `most` as its greatest number of bytes
abbrev pub RefusesUpTo : (most : ℕ) → Change → Refusal → Type 0
RefusesUpTo most source why = (input : Input) → most ≡ most_of input → IsRefused input source why

-- the refusal says why the text spells no plan
abbrev pub HasNoPlan : List ℕ → Refusal → Type 0
HasNoPlan text (BadPlan line) = HasBadLine IsPlanText text line
HasNoPlan text why = ⊥

-- the refusal says why no image of this version is read from the text
abbrev pub HasNoImage : Edition → List ℕ → Refusal → Type 0
HasNoImage edition text (BadImage line) = HasBadLine (IsImageText edition) text line
HasNoImage edition text (UnlawfulImage cell) = IsUnlawful edition text cell
HasNoImage edition text why = ⊥

-- the first text is read as this image, and the second spells this plan
pub record AreOf (first second : List ℕ) (image : Image) (plan : Plan) : Type 0 where
  pub reads : ReadsImage Two first image
  pub spelled : SpellsPlan second plan

-- the first text is read as this image, the second spells this plan, and the plan fits the image
pub record IsLife (first second : List ℕ) (image : Image) (plan : Plan) : Type 0 where
  pub are : AreOf first second image plan
  pub fits : PlanFitsImage image plan

-- the refusal says why the texts are no image with a plan that fits it: the second text spells no
-- plan; or it spells one, and no image is read from the first; or both are read, and the plan
-- doesn't fit the image
abbrev pub HaveNoLife : (first second : List ℕ) → Refusal → Type 0
HaveNoLife first second (BadPlan line) = HasBadLine IsPlanText second line
HaveNoLife first second DoesNotFit =
    (image : Image) × (plan : Plan) × AreOf first second image plan
    × (PlanFitsImage image plan → ⊥)
HaveNoLife first second why = (plan : Plan) × SpellsPlan second plan × HasNoImage Two first why

-- ---- what a command makes, and what a run has left

-- the text is the report of a run of the plan that was read; the run has left this record
pub record HoldsRun (brakes : List StepsLeft) (source : Change) (text : List ℕ) (e : Ended)
    (w : View) : Type 0 where
  pub plan : Plan
  pub read : ReadsPlan source plan
  pub report : Report
  pub run : IsRunReport brakes plan report e w
  pub text_is : text ≡ report_text report

-- the text is the summary of the report of a run of the plan of a load; the run has left this
-- record
pub record HoldsLoad (brakes : List StepsLeft) (callers scripts : ℕ) (text : List ℕ) (e : Ended)
    (w : View) : Type 0 where
  pub report : Report
  pub run : IsRunReport brakes (generated_plan callers scripts) report e w
  pub whole : IsWholeLoad brakes (generated_plan callers scripts) report
  pub text_is : text ≡ load_text report

-- an image and a plan were read; the text is that of a life that has gone on from the image by the
-- plan, and has left this record
pub record HoldsLife (brakes : List StepsLeft) (source : Change) (text : List ℕ) (e : Ended)
    (w : View) : Type 0 where
  pub image : Image
  pub plan : Plan
  pub read : ReadsLife source image plan
  pub writes : WritesLife brakes image plan e w text

-- the text is what the command makes of its input; a command that runs callers at once leaves a
-- record too, and another command leaves none
abbrev pub MakesWith : List StepsLeft → Command → Change → List ℕ → Option (Ended × Pass) → Type 0
MakesWith brakes Run source text ran = RecordHolds ran (HoldsRun brakes source text)
MakesWith brakes (Load callers scripts) source text ran =
    RecordHolds ran (HoldsLoad brakes callers scripts text)
MakesWith brakes Continue source text ran = RecordHolds ran (HoldsLife brakes source text)
MakesWith brakes command source text ran = Makes command source text × (ran ≡ None)

-- what goes with the answer to the words: with status 0 the text is what their command makes; there
-- is a record only with status 0 of a command that runs callers at once
pub record Carries (brakes : List StepsLeft) (words : List (List ℕ)) (source : Change)
    (status : ℕ) (text : List ℕ) (ran : Option (Ended × Pass)) : Type 0 where
  pub made : (command : Command) → AreWordsOf words command → status ≡ DONE
      → MakesWith brakes command source text ran
  pub none : (AreWordsOfTeam words × (status ≡ DONE) → ⊥) → ran ≡ None
