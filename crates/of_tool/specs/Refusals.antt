-- Why an input is refused: the statuses above 0 whose cause is in the input, with their texts.
use Rattle.std.specs.Prelude.{◌≡◌, ℕ, List, ◌++◌, codes, decimal, Option, Some}
use Rattle.of_io.specs.Faults.{HasRisen, TakesMoreThan, TakesAtMost}
use Rattle.of_plan.specs.Plan.{Plan}
use Rattle.of_plan.specs.BadLine.{HasBadLine}
use Rattle.of_image.specs.declared.version.Version.{Version as Edition}
use Rattle.of_image.specs.declared.version.Version.TheVariants.{Two}
use Rattle.of_image.specs.ImageText.{IsImageText}
use Rattle.of_image.specs.Parsed.{IsUnlawful}
use Rattle.of_tool.specs.declared.status.TheConstants.{READ_FAULT, BAD_PLAN, TOO_LONG, BAD_IMAGE, ILLEGAL, DOES_NOT_FIT}
use Rattle.of_tool.specs.declared.refusal.Refusal.{Refusal}
use Rattle.of_tool.specs.declared.refusal.Refusal.TheVariants.{ReadFault, TooLong, BadPlan, BadImage, UnlawfulImage, DoesNotFit, Illegal}
use Rattle.of_tool.specs.declared.command.Command.{Command}
use Rattle.of_tool.specs.declared.command.Command.TheVariants.{CheckLife, Part}
use Rattle.of_tool.specs.Seen.{Change}
use Rattle.of_tool.specs.Inputs.{Input, input_of, PlanAlone, PlanAndReport, ImageAlone, ImageAndPlan, WholeLife, AnyTexts, most_of, ReadsNoPlan, ReadsNoFirst, ReadsIllegal, ReadsOne, ReadsBehind, ReadsNoSecond, ReadsMisfit, ReadsNoLifePlan, ReadsFirstOfFour, ReadsLifeMisfit, ReadsIllegalLife, ReadsFewer}

-- the exit status of a command whose input is refused
abbrev pub status_of : Refusal → ℕ
status_of ReadFault = READ_FAULT
status_of TooLong = TOO_LONG
status_of (BadPlan line) = BAD_PLAN
status_of (BadImage line) = BAD_IMAGE
status_of (UnlawfulImage cell) = BAD_IMAGE
status_of DoesNotFit = DOES_NOT_FIT
status_of Illegal = ILLEGAL

-- what a command prints if its input doesn't fit: `part` prints that there is no such part, another
-- command that the plan doesn't fit
abbrev pub misfit_text : Command → List ℕ
misfit_text (Part number) = codes "error: no such part\n"
misfit_text command = codes "error: plan does not fit image\n"

-- what a command prints if its input is illegal: `check-life` names a life, another command a
-- report
abbrev pub illegal_text : Command → List ℕ
illegal_text CheckLife = codes "error: not a legal life\n"
illegal_text command = codes "error: not a legal report\n"

-- what a command prints if its input is refused
abbrev pub text_of : Command → Refusal → List ℕ
text_of command ReadFault = codes "error: read fault\n"
text_of command TooLong = codes "error: input too long\n"
text_of command (BadPlan line) = codes "error: bad plan, line " ++ decimal line ++ codes "\n"
text_of command (BadImage line) = codes "error: bad image, line " ++ decimal line ++ codes "\n"
text_of command (UnlawfulImage cell) =
    codes "error: unlawful image, cell " ++ decimal cell ++ codes "\n"
text_of command DoesNotFit = misfit_text command
text_of command Illegal = illegal_text command

-- ---- the causes

-- a read failed, and at most this many bytes were taken
pub record ReadFails (most : ℕ) (source : Change) : Type 0 where
  pub fault : HasRisen source.faults source.faults_after
  pub few : TakesAtMost most source.before source.after

-- the part of the input that should be a plan's text is none, and this is its bad line
abbrev pub HasBadPlan : Input → Change → (line : ℕ) → Type 0
HasBadPlan PlanAlone source line = ReadsNoPlan source line
HasBadPlan PlanAndReport source line = ReadsNoFirst source line
HasBadPlan (ImageAlone edition) source line = ⊥
HasBadPlan ImageAndPlan source line = ReadsNoSecond source line
HasBadPlan WholeLife source line = ReadsNoLifePlan source line
HasBadPlan (AnyTexts number) source line = ⊥

-- `Is` holds of the part of the input that should be an image's text; if there is also a part that
-- should be a plan's text, it is one
abbrev pub HasBadImage : (Edition → List ℕ → Type 0) → Input → Change → Type 0
HasBadImage Is PlanAlone source = ⊥
HasBadImage Is PlanAndReport source = ⊥
HasBadImage Is (ImageAlone edition) source = ReadsOne (Is edition) source
HasBadImage Is ImageAndPlan source = (plan : Plan) × ReadsBehind (Is Two) source plan
HasBadImage Is WholeLife source = ReadsFirstOfFour (Is Two) source
HasBadImage Is (AnyTexts number) source = ⊥

-- the plan in the input does not fit the image; or, for the command `part N`, the input has fewer
-- than N texts
abbrev pub HasMisfit : Input → Change → Type 0
HasMisfit PlanAlone source = ⊥
HasMisfit PlanAndReport source = ⊥
HasMisfit (ImageAlone edition) source = ⊥
HasMisfit ImageAndPlan source = ReadsMisfit source
HasMisfit WholeLife source = ReadsLifeMisfit source
HasMisfit (AnyTexts number) source = ReadsFewer number source

-- the report, or the life, in the input is not a legal one
abbrev pub IsIllegal : Input → Change → Type 0
IsIllegal PlanAlone source = ⊥
IsIllegal PlanAndReport source = ReadsIllegal source
IsIllegal (ImageAlone edition) source = ⊥
IsIllegal ImageAndPlan source = ⊥
IsIllegal WholeLife source = ReadsIllegalLife source
IsIllegal (AnyTexts number) source = ⊥

-- the refusal is true of an input of this kind
abbrev pub IsRefused : Input → Change → Refusal → Type 0
IsRefused input source ReadFault = ReadFails (most_of input) source
IsRefused input source TooLong = TakesMoreThan (most_of input) source.before source.after
IsRefused input source (BadPlan line) = HasBadPlan input source line
IsRefused input source (BadImage line) =
    HasBadImage (λ edition text. HasBadLine (IsImageText edition) text line) input source
IsRefused input source (UnlawfulImage cell) =
    HasBadImage (λ edition text. IsUnlawful edition text cell) input source
IsRefused input source DoesNotFit = HasMisfit input source
IsRefused input source Illegal = IsIllegal input source

-- the refusal is true of the input that the command reads
pub record IsRefusedFor (command : Command) (source : Change) (why : Refusal) : Type 0 where
  pub input : Input
  pub reads : input_of command ≡ Some input
  pub cause : IsRefused input source why

-- the input of a command was refused, with this status and this text
pub record IsRefusal (command : Command) (source : Change) (status : ℕ) (text : List ℕ)
    : Type 0 where
  pub why : Refusal
  pub refused : IsRefusedFor command source why
  pub status_is : status ≡ status_of why
  pub text_is : text ≡ text_of command why

-- status 8 means that the input, if one is read, has an illegal report or life; status 9 means that
-- its plan does not fit its image, or that it has too few texts for `part`
abbrev pub FindsWrong : Option Input → Change → (status : ℕ) → Type 0
FindsWrong reads source status =
    (input : Input) → reads ≡ Some input
    → (status ≡ ILLEGAL → IsIllegal input source) × (status ≡ DOES_NOT_FIT → HasMisfit input source)
