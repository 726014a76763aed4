-- What commands read: the kinds of inputs, which command reads which, and what an input is found to
-- be.
use Rattle.std.specs.Prelude.{◌≡◌, ℕ, ◌≤◌, List, [], length, Option, Some, None}
use Rattle.of_plan.specs.Plan.{Plan}
use Rattle.of_plan.specs.Grammar.{SpellsPlan, IsPlanText}
use Rattle.of_plan.specs.BadLine.{HasBadLine}
use Rattle.of_plan.specs.Parts.{AreParts}
use Rattle.of_check.specs.Verdict.{IsLegalText}
use Rattle.of_report.specs.Image.{Image as AnImage}
use Rattle.of_image.specs.declared.version.Version.{Version as Edition}
use Rattle.of_image.specs.declared.version.Version.TheVariants.{One, Two}
use Rattle.of_image.specs.Parsed.{ReadsImage}
use Rattle.of_image.specs.MovedRow.{Migrates}
use Rattle.of_lives.specs.Images.{PlanFitsImage}
use Rattle.of_tool.specs.declared.command.Command.{Command}
use Rattle.of_tool.specs.declared.command.Command.TheVariants.{Serial, Play, Trace, Commits, Run, Load, Check, CheckLife, Part, Image, Recover, Renumber, Migrate, Continue, Help, Version}
use Rattle.of_tool.specs.declared.commands.TheConstants.{MOST_INPUT, MOST_WITH_REPORT, MOST_IMAGE}
use Rattle.of_tool.specs.Commands.{AreWordsOf}
use Rattle.of_tool.specs.Cutting.{IsPart}
use Rattle.of_tool.specs.Lives.{IsLegalLife}
use Rattle.of_tool.specs.Seen.{Change, ReadsAll}

-- ---- which command reads what

-- the kinds of inputs
pub data Input : Type 0 where
  PlanAlone : Input
  PlanAndReport : Input
  ImageAlone : Edition → Input
  ImageAndPlan : Input
  -- an image, a plan, a report and an image
  WholeLife : Input
  -- texts of any kind, and the number of the one that is to be printed
  AnyTexts : (number : ℕ) → Input

-- the kind of input that a command reads; None if it reads nothing
abbrev pub input_of : Command → Option Input
input_of Serial = Some PlanAlone
input_of Play = Some PlanAlone
input_of (Trace first count) = Some PlanAlone
input_of Commits = Some PlanAlone
input_of Run = Some PlanAlone
input_of (Load callers scripts) = None
input_of Check = Some PlanAndReport
input_of CheckLife = Some WholeLife
input_of (Part number) = Some (AnyTexts number)
input_of Image = Some PlanAlone
input_of Recover = Some (ImageAlone Two)
input_of Renumber = Some (ImageAlone Two)
input_of Migrate = Some (ImageAlone One)
input_of Continue = Some ImageAndPlan
input_of (Help word) = None
input_of Version = None

-- how many bytes an input of this kind has at most
abbrev pub most_of : Input → ℕ
most_of PlanAlone = MOST_INPUT
most_of PlanAndReport = MOST_WITH_REPORT
most_of (ImageAlone edition) = MOST_IMAGE
most_of ImageAndPlan = MOST_WITH_REPORT
most_of WholeLife = MOST_WITH_REPORT
most_of (AnyTexts number) = MOST_WITH_REPORT

-- the words are those of a command that reads an input
pub record AskForInput (words : List (List ℕ)) : Type 0 where
  pub command : Command
  pub are : AreWordsOf words command
  pub input : Input
  pub reads : input_of command ≡ Some input

-- ---- a plan alone

-- the whole input is the text of this plan
abbrev pub ReadsPlan : Change → Plan → Type 0
ReadsPlan source plan = (bytes : List ℕ) × ReadsAll MOST_INPUT source bytes × SpellsPlan bytes plan

-- the whole input is no plan's text, and this is its bad line
pub record ReadsNoPlan (source : Change) (line : ℕ) : Type 0 where
  pub bytes : List ℕ
  pub read : ReadsAll MOST_INPUT source bytes
  pub bad : HasBadLine IsPlanText bytes line

-- ---- a plan and a report

-- the whole input has two parts: the text of this plan, and then the text `report`
pub record ReadsBoth (source : Change) (plan : Plan) (report : List ℕ) : Type 0 where
  pub bytes : List ℕ
  pub first : List ℕ
  pub read : ReadsAll MOST_WITH_REPORT source bytes
  pub parts : AreParts bytes first report
  pub spelled : SpellsPlan first plan

-- the first part of the whole input is no plan's text, and this is its bad line
pub record ReadsNoFirst (source : Change) (line : ℕ) : Type 0 where
  pub bytes : List ℕ
  pub first : List ℕ
  pub report : List ℕ
  pub read : ReadsAll MOST_WITH_REPORT source bytes
  pub parts : AreParts bytes first report
  pub bad : HasBadLine IsPlanText first line

-- the whole input is the text of a plan, and then that of a legal report of this plan
pub record ReadsLegal (source : Change) : Type 0 where
  pub plan : Plan
  pub report : List ℕ
  pub read : ReadsBoth source plan report
  pub legal : IsLegalText plan report

-- the whole input is the text of a plan, and then a text that is no legal report of this plan
pub record ReadsIllegal (source : Change) : Type 0 where
  pub plan : Plan
  pub report : List ℕ
  pub read : ReadsBoth source plan report
  pub illegal : IsLegalText plan report → ⊥

-- ---- an image alone

-- `Is` holds of the whole input
pub record ReadsOne (Is : List ℕ → Type 0) (source : Change) : Type 0 where
  pub bytes : List ℕ
  pub read : ReadsAll MOST_IMAGE source bytes
  pub is : Is bytes

-- the whole input is the text of an image of this version, and is read as this image
abbrev pub ReadsImageOf : Edition → Change → AnImage → Type 0
ReadsImageOf edition source image = ReadsOne (λ bytes. ReadsImage edition bytes image) source

-- the whole input is the text of an image of version 1, and `text` is this image, recovered, in
-- version 2
abbrev pub ReadsEarlier : Change → List ℕ → Type 0
ReadsEarlier source text = ReadsOne (λ bytes. Migrates bytes text) source

-- ---- an image and a plan

-- the whole input has two parts: `Is` holds of the first, and the second is the text of this plan
pub record ReadsBehind (Is : List ℕ → Type 0) (source : Change) (plan : Plan) : Type 0 where
  pub bytes : List ℕ
  pub first : List ℕ
  pub second : List ℕ
  pub read : ReadsAll MOST_WITH_REPORT source bytes
  pub parts : AreParts bytes first second
  pub is : Is first
  pub spelled : SpellsPlan second plan

-- the whole input has two parts: the text of this image, and then the text of this plan
abbrev pub ReadsLife : Change → AnImage → Plan → Type 0
ReadsLife source image plan = ReadsBehind (λ text. ReadsImage Two text image) source plan

-- the second part of the whole input is no plan's text, and this is its bad line, counted in that
-- part
pub record ReadsNoSecond (source : Change) (line : ℕ) : Type 0 where
  pub bytes : List ℕ
  pub first : List ℕ
  pub second : List ℕ
  pub read : ReadsAll MOST_WITH_REPORT source bytes
  pub parts : AreParts bytes first second
  pub bad : HasBadLine IsPlanText second line

-- the whole input is the text of an image, and then that of a plan that doesn't fit this image
pub record ReadsMisfit (source : Change) : Type 0 where
  pub image : AnImage
  pub plan : Plan
  pub read : ReadsLife source image plan
  pub misfit : PlanFitsImage image plan → ⊥

-- ---- an image, a plan, a report and an image

-- the whole input has four parts, one after another: `Is` holds of the first, the second is the
-- text of this plan, the third is `told`, and the fourth is `left`
pub record ReadsFour (Is : List ℕ → Type 0) (source : Change) (plan : Plan) (told left : List ℕ)
    : Type 0 where
  pub bytes : List ℕ
  pub first : List ℕ
  pub behind : List ℕ
  pub second : List ℕ
  pub others : List ℕ
  pub read : ReadsAll MOST_WITH_REPORT source bytes
  pub parts : AreParts bytes first behind
  pub second_parts : AreParts behind second others
  pub last_parts : AreParts others told left
  pub is : Is first
  pub spelled : SpellsPlan second plan

-- the whole input has four parts: the text of this image, the text of this plan, `told` and `left`
abbrev pub ReadsLived : Change → AnImage → Plan → (told left : List ℕ) → Type 0
ReadsLived source image plan told left =
    ReadsFour (λ text. ReadsImage Two text image) source plan told left

-- the second of the four parts of the whole input is no plan's text, and this is its bad line,
-- counted in that part
pub record ReadsNoLifePlan (source : Change) (line : ℕ) : Type 0 where
  pub bytes : List ℕ
  pub first : List ℕ
  pub behind : List ℕ
  pub second : List ℕ
  pub others : List ℕ
  pub read : ReadsAll MOST_WITH_REPORT source bytes
  pub parts : AreParts bytes first behind
  pub second_parts : AreParts behind second others
  pub bad : HasBadLine IsPlanText second line

-- the whole input has four parts: `Is` holds of the first, and the second is a plan's text
pub record ReadsFirstOfFour (Is : List ℕ → Type 0) (source : Change) : Type 0 where
  pub plan : Plan
  pub told : List ℕ
  pub left : List ℕ
  pub read : ReadsFour Is source plan told left

-- the whole input has four parts: the first is an image, and the second a plan that doesn't fit it
pub record ReadsLifeMisfit (source : Change) : Type 0 where
  pub image : AnImage
  pub plan : Plan
  pub told : List ℕ
  pub left : List ℕ
  pub read : ReadsLived source image plan told left
  pub misfit : PlanFitsImage image plan → ⊥

-- the whole input has four parts: an image, a plan that fits it, and the report and the image of a
-- life that goes on from the first image by the plan
pub record ReadsLegalLife (source : Change) : Type 0 where
  pub image : AnImage
  pub plan : Plan
  pub told : List ℕ
  pub left : List ℕ
  pub read : ReadsLived source image plan told left
  pub fits : PlanFitsImage image plan
  pub legal : IsLegalLife image plan told left

-- the whole input has four parts: an image, a plan that fits it, and two texts that are not the
-- report and the image of a life that goes on from the first image by the plan
pub record ReadsIllegalLife (source : Change) : Type 0 where
  pub image : AnImage
  pub plan : Plan
  pub told : List ℕ
  pub left : List ℕ
  pub read : ReadsLived source image plan told left
  pub fits : PlanFitsImage image plan
  pub illegal : IsLegalLife image plan told left → ⊥

-- ---- any texts

-- `part` is the part of the whole input with this number, counted from 1, and is not empty
pub record ReadsPart (number : ℕ) (source : Change) (part : List ℕ) : Type 0 where
  pub bytes : List ℕ
  pub read : ReadsAll MOST_WITH_REPORT source bytes
  pub is : IsPart number bytes part
  pub some : 1 ≤ length part

-- the whole input has fewer than `number` texts: the part with this number is empty
pub record ReadsFewer (number : ℕ) (source : Change) : Type 0 where
  pub bytes : List ℕ
  pub read : ReadsAll MOST_WITH_REPORT source bytes
  pub none : IsPart number bytes []

-- ---- valid inputs

-- exactly these bytes are left in the source, and they are at most `most`
pub record AreLeft (most : ℕ) (left : Option (List ℕ)) (bytes : List ℕ) : Type 0 where
  pub are : left ≡ Some bytes
  pub few : length bytes ≤ most

-- the bytes that are left in the source are a plan's text, of at most `MOST_INPUT` bytes
pub record IsPlanInput (left : Option (List ℕ)) : Type 0 where
  pub bytes : List ℕ
  pub left_is : AreLeft MOST_INPUT left bytes
  pub plan : Plan
  pub spelled : SpellsPlan bytes plan

-- the bytes that are left in the source are a plan's text and any bytes after it, within the limit
pub record IsCheckInput (left : Option (List ℕ)) : Type 0 where
  pub bytes : List ℕ
  pub left_is : AreLeft MOST_WITH_REPORT left bytes
  pub first : List ℕ
  pub report : List ℕ
  pub parts : AreParts bytes first report
  pub plan : Plan
  pub spelled : SpellsPlan first plan

-- the bytes that are left in the source are the text of a lawful image of this version, of at most
-- `MOST_IMAGE` bytes
pub record IsImageInput (edition : Edition) (left : Option (List ℕ)) : Type 0 where
  pub bytes : List ℕ
  pub left_is : AreLeft MOST_IMAGE left bytes
  pub image : AnImage
  pub image_of : ReadsImage edition bytes image

-- the bytes that are left in the source are the text of a lawful image and that of a plan after it,
-- within the limit
pub record IsLifeInput (left : Option (List ℕ)) : Type 0 where
  pub bytes : List ℕ
  pub left_is : AreLeft MOST_WITH_REPORT left bytes
  pub first : List ℕ
  pub second : List ℕ
  pub parts : AreParts bytes first second
  pub image : AnImage
  pub image_of : ReadsImage Two first image
  pub plan : Plan
  pub spelled : SpellsPlan second plan

-- the bytes that are left in the source are the text of a lawful image, that of a plan, and any
-- bytes after these, within the limit
pub record IsLivedInput (left : Option (List ℕ)) : Type 0 where
  pub bytes : List ℕ
  pub left_is : AreLeft MOST_WITH_REPORT left bytes
  pub first : List ℕ
  pub behind : List ℕ
  pub second : List ℕ
  pub others : List ℕ
  pub parts : AreParts bytes first behind
  pub second_parts : AreParts behind second others
  pub image : AnImage
  pub image_of : ReadsImage Two first image
  pub plan : Plan
  pub spelled : SpellsPlan second plan

-- the bytes that are left in the source, at most `MOST_WITH_REPORT`, have a part with this number
pub record IsTextsInput (number : ℕ) (left : Option (List ℕ)) : Type 0 where
  pub bytes : List ℕ
  pub left_is : AreLeft MOST_WITH_REPORT left bytes
  pub part : List ℕ
  pub is : IsPart number bytes part
  pub some : 1 ≤ length part

-- the bytes that are left in the source are a valid input of this kind; if nothing is to be read,
-- any bytes are valid
abbrev pub IsInputOf : Option Input → Option (List ℕ) → Type 0
IsInputOf None left = Unit {0}
IsInputOf (Some PlanAlone) left = IsPlanInput left
IsInputOf (Some PlanAndReport) left = IsCheckInput left
IsInputOf (Some (ImageAlone edition)) left = IsImageInput edition left
IsInputOf (Some ImageAndPlan) left = IsLifeInput left
IsInputOf (Some WholeLife) left = IsLivedInput left
IsInputOf (Some (AnyTexts number)) left = IsTextsInput number left

-- the bytes that are left in the source are a valid input of the command
abbrev pub IsValidInput : Command → Option (List ℕ) → Type 0
IsValidInput command left = IsInputOf (input_of command) left
