-- A command with a valid input is done, or what it judges is found wrong.
use Rattle.std.proofs.Common.{◌≡◌, ℕ, List, Option, Some, refl, sym, subst}
use Rattle.of_io.specs.Faults.{HasRisen, TakesMoreThan}
use Rattle.of_plan.specs.Grammar.{SpellsPlan}
use Rattle.of_plan.specs.BadLine.{HasBadLine}
use Rattle.of_plan.specs.Parts.{HasOneCut}
use Rattle.of_image.specs.declared.version.Version.{Version as Edition}
use Rattle.of_image.specs.declared.version.Version.TheVariants.{Two}
use Rattle.of_image.specs.ImageText.{IsImageText}
use Rattle.of_image.specs.Parsed.{ReadsImage, IsUnlawful, UnlawfulHaveNone}
use Rattle.of_report.specs.Image.{Image as AnImage}
use Rattle.of_tool.specs.declared.commands.TheConstants.{MOST_INPUT, MOST_WITH_REPORT, MOST_IMAGE}
use Rattle.of_tool.specs.declared.command.Command.{Command}
use Rattle.of_tool.specs.declared.command.Command.TheVariants.{Check, CheckLife, Continue}
use Rattle.of_tool.specs.Seen.{Change, ReadsAll}
use Rattle.of_tool.specs.Inputs.{Input, PlanAlone, PlanAndReport, ImageAlone, ImageAndPlan, WholeLife, AnyTexts, input_of, most_of, AreLeft, IsInputOf, IsValidInput}
use Rattle.of_tool.specs.declared.refusal.Refusal.{Refusal}
use Rattle.of_tool.specs.declared.refusal.Refusal.TheVariants.{ReadFault, TooLong, BadPlan, BadImage, UnlawfulImage, DoesNotFit, Illegal}
use Rattle.of_tool.specs.Refusals.{status_of, HasBadPlan, HasBadImage, HasMisfit, IsIllegal, IsRefused}
use Rattle.of_tool.specs.Statuses.{IsAnswerTo, Done, Refused, Told, WriteFault, OutOfMemory, Ends, IsDone, LacksMemory, FindsReportIllegal, FindsLifeIllegal, FindsMisfit, FindsLifeMisfit, ValidIsDone}
use Rattle.of_tool.proofs.Telling.{answer_to}
use Rattle.of_tool.proofs.Readings.{read_is, more_bytes, no_plan, no_first, no_second, cut_same, no_fewer}

-- ---- which command reads what

checks : (c : Command) → input_of c ≡ Some PlanAndReport → c ≡ Check
checks Check e = refl
checks c e = absurd cc

goes_on : (c : Command) → input_of c ≡ Some ImageAndPlan → c ≡ Continue
goes_on Continue e = refl
goes_on c e = absurd cc

lives : (c : Command) → input_of c ≡ Some WholeLife → c ≡ CheckLife
lives CheckLife e = refl
lives c e = absurd cc

-- ---- a valid input is not refused

within : (input : Input) (left : Option (List ℕ)) → IsInputOf (Some input) left → (bytes : List ℕ) × AreLeft (most_of input) left bytes
within PlanAlone left v = (v.bytes, v.left_is)
within PlanAndReport left v = (v.bytes, v.left_is)
within (ImageAlone edition) left v = (v.bytes, v.left_is)
within ImageAndPlan left v = (v.bytes, v.left_is)
within WholeLife left v = (v.bytes, v.left_is)
within (AnyTexts number) left v = (v.bytes, v.left_is)

not_too_long : (input : Input) (source : Change) → IsInputOf (Some input) source.before → TakesMoreThan (most_of input) source.before source.after → ⊥
not_too_long input source valid takes =
    let v = within input source.before valid in
    let P : Option (List ℕ) → Type 0 = λ left. TakesMoreThan (most_of input) left source.after in
    more_bytes (most_of input) v.0 source.after (subst P v.1.are takes) v.1.few

-- what was read is the valid input
read_again : (source : Change) (most : ℕ) (bytes taken : List ℕ) → source.before ≡ Some bytes → ReadsAll most source taken → ReadsAll most source bytes
read_again source most bytes taken known r = let P : List ℕ → Type 0 = λ b. ReadsAll most source b in subst P (sym (read_is source bytes known most taken r)) r

not_bad : HasOneCut → (input : Input) (source : Change) (line : ℕ) → IsInputOf (Some input) source.before → HasBadPlan input source line → ⊥
not_bad one_cut PlanAlone source line v h = no_plan source v.bytes v.left_is.are v.plan line (v.bytes, read_again source MOST_INPUT v.bytes h.bytes v.left_is.are h.read, v.spelled) h
not_bad one_cut PlanAndReport source line v h =
    let read = read_again source MOST_WITH_REPORT v.bytes h.bytes v.left_is.are h.read in
    no_first source v.bytes v.left_is.are one_cut v.plan v.report line (record { bytes = v.bytes; first = v.first; read = read; parts = v.parts; spelled = v.spelled }) h
not_bad one_cut (ImageAlone edition) source line v h = h
not_bad one_cut ImageAndPlan source line v h =
    let read = read_again source MOST_WITH_REPORT v.bytes h.bytes v.left_is.are h.read in
    no_second source v.bytes v.left_is.are one_cut {P = λ text. Unit {0}} v.plan line (record { bytes = v.bytes; first = v.first; second = v.second; read = read; parts = v.parts; is = tt; spelled = v.spelled }) h
not_bad one_cut WholeLife source line v h =
    let cut = cut_same source v.bytes v.left_is.are one_cut v.bytes h.bytes v.first v.behind h.first h.behind (read_is source v.bytes v.left_is.are MOST_WITH_REPORT h.bytes h.read) v.parts h.parts in
    let next = cut_same source v.bytes v.left_is.are one_cut v.behind h.behind v.second v.others h.second h.others cut.1 v.second_parts h.second_parts in
    let Q : List ℕ → Type 0 = λ text. SpellsPlan text v.plan in
    h.bad.none (v.plan, subst Q next.0 v.spelled)
not_bad one_cut (AnyTexts number) source line v h = h

module _ (Is : Edition → List ℕ → Type 0) (apart : (edition : Edition) (text : List ℕ) (image : AnImage) → ReadsImage edition text image → Is edition text → ⊥) (one_cut : HasOneCut) where
  not_image : (input : Input) (source : Change) → IsInputOf (Some input) source.before → HasBadImage Is input source → ⊥
  not_image PlanAlone source v h = h
  not_image PlanAndReport source v h = h
  not_image (ImageAlone edition) source v h = apart edition h.bytes v.image (subst (λ (b : List ℕ). ReadsImage edition b v.image) (read_is source v.bytes v.left_is.are MOST_IMAGE h.bytes h.read) v.image_of) h.is
  not_image ImageAndPlan source v h =
      let r = h.1 in
      let cut = cut_same source v.bytes v.left_is.are one_cut v.bytes r.bytes v.first v.second r.first r.second (read_is source v.bytes v.left_is.are MOST_WITH_REPORT r.bytes r.read) v.parts r.parts in
      apart Two r.first v.image (subst (λ (b : List ℕ). ReadsImage Two b v.image) cut.0 v.image_of) r.is
  not_image WholeLife source v h =
      let r = h.read in
      let cut = cut_same source v.bytes v.left_is.are one_cut v.bytes r.bytes v.first v.behind r.first r.behind (read_is source v.bytes v.left_is.are MOST_WITH_REPORT r.bytes r.read) v.parts r.parts in
      apart Two r.first v.image (subst (λ (b : List ℕ). ReadsImage Two b v.image) cut.0 v.image_of) r.is
  not_image (AnyTexts number) source v h = h

-- a text with an image has no bad line and no cell at fault
pub no_bad_line : (line : ℕ) (edition : Edition) (text : List ℕ) (image : AnImage) → ReadsImage edition text image → HasBadLine (IsImageText edition) text line → ⊥
no_bad_line line edition text image r bad = bad.none (r.raw, r.spelled)

pub no_fault_cell : UnlawfulHaveNone → (cell : ℕ) (edition : Edition) (text : List ℕ) (image : AnImage) → ReadsImage edition text image → IsUnlawful edition text cell → ⊥
no_fault_cell none cell edition text image r fault = none edition text cell image fault r

-- ---- how a command ends

misfit_ends : HasOneCut → (c : Command) (input : Input) (source : Change) (status : ℕ) → input_of c ≡ Some input → IsInputOf (Some input) source.before → HasMisfit input source → status ≡ status_of DoesNotFit → Ends c status
misfit_ends one_cut c PlanAlone source status reads v h e = absurd h
misfit_ends one_cut c PlanAndReport source status reads v h e = absurd h
misfit_ends one_cut c (ImageAlone edition) source status reads v h e = absurd h
misfit_ends one_cut c ImageAndPlan source status reads v h e = FindsMisfit (goes_on c reads) e
misfit_ends one_cut c WholeLife source status reads v h e = FindsLifeMisfit (lives c reads) e
misfit_ends one_cut c (AnyTexts number) source status reads v h e =
    absurd (no_fewer source v.bytes v.left_is.are one_cut number v.bytes h.bytes v.part (read_is source v.bytes v.left_is.are MOST_WITH_REPORT h.bytes h.read) v.is v.some h.none)

illegal_ends : (c : Command) (input : Input) (source : Change) (status : ℕ) → input_of c ≡ Some input → IsIllegal input source → status ≡ status_of Illegal → Ends c status
illegal_ends c PlanAlone source status reads h e = absurd h
illegal_ends c PlanAndReport source status reads h e = FindsReportIllegal (checks c reads) e
illegal_ends c (ImageAlone edition) source status reads h e = absurd h
illegal_ends c ImageAndPlan source status reads h e = absurd h
illegal_ends c WholeLife source status reads h e = FindsLifeIllegal (lives c reads) e
illegal_ends c (AnyTexts number) source status reads h e = absurd h

refused_ends : HasOneCut → UnlawfulHaveNone → (c : Command) (input : Input) (source : Change) (status : ℕ) → input_of c ≡ Some input → IsInputOf (Some input) source.before → ¬ (HasRisen source.faults source.faults_after)
    → (why : Refusal) → IsRefused input source why → status ≡ status_of why → Ends c status
refused_ends one_cut none c input source status reads valid calm ReadFault h e = absurd (calm h.fault)
refused_ends one_cut none c input source status reads valid calm TooLong h e = absurd (not_too_long input source valid h)
refused_ends one_cut none c input source status reads valid calm (BadPlan line) h e = absurd (not_bad one_cut input source line valid h)
refused_ends one_cut none c input source status reads valid calm (BadImage line) h e = absurd (not_image _ (no_bad_line line) one_cut input source valid h)
refused_ends one_cut none c input source status reads valid calm (UnlawfulImage cell) h e = absurd (not_image _ (no_fault_cell none cell) one_cut input source valid h)
refused_ends one_cut none c input source status reads valid calm DoesNotFit h e = misfit_ends one_cut c input source status reads valid h e
refused_ends one_cut none c input source status reads valid calm Illegal h e = illegal_ends c input source status reads h e

ends : HasOneCut → UnlawfulHaveNone → (c : Command) (source : Change) (status : ℕ) (text : List ℕ) → IsValidInput c source.before → ¬ (HasRisen source.faults source.faults_after) → IsAnswerTo c source status text → Ends c status
ends one_cut none c source status text valid calm (Done is makes) = IsDone is
ends one_cut none c source status text valid calm (Refused refusal) =
    let r = refusal.refused in
    let P : Option Input → Type 0 = λ o. IsInputOf o source.before in
    refused_ends one_cut none c r.input source status r.reads (subst P r.reads valid) calm refusal.why r.cause refusal.status_is

pub valid_is_done : HasOneCut → UnlawfulHaveNone → ValidIsDone
valid_is_done one_cut none seen c (Told a) is valid calm written = ends one_cut none c seen.source seen.status a.text valid calm (answer_to seen.words c seen.source seen.status a.text is a.answer)
valid_is_done one_cut none seen c (WriteFault a) is valid calm written = absurd (written a.fault)
valid_is_done one_cut none seen c (OutOfMemory a) is valid calm written = LacksMemory a.is
