-- Why an input is refused, from what is wrong with its bytes.
use Rattle.std.proofs.Common.{◌≡◌, ℕ, List, Option, Some, sym, ap, subst, ◌∙◌}
use Rattle.of_plan.specs.Plan.{Plan}
use Rattle.of_plan.specs.Parts.{AreParts}
use Rattle.of_plan.specs.Grammar.{SpellsPlan}
use Rattle.of_plan.specs.BadLine.{HasBadLine}
use Rattle.of_image.specs.declared.version.Version.{Version as Edition}
use Rattle.of_image.specs.declared.version.Version.TheVariants.{Two}
use Rattle.of_image.specs.ImageText.{IsImageText}
use Rattle.of_image.specs.Parsed.{ReadsImage, IsUnlawful}
use Rattle.of_tool.specs.declared.command.Command.{Command}
use Rattle.of_tool.specs.declared.commands.TheConstants.{MOST_INPUT, MOST_WITH_REPORT, MOST_IMAGE}
use Rattle.of_tool.specs.declared.refusal.Refusal.{Refusal}
use Rattle.of_tool.specs.declared.refusal.Refusal.TheVariants.{BadPlan, BadImage, UnlawfulImage, DoesNotFit}
use Rattle.of_tool.specs.declared.refusal.Failure.{Failure}
use Rattle.of_tool.specs.declared.refusal.Failure.TheVariants.{Memory, Refused}
use Rattle.of_tool.specs.declared.refusal.Output.{Output}
use Rattle.of_tool.specs.Seen.{Change, ReadsAll}
use Rattle.of_tool.specs.Inputs.{Input, input_of, most_of, PlanAlone, PlanAndReport, ImageAlone, ImageAndPlan, WholeLife, ReadsFour}
use Rattle.of_tool.specs.Refusals.{IsRefused, IsRefusedFor, IsRefusal}
use Rattle.of_tool.specs.Answer.{IsMostOf, IsInputFor, FailsBy, TellsFailure, HasNoPlan, HasNoImage, HaveNoLife}

-- one text has no plan, or two no image and plan
module _ (first second : List ℕ) where
  pub life_no_plan : (f : Failure) → FailsBy (HasNoPlan second) f → FailsBy (HaveNoLife first second) f
  life_no_plan Memory h = tt
  life_no_plan (Refused (BadPlan line) reason) h = h
  life_no_plan (Refused why reason) h = absurd h

  pub life_no_image : (plan : Plan) → SpellsPlan second plan → (f : Failure) → FailsBy (HasNoImage Two first) f → FailsBy (HaveNoLife first second) f
  life_no_image plan spelled Memory h = tt
  life_no_image plan spelled (Refused (BadImage line) reason) h = (plan, spelled, h)
  life_no_image plan spelled (Refused (UnlawfulImage cell) reason) h = (plan, spelled, h)
  life_no_image plan spelled (Refused why reason) h = absurd h

-- so the input of a command is refused
pub refuse : {P : Refusal → Type 0} (c : Command) (source : Change) (input : Input) → input_of c ≡ Some input → ((why : Refusal) → P why → IsRefused input source why) → (f : Failure) → FailsBy P f → FailsBy (IsRefusedFor c source) f
refuse c source input reads refused Memory h = tt
refuse c source input reads refused (Refused why reason) h = record { input = input; reads = reads; cause = refused why h }

-- and the output that tells it is that of a refusal
pub told : (c : Command) (source : Change) (output : Output) (f : Failure) → TellsFailure c output f → FailsBy (IsRefusedFor c source) f → IsRefusal c source output.status output.text.items
told c source output Memory t h = absurd t
told c source output (Refused why reason) t h = record { why = why; refused = h; status_is = t.0; text_is = t.1 }

-- what was read for one kind of input was read for that of the command
pub read_for : (c : Command) (source : Change) (bytes : List ℕ) (most : ℕ) → (is : IsMostOf c most) → ReadsAll most source bytes → IsInputFor c source bytes
read_for c source bytes most is read input reads =
    let same : is.input ≡ input = (let e : ◌≡◌ {A = Option Input} (Some is.input) (Some input) = sym is.reads ∙ reads in cc) in
    let P : ℕ → Type 0 = λ n. ReadsAll n source bytes in
    subst P (is.is ∙ ap most_of same) read

pub same_input : (c : Command) (source : Change) (b d : List ℕ) → b ≡ d → IsInputFor c source d → IsInputFor c source b
same_input c source b d same input = subst (IsInputFor c source) (sym same) input

module _ (source : Change) (bytes : List ℕ) where
  pub no_plan : ReadsAll MOST_INPUT source bytes → (why : Refusal) → HasNoPlan bytes why → IsRefused PlanAlone source why
  no_plan read (BadPlan line) h = record { bytes = bytes; read = read; bad = h }
  no_plan read why h = absurd h

  pub no_image : (edition : Edition) → ReadsAll MOST_IMAGE source bytes → (why : Refusal) → HasNoImage edition bytes why → IsRefused (ImageAlone edition) source why
  no_image edition read (BadImage line) h = record { bytes = bytes; read = read; is = h }
  no_image edition read (UnlawfulImage cell) h = record { bytes = bytes; read = read; is = h }
  no_image edition read why h = absurd h

  module _ (read : ReadsAll MOST_WITH_REPORT source bytes) (first second : List ℕ) where
    pub no_first : AreParts bytes first second → (why : Refusal) → HasNoPlan first why → IsRefused PlanAndReport source why
    no_first are (BadPlan line) h = record { bytes = bytes; first = first; report = second; read = read; parts = are; bad = h }
    no_first are why h = absurd h

    pub no_life : AreParts bytes first second → (why : Refusal) → HaveNoLife first second why → IsRefused ImageAndPlan source why
    no_life are (BadPlan line) h = record { bytes = bytes; first = first; second = second; read = read; parts = are; bad = h }
    no_life are (BadImage line) h = (h.0, record { bytes = bytes; first = first; second = second; read = read; parts = are; is = h.2; spelled = h.1 })
    no_life are (UnlawfulImage cell) h = (h.0, record { bytes = bytes; first = first; second = second; read = read; parts = are; is = h.2; spelled = h.1 })
    no_life are DoesNotFit h = record {
      image = h.0;
      plan = h.1;
      read = record { bytes = bytes; first = first; second = second; read = read; parts = are; is = h.2.reads; spelled = h.2.spelled };
      misfit = h.3;
    }
    no_life are why h = absurd h.2

    module _ (behind others told left : List ℕ) (parts : AreParts bytes first behind) (second_parts : AreParts behind second others) (last_parts : AreParts others told left) where
      pub four : (Is : List ℕ → Type 0) (plan : Plan) → Is first → SpellsPlan second plan → ReadsFour Is source plan told left
      four Is plan is spelled = record { bytes = bytes; first = first; behind = behind; second = second; others = others; read = read; parts = parts; second_parts = second_parts; last_parts = last_parts; is = is; spelled = spelled }

      pub no_whole_life : (why : Refusal) → HaveNoLife first second why → IsRefused WholeLife source why
      no_whole_life (BadPlan line) h = record { bytes = bytes; first = first; behind = behind; second = second; others = others; read = read; parts = parts; second_parts = second_parts; bad = h }
      no_whole_life (BadImage line) h = record { plan = h.0; told = told; left = left; read = four (λ text. HasBadLine (IsImageText Two) text line) h.0 h.2 h.1 }
      no_whole_life (UnlawfulImage cell) h = record { plan = h.0; told = told; left = left; read = four (λ text. IsUnlawful Two text cell) h.0 h.2 h.1 }
      no_whole_life DoesNotFit h = record { image = h.0; plan = h.1; told = told; left = left; read = four (λ text. ReadsImage Two text h.0) h.1 h.2.reads h.2.spelled; misfit = h.3 }
      no_whole_life why h = absurd h.2
