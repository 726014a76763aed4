-- What each command makes of its input with status 0.
use Rattle.std.specs.Prelude.{◌≡◌, ℕ, List, codes}
use Rattle.of_plan.specs.Plan.{Plan}
use Rattle.of_plan.specs.Report.{Report, empty_start}
use Rattle.of_plan.specs.Legal.{IsLegal}
use Rattle.of_plan.specs.Serial.{serial_report}
use Rattle.of_plan.specs.Generated.{generated_plan}
use Rattle.of_report.specs.ReportText.{report_text}
use Rattle.of_report.specs.LoadText.{load_text}
use Rattle.of_report.specs.Image.{Image as AnImage}
use Rattle.of_image.specs.declared.version.Version.TheVariants.{Two}
use Rattle.of_image.specs.RecoveredText.{recovered_text}
use Rattle.of_image.specs.RenumberedImage.{Renumbers}
use Rattle.of_play.specs.Played.{IsPlayedReport}
use Rattle.of_play.specs.declared.schedule_run.trace_run.TheConstants.{ALL_EVENTS}
use Rattle.of_play.specs.Trace.{trace_text, commits_text}
use Rattle.of_tool.specs.declared.command.Command.{Command}
use Rattle.of_tool.specs.declared.command.Command.TheVariants.{Serial, Play, Trace, Commits, Run, Load, Check, CheckLife, Part, Image, Recover, Renumber, Migrate, Continue, Help, Version}
use Rattle.of_tool.specs.declared.command.TheConstants.{HELP, VERSION}
use Rattle.of_tool.specs.PlayedImage.{IsPlayedImage}
use Rattle.of_tool.specs.Ran.{IsSomeRuns}
use Rattle.of_tool.specs.Continued.{IsSomeLifes}
use Rattle.of_tool.specs.Seen.{Change, Seen, IsWritten}
use Rattle.of_tool.specs.Inputs.{ReadsPlan, ReadsLegal, ReadsLegalLife, ReadsPart, ReadsImageOf, ReadsEarlier, ReadsLife}

-- the whole input is a plan's text, and `text` is the report of its serial replay, which is legal
pub record MakesSerial (source : Change) (text : List ℕ) : Type 0 where
  pub plan : Plan
  pub read : ReadsPlan source plan
  pub legal : IsLegal plan (empty_start plan) (serial_report plan)
  pub text_is : text ≡ report_text (serial_report plan)

-- the whole input is a plan's text, and `text` is the report of what the plan's schedule leaves
pub record MakesPlay (source : Change) (text : List ℕ) : Type 0 where
  pub plan : Plan
  pub read : ReadsPlan source plan
  pub report : Report
  pub played : IsPlayedReport plan report
  pub text_is : text ≡ report_text report

-- the whole input is a plan's text, and `text` has the lines of `count` events of the plan's
-- schedule, from event `first` on
pub record MakesTrace (first count : ℕ) (source : Change) (text : List ℕ) : Type 0 where
  pub plan : Plan
  pub read : ReadsPlan source plan
  pub text_is : text ≡ trace_text plan first count

-- the whole input is a plan's text, and `text` has the lines of the commits of its schedule
pub record MakesCommits (source : Change) (text : List ℕ) : Type 0 where
  pub plan : Plan
  pub read : ReadsPlan source plan
  pub text_is : text ≡ commits_text plan ALL_EVENTS

-- the whole input is a plan's text, and `text` is the report of some run of the plan
pub record MakesRun (source : Change) (text : List ℕ) : Type 0 where
  pub plan : Plan
  pub read : ReadsPlan source plan
  pub report : Report
  pub run : IsSomeRuns plan report
  pub text_is : text ≡ report_text report

-- the text is the summary of the report of some run of the plan that is made for this many callers
-- with this many scripts each
pub record MakesLoad (callers scripts : ℕ) (text : List ℕ) : Type 0 where
  pub report : Report
  pub run : IsSomeRuns (generated_plan callers scripts) report
  pub text_is : text ≡ load_text report

-- the whole input is a plan and a legal report of it, and `text` says that the report is legal
pub record MakesCheck (source : Change) (text : List ℕ) : Type 0 where
  pub legal : ReadsLegal source
  pub text_is : text ≡ codes "legal report\n"

-- the whole input is an image, a plan and the texts of a legal life, and `text` says that the life
-- is legal
pub record MakesCheckLife (source : Change) (text : List ℕ) : Type 0 where
  pub legal : ReadsLegalLife source
  pub text_is : text ≡ codes "legal life\n"

-- the whole input is a plan's text, and `text` is the image of what the plan's schedule leaves
pub record MakesImage (source : Change) (text : List ℕ) : Type 0 where
  pub plan : Plan
  pub read : ReadsPlan source plan
  pub played : IsPlayedImage plan text

-- the whole input is an image's text, and `text` is what recovery finds in it
pub record MakesRecovered (source : Change) (text : List ℕ) : Type 0 where
  pub image : AnImage
  pub read : ReadsImageOf Two source image
  pub text_is : text ≡ recovered_text image

-- the whole input is an image's text, and `text` is that of the image with its sequences begun anew
pub record MakesRenumbered (source : Change) (text : List ℕ) : Type 0 where
  pub image : AnImage
  pub read : ReadsImageOf Two source image
  pub renumbers : Renumbers image text

-- the whole input is an image's text and then a plan's, and `text` is that of some life that goes
-- on from the image by the plan
pub record MakesLife (source : Change) (text : List ℕ) : Type 0 where
  pub image : AnImage
  pub plan : Plan
  pub read : ReadsLife source image plan
  pub life : IsSomeLifes image plan text

-- `text` is what the command makes of its input
abbrev pub Makes : Command → Change → (text : List ℕ) → Type 0
Makes Serial source text = MakesSerial source text
Makes Play source text = MakesPlay source text
Makes (Trace first count) source text = MakesTrace first count source text
Makes Commits source text = MakesCommits source text
Makes Run source text = MakesRun source text
Makes (Load callers scripts) source text = MakesLoad callers scripts text
Makes Check source text = MakesCheck source text
Makes CheckLife source text = MakesCheckLife source text
Makes (Part number) source text = ReadsPart number source text
Makes Image source text = MakesImage source text
Makes Recover source text = MakesRecovered source text
Makes Renumber source text = MakesRenumbered source text
Makes Migrate source text = ReadsEarlier source text
Makes Continue source text = MakesLife source text
Makes (Help word) source text = text ≡ HELP.now
Makes Version source text = text ≡ VERSION.now

-- the command has written what it makes of its input
pub record Did (command : Command) (seen : Seen) : Type 0 where
  pub text : List ℕ
  pub makes : Makes command seen.source text
  pub written : IsWritten seen text
