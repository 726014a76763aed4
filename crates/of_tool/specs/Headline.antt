-- What is proved of each call of `tool`, and above all what it says with status 0 of `run`, `load`
-- and `continue`. This has two parts: what the report promises, and that it comes of a real run.
use Rattle.std.specs.Prelude.{◌≡◌, ℕ, ◌<◌, List, None}
use Rattle.of_plan.specs.Plan.{Plan}
use Rattle.of_plan.specs.Report.{Report, empty_start, done, caller_line}
use Rattle.of_plan.specs.Ended.{Ended}
use Rattle.of_plan.specs.Serial.{serial_report}
use Rattle.of_plan.specs.Generated.{generated_plan}
use Rattle.of_report.specs.ReportText.{report_text}
use Rattle.of_report.specs.LoadText.{load_text}
use Rattle.of_report.specs.Image.{Image, start_of_image}
use Rattle.of_row.specs.Views.{View}
use Rattle.of_caller.specs.InTime.{Mark}
use Rattle.of_lives.specs.Continuing.{IsLifeOf}
use Rattle.of_tool.specs.declared.command.Command.TheVariants.{Run, Load, Continue}
use Rattle.of_tool.specs.Commands.{AreWordsOfTeam}
use Rattle.of_tool.specs.Ran.{AllBrakesTell, KeepsPromises, IsRealOnZeros, ShowsZeros}
use Rattle.of_tool.specs.Continued.{GoesOnFrom, IsRealLife, life_text}
use Rattle.of_tool.specs.Seen.{StepsLeft, Seen, RecordHolds, IsWritten}
use Rattle.of_tool.specs.Inputs.{ReadsPlan, ReadsLife}
use Rattle.of_tool.specs.declared.status.TheConstants.{DONE}
use Rattle.of_tool.specs.Statuses.{HasDone, AnswersWords}

-- ---- `run`

-- What the report of the headline promises. The whole input is the text of a plan. The report that
-- was written is one legal history of the plan's calls, in real time, in which callers keep to their
-- brakes.
pub record PrintsReport (seen : Seen) (plan : Plan) (course : List Mark) (e : Ended)
    (report : Report) : Type 0 where
  pub read : ReadsPlan seen.source plan
  pub written : IsWritten seen (report_text report)
  pub promises : KeepsPromises seen.brakes plan (empty_start plan) course e report

-- The report that was written is that of a real run of the plan's callers, in which calls began and
-- ended as the course says.
pub record RunsPlan (seen : Seen) (e : Ended) : Type 0 where
  pub plan : Plan
  pub course : List Mark
  pub report : Report
  pub prints : PrintsReport seen plan course e report
  pub real : IsRealOnZeros plan course e report

-- ---- `load`

-- every caller of a plan is done
abbrev pub AllDone : Plan → Report → Type 0
AllDone p r = (c : ℕ) → c < p.callers → (caller_line r c).state ≡ done

-- if the brake of each caller tells its steps left, every caller is done, and the summary is that
-- of the plan's serial report
pub record IsWholeLoad (brakes : List StepsLeft) (p : Plan) (r : Report) : Type 0 where
  pub all_done : AllBrakesTell p brakes → AllDone p r
  pub serial : AllBrakesTell p brakes → load_text r ≡ load_text (serial_report p)

-- The summary of a report was written. The report is one legal history of the plan's calls, in real
-- time, in which callers keep to their brakes. `IsWholeLoad` says when all callers are done.
pub record PrintsSummary (seen : Seen) (plan : Plan) (course : List Mark) (e : Ended)
    (report : Report) : Type 0 where
  pub written : IsWritten seen (load_text report)
  pub promises : KeepsPromises seen.brakes plan (empty_start plan) course e report
  pub whole : IsWholeLoad seen.brakes plan report

-- the summary that was written is that of a real run of the plan that is made for this many callers
-- with this many scripts each
pub record LoadsPlan (callers scripts : ℕ) (seen : Seen) (e : Ended) : Type 0 where
  pub course : List Mark
  pub report : Report
  pub prints : PrintsSummary seen (generated_plan callers scripts) course e report
  pub real : IsRealOnZeros (generated_plan callers scripts) course e report

-- ---- `continue`

-- The whole input is the text of an image, and then that of a plan that fits it. The report that
-- was written is one legal history from the start that the image has, in real time, in which
-- callers keep to their brakes. After it an image was written, from which the next life can go on.
pub record PrintsLife (seen : Seen) (image : Image) (plan : Plan) (course : List Mark) (e : Ended)
    (report : Report) : Type 0 where
  pub read : ReadsLife seen.source image plan
  pub written : IsWritten seen (life_text plan report e)
  pub promises : KeepsPromises seen.brakes plan (start_of_image image) course e report
  pub goes_on : GoesOnFrom image plan report e

-- the report that was written is that of a real run from the start that the image has
pub record ContinuesImage (seen : Seen) (e : Ended) : Type 0 where
  pub image : Image
  pub plan : Plan
  pub course : List Mark
  pub report : Report
  pub prints : PrintsLife seen image plan course e report
  pub real : IsRealLife image plan course e report

-- ---- the table and the pass, for a program that goes on with what a run has left

-- `RunsPlan` holds; besides, the run was on a table of zeros, and its pass, whose view is `w`, has
-- seen the whole run
pub record RunsOnTable (seen : Seen) (e : Ended) (w : View) : Type 0 where
  pub runs : RunsPlan seen e
  pub table : ShowsZeros runs.plan e w runs.report

-- `LoadsPlan` holds; besides, the run was on a table of zeros, and its pass, whose view is `w`, has
-- seen the whole run
pub record LoadsOnTable (callers scripts : ℕ) (seen : Seen) (e : Ended) (w : View) : Type 0 where
  pub loads : LoadsPlan callers scripts seen e
  pub table : ShowsZeros (generated_plan callers scripts) e w loads.report

-- `ContinuesImage` holds; besides, the run was on a table that starts from the image's row, and its
-- pass, whose view is `w`, has seen the whole run
pub record ContinuesOnTable (seen : Seen) (e : Ended) (w : View) : Type 0 where
  pub continues : ContinuesImage seen e
  pub table : IsLifeOf continues.image continues.plan e w continues.report

-- ---- all of it

-- What is proved of each call of `tool`. The table of a run meets the rule of a row, and the pass
-- in `ran` has seen the whole run: this is the part `table` of the first three facts.
pub record IsTopCall (seen : Seen) : Type 0 where
  -- THE HEADLINE: `RunsPlan`. With status 0 of `run` the report of what the plan's callers left,
  -- running at once, was written: one legal history, in real time, in which callers keep to their
  -- brakes. It comes of a real run, event by event, and the record of that run is in `ran`.
  pub run : HasDone seen Run → RecordHolds seen.ran (RunsOnTable seen)
  -- With status 0 of `load` the summary of a report was written, of a real run of the plan that is
  -- made for it. This report too is one legal history, in real time, in which callers keep to their
  -- brakes.
  pub load : (callers scripts : ℕ) → HasDone seen (Load callers scripts)
      → RecordHolds seen.ran (LoadsOnTable callers scripts seen)
  -- With status 0 of `continue` the report of a real run from the image was written: one legal
  -- history, in real time, in which callers keep to their brakes. After it the image of the run's
  -- durable words was written: the next life can go on from this image.
  pub continued : HasDone seen Continue → RecordHolds seen.ran (ContinuesOnTable seen)
  -- After any other command or status there is no record.
  pub no_record : (AreWordsOfTeam seen.words × (seen.status ≡ DONE) → ⊥) → seen.ran ≡ None
  -- Each status comes for its cause, and the text that is written is that of the status. No other
  -- status has a cause then (`laws::one_status`). What a status says of each command is in
  -- `laws::answers_are_true`.
  pub answered : AnswersWords seen seen.status
