-- What a life that goes on from an image leaves and writes.
use Rattle.std.specs.Prelude.{◌≡◌, ℕ, List, ◌++◌, All}
use Rattle.of_plan.specs.Plan.{Plan}
use Rattle.of_plan.specs.Report.{Report}
use Rattle.of_plan.specs.Ended.{Ended}
use Rattle.of_report.specs.Image.{Image, start_of_image, durable_row}
use Rattle.of_report.specs.ReportText.{report_text}
use Rattle.of_image.specs.declared.version.Version.TheVariants.{Two}
use Rattle.of_image.specs.ImageText.{image_text}
use Rattle.of_image.specs.Parsed.{ReadsImage}
use Rattle.of_row.specs.Views.{View}
use Rattle.of_caller.specs.InTime.{Mark}
use Rattle.of_lives.specs.OneHistory.{IsBehind}
use Rattle.of_lives.specs.Images.{PlanFitsImage}
use Rattle.of_lives.specs.Restarts.{start_from_row}
use Rattle.of_lives.specs.Continuing.{IsLifeOf, LeavesImage}
use Rattle.of_tool.specs.Seen.{StepsLeft}
use Rattle.of_tool.specs.Ran.{IsHistoryOf, KeepsPromises, IsRealRun}

-- the text of the durable words that a life leaves
abbrev pub left_text : Plan → Ended → List ℕ
left_text p e = image_text Two (durable_row p e)

-- what `continue` prints: the report, and after it the text of the durable words that the life
-- leaves
abbrev pub life_text : Plan → Report → Ended → List ℕ
life_text p r e = report_text r ++ left_text p e

-- The life goes on from the image, which the plan fits, and the next life can go on from what this
-- life leaves.
pub record GoesOnFrom (i : Image) (p : Plan) (r : Report) (e : Ended) : Type 0 where
  pub fits : PlanFitsImage i p
  -- no call that the image holds was run again
  pub not_again : All (IsBehind (start_of_image i)) r.entries
  -- the text of the durable words is read as an image with the report's sequence and store, and
  -- each caller's ticket after the report. So the next life can go on from this image
  pub next : Image
  pub leaves : LeavesImage p (start_of_image i) e r next
  pub reads : ReadsImage Two (left_text p e) next

-- the run of a life is real: some schedule from the image's row leaves the run's record
abbrev pub IsRealLife : Image → Plan → List Mark → Ended → Report → Type 0
IsRealLife i p course e r = IsRealRun p (start_of_image i) (start_from_row p i.row.words) course e r

-- the report of a life that goes on from the image by the plan, with these brakes
pub record IsLifeReport (brakes : List StepsLeft) (i : Image) (p : Plan) (r : Report) (e : Ended)
    (w : View) : Type 0 where
  pub course : List Mark
  pub promises : KeepsPromises brakes p (start_of_image i) course e r
  pub goes_on : GoesOnFrom i p r e
  pub real : IsRealLife i p course e r
  pub table : IsLifeOf i p e w r

-- the text is that of a life that has gone on from the image by the plan, with these brakes
pub record WritesLife (brakes : List StepsLeft) (i : Image) (p : Plan) (e : Ended) (w : View)
    (text : List ℕ) : Type 0 where
  pub report : Report
  pub life : IsLifeReport brakes i p report e w
  pub text_is : text ≡ life_text p report e

-- the text is that of some life that goes on from the image by the plan
pub record IsSomeLifes (i : Image) (p : Plan) (text : List ℕ) : Type 0 where
  pub report : Report
  pub left : Ended
  pub seen : View
  pub course : List Mark
  pub history : IsHistoryOf p (start_of_image i) course left report
  pub goes_on : GoesOnFrom i p report left
  pub real : IsRealLife i p course left report
  pub table : IsLifeOf i p left seen report
  pub text_is : text ≡ life_text p report left
