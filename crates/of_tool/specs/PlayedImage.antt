-- What a plan's schedule leaves, as an image.
use Rattle.std.specs.Prelude.{ℕ, List}
use Rattle.of_plan.specs.Plan.{Plan}
use Rattle.of_plan.specs.Ended.{Ended}
use Rattle.of_plan.specs.Report.{Report, empty_start}
use Rattle.of_image.specs.declared.version.Version.TheVariants.{Two}
use Rattle.of_image.specs.ImageText.{SpellsImage}
use Rattle.of_image.specs.RunImage.{IsImageOf, durable_row}
use Rattle.of_lives.specs.Continuing.{LeavesImage}
use Rattle.of_play.specs.Played.{IsPlayedReport}

-- The text is the image of the durable words that a run with this report leaves. The image has the
-- report's sequence and store, and a caller's ticket is that of its last announced entry. So a life
-- that goes on from this image runs none of the report's announced calls again.
pub record ShowsRun (p : Plan) (e : Ended) (r : Report) (text : List ℕ) : Type 0 where
  pub spelled : SpellsImage Two text (durable_row p e)
  pub image : IsImageOf p e r text
  pub leaves : LeavesImage p (empty_start p) e r image.image

-- the text is the image of what a plan's schedule leaves, in the run whose report `play` prints
pub record IsPlayedImage (p : Plan) (text : List ℕ) : Type 0 where
  pub report : Report
  pub played : IsPlayedReport p report
  pub shows : ShowsRun p played.run report text

-- a text that is the image of what the plan's schedule leaves agrees with each report that `play`
-- prints of the plan
abbrev pub ShowsEachPlay : Plan → Type 0
ShowsEachPlay p =
    (text : List ℕ) → IsPlayedImage p text
    → (r : Report) (played : IsPlayedReport p r) → ShowsRun p played.run r text
