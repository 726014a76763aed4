-- What a life that goes on from an image leaves.
use Rattle.std.specs.Prelude.{◌≡◌, ℕ, ◌<◌}
use Rattle.of_script.specs.declared.instr.TheConstants.{MOST_INSTRS}
use Rattle.of_plan.specs.Plan.{Plan}
use Rattle.of_plan.specs.Report.{Start, Report, entries_of, finished_of}
use Rattle.of_plan.specs.Ended.{Ended}
use Rattle.of_report.specs.Image.{Image, IsRestored, image_number, start_of_image, durable_row}
use Rattle.of_core.specs.TableMoment.{TableStart}
use Rattle.of_row.specs.Views.{View}
use Rattle.of_caller.specs.Restarts.{HoldsLastAnnounced}
use Rattle.of_caller.specs.Teams.{IsHandedBack}
use Rattle.of_lives.specs.Lives.{start_behind}
use Rattle.of_lives.specs.Restarts.{start_from_row}

-- A team has run the plan over a table that starts at `B`. It has handed back the run `e`, and a
-- pass with the view `w`. `r` is the report of the run's lawful record.
pub record IsReportOfTeam (p : Plan) (s : Start) (B : TableStart) (e : Ended) (w : View)
    (r : Report)
    : Type 0 where
  pub handed : IsHandedBack p s B e w
  pub report : handed.report ≡ r

-- A life that goes on from the image leaves the run `e`, the view `w` and the report `r`: a team
-- has run the plan over a table that starts from the image's row, and has left these.
abbrev pub IsLifeOf : Image → Plan → Ended → View → Report → Type 0
IsLifeOf i p e w r = IsReportOfTeam p (start_of_image i) (start_from_row p i.row.words) e w r

-- Recovery finds the image `next` in the durable words that a life with this report has left. The
-- start in this image is the start that the life leaves.
pub record LeavesImage (p : Plan) (s : Start) (e : Ended) (r : Report) (next : Image) : Type 0 where
  pub restored : IsRestored MOST_INSTRS (durable_row p e) next
  pub start : start_of_image next ≡ start_behind s (record { plan = p; report = r })
  -- each caller's own cells hold its last announced call, with the reply that the report has
  pub last_calls : (c : ℕ) → c < p.callers
      → HoldsLastAnnounced (image_number next) c (finished_of s c) (entries_of r c)
