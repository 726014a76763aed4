-- The image of what a run of a plan leaves.
use Rattle.std.specs.Prelude.{◌≡◌, ℕ, List, map}
use Rattle.std.specs.List.{range_with_len}
use Rattle.of_script.specs.declared.instr.TheConstants.{MOST_INSTRS}
use Rattle.of_mem.specs.Places.{ticket_cell_at}
use Rattle.of_plan.specs.Plan.{Plan, IsPlan}
use Rattle.of_plan.specs.Ended.{Ended}
use Rattle.of_plan.specs.Report.{Report, Start}
use Rattle.of_eval.specs.Record.{plan_data_cells, record_number, IsLawfulRecord}
use Rattle.of_report.specs.ImageRow.{DurableRow, recovered_row}
use Rattle.of_report.specs.ImageLaw.{IsOwned, NoneNewer}
use Rattle.of_report.specs.Image.{Image, start_of_image}
pub use Rattle.of_report.specs.Image.{durable_row}
use Rattle.of_image.specs.declared.version.Version.TheVariants.{Two}
use Rattle.of_image.specs.ImageText.{image_text, SpellsImage}
use Rattle.of_image.specs.Parsed.{ReadsImage}

-- the row that recovery makes of the durable words that a run leaves
abbrev pub row_left_by_run : Plan → Ended → DurableRow
row_left_by_run p e = recovered_row MOST_INSTRS (durable_row p e)

-- in the row that a run leaves a caller owns the current transaction, and no data cell is newer
-- than it
pub record HasOwnerAndNoneNewer (p : Plan) (e : Ended) : Type 0 where
  pub owned : IsOwned (row_left_by_run p e)
  pub none_newer : NoneNewer p.callers (row_left_by_run p e).words (plan_data_cells p)

-- the start that a run leaves: the store and the sequence of its report, and the ticket of each
-- caller that recovery finds
abbrev pub start_left : Plan → Ended → Report → Start
start_left p e r = record {
  store = r.store;
  seq = r.seq;
  finished =
      map (λ c. record_number p e (ticket_cell_at MOST_INSTRS c)) (range_with_len 0 p.callers);
}

-- the text is that of the durable words that a run leaves; its image has the sequence and the store
-- of the run's report, and is the start that the run leaves
pub record IsImageOf (p : Plan) (e : Ended) (r : Report) (text : List ℕ) : Type 0 where
  pub text_is : text ≡ image_text Two (durable_row p e)
  pub image : Image
  pub reads : ReadsImage Two text image
  pub row : image.row ≡ row_left_by_run p e
  pub seq : image.seq ≡ r.seq
  pub store : image.store ≡ r.store
  pub start : start_of_image image ≡ start_left p e r

-- from any start: if the durable words of a lawful record leave, after recovery, an owner and no
-- newer cell, their text has an image
abbrev pub RecordsHaveImages : Type 0
RecordsHaveImages =
    (p : Plan) (s : Start) (e : Ended) (r : Report) → IsPlan p → IsLawfulRecord p s e r
    → HasOwnerAndNoneNewer p e
    → (text : List ℕ) → text ≡ image_text Two (durable_row p e)
    → SpellsImage Two text (durable_row p e)
    → IsImageOf p e r text
