-- What an image holds: a recovered row, what recovery found, and the store for which the row
-- stands.
use Rattle.std.specs.Prelude.{◌≡◌, refl, ℕ, ◌+◌, Bool, List, map, slice_index, slice_range}
use Rattle.std.specs.Coded.{Coded, code_by, coded×, coded_ℕ, coded_bool, coded_list}
use Rattle.std.specs.List.{range_with_len}
use Rattle.of_cell.specs.Words.{payload_of}
use Rattle.of_cell.specs.Cells.{data_cell, durable_cells}
use Rattle.of_mem.specs.declared.plot.TheConstants.{MOST_BLOCKS}
use Rattle.of_mem.specs.declared.work.TheConstants.{MOST_CALLERS}
use Rattle.of_mem.specs.Places.{ticket_cell_at}
use Rattle.of_mem.specs.ProgramWork.{memory_of}
use Rattle.of_script.specs.declared.instr.TheConstants.{MOST_INSTRS}
use Rattle.of_recover.specs.Row.{current_seq, is_open}
use Rattle.of_store.specs.Store.{Store, state_code}
use Rattle.of_plan.specs.declared.plan.TheConstants.{MOST_PLAN_CALLERS, MOST_PLAN_BLOCKS}
use Rattle.of_plan.specs.Plan.{Plan, data_cells}
use Rattle.of_plan.specs.Report.{Start}
use Rattle.of_plan.specs.Ended.{Ended}
use Rattle.of_report.specs.ImageRow.{DurableRow, IsRowWithin, recovered_row, data_numbers_in}
use Rattle.of_report.specs.ImageLaw.{IsLawfulRow}

-- the recovered row, its sequence, whether a transaction was brought to its end, and the store
pub record Image : Type 0 where
  pub row : DurableRow
  pub seq : ℕ
  pub replayed : Bool
  pub store : Store

-- how an image is coded: as the tuple of its parts
abbrev pub image_code : Coded Image
image_code =
    code_by ((ℕ × (ℕ × List ℕ)) × (ℕ × (Bool × Store)))
    (coded× (coded× coded_ℕ (coded× coded_ℕ (coded_list coded_ℕ)))
    (coded× coded_ℕ (coded× coded_bool state_code)))
    (λ i. ((i.row.callers, (i.row.blocks, i.row.words)), (i.seq, (i.replayed, i.store))))
    (λ p. record {
      row = record { callers = p.0.0; blocks = p.0.1.0; words = p.0.1.1 };
      seq = p.1.0;
      replayed = p.1.1.0;
      store = p.1.1.1;
    })
    (λ _. refl)

-- an image of at most this many callers and blocks: recovery leaves its words as they are, its
-- sequence is theirs, and they are lawful and stand for its store
pub record IsImageWithin (callers blocks instrs : ℕ) (i : Image) : Type 0 where
  pub row : IsRowWithin callers blocks instrs i.row
  pub settled : recovered_row instrs i.row ≡ i.row
  pub seq : i.seq ≡ current_seq (slice_index i.row.words)
  pub lawful : IsLawfulRow instrs i.row i.store

-- an image that a command reads: it has no more callers and blocks than a plan may have
abbrev pub IsImage : (instrs : ℕ) → Image → Type 0
IsImage instrs i = IsImageWithin MOST_PLAN_CALLERS MOST_PLAN_BLOCKS instrs i

-- an image of any table: it has no more callers and blocks than a table may have
abbrev pub IsTableImage : (instrs : ℕ) → Image → Type 0
IsTableImage instrs i = IsImageWithin MOST_CALLERS MOST_BLOCKS instrs i

-- the image is what recovery finds in the row `raw`
pub record IsRestored (instrs : ℕ) (raw : DurableRow) (i : Image) : Type 0 where
  pub row : i.row ≡ recovered_row instrs raw
  pub seq : i.seq ≡ current_seq (slice_index raw.words)
  pub replayed : i.replayed ≡ is_open raw.callers (slice_index raw.words)
  pub lawful : IsLawfulRow instrs i.row i.store

-- the number that a data cell of an image holds
abbrev pub image_number : Image → (cell : ℕ) → ℕ
image_number i = memory_of (data_numbers_in MOST_INSTRS i.row)

-- a caller's ticket in an image: the number of its last announced call that was run, or 0
abbrev pub image_ticket : Image → (caller : ℕ) → ℕ
image_ticket i c =
    payload_of (slice_index i.row.words (data_cell i.row.callers (ticket_cell_at MOST_INSTRS c)))

-- where a run from the image starts: as many scripts of a caller are done as its ticket says
abbrev pub start_of_image : Image → Start
start_of_image i = record {
  store = i.store;
  seq = i.seq;
  finished = map (image_ticket i) (range_with_len 0 i.row.callers);
}

-- the durable words that a run of the plan leaves
abbrev pub durable_row : Plan → Ended → DurableRow
durable_row p e =
    let cells = durable_cells p.callers (data_cells p.callers p.blocks) in
    record {
      callers = p.callers;
      blocks = p.blocks;
      words = slice_range e.words cells (cells + cells);
    }
