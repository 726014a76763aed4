-- What recovery finds in the durable words of a run is an image, with the start behind its life.
use Rattle.std.proofs.Common.{◌≡◌, ℕ, ◌<◌, inl, List, length, get_or, map, refl, sym, ap, subst, ◌∙◌, arith}
use Rattle.std.specs.List.{range_with_len}
use Rattle.std.proofs.lemmas.List.{ext_get_or}
use Rattle.std.proofs.lemmas.List.FromFn.{get_or-map-range_with_len, length-map-range_with_len}
use Rattle.of_cell.specs.Words.{seq_of}
use Rattle.of_cell.specs.Cells.{durable_cells, table_words}
use Rattle.of_recover.specs.Row.{is_open}
use Rattle.of_recover.specs.Recovered.{recovered_words}
use Rattle.of_recover.proofs.Kept.{others_kept}
use Rattle.of_recover.proofs.Rows.{length-recovered}
use Rattle.of_mem.specs.Places.{ticket_cell_at}
use Rattle.of_mem.specs.ProgramWork.{memory_of}
use Rattle.of_mem.proofs.Lists.{part_at, part_long}
use Rattle.of_script.specs.declared.instr.TheConstants.{MOST_INSTRS}
use Rattle.of_eval.specs.Lawful.{DataCellsStandFor}
use Rattle.of_eval.specs.Record.{plan_data_cells}
use Rattle.of_plan.specs.Plan.{Plan, durable_cells_of}
use Rattle.of_plan.specs.Report.{Start, Report, entries_of, finished_of}
use Rattle.of_plan.specs.Ended.{Ended}
use Rattle.of_core.specs.Starts.{IsDurable}
use Rattle.of_caller.specs.Tables.{plan_setup}
use Rattle.of_caller.specs.Restarts.{HoldsLastAnnounced}
use Rattle.of_report.specs.ImageRow.{recovered_row}
use Rattle.of_report.specs.ImageLaw.{IsLawfulRow}
use Rattle.of_report.specs.Image.{Image, image_ticket, start_of_image, IsRestored, durable_row}
use Rattle.of_lives.specs.Lives.{Life, start_behind, finished_behind}
use Rattle.of_lives.specs.Restarts.{LeavesRow}
use Rattle.of_lives.specs.Continuing.{LeavesImage}
use Rattle.of_lives.proofs.ImageStarts.{word_at, numbers_are, number_is}

-- the durable words of a table are its durable row
pub row_durable : (p : Plan) (e : Ended) → length e.words ≡ table_words p.callers MOST_INSTRS (plan_data_cells p) → IsDurable (plan_setup p) e.words (durable_row p e).words
row_durable p e long = record {
  long = part_long e.words (durable_cells_of p) (durable_cells_of p) (omega (arith, long));
  each = λ c lt. part_at e.words (durable_cells_of p) (durable_cells_of p) c lt;
}

module _ (p : Plan) (s : Start) (e : Ended) (r : Report) (long : length e.words ≡ table_words p.callers MOST_INSTRS (plan_data_cells p)) (leaves : LeavesRow p s r (recovered_words p.callers (plan_data_cells p) (durable_row p e).words)) where
  abbrev row : List ℕ
  row = (durable_row p e).words

  abbrev found : List ℕ
  found = recovered_words p.callers (plan_data_cells p) row

  abbrev l : Life
  l = record { plan = p; report = r }

  -- the image that recovery finds
  abbrev next : Image
  next = record { row = recovered_row MOST_INSTRS (durable_row p e); seq = r.seq; replayed = is_open p.callers (λ c. get_or row c 0); store = r.store }

  row_long : length row ≡ durable_cells p.callers (plan_data_cells p)
  row_long = (row_durable p e long).long

  found_long : length found ≡ durable_cells p.callers (plan_data_cells p)
  found_long = length-recovered p.callers (plan_data_cells p) row ∙ row_long

  first_kept : get_or found 0 0 ≡ get_or row 0 0
  first_kept = others_kept p.callers (plan_data_cells p) row row_long 0 (omega (arith, row_long)) (inl (omega arith)) (λ q. omega (arith, q))

  lawful : IsLawfulRow MOST_INSTRS next.row r.store
  lawful = record {
    owned = leaves.row.may_start.start.owner_in;
    none_newer = λ a lt. omega (arith, leaves.row.may_start.start.old a, ap seq_of (word_at next.row found_long a lt));
    stands = subst (λ (xs : List ℕ). DataCellsStandFor p.callers MOST_INSTRS p.blocks (memory_of xs) r.store) (numbers_are next.row found_long) leaves.start.stands;
  }

  restored : IsRestored MOST_INSTRS (durable_row p e) next
  restored = record { row = refl; seq = sym leaves.start.seq ∙ ap seq_of first_kept; replayed = refl; lawful = lawful }

  tickets_are : map (image_ticket next) (range_with_len 0 p.callers) ≡ finished_behind s l
  tickets_are = ext_get_or 0 (map (image_ticket next) (range_with_len 0 p.callers)) (finished_behind s l)
      (length-map-range_with_len (image_ticket next) 0 p.callers ∙ sym leaves.start.each_caller)
      (λ c lt.
      let below : c < p.callers = omega (arith, lt, length-map-range_with_len (image_ticket next) 0 p.callers) in
      get_or-map-range_with_len (image_ticket next) 0 p.callers c c 0 below (omega arith)
      ∙ sym (number_is next.row found_long (ticket_cell_at MOST_INSTRS c) (omega (arith, below)))
      ∙ leaves.start.tickets c below)

  start_is : start_of_image next ≡ start_behind s l
  start_is = λ j. record { store = r.store; seq = r.seq; finished = tickets_are j }

  pub left_image : (i : Image) × LeavesImage p s e r i
  left_image = (
    next,
    record {
      restored = restored;
      start = start_is;
      last_calls = λ c lt. subst (λ (xs : List ℕ). HoldsLastAnnounced (memory_of xs) c (finished_of s c) (entries_of r c)) (numbers_are next.row found_long) (leaves.last_calls c lt);
    },
  )
