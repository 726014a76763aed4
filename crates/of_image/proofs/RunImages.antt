-- The durable words of a lawful record have an image, with the sequence and the store of its report, and the tickets that recovery finds.
use Rattle.std.proofs.Common.{◌≡◌, ℕ, ◌<◌, List, get_or, map, refl, sym, ap, ◌∙◌, arith}
use Rattle.std.specs.List.{range_with_len}
use Rattle.std.proofs.lemmas.List.FromFn.{get_or-map-range_with_len}
use Rattle.of_cell.specs.Words.{seq_of, payload_of}
use Rattle.of_cell.specs.Cells.{data_cell}
use Rattle.of_mem.proofs.BucketPlaces.{few_behind}
use Rattle.of_mem.specs.Places.{ticket_cell_at}
use Rattle.of_mem.specs.ProgramWork.{memory_of}
use Rattle.of_mem.proofs.Lists.{map_range_same}
use Rattle.of_script.specs.declared.instr.TheConstants.{MOST_INSTRS}
use Rattle.of_recover.specs.Row.{IsDurableRow, is_open}
use Rattle.of_recover.specs.Recovered.{recovered_words}
use Rattle.of_recover.proofs.Kept.{data_at}
use Rattle.of_recover.proofs.Agreeing.{recovered_data-same}
use Rattle.of_plan.specs.Plan.{Plan, IsPlan}
use Rattle.of_plan.specs.Ended.{Ended}
use Rattle.of_plan.specs.Report.{Report, Start}
use Rattle.of_eval.specs.Lawful.{DataCellsStandFor}
use Rattle.of_eval.specs.Record.{plan_data_cells, durable_of, recovered_data_word, record_number, IsLawfulRecord}
use Rattle.of_report.specs.ImageRow.{data_numbers_in}
use Rattle.of_report.proofs.Recovery.{row_long, row_at}
use Rattle.of_report.proofs.Cells.{stands_for_same}
use Rattle.of_image.specs.declared.version.Version.TheVariants.{Two}
use Rattle.of_image.specs.ImageText.{image_text, SpellsImage}
use Rattle.of_image.specs.RunImage.{durable_row, row_left_by_run, HasOwnerAndNoneNewer, IsImageOf}

module _ (p : Plan) (s : Start) (e : Ended) (r : Report) (plan : IsPlan p) (lawful : IsLawfulRecord p s e r) where
  abbrev N : ℕ
  N = p.callers

  abbrev M : ℕ
  M = plan_data_cells p

  abbrev ws : List ℕ
  ws = (durable_row p e).words

  size : IsDurableRow N M (durable_row p e).words
  size = row_long N M e.words (durable_row p e).words lawful.words refl

  first : get_or ws 0 0 ≡ durable_of p e 0
  first = row_at N M e.words ws refl 0 (omega arith)

  -- what recovery finds in a data cell
  found : (a : ℕ) → a < M → get_or (recovered_words N M ws) (data_cell N a) 0 ≡ recovered_data_word p e a
  found a l = data_at N M ws size a l ∙ recovered_data-same N M (λ c. get_or ws c 0) (durable_of p e) (row_at N M e.words ws refl) a l (omega (arith, l, plan.few_callers, plan.few_blocks, few_behind p.blocks plan.few_blocks))

  stands : DataCellsStandFor N MOST_INSTRS p.blocks (memory_of (data_numbers_in MOST_INSTRS (row_left_by_run p e))) r.store
  stands = stands_for_same N p.blocks (record_number p e) (memory_of (data_numbers_in MOST_INSTRS (row_left_by_run p e)))
      (λ a l. sym (get_or-map-range_with_len (λ x. payload_of (get_or (recovered_words N M ws) (data_cell N x) 0)) 0 M a a 0 l (omega arith) ∙ ap payload_of (found a l)))
      r.store lawful.report.store

  -- a ticket is a data cell
  ticket_in_cells : (c : ℕ) → c < N → ticket_cell_at MOST_INSTRS c < M
  ticket_in_cells c l = omega (arith, l)

  -- each caller's ticket is the one that recovery finds
  tickets_are : map (λ c. payload_of (get_or (recovered_words N M ws) (data_cell N (ticket_cell_at MOST_INSTRS c)) 0)) (range_with_len 0 N) ≡ map (λ c. record_number p e (ticket_cell_at MOST_INSTRS c)) (range_with_len 0 N)
  tickets_are = map_range_same (λ c. payload_of (get_or (recovered_words N M ws) (data_cell N (ticket_cell_at MOST_INSTRS c)) 0)) (λ c. record_number p e (ticket_cell_at MOST_INSTRS c)) N (λ c l. ap payload_of (found (ticket_cell_at MOST_INSTRS c) (ticket_in_cells c l)))

  pub has_image : HasOwnerAndNoneNewer p e → (text : List ℕ) → text ≡ image_text Two (durable_row p e) → SpellsImage Two text (durable_row p e) → IsImageOf p e r text
  has_image may text is spelled = record {
    text_is = is;
    image = record { row = row_left_by_run p e; seq = r.seq; replayed = is_open N (λ c. get_or ws c 0); store = r.store };
    reads = record {
      raw = durable_row p e;
      spelled = spelled;
      restored = record {
        row = refl;
        seq = lawful.report.seq ∙ sym (ap seq_of first);
        replayed = refl;
        lawful = record { owned = may.owned; none_newer = may.none_newer; stands = stands };
      };
    };
    row = refl;
    seq = refl;
    store = refl;
    start = λ i. record { store = r.store; seq = r.seq; finished = tickets_are i };
  }
