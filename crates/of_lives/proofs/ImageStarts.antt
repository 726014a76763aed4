-- From the row of an image a table of a plan that fits it may start, at the start that the image is.
use Rattle.std.proofs.Common.{◌≡◌, ℕ, ◌+◌, ◌<◌, ◌≤◌, inl, inr, List, length, get_or, map, sym, ap, subst, ◌∙◌, arith}
use Rattle.std.proofs.lemmas.Bool.{cases_lt}
use Rattle.std.proofs.lemmas.List.{ext_get_or, get_or_past, get_or-map, length-map}
use Rattle.std.proofs.lemmas.List.FromFn.{get_or-map-range_with_len, length-map-range_with_len}
use Rattle.of_cell.specs.Words.{seq_of, payload_of}
use Rattle.of_cell.specs.Cells.{data_cell}
use Rattle.of_cell.proofs.Order.{seq_zero}
use Rattle.of_recover.specs.Row.{IsDurableRow}
use Rattle.of_mem.specs.Places.{ticket_cell_at}
use Rattle.of_mem.specs.ProgramWork.{memory_of}
use Rattle.of_mem.proofs.Lists.{part_at, part_long}
use Rattle.of_script.specs.declared.instr.TheConstants.{MOST_INSTRS}
use Rattle.of_eval.specs.Lawful.{DataCellsStandFor}
use Rattle.of_plan.specs.Plan.{Plan}
use Rattle.of_plan.specs.Report.{finished_of}
use Rattle.of_core.specs.TableMoment.{TableStart}
use Rattle.of_core.specs.WordsMatch.{MayStart}
use Rattle.of_core.specs.Starts.{start_from_durable, IsStartRow}
use Rattle.of_caller.specs.Tables.{plan_setup, IsLawfulFor}
use Rattle.of_caller.specs.Starts.{start_number, StartsAtPlan}
use Rattle.of_report.specs.ImageRow.{DurableRow, row_cell_count, data_numbers_in}
use Rattle.of_report.specs.Image.{Image, IsImage, image_ticket}
use Rattle.of_report.specs.Image.{start_of_image as image_start}
use Rattle.of_lives.specs.Restarts.{start_from_row}
use Rattle.of_lives.specs.Images.{PlanFitsImage}

-- ---- the start that a row is

module _ (r : DurableRow) (size : IsDurableRow r.callers (row_cell_count MOST_INSTRS r) r.words) where
  abbrev n : ℕ
  n = row_cell_count MOST_INSTRS r

  abbrev C : TableStart
  C = start_from_durable r.callers n r.words

  pub cells_long : length (start_from_durable r.callers (row_cell_count MOST_INSTRS r) r.words).cells ≡ row_cell_count MOST_INSTRS r
  cells_long = part_long r.words (data_cell r.callers 0) n (omega (arith, size))

  pub word_at : (a : ℕ) → a < row_cell_count MOST_INSTRS r → get_or (start_from_durable r.callers (row_cell_count MOST_INSTRS r) r.words).cells a 0 ≡ get_or r.words (data_cell r.callers a) 0
  word_at a l = part_at r.words (data_cell r.callers 0) n a l ∙ ap (λ (k : ℕ). get_or r.words k 0) (let k : data_cell r.callers 0 + a ≡ data_cell r.callers a = omega arith in k)

  pub number_there : (a : ℕ) → a < row_cell_count MOST_INSTRS r → get_or (data_numbers_in MOST_INSTRS r) a 0 ≡ payload_of (get_or r.words (data_cell r.callers a) 0)
  number_there a l = get_or-map-range_with_len (λ x. payload_of (get_or r.words (data_cell r.callers x) 0)) 0 n a a 0 l (omega arith)

  -- the numbers of its cells are those of the row
  pub numbers_are : map payload_of (start_from_durable r.callers (row_cell_count MOST_INSTRS r) r.words).cells ≡ data_numbers_in MOST_INSTRS r
  numbers_are = ext_get_or 0 (map payload_of C.cells) (data_numbers_in MOST_INSTRS r) (length-map C.cells payload_of ∙ cells_long ∙ sym (length-map-range_with_len (λ x. payload_of (get_or r.words (data_cell r.callers x) 0)) 0 n))
      (λ a l.
      let below : a < n = omega (arith, l, length-map C.cells payload_of, cells_long) in
      get_or-map payload_of C.cells a 0 0 (omega (arith, below, cells_long))
      ∙ ap payload_of (word_at a below)
      ∙ sym (number_there a below))

  pub number_is : (a : ℕ) → a < row_cell_count MOST_INSTRS r → start_number (start_from_durable r.callers (row_cell_count MOST_INSTRS r) r.words) a ≡ payload_of (get_or r.words (data_cell r.callers a) 0)
  number_is a l = ap (λ (xs : List ℕ). memory_of xs a) numbers_are ∙ number_there a l

-- ---- the start that an image is

-- how many of a caller's scripts are done is its ticket
pub done_is_ticket : (i : Image) (c : ℕ) → c < i.row.callers → finished_of (image_start i) c ≡ image_ticket i c
done_is_ticket i c lt = get_or-map-range_with_len (image_ticket i) 0 i.row.callers c c 0 lt (omega arith)

-- a table starts from the image, for a plan
pub record Begins (i : Image) (p : Plan) : Type 0 where
  pub row : IsStartRow (plan_setup p) (IsLawfulFor p) i.row.words
  pub starts : StartsAtPlan p (image_start i) (start_from_row p i.row.words)

module _ (i : Image) (is : IsImage MOST_INSTRS i) (p : Plan) (few : i.seq ≤ p.limit) where
  -- the plan, with the sizes of the image
  abbrev q : Plan
  q = record p { callers = i.row.callers; blocks = i.row.blocks }

  abbrev I : TableStart
  I = start_from_row q i.row.words

  stands : DataCellsStandFor q.callers MOST_INSTRS q.blocks (start_number I) i.store
  stands = subst (λ (xs : List ℕ). DataCellsStandFor i.row.callers MOST_INSTRS i.row.blocks (memory_of xs) i.store) (sym (numbers_are i.row is.row.size)) is.lawful.stands

  old : (a : ℕ) → seq_of (get_or I.cells a 0) ≤ I.seq
  old a = elim (cases_lt a (row_cell_count MOST_INSTRS i.row)) [
    | inl l ↦ omega (arith, ap seq_of (word_at i.row is.row.size a l), is.lawful.none_newer a l)
    | inr past ↦ omega (arith, ap seq_of (get_or_past I.cells a 0 (omega (arith, past, cells_long i.row is.row.size))), seq_zero)
  ]

  may_start : MayStart (plan_setup q) (IsLawfulFor q) I
  may_start = record {
    start = record { owner_in = is.lawful.owned; size = cells_long i.row is.row.size; old = old };
    lawful = (i.store, stands.stored);
    limit = omega (arith, few, is.seq);
  }

  begins : Begins i q
  begins = record {
    row = record { long = is.row.size; recovered = ap (λ (r : DurableRow). r.words) is.settled; may_start = may_start };
    starts = record {
      seq = sym is.seq;
      size = cells_long i.row is.row.size;
      stands = stands;
      each_caller = length-map-range_with_len (image_ticket i) 0 i.row.callers;
      tickets = λ c l. number_is i.row is.row.size (ticket_cell_at MOST_INSTRS c) (omega (arith, l)) ∙ sym (done_is_ticket i c l);
    };
  }

-- so it is for a plan that fits
pub image_begins : (i : Image) (p : Plan) → IsImage MOST_INSTRS i → PlanFitsImage i p → Begins i p
image_begins i p is fits =
    let same : q i is p fits.limit ≡ p = (λ j. record p { callers = sym fits.callers j; blocks = sym fits.blocks j }) in
    subst (Begins i) same (begins i is p fits.limit)
