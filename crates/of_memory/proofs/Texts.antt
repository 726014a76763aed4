-- What is saved by its words: they have an image, and an image's words may be gone on from.
use Rattle.std.proofs.Common.{◌≡◌, ℕ, ◌+◌, ◌<◌, ◌≤◌, inl, inr, List, get_or, map, refl, sym, ap, subst, ◌∙◌, arith}
use Rattle.std.specs.Prelude.{slice_range, Result, Ok, Err, IfOk, IfErr, MatchResult}
use Rattle.std.proofs.lemmas.Bool.{cases_lt}
use Rattle.std.proofs.lemmas.List.{get_or_past}
use Rattle.of_cell.specs.Words.{seq_of, payload_of}
use Rattle.of_cell.specs.declared.shape.Shape.{Shape}
use Rattle.of_cell.specs.Cells.{data_cell, durable_cells}
use Rattle.of_cell.proofs.Order.{seq_zero}
use Rattle.of_mem.specs.declared.plot.Plot.{Plot}
use Rattle.of_mem.specs.Plots.{data_cell_count}
use Rattle.of_mem.specs.Places.{base_of, cells_at, ticket_cell_at}
use Rattle.of_mem.specs.ProgramWork.{memory_of}
use Rattle.of_mem.proofs.Lists.{part_long}
use Rattle.of_recover.specs.Row.{is_open}
use Rattle.of_script.specs.declared.instr.TheConstants.{MOST_INSTRS}
use Rattle.of_store.specs.Store.{Store}
use Rattle.of_eval.specs.Lawful.{DataCellsStandFor}
use Rattle.of_eval.specs.declared.scripts.Scripts.{Scripts}
use Rattle.of_eval.specs.Scripts.{scripts_data_cells, scripts_meaning, LawfulCells}
use Rattle.of_core.specs.Table.{setup_of}
use Rattle.of_core.specs.TableMoment.{TableStart}
use Rattle.of_core.specs.Starts.{IsStartRow, start_from_durable}
use Rattle.of_caller.proofs.StoresReplay.{number_at}
use Rattle.of_report.specs.ImageRow.{DurableRow, row_cell_count}
use Rattle.of_report.specs.ImageLaw.{IsLawfulRow}
use Rattle.of_report.specs.Image.{Image, IsTableImage, IsRestored, image_ticket}
use Rattle.of_image.specs.Grammar.{table_grammar}
use Rattle.of_image.specs.ImageText.{SpellsIn, table_row}
use Rattle.of_image.specs.Parsed.{ReadsIn}
use Rattle.of_image.proofs.RowLaw.{numbers_are}
use Rattle.of_cells.specs.Saving.{IsSavedCells, saved_words}
use Rattle.of_memory.specs.declared.saved.Saved.{Saved}
use Rattle.of_memory.specs.declared.error.ImageTextError.{ImageTextError}
use Rattle.of_memory.specs.declared.error.ImageTextError.TheVariants.{OutOfMemory}
use Rattle.of_memory.specs.Laws.{setup_with}
use Rattle.of_memory.specs.Rows.{StandFor, HoldLastReplies, StandsAt, HoldsLastReplies}
use Rattle.of_memory.specs.Saving.{IsSaved, SavedHolds, saved_scripts, saved_cells, saved_callers, saved_seq, saved_limit, saved_ticket}
use Rattle.of_memory.specs.Texts.{saved_row, IsImageOfSaved, TextHolds, IsReadBack, IsPastAll, IsTextCause}
use Rattle.of_memory.proofs.Reading.{word_in}
use Rattle.of_memory.proofs.Saving.{same_numbers}

-- the start that these words are on a table for the scripts
abbrev pub start_of : Scripts → List ℕ → TableStart
start_of w words = start_from_durable w.callers (scripts_data_cells w) words

-- so it is of what is saved
module _ (d : Saved) (is : IsSavedCells (λ w. w.callers) scripts_data_cells scripts_meaning LawfulCells d.cells) where
  abbrev w : Scripts
  w = saved_scripts d

  pub cells_are : saved_cells d ≡ map payload_of (start_of (saved_scripts d) (saved_words d.cells)).cells
  cells_are i = map payload_of (start_from_durable (is.callers i) (is.cells i) (saved_words d.cells)).cells

  pub starts_so : IsStartRow (setup_with (saved_scripts d) (saved_limit d)) (LawfulCells (saved_scripts d)) (saved_words d.cells)
  starts_so = subst (λ (k : ℕ × ℕ). IsStartRow (setup_of k.0 k.1 (saved_limit d) (scripts_meaning w)) (LawfulCells w) (saved_words d.cells)) (λ i. (is.callers i, is.cells i)) is.row

-- the numbers of a row's data cells
abbrev row_numbers : DurableRow → List ℕ
row_numbers r = map payload_of (start_from_durable r.callers (row_cell_count MOST_INSTRS r) r.words).cells

pub same_rows : (d e : Saved) → IsSaved d → IsSaved e → saved_row e ≡ saved_row d → IsReadBack d e
same_rows d e is so same = record {
  row = same;
  same = same_numbers d e (so.saved.callers ∙ ap (λ (r : DurableRow). r.callers) same ∙ sym is.saved.callers) (ap (λ (r : DurableRow). r.callers) same) (ap (λ (r : DurableRow). r.blocks) same)
      (cells_are e so.saved ∙ ap row_numbers same ∙ sym (cells_are d is.saved));
}

-- ---- the image of what is saved

-- a row from which a table may start is lawful, if it holds the last replies
pub start_is_lawful : (w : Scripts) (limit : ℕ) (row : List ℕ) → IsStartRow (setup_with w limit) (LawfulCells w) row → HoldsLastReplies w (start_of w row)
    → (s : Store) → StandsAt w (start_of w row) s → IsLawfulRow MOST_INSTRS (record { callers = w.callers; blocks = w.blocks; words = row }) s
start_is_lawful w limit row is replies s stands = record {
  owned = is.may_start.start.owner_in;
  none_newer = λ a lt. omega (arith, is.may_start.start.old a, ap seq_of (word_in row w.callers (scripts_data_cells w) a lt));
  stands = subst (λ (xs : List ℕ). DataCellsStandFor w.callers MOST_INSTRS w.blocks (memory_of xs) s) (numbers_are w.callers (scripts_data_cells w) row is.long) (record { own = replies; stored = stands });
}

-- the number in the word of a caller's ticket cell
pub ticket_is : (d : Saved) → IsSavedCells (λ w. w.callers) scripts_data_cells scripts_meaning LawfulCells d.cells → (n : ℕ) → n < saved_callers d
    → payload_of (get_or (saved_words d.cells) (data_cell (saved_scripts d).callers (ticket_cell_at MOST_INSTRS n)) 0) ≡ saved_ticket d n
ticket_is d is n lt =
    let w = saved_scripts d in
    let c = ticket_cell_at MOST_INSTRS n in
    ap payload_of (word_in (saved_words d.cells) w.callers (scripts_data_cells w) c (omega (arith, lt, is.callers)))
    ∙ sym (number_at (start_of w (saved_words d.cells)).cells c)
    ∙ ap (λ (xs : List ℕ). get_or xs c 0) (sym (cells_are d is))

module _ (d : Saved) (is : IsSaved d) (s : Store) (holds : SavedHolds d s) where
  abbrev image : Image
  image = record { row = saved_row d; seq = saved_seq d; replayed = is_open (saved_scripts d).callers (λ c. get_or (saved_words d.cells) c 0); store = s }

  start : IsStartRow (setup_with (saved_scripts d) (saved_limit d)) (LawfulCells (saved_scripts d)) (saved_words d.cells)
  start = starts_so d is.saved

  lawful : IsLawfulRow MOST_INSTRS (saved_row d) s
  lawful =
      start_is_lawful (saved_scripts d) (saved_limit d) (saved_words d.cells) start
      (subst (HoldLastReplies (saved_scripts d)) (cells_are d is.saved) is.replies) s (subst (λ (xs : List ℕ). StandFor (saved_scripts d) xs s) (cells_are d is.saved) holds)

  restored : IsRestored MOST_INSTRS (saved_row d) image
  restored = record { row = (let same = sym start.recovered in λ j. record (saved_row d) { words = same j }); seq = refl; replayed = refl; lawful = lawful }

  pub text_holds : (text : List ℕ) → SpellsIn table_grammar text (saved_row d) → TextHolds text d
  text_holds text spelled = (
    image,
    record { raw = saved_row d; spelled = spelled; restored = restored },
    record { row = refl; seq = refl; store = holds; tickets = ticket_is d is.saved },
  )

-- the row that is printed is that of what is saved
pub printed_row : (d : Saved) (w : Scripts) (p : Plot) (shape : Shape) (words copy row : List ℕ) → w ≡ saved_scripts d → p.callers ≡ w.callers → p.instrs ≡ MOST_INSTRS → p.blocks ≡ w.blocks → shape.callers ≡ w.callers → shape.cells ≡ scripts_data_cells w
    → copy ≡ words → slice_range words (durable_cells shape.callers shape.cells) (durable_cells shape.callers shape.cells + durable_cells shape.callers shape.cells) ≡ row → row ≡ saved_words d.cells → table_row p copy ≡ saved_row d
printed_row d w p shape words copy row scripts callers instrs blocks shape_callers shape_cells same part is =
    let cells : data_cell_count p ≡ scripts_data_cells w = (λ j. cells_at (base_of (callers j) (instrs j)) (blocks j)) in
    let size : durable_cells p.callers (data_cell_count p) ≡ durable_cells shape.callers shape.cells = (λ j. durable_cells (callers j) (cells j)) ∙ (λ j. durable_cells (sym shape_callers j) (sym shape_cells j)) in
    let words_are = (λ j. slice_range (same j) (size j) (size j + size j)) ∙ part ∙ is in
    (λ j. record { callers = callers j; blocks = blocks j; words = words_are j }) ∙ (λ j. record { callers = (scripts j).callers; blocks = (scripts j).blocks; words = saved_words d.cells })

-- ---- what is saved from an image

-- the image is of these words
module _ (w : Scripts) (words : List ℕ) (i : Image) (rows : i.row ≡ record { callers = w.callers; blocks = w.blocks; words = words }) (h : IsTableImage MOST_INSTRS i) where
  abbrev C : TableStart
  C = start_of w words

  abbrev many : ℕ
  many = scripts_data_cells w

  own : IsTableImage MOST_INSTRS (record i { row = record { callers = w.callers; blocks = w.blocks; words = words } })
  own = subst (λ (r : DurableRow). IsTableImage MOST_INSTRS (record i { row = r })) rows h

  old : (a : ℕ) → seq_of (get_or C.cells a 0) ≤ C.seq
  old a = elim (cases_lt a many) [
    | inl l ↦ omega (arith, ap seq_of (word_in words w.callers many a l), own.lawful.none_newer a l)
    | inr past ↦ omega (arith, ap seq_of (get_or_past C.cells a 0 (omega (arith, past, part_long words (data_cell w.callers 0) many (omega (arith, own.row.size))))), seq_zero)
  ]

  pub image_stands : DataCellsStandFor w.callers MOST_INSTRS w.blocks (memory_of (map payload_of (start_of w words).cells)) i.store
  image_stands = subst (λ (xs : List ℕ). DataCellsStandFor w.callers MOST_INSTRS w.blocks (memory_of xs) i.store) (sym (numbers_are w.callers many words own.row.size)) own.lawful.stands

  pub image_seq : i.seq ≡ (start_of w words).seq
  image_seq = own.seq

  pub image_starts : (limit : ℕ) → i.seq ≤ limit → IsStartRow (setup_with w limit) (LawfulCells w) words
  image_starts limit within = record {
    long = own.row.size;
    recovered = ap (λ (r : DurableRow). r.words) own.settled;
    may_start = record {
      start = record { owner_in = own.lawful.owned; size = part_long words (data_cell w.callers 0) many (omega (arith, own.row.size)); old = old };
      lawful = (i.store, image_stands.stored);
      limit = omega (arith, within, own.seq);
    };
  }

-- it is saved in these words
module _ (d : Saved) (i : Image) (is : IsSavedCells (λ w. w.callers) scripts_data_cells scripts_meaning LawfulCells d.cells) (rows : i.row ≡ saved_row d) (h : IsTableImage MOST_INSTRS i) where
  stands : DataCellsStandFor (saved_scripts d).callers MOST_INSTRS (saved_scripts d).blocks (memory_of (saved_cells d)) i.store
  stands =
      subst (λ (xs : List ℕ). DataCellsStandFor (saved_scripts d).callers MOST_INSTRS (saved_scripts d).blocks (memory_of xs) i.store) (sym (cells_are d is))
      (image_stands (saved_scripts d) (saved_words d.cells) i rows h)

  pub image_saved : 1 ≤ saved_limit d → IsSaved d
  image_saved some = record { saved = is; replies = stands.own; some_limit = some }

  pub image_held : IsImageOfSaved i d
  image_held = record {
    row = rows;
    seq = image_seq (saved_scripts d) (saved_words d.cells) i rows h;
    store = stands.stored;
    tickets = λ n lt. ap (λ (r : DurableRow). image_ticket (record i { row = r }) n) rows ∙ ticket_is d is n lt;
  }

-- ---- what is read

pub read_cause : (text : List ℕ) (i : Image) (e : ImageTextError) → ReadsIn table_grammar text i → IsPastAll i e → IsTextCause text e
read_cause text i e reads h = subst (IsTextCause text) (sym h.is) (record { image = i; reads = reads; seq_is = refl; past = h.past })

pub read_back : (text : List ℕ) (i : Image) (r : Result Saved ImageTextError) → IfOk r IsSaved → IfOk r (IsImageOfSaved i) → IfErr r (IsPastAll i) → (d : Saved) → IsSaved d → (holds : TextHolds text d) → i ≡ holds.0 → MatchResult r (IsReadBack d) (λ e. e ≡ OutOfMemory)
read_back text i (Ok e) so held past d is holds same = same_rows d e is so (sym held.row ∙ ap (λ (j : Image). j.row) same ∙ holds.2.row)
read_back text i (Err e) so held past d is holds same =
    let seq : i.seq ≡ saved_seq d = ap (λ (j : Image). j.seq) same ∙ holds.2.seq in
    absurd (omega (arith, past.past, seq, is.saved.row.may_start.limit, is.saved.few_limit))
