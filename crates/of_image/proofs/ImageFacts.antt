-- What a text's image keeps: a recovered row is a row, in which recovery finds nothing to do. A text has at most one image.
use Rattle.std.proofs.Common.{◌≡◌, ℕ, ◌+◌, ◌*◌, ◌^◌, ◌<◌, ◌≤◌, inl, inr, Bool, true, false, cond, Option, Some, None, List, length, get_or, Ok, Err, refl, sym, ap, subst, ◌∙◌, arith}
use Rattle.std.specs.Prelude.{Result, IfOk, IfErr, IsErrAnd, MatchResult, nat_lt, ◌==◌, ◌&&◌, unwrap_or, slice_range}
use Rattle.std.specs.Option.{option_map}
use Rattle.std.proofs.lemmas.Bool.{cases_lt}
use Rattle.std.proofs.lemmas.List.{get_or_past}
use Rattle.of_cell.specs.Words.{pack, seq_of}
use Rattle.of_cell.specs.Cells.{request_cell, data_cell, durable_cells, table_words}
use Rattle.of_cell.proofs.Order.{seq_small, pay_small}
use Rattle.of_recover.specs.Row.{IsDurableRow, current_seq, current_owner, is_open}
use Rattle.of_recover.specs.Log.{entry_count, log_entry_value, first_naming}
use Rattle.of_recover.specs.Recovered.{recovered_words, recovered_data, replayed_data, recovered_word, is_data}
use Rattle.of_recover.proofs.Rows.{length-recovered, recovered_at}
use Rattle.of_recover.proofs.Kept.{others_kept, recovered_twice}
use Rattle.of_mem.specs.declared.plot.Plot.{Plot}
use Rattle.of_mem.specs.Plots.{data_cell_count}
use Rattle.of_mem.specs.Places.{base_of, cells_at}
use Rattle.of_mem.proofs.Lists.{part_at, part_long}
use Rattle.of_script.specs.declared.instr.TheConstants.{MOST_INSTRS}
use Rattle.of_image.specs.declared.error.ImageErr.{ImageErr}
use Rattle.of_image.specs.declared.error.ImageErr.TheVariants.{Memory}
use Rattle.of_image.specs.declared.grammar.Grammar.{Grammar}
use Rattle.of_report.specs.ImageRow.{DurableRow, IsRowWithin, IsTableRow, row_cell_count, row_in}
use Rattle.of_image.specs.declared.version.Version.TheVariants.{Two}
use Rattle.of_plan.specs.declared.plan.TheConstants.{MOST_PLAN_CALLERS, MOST_PLAN_BLOCKS}
use Rattle.of_image.specs.Grammar.{IsImageIn, plan_grammar, table_grammar}
use Rattle.of_image.specs.Version.{instrs_of}
use Rattle.of_report.proofs.Recovery.{row_long}
use Rattle.of_image.specs.ImageText.{SpellsIn}
use Rattle.of_report.specs.ImageLaw.{IsLawfulRow}
use Rattle.of_image.specs.RowFault.{IsRowFault}
use Rattle.of_report.specs.Image.{Image, IsImageWithin, IsRestored}
use Rattle.of_image.specs.declared.refusal.ImageFault.TheVariants.{Line, Cell}
use Rattle.of_image.specs.declared.refusal.Refusal.{Refusal}
use Rattle.of_image.specs.declared.refusal.Refusal.TheVariants.{Memory as NoMemory, Fault}
use Rattle.of_image.specs.Faults.{HasFaultIn, HasLineFault}
use Rattle.of_image.specs.Parsed.{ReadsIn, IsRefusedIn, HasNoRowIn, IsUnlawfulIn, NamesRowFault, refusal_err}
use Rattle.of_report.specs.ImageRow.{recovered_row}
use Rattle.of_image.proofs.ImageTexts.{one_row}
use Rattle.of_image.proofs.RowLaw.{fault_excludes, one_lawful, one_row_fault}

-- ---- the words of a recovered row are words

abbrev Small : ℕ → Type 0
Small w = w < 18446744073709551616

word_small : (s p : ℕ) → s < 4294967296 → p < 4294967296 → Small (pack s p)
unfolding pack
word_small s p h k = omega arith

either : (b : Bool) (x y : ℕ) → Small x → Small y → Small (cond b x y)
either true x y h k = h
either false x y h k = k

some_small : (f : ℕ → ℕ) (o : Option ℕ) (d : ℕ) → ((j : ℕ) → Small (f j)) → Small d → Small (unwrap_or (option_map f o) d)
some_small f None d h k = k
some_small f (Some j) d h k = h j

module _ (N M : ℕ) (row : ℕ → ℕ) (small : (c : ℕ) → Small (row c)) where
  data_small : (a : ℕ) → Small (recovered_data N M row a)
  data_small a =
      either (is_open N row) (replayed_data N M row (entry_count N M row) a) (row (data_cell N a))
      (either (nat_lt (seq_of (row (data_cell N a))) (current_seq row)) (unwrap_or (option_map (λ j. pack (current_seq row) (log_entry_value N M row j)) (first_naming N M row (entry_count N M row) a)) (row (data_cell N a))) (row (data_cell N a))
      (some_small (λ j. pack (current_seq row) (log_entry_value N M row j)) (first_naming N M row (entry_count N M row) a) (row (data_cell N a)) (λ j. word_small (current_seq row) (log_entry_value N M row j) (seq_small (row 0) (small 0)) (pay_small _)) (small (data_cell N a)))
      (small (data_cell N a)))
      (small (data_cell N a))

  words_small : (c : ℕ) → Small (recovered_word N M row c)
  words_small c =
      either (is_data N M c) _ _ (data_small _) (either (is_open N row && (c == request_cell (current_owner row))) _ _ (word_small (current_seq row) 1 (seq_small (row 0) (small 0)) (omega arith)) (small c))

recovered_small : (N M : ℕ) (ws : List ℕ) → ((c : ℕ) → get_or ws c 0 < 2 ^ 64) → (c : ℕ) → get_or (recovered_words N M ws) c 0 < 2 ^ 64
recovered_small N M ws h c = elim (cases_lt c (length ws)) [
  | inl l ↦ (let e = recovered_at N M ws c 0 l in let s = words_small N M (λ k. get_or ws k 0) (λ k. omega (arith, h k)) c in omega (arith, e, s))
  | inr l ↦ omega (arith, get_or_past (recovered_words N M ws) c 0 (omega (arith, l, length-recovered N M ws)))
]

-- ---- images

pub recovered_is_row : {n b : ℕ} → (instrs : ℕ) (r : DurableRow) → IsRowWithin n b instrs r → IsRowWithin n b instrs (recovered_row instrs r)
recovered_is_row instrs r h = record {
  some_callers = h.some_callers;
  few_callers = h.few_callers;
  few_blocks = h.few_blocks;
  size = length-recovered r.callers (row_cell_count instrs r) r.words ∙ h.size;
  words = recovered_small r.callers (row_cell_count instrs r) r.words h.words;
}

-- the current transaction is that of the row
same_current : {n b : ℕ} → (instrs : ℕ) (r : DurableRow) → IsRowWithin n b instrs r → current_seq (λ c. get_or (recovered_row instrs r).words c 0) ≡ current_seq (λ c. get_or r.words c 0)
same_current instrs r h = ap seq_of (others_kept r.callers (row_cell_count instrs r) r.words h.size 0 (omega (arith, h.size)) (inl (omega arith)) (λ e. omega (arith, e)))

pub restored_is_image : {n b : ℕ} → (instrs : ℕ) (r : DurableRow) (i : Image) → IsRowWithin n b instrs r → IsRestored instrs r i → IsImageWithin n b instrs i
restored_is_image {n} {b} instrs r i h k =
    let is = sym k.row in
    record {
      row = subst (IsRowWithin n b instrs) is (recovered_is_row instrs r h);
      settled = subst (λ (q : DurableRow). recovered_row instrs q ≡ q) is (λ j. record r { words = recovered_twice r.callers (row_cell_count instrs r) r.words h.size j });
      seq = k.seq ∙ sym (same_current instrs r h) ∙ ap (λ (q : DurableRow). current_seq (λ c. get_or q.words c 0)) is;
      lawful = k.lawful;
    }

pub read_is_image : (g : Grammar) (text : List ℕ) (i : Image) → ReadsIn g text i → IsImageIn g i
read_is_image g text i h = restored_is_image (instrs_of g.version) h.raw i h.spelled.row h.restored

-- a row restores to one image
one_restored : (instrs : ℕ) (r : DurableRow) (i j : Image) → IsRestored instrs r i → IsRestored instrs r j → i ≡ j
one_restored instrs r i j h k =
    let rows = h.row ∙ sym k.row in
    let seqs = h.seq ∙ sym k.seq in
    let replayed = h.replayed ∙ sym k.replayed in
    let stores = one_lawful instrs j.row i.store j.store (subst (λ (q : DurableRow). IsLawfulRow instrs q i.store) rows h.lawful) k.lawful in
    λ x. record { row = rows x; seq = seqs x; replayed = replayed x; store = stores x }

pub one_image : (g : Grammar) (text : List ℕ) (i j : Image) → ReadsIn g text i → ReadsIn g text j → i ≡ j
one_image g text i j h k = one_restored (instrs_of g.version) k.raw i j (subst (λ (r : DurableRow). IsRestored (instrs_of g.version) r i) (one_row g text h.raw k.raw h.spelled k.spelled) h.restored) k.restored

-- ---- what is answered

-- an unlawful text has no image
pub unlawful_excludes : (g : Grammar) (text : List ℕ) (cell : ℕ) (image : Image) → IsUnlawfulIn g text cell → ReadsIn g text image → ⊥
unlawful_excludes g text cell image bad h =
    let same = one_row g text bad.raw h.raw bad.spelled h.spelled in
    fault_excludes (instrs_of g.version) (recovered_row (instrs_of g.version) h.raw) image.store cell (subst (λ (q : DurableRow). IsLawfulRow (instrs_of g.version) q image.store) h.restored.row h.restored.lawful)
    (subst (λ (q : DurableRow). IsRowFault (instrs_of g.version) (recovered_row (instrs_of g.version) q) cell) same bad.fault)

-- and one cell at fault
pub one_unlawful : (g : Grammar) (text : List ℕ) (c d : ℕ) → IsUnlawfulIn g text c → IsUnlawfulIn g text d → c ≡ d
one_unlawful g text c d h k =
    let same = one_row g text h.raw k.raw h.spelled k.spelled in
    one_row_fault (instrs_of g.version) (recovered_row (instrs_of g.version) k.raw) c d (subst (λ (q : DurableRow). IsRowFault (instrs_of g.version) (recovered_row (instrs_of g.version) q) c) same h.fault) k.fault

-- a text with an image is answered by it
pub only_image : (g : Grammar) (text : List ℕ) (r : Result Image Refusal) → IfOk r (λ i. ReadsIn g text i) → IfErr r (HasFaultIn g text) → (image : Image) → ReadsIn g text image → MatchResult r (λ i. i ≡ image) (λ e. e ≡ NoMemory)
only_image g text (Ok i) ok err image h = one_image g text i image ok h
only_image g text (Err NoMemory) ok err image h = refl
only_image g text (Err (Fault (Line piece))) ok err image h = absurd (err.bad.none (h.raw, h.spelled))
only_image g text (Err (Fault (Cell cell law))) ok err image h = absurd (unlawful_excludes g text cell image (record { raw = err.raw; spelled = err.spelled; fault = record { law = law; breaks = err.breaks } }) h)

-- a fault by the line or the cell that it names
pub image_refused : (g : Grammar) (text : List ℕ) (e : Refusal) → HasFaultIn g text e → IsRefusedIn g text (refusal_err e)
image_refused g text NoMemory h = tt
image_refused g text (Fault (Line piece)) h = h.bad
image_refused g text (Fault (Cell cell law)) h = record { raw = h.raw; spelled = h.spelled; fault = record { law = law; breaks = h.breaks } }

pub no_image : (g : Grammar) (text : List ℕ) (e : Refusal) → HasLineFault g text e → HasNoRowIn g text (refusal_err e)
no_image g text NoMemory h = tt
no_image g text (Fault (Line piece)) h = h.bad
no_image g text (Fault (Cell cell law)) h = absurd h

-- the same where the row's data cells stand as a plot says
plot_faulty : (g : Grammar) (p : Plot) (r : DurableRow) → p.instrs ≡ instrs_of g.version → row_in p r.words ≡ r → (e : Refusal) → NamesRowFault p.instrs (recovered_row p.instrs (row_in p r.words)) e → NamesRowFault (instrs_of g.version) (recovered_row (instrs_of g.version) r) e
plot_faulty g p r instrs is e h = subst (λ (n : ℕ). NamesRowFault n (recovered_row n r) e) instrs (subst (λ (q : DurableRow). NamesRowFault p.instrs (recovered_row p.instrs q) e) is h)

-- so the cell that is named is at fault in the text
pub plot_faults : (g : Grammar) (text : List ℕ) (p : Plot) (r : DurableRow) (e : Refusal) → p.instrs ≡ instrs_of g.version → row_in p r.words ≡ r → SpellsIn g text r → NamesRowFault p.instrs (recovered_row p.instrs (row_in p r.words)) e → HasFaultIn g text e
plot_faults g text p r e instrs is s h = go e (plot_faulty g p r instrs is e h)
  where
    go : (e : Refusal) → NamesRowFault (instrs_of g.version) (recovered_row (instrs_of g.version) r) e → HasFaultIn g text e
    go NoMemory k = tt
    go (Fault (Line piece)) k = absurd k
    go (Fault (Cell cell law)) k = record { raw = r; spelled = s; breaks = k }

-- what recovery finds in it is the text's image
pub plot_read : (g : Grammar) (text : List ℕ) (p : Plot) (r : DurableRow) (i : Image) → p.instrs ≡ instrs_of g.version → row_in p r.words ≡ r → SpellsIn g text r → IsRestored p.instrs (row_in p r.words) i → ReadsIn g text i
plot_read g text p r i instrs is s h = record {
  raw = r;
  spelled = s;
  restored = subst (λ (n : ℕ). IsRestored n r i) instrs (subst (λ (q : DurableRow). IsRestored p.instrs q i) is h);
}

-- ---- what is answered of words alone

module _ (p : Plot) (instrs : p.instrs ≡ MOST_INSTRS) (words copy : List ℕ) (same : copy ≡ words) where
  pub words_restored : (i : Image) → IsRestored p.instrs (row_in p copy) i → IsRestored MOST_INSTRS (row_in p words) i
  words_restored i h = subst (λ (n : ℕ). IsRestored n (row_in p words) i) instrs (subst (λ (ws : List ℕ). IsRestored p.instrs (row_in p ws) i) same h)

  pub words_are_row : IsDurableRow p.callers (data_cell_count p) words → ((c : ℕ) → get_or words c 0 < 2 ^ 64) → IsTableRow MOST_INSTRS (row_in p words)
  words_are_row long small = record {
    some_callers = p.some_callers;
    few_callers = p.few_callers;
    few_blocks = p.few_blocks;
    size = long ∙ ap (λ (n : ℕ). durable_cells p.callers (cells_at (base_of p.callers n) p.blocks)) instrs;
    words = small;
  }

  pub only_restored : (i j : Image) → IsRestored p.instrs (row_in p copy) i → IsRestored MOST_INSTRS (row_in p words) j → i ≡ j
  only_restored i j h k = one_restored MOST_INSTRS (row_in p words) i j (words_restored i h) k

  -- words with a cell at fault have no image
  pub none_restored : (e : Refusal) → NamesRowFault p.instrs (recovered_row p.instrs (row_in p copy)) e → (j : Image) → IsRestored MOST_INSTRS (row_in p words) j → refusal_err e ≡ Memory
  none_restored NoMemory h j k = refl
  none_restored (Fault (Line piece)) h j k = absurd h
  none_restored (Fault (Cell cell law)) h j k =
      let there = subst (λ (n : ℕ). NamesRowFault n (recovered_row n (row_in p words)) (Fault (Cell cell law))) instrs (subst (λ (ws : List ℕ). NamesRowFault p.instrs (recovered_row p.instrs (row_in p ws)) (Fault (Cell cell law))) same h) in
      absurd (fault_excludes MOST_INSTRS (recovered_row MOST_INSTRS (row_in p words)) j.store cell (subst (λ (q : DurableRow). IsLawfulRow MOST_INSTRS q j.store) k.row k.lawful) (record { law = law; breaks = there }))

-- an error that says so
pub only_memory : (x : Result Image ImageErr) (e : ImageErr) (P : Image → Type 0) → IsErrAnd x (λ f. f ≡ e) → e ≡ Memory → MatchResult x P (λ f. f ≡ Memory)
only_memory (Ok i) e P is memory = absurd is
only_memory (Err f) e P is memory = is ∙ memory

-- ---- the durable words of a table are a row

slice_small : (ws : List ℕ) (a n : ℕ) → a + n ≤ length ws → ((c : ℕ) → get_or ws c 0 < 2 ^ 64) → (c : ℕ) → get_or (slice_range ws a (a + n)) c 0 < 2 ^ 64
slice_small ws a n le h c = elim (cases_lt c n) [
  | inl l ↦ omega (arith, part_at ws a n c l, h (a + c))
  | inr l ↦ omega (arith, get_or_past (slice_range ws a (a + n)) c 0 (omega (arith, l, part_long ws a n le)))
]

twice_within : (d k : ℕ) → d + d ≤ d + d + k + 1
twice_within d k = omega arith

pub table_is_row : (n b : ℕ) (p : Plot) (ws : List ℕ) → p.instrs ≡ MOST_INSTRS → length ws ≡ table_words p.callers MOST_INSTRS (data_cell_count p) → ((c : ℕ) → get_or ws c 0 < 2 ^ 64) → p.callers ≤ n → p.blocks ≤ b
    → IsRowWithin n b MOST_INSTRS (row_in p (slice_range ws (durable_cells p.callers (data_cell_count p)) (durable_cells p.callers (data_cell_count p) + durable_cells p.callers (data_cell_count p))))
table_is_row n b p ws instrs long small few_callers few_blocks = record {
  some_callers = p.some_callers;
  few_callers = few_callers;
  few_blocks = few_blocks;
  size = row_long p.callers (data_cell_count p) ws _ long refl ∙ ap (λ (n : ℕ). durable_cells p.callers (cells_at (base_of p.callers n) p.blocks)) instrs;
  words = slice_small ws (durable_cells p.callers (data_cell_count p)) (durable_cells p.callers (data_cell_count p)) (subst (λ (n : ℕ). durable_cells p.callers (data_cell_count p) + durable_cells p.callers (data_cell_count p) ≤ n) (sym long) (twice_within (durable_cells p.callers (data_cell_count p)) (p.callers * (MOST_INSTRS + 1)))) small;
}

-- ---- a row within other limits

same_row : {n b m d : ℕ} → (instrs : ℕ) (r : DurableRow) → r.callers ≤ m → r.blocks ≤ d → IsRowWithin n b instrs r → IsRowWithin m d instrs r
same_row instrs r few low h = record { some_callers = h.some_callers; few_callers = few; few_blocks = low; size = h.size; words = h.words }

pub plan_in_table : (text : List ℕ) (i : Image) → ReadsIn (plan_grammar Two) text i → ReadsIn table_grammar text i
plan_in_table text i h = record {
  raw = h.raw;
  spelled = record { row = same_row MOST_INSTRS h.raw (omega (arith, h.spelled.row.few_callers)) (omega (arith, h.spelled.row.few_blocks)) h.spelled.row; each = h.spelled.each };
  restored = h.restored;
}

pub table_in_plan : (text : List ℕ) (i : Image) → i.row.callers ≤ MOST_PLAN_CALLERS → i.row.blocks ≤ MOST_PLAN_BLOCKS → ReadsIn table_grammar text i → ReadsIn (plan_grammar Two) text i
table_in_plan text i few low h = record {
  raw = h.raw;
  spelled = record { row = same_row MOST_INSTRS h.raw (omega (arith, few, ap (λ (r : DurableRow). r.callers) h.restored.row)) (omega (arith, low, ap (λ (r : DurableRow). r.blocks) h.restored.row)) h.spelled.row; each = h.spelled.each };
  restored = h.restored;
}
