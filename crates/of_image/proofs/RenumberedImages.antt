-- An image whose sequences begin anew is read again, with sequence 0, the same store and the same numbers.
use Rattle.std.proofs.Common.{◌≡◌, ℕ, ◌+◌, ◌-◌, ◌^◌, ◌<◌, ◌≤◌, inl, inr, Bool, true, false, List, length, get_or, refl, sym, ap, subst, ◌∙◌, arith}
use Rattle.std.proofs.lemmas.Bool.{cases_lt}
use Rattle.std.proofs.lemmas.Bool.Decides.{nat_tests}
use Rattle.std.proofs.lemmas.List.{get_or_past}
use Rattle.of_cell.specs.Words.{pack, seq_of, payload_of}
use Rattle.of_cell.specs.Cells.{data_cell}
use Rattle.of_cell.proofs.Order.{seq_word, pay_word, pay_small}
use Rattle.of_script.specs.declared.instr.TheConstants.{MOST_INSTRS}
use Rattle.of_mem.specs.ProgramWork.{memory_of}
use Rattle.of_mem.proofs.Lists.{map_range_same}
use Rattle.of_recover.specs.Row.{is_open}
use Rattle.of_recover.specs.Recovered.{is_data, recovered_words}
use Rattle.of_recover.specs.Renumbered.{renumbered_words, BeginsAnew}
use Rattle.of_eval.specs.Lawful.{DataCellsStandFor}
use Rattle.of_report.specs.ImageRow.{DurableRow, IsRow, row_cell_count, data_numbers_in}
use Rattle.of_report.specs.Image.{Image, IsImage}
use Rattle.of_image.specs.declared.version.Version.TheVariants.{Two}
use Rattle.of_image.specs.Grammar.{plan_grammar}
use Rattle.of_image.specs.ImageText.{image_text}
use Rattle.of_image.specs.Parsed.{ReadsImage}
use Rattle.of_image.specs.RenumberedImage.{renumbered_row, renumbered_image, Renumbers}
use Rattle.of_image.proofs.PrintedImages.{printed_again}

small_word : (p : ℕ) → p < 4294967296 → pack 0 p < 2 ^ 64
unfolding pack
small_word p h = omega arith

module _ (i : Image) (h : IsImage MOST_INSTRS i) where
  abbrev r : DurableRow
  r = i.row

  abbrev M : ℕ
  M = row_cell_count MOST_INSTRS r

  -- no transaction is open in it
  pub closed : is_open r.callers (λ c. get_or (recovered_words r.callers M r.words) c 0) ≡ false → is_open r.callers (λ c. get_or r.words c 0) ≡ false
  closed shut = subst (λ (q : DurableRow). is_open r.callers (λ c. get_or q.words c 0) ≡ false) h.settled shut

  module _ (anew : BeginsAnew r.callers M r.words (renumbered_words r.callers M r.words)) where
    abbrev vs : List ℕ
    vs = renumbered_words r.callers M r.words

    data_small : (a : ℕ) → a < M → get_or vs (data_cell r.callers a) 0 < 2 ^ 64
    data_small a l =
        let e = anew.numbers a l in
        let s = small_word (payload_of (get_or r.words (data_cell r.callers a) 0)) (pay_small (get_or r.words (data_cell r.callers a) 0)) in
        omega (arith, e, s)

    cell_small : (c : ℕ) → c < length r.words → (b : Bool) → is_data r.callers M c ≡ b → get_or vs c 0 < 2 ^ 64
    cell_small c l true e =
        let after : r.callers < c = grind (arith, nat_tests) in
        let before : c < data_cell r.callers M = grind (arith, nat_tests) in
        let here : data_cell r.callers (c - (r.callers + 1)) ≡ c = omega arith in
        let s = data_small (c - (r.callers + 1)) (omega arith) in
        subst (λ (n : ℕ). get_or vs n 0 < 2 ^ 64) here s
    cell_small c l false e = omega (arith, anew.others c l e)

    renumbered_small : (c : ℕ) → get_or vs c 0 < 2 ^ 64
    renumbered_small c = elim (cases_lt c (length r.words)) [
      | inl l ↦ cell_small c l (is_data r.callers M c) refl
      | inr l ↦ omega (arith, get_or_past vs c 0 (omega (arith, l, anew.size, h.row.size)))
    ]

    renumbered_is_row : IsRow MOST_INSTRS (renumbered_row MOST_INSTRS r)
    renumbered_is_row = record { some_callers = h.row.some_callers; few_callers = h.row.few_callers; few_blocks = h.row.few_blocks; size = anew.size; words = renumbered_small }

    number_same : (a : ℕ) → a < M → payload_of (get_or vs (data_cell r.callers a) 0) ≡ payload_of (get_or r.words (data_cell r.callers a) 0)
    number_same a l = ap payload_of (anew.numbers a l) ∙ pay_word 0 (payload_of (get_or r.words (data_cell r.callers a) 0)) (pay_small (get_or r.words (data_cell r.callers a) 0))

    numbers_same : data_numbers_in MOST_INSTRS (renumbered_row MOST_INSTRS r) ≡ data_numbers_in MOST_INSTRS r
    numbers_same = map_range_same (λ a. payload_of (get_or vs (data_cell r.callers a) 0)) (λ a. payload_of (get_or r.words (data_cell r.callers a) 0)) M number_same

    none_newer : (a : ℕ) → a < M → seq_of (get_or vs (data_cell r.callers a) 0) ≤ seq_of (get_or vs 0 0)
    none_newer a l =
        let e = ap seq_of (anew.numbers a l) ∙ seq_word 0 (payload_of (get_or r.words (data_cell r.callers a) 0)) (pay_small (get_or r.words (data_cell r.callers a) 0)) in
        omega (arith, e)

    none_open : is_open r.callers (λ c. get_or vs c 0) ≡ false
    none_open = rw anew.seq refl

    renumbered_is_read : ReadsImage Two (image_text Two (renumbered_image i).row) (renumbered_image i)
    renumbered_is_read = record {
      raw = renumbered_row MOST_INSTRS r;
      spelled = printed_again (plan_grammar Two) (renumbered_row MOST_INSTRS r) renumbered_is_row;
      restored = record {
        row = (let e = sym anew.settled in λ j. record r { words = e j });
        seq = sym anew.seq;
        replayed = sym none_open;
        lawful = record {
          owned = omega (arith, anew.owner, h.row.some_callers);
          none_newer = none_newer;
          stands = subst (λ (l : List ℕ). DataCellsStandFor r.callers MOST_INSTRS r.blocks (memory_of l) i.store) (sym numbers_same) h.lawful.stands;
        };
      };
    }

    pub renumbers : (text : List ℕ) → text ≡ image_text Two (renumbered_image i).row → Renumbers i text
    renumbers text is = record { text_is = is; again = subst (λ (t : List ℕ). ReadsImage Two t (renumbered_image i)) (sym is) renumbered_is_read; numbers = numbers_same }
