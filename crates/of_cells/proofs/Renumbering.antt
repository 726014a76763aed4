-- A saved row whose sequences begin anew keeps its numbers, and a table may start from it.
use Rattle.std.proofs.Common.{◌≡◌, ℕ, ◌+◌, ◌<◌, ◌≤◌, inl, inr, List, length, get_or, map, sym, ap, subst, ◌∙◌, arith}
use Rattle.std.proofs.lemmas.Bool.{cases_lt}
use Rattle.std.proofs.lemmas.List.{get_or-map, length-map, get_or_past, ext_get_or}
use Rattle.of_cell.specs.Words.{seq_of, payload_of}
use Rattle.of_cell.specs.Cells.{data_cell}
use Rattle.of_cell.specs.declared.shape.Shape.{Shape}
use Rattle.of_cell.proofs.Order.{seq_zero, seq_word, pay_word, pay_small}
use Rattle.of_mem.specs.Meaning.{Meaning}
use Rattle.of_mem.proofs.Lists.{part_at, part_long}
use Rattle.of_recover.specs.Row.{IsDurableRow}
use Rattle.of_recover.specs.Renumbered.{BeginsAnew}
use Rattle.of_core.specs.TableMoment.{TableStart}
use Rattle.of_core.specs.Starts.{start_from_durable}
use Rattle.of_row.specs.Rows.{MayStartFrom}

module _ (n cells : ℕ) (old new : List ℕ) (long : IsDurableRow n cells old) (anew : BeginsAnew n cells old new) where
  abbrev now : TableStart
  now = start_from_durable n cells new

  abbrev was : TableStart
  was = start_from_durable n cells old

  -- a word of a data cell
  word_in : (row : List ℕ) (a : ℕ) → a < cells → get_or (start_from_durable n cells row).cells a 0 ≡ get_or row (data_cell n a) 0
  word_in row a l = let e : data_cell n 0 + a ≡ data_cell n a = omega arith in part_at row (data_cell n 0) cells a l ∙ ap (λ (k : ℕ). get_or row k 0) e

  size_now : length now.cells ≡ cells
  size_now = part_long new (data_cell n 0) cells (omega (arith, anew.size))

  size_was : length was.cells ≡ cells
  size_was = part_long old (data_cell n 0) cells (omega (arith, long))

  number : (a : ℕ) → a < cells → payload_of (get_or now.cells a 0) ≡ payload_of (get_or was.cells a 0)
  number a l =
      ap payload_of (word_in new a l ∙ anew.numbers a l)
      ∙ pay_word 0 (payload_of (get_or old (data_cell n a) 0)) (pay_small (get_or old (data_cell n a) 0))
      ∙ ap payload_of (sym (word_in old a l))

  pub numbers_anew : map payload_of now.cells ≡ map payload_of was.cells
  numbers_anew = ext_get_or 0 (map payload_of now.cells) (map payload_of was.cells) (length-map now.cells payload_of ∙ size_now ∙ sym size_was ∙ sym (length-map was.cells payload_of)) (λ a l.
      let low : a < cells = omega (arith, l, length-map now.cells payload_of, size_now) in
      get_or-map payload_of now.cells a 0 0 (omega (arith, low, size_now)) ∙ number a low ∙ sym (get_or-map payload_of was.cells a 0 0 (omega (arith, low, size_was))))

  none_newer : (a : ℕ) → seq_of (get_or now.cells a 0) ≤ now.seq
  none_newer a = elim (cases_lt a cells) [
    | inl l ↦
        let first : seq_of (get_or new (data_cell n a) 0) ≡ 0 = ap seq_of (anew.numbers a l) ∙ seq_word 0 (payload_of (get_or old (data_cell n a) 0)) (pay_small (get_or old (data_cell n a) 0)) in
        omega (arith, ap seq_of (word_in new a l), first)
    | inr past ↦ omega (arith, ap seq_of (get_or_past now.cells a 0 (omega (arith, past, size_now))), seq_zero)
  ]

module _ {W : Type 0} (meaning : W → Meaning) (lawful : W → List ℕ → Type 0) (shape : Shape) (limit : ℕ) (work : W) (some : 1 ≤ shape.callers) (old new : List ℕ) (anew : BeginsAnew shape.callers shape.cells old new) (h : MayStartFrom meaning lawful shape limit work old) where
  pub begins_anew : MayStartFrom meaning lawful shape limit work new
  begins_anew = record {
    long = anew.size;
    recovered = anew.settled;
    may_start = record {
      start = record { owner_in = omega (arith, anew.owner, some); size = size_now shape.callers shape.cells old new h.long anew; old = none_newer shape.callers shape.cells old new h.long anew };
      lawful = subst (lawful work) (sym (numbers_anew shape.callers shape.cells old new h.long anew)) h.may_start.lawful;
      limit = omega (arith, anew.seq);
    };
  }
