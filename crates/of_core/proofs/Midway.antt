-- A recovery or a renumbering that has stopped between two of its writes: from what it leaves a
-- table may start as if it had ended, or had not begun.
use Rattle.std.proofs.Common.{◌≡◌, ℕ, ◌<◌, ◌≤◌, ◌⊎◌, inl, inr, List, length, take, map, get_or, sym, ◌∙◌, ap, subst, arith, false}
use Rattle.std.proofs.lemmas.Bool.{cases_lt}
use Rattle.std.proofs.lemmas.List.{ext_get_or, get_or_past, get_or-map, length-map}
use Rattle.of_cell.specs.Words.{seq_of, payload_of}
use Rattle.of_cell.specs.Cells.{data_cell}
use Rattle.of_cell.proofs.Order.{seq_zero, pay_zero}
use Rattle.of_recover.specs.Row.{is_open}
use Rattle.of_recover.specs.Recovered.{recovered_words}
use Rattle.of_recover.specs.Writes.{words_after_writes, recovery_writes}
use Rattle.of_recover.specs.Renumbered.{renumbering_writes, BeginsAnewPartly}
use Rattle.of_recover.proofs.Kept.{closed_after}
use Rattle.of_recover.proofs.Fronts.{fronts_recover}
use Rattle.of_recover.proofs.AnewPartly.{fronts_begin}
use Rattle.of_core.specs.Table.{Setup}
use Rattle.of_core.specs.TableMoment.{Moment, TableStart}
use Rattle.of_core.specs.Invariant.{MeetsInvariant}
use Rattle.of_core.specs.Claim.{IsSound}
use Rattle.of_core.specs.Starts.{start_from_durable, IsStartRow, IsDurable, recovered_start}
use Rattle.of_core.proofs.Starts.{data_long, data_is}
use Rattle.of_core.proofs.RecoveredRow.{restarts, start_is}

-- a recovery
pub restarts_midway : (S : Setup) (Lawful : List ℕ → Type 0) (B : TableStart) (w : Moment) → MeetsInvariant S Lawful B w → IsSound S B w → (row : List ℕ) → IsDurable S w.words row → (made : ℕ)
    → IsStartRow S Lawful (recovered_words S.callers S.cells (words_after_writes (take made (recovery_writes S.callers S.cells (λ c. get_or row c 0))) row))
    × (start_from_durable S.callers S.cells (recovered_words S.callers S.cells (words_after_writes (take made (recovery_writes S.callers S.cells (λ c. get_or row c 0))) row)) ≡ recovered_start S B w)
restarts_midway S Lawful B w g sound row durable made =
    subst (λ (found : List ℕ). IsStartRow S Lawful found × (start_from_durable S.callers S.cells found ≡ recovered_start S B w)) (sym (fronts_recover S.callers S.cells row durable.long made))
    (restarts S Lawful B w g sound row durable, start_is S Lawful B w g sound row durable)

-- a renumbering
module _ (S : Setup) (Lawful : List ℕ → Type 0) (row : List ℕ) (is_row : IsStartRow S Lawful row) (made : ℕ) where
  abbrev left : List ℕ
  left = words_after_writes (take made (renumbering_writes S.callers S.cells row)) row

  closed : is_open S.callers (λ c. get_or row c 0) ≡ false
  closed = subst (λ (ws : List ℕ). is_open S.callers (λ c. get_or ws c 0) ≡ false) is_row.recovered (closed_after S.callers S.cells row is_row.long)

  partly : BeginsAnewPartly S.callers S.cells row left
  partly = fronts_begin S.callers S.cells row is_row.long closed made

  abbrev old : TableStart
  old = start_from_durable S.callers S.cells row

  abbrev new : TableStart
  new = start_from_durable S.callers S.cells left

  old_long : length old.cells ≡ S.cells
  old_long = data_long S.callers S.cells row is_row.long

  new_long : length new.cells ≡ S.cells
  new_long = data_long S.callers S.cells left partly.size

  number_is : (a : ℕ) → a < S.cells → payload_of (get_or new.cells a 0) ≡ payload_of (get_or old.cells a 0)
  number_is a l = ap payload_of (data_is S.callers S.cells left a l) ∙ partly.numbers a l ∙ sym (ap payload_of (data_is S.callers S.cells row a l))

  pub same_numbers : map payload_of new.cells ≡ map payload_of old.cells
  same_numbers = ext_get_or 0 (map payload_of new.cells) (map payload_of old.cells) (length-map new.cells payload_of ∙ new_long ∙ sym (length-map old.cells payload_of ∙ old_long)) (λ a l.
      let u : a < S.cells = omega (arith, l, length-map new.cells payload_of, new_long) in
      get_or-map payload_of new.cells a 0 0 (omega (arith, u, new_long)) ∙ number_is a u ∙ sym (get_or-map payload_of old.cells a 0 0 (omega (arith, u, old_long))))

  old_upto : (a : ℕ) → a < S.cells → seq_of (get_or row (data_cell S.callers a) 0) ≤ seq_of (get_or row 0 0)
  old_upto a l = subst (λ (x : ℕ). seq_of x ≤ seq_of (get_or row 0 0)) (data_is S.callers S.cells row a l) (is_row.may_start.start.old a)

  none_newer : (a : ℕ) → seq_of (get_or new.cells a 0) ≤ new.seq
  none_newer a = go (cases_lt a S.cells)
    where
      go : (a < S.cells) ⊎ (S.cells ≤ a) → seq_of (get_or new.cells a 0) ≤ new.seq
      go (inl l) = rw (data_is S.callers S.cells left a l) (partly.none_newer old_upto a l)
      go (inr l) = rw (get_or_past new.cells a 0 (omega (arith, l, new_long)), seq_zero) (omega arith)

  owner_in : (get_or left 0 0 ≡ get_or row 0 0) ⊎ (get_or left 0 0 ≡ 0) → new.owner < S.callers
  owner_in (inl e) = omega (arith, ap payload_of e, is_row.may_start.start.owner_in)
  owner_in (inr e) = omega (arith, ap payload_of e, pay_zero, is_row.may_start.start.owner_in)

  limit : (get_or left 0 0 ≡ get_or row 0 0) ⊎ (get_or left 0 0 ≡ 0) → new.seq ≤ S.limit
  limit (inl e) = omega (arith, ap seq_of e, is_row.may_start.limit)
  limit (inr e) = omega (arith, ap seq_of e, seq_zero)

  pub renumbers_midway : IsStartRow S Lawful left
  renumbers_midway = record {
    long = partly.size;
    recovered = partly.settled;
    may_start = record {
      start = record { owner_in = owner_in partly.current; size = new_long; old = none_newer };
      lawful = subst Lawful (sym same_numbers) is_row.may_start.lawful;
      limit = limit partly.current;
    };
  }
