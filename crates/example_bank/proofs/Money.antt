-- Transfers leave the accounts as much as they hold together.
use Rattle.std.proofs.Common.{◌≡◌, ℕ, ◌+◌, ◌-◌, ◌<◌, ◌≤◌, refl, sym, ◌∙◌, subst, arith, Bool, true, false, Some, Ok, Err, List, [], ◌∷◌, length, get_or, set, length-set}
use Rattle.std.specs.Prelude.{sum, nat_lt, if◌then◌else◌}
use Rattle.std.specs.List.{All}
use Rattle.std.proofs.lemmas.Bool.{ltb-false}
use Rattle.std.proofs.lemmas.List.Sums.{sum_by-set}
use Rattle.std.proofs.lemmas.List.Elements.{All-head, All-tail}
use Rattle.of_script.specs.declared.instr.Instr.{Instr}
use Rattle.of_script.specs.declared.instr.Cause.TheVariants.{Overflow, Short}
use Rattle.of_script.specs.declared.instr.TheConstants.{REGISTERS}
use Rattle.of_script.specs.Language.{greatest}
use Rattle.of_store.specs.Store.{Store, register, with_register, with_answer_first, then_outcome, run_result, run}
use Rattle.of_memory.specs.History.{HistoryEntry, store_after}
use Rattle.example_bank.specs.Transfers.{IsTransfer, money_of}

-- sixteen accounts still, with as much money
abbrev Keeps : (before now : Store) → Type 0
Keeps s t = (length t.registers ≡ REGISTERS) × (money_of t ≡ money_of s)

set_sum : (rs : List ℕ) (r v : ℕ) → r < length rs → sum (set rs r v) + get_or rs r 0 ≡ sum rs + v
set_sum rs r v l = sum_by-set (λ x. x) rs r v 0 l

module _ (s : Store) (long : length s.registers ≡ REGISTERS) (from to v : ℕ) (from_in : from < REGISTERS) (to_in : to < REGISTERS) where
  abbrev left : ℕ
  left = register s from - v

  abbrev t : Store
  t = with_register s from left

  add_keeps : v ≤ register s from → (over : Bool)
      → Keeps s (run_result s (with_answer_first (Some left) (then_outcome (if over then Err Overflow else Ok (with_register t to (register t to + v), Some (register t to + v))) (λ (u : Store). Ok (u, []))))).0
  add_keeps enough true = (long, refl)
  add_keeps enough false =
      let same : length t.registers ≡ REGISTERS = length-set s.registers from left ∙ long in (
        length-set t.registers to (register t to + v) ∙ same,
        omega (
          arith,
          enough,
          set_sum s.registers from left (subst (λ (n : ℕ). from < n) (sym long) from_in),
          set_sum t.registers to (register t to + v) (subst (λ (n : ℕ). to < n) (sym same) to_in),
        ),
      )

  sub_keeps : (short : Bool) → nat_lt (register s from) v ≡ short
      → Keeps s (run_result s (then_outcome (if short then Err Short else Ok (t, Some left)) (λ (x : Store). then_outcome (if nat_lt greatest (register x to + v) then Err Overflow else Ok (with_register x to (register x to + v), Some (register x to + v))) (λ (u : Store). Ok (u, []))))).0
  sub_keeps true is = (long, refl)
  sub_keeps false is = add_keeps (ltb-false (register s from) v is) (nat_lt greatest (register t to + v))

transfer_keeps : (s : Store) (script : List Instr) → length s.registers ≡ REGISTERS → IsTransfer script → Keeps s (run s script).0
transfer_keeps s script long is =
    subst (λ (l : List Instr). Keeps s (run s l).0) (sym is.5) (sub_keeps s long is.0 is.1 is.2 is.3 is.4 (nat_lt (register s is.0) is.2) refl)

-- so do histories of them
pub history_keeps : (s : Store) (h : List HistoryEntry) → length s.registers ≡ REGISTERS → All (λ (e : HistoryEntry). IsTransfer e.script) h → Keeps s (store_after s h)
history_keeps s [] long all = (long, refl)
history_keeps s (e ∷ h) long all =
    let one = transfer_keeps s e.script long (All-head (λ (e : HistoryEntry). IsTransfer e.script) e h all) in
    let rest = history_keeps (run s e.script).0 h one.0 (All-tail (λ (e : HistoryEntry). IsTransfer e.script) e h all) in
    (rest.0, rest.1 ∙ one.1)
