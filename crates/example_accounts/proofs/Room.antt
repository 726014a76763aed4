-- There is room for an amount in the account that gets it.
use Rattle.std.proofs.Common.{◌≡◌, ℕ, ◌+◌, ◌-◌, ◌<◌, ◌≤◌, inl, inr, sym, ◌∙◌, ap, subst, arith, Some}
use Rattle.std.proofs.lemmas.Bool.{cases_eq}
use Rattle.of_mem.specs.Part.{Part, newest_at, write}
use Rattle.of_mem.specs.Programs.{with_value}
use Rattle.of_mem.proofs.Changes.{changed_same, changed_other}
use Rattle.of_mem.proofs.Runs.{newest_same, newest_other}
use Rattle.example_accounts.specs.declared.accounts.Accounts.{Accounts}
use Rattle.example_accounts.specs.Accounts.{account_cell, cell_count, flipped, balance_in}
use Rattle.example_accounts.specs.Meaning.{IsPartOfTable}
use Rattle.example_accounts.specs.Money.{with_balance, balance_below}
use Rattle.example_accounts.specs.Sound.{taken}

-- where the partial memory after a write has a number, so has the memory that it is part of
wrote_table : (w : Accounts) (p : Part) (t : IsPartOfTable w p) (a v b y : ℕ) → b < cell_count w → newest_at (write p a v) b ≡ Some y → with_value t.memory a v b ≡ y
wrote_table w p t a v b y l e = elim (cases_eq b a) [
  | inl q ↦ rw (q, changed_same t.memory a v) (let k : Some v ≡ Some y = sym (newest_same p a v) ∙ subst (λ x. newest_at (write p a v) x ≡ Some y) q e in cc)
  | inr n ↦ changed_other t.memory a v b n ∙ t.part b y l (sym (newest_other p a v b n) ∙ e)
]

-- what the account x has from which the amount was taken, what the other one has then, and the amount are no more than all the money
pub has_room : (w : Accounts) (p : Part) (from to amount x y : ℕ) → IsPartOfTable w p → from < w.accounts → to < w.accounts → newest_at p (account_cell w from) ≡ Some x → amount ≤ flipped w.money from x
    → newest_at (write p (account_cell w from) (flipped w.money from (flipped w.money from x - amount))) (account_cell w to) ≡ Some y → flipped w.money to y + amount ≤ w.money
has_room w p from to amount x y t lf lt found enough then =
    let had : balance_in w t.memory from ≡ flipped w.money from x = ap (flipped w.money from) (t.part (account_cell w from) x (omega (arith, lf)) found) in
    let next = taken w t.memory from amount t.money lf (omega (arith, had, enough)) in
    let left : ℕ → ℕ = with_balance w t.memory from (balance_in w t.memory from - amount) in
    let is : left ≡ with_balance w t.memory from (flipped w.money from x - amount) = ap (λ b. with_balance w t.memory from (b - amount)) had in
    let there : balance_in w left to ≡ flipped w.money to y =
    ap (λ (m : ℕ → ℕ). balance_in w m to) is ∙ ap (flipped w.money to) (wrote_table w p t (account_cell w from) (flipped w.money from (flipped w.money from x - amount)) (account_cell w to) y (omega (arith, lt)) then) in
    omega (arith, next, balance_below w left to w.accounts lt, there)
