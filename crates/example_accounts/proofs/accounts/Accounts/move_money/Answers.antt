use Rattle.std.proofs.Common.{◌≡◌, ◌-◌, Some, sym, ◌∙◌, ap, arith}
use Rattle.of_mem.specs.Part.{newest_at, write}
use Rattle.example_accounts.specs.Accounts.{account_cell, flipped}
use Rattle.example_accounts.proofs.Room.{has_room}
use Rattle.example_accounts.proofs.accounts.Accounts.move_money.Goals as goal

pub overflow_add-had : goal.overflow_add-had
overflow_add-had c =
    let w = c.args.self.now in
    let x = c.in_ok-read.field-0 in
    let y = c.in_ok-read-2.field-0 in
    let found : newest_at c.args.part.now (account_cell w c.args.from) ≡ Some x = sym (ap (newest_at c.args.part.now) c.cell.ensures) ∙ c.in_ok-read.ensures in
    let left : c.flip.result ≡ flipped w.money c.args.from (flipped w.money c.args.from x - c.args.amount) = c.flip.ensures ∙ ap (λ b. flipped w.money c.args.from (b - c.args.amount)) c.flip-balance.ensures in
    let then = sym (λ i. newest_at (write c.args.part.now (c.cell-2.ensures i) (left i)) (account_cell w c.args.to)) ∙ sym (λ i. newest_at (c.write.ensures.writes i) (c.cell-3.ensures i)) ∙ c.in_ok-read-2.ensures in
    let room = has_room w c.args.part.now c.args.from c.args.to c.args.amount x y c.requires.table c.requires.from c.requires.to found (omega (arith, c.flip-balance.ensures, c.if-balance-amount.false)) then in
    omega (arith, room, c.flip-had.ensures, w.small)
