use Rattle.std.proofs.Common.{◌*◌, ◌≤◌, ℕ, arith, ap, sym, subst}
use Rattle.of_cell.proofs.Places.{row_within}
use Rattle.of_core.specs.Table.{reply_cell}
use Rattle.of_row.specs.Revivals.{LearnsWord}
use Rattle.of_row.specs.RowLaws.{RowLaws}
use Rattle.of_row.specs.Rows.{key_of, setup_at, row_start}
use Rattle.of_row.proofs.RowLaws.{at_row}
use Rattle.of_row.proofs.Pasts.{prefix_self}
use Rattle.of_row.proofs.Replacing.{learn_first, learn_more}
use Rattle.of_row.proofs.Looks.{word_of, busy_longer, moved_on, last_found}
use Rattle.of_row.proofs.row.Row.last_reply.Goals as goal

pub returns-then-not-is_at_rest-clause-learnt : goal.returns-then-not-is_at_rest-clause-learnt
returns-then-not-is_at_rest-clause-learnt g c =
    let row = c.args.self.now in
    let key = key_of row in
    let S = setup_at g.W.Work.meaning row in
    let L = g.W.Work.lawful key.work in
    let B = row_start g.W.Work.meaning row in
    let z = c.args.pass.now.seat.me.0 in
    let v = c.look_up-before.new.seat.me.0 in
    let w = c.is_at_rest.new.seat.me.0 in
    let zv = learn_first S L B _ _ z v c.look_up-before.ensures.learns in
    learn_more S L B z v w zv c.is_at_rest.ensures.learnt

pub returns-then-not-is_at_rest-clause-cause : goal.returns-then-not-is_at_rest-clause-cause
returns-then-not-is_at_rest-clause-cause g c =
    let row = c.args.self.now in
    let key = key_of row in
    let S = setup_at g.W.Work.meaning row in
    let L = g.W.Work.lawful key.work in
    let B = row_start g.W.Work.meaning row in
    let z = c.args.pass.now.seat.me.0 in
    let v = c.look_up-before.new.seat.me.0 in
    let w = c.is_at_rest.new.seat.me.0 in
    let zv = learn_first S L B _ _ z v c.look_up-before.ensures.learns in
    busy_longer S B v w z w zv.past (prefix_self w.past) (c.is_at_rest.ensures.busy c.if-not-is_at_rest.true)

pub returns-then-after-before-clause-learnt : goal.returns-then-after-before-clause-learnt
returns-then-after-before-clause-learnt g c =
    let row = c.args.self.now in
    let key = key_of row in
    let S = setup_at g.W.Work.meaning row in
    let L = g.W.Work.lawful key.work in
    let B = row_start g.W.Work.meaning row in
    let z = c.args.pass.now.seat.me.0 in
    let v = c.look_up-before.new.seat.me.0 in
    let w = c.is_at_rest.new.seat.me.0 in
    let zv = learn_first S L B _ _ z v c.look_up-before.ensures.learns in
    let zw = learn_more S L B z v w zv c.is_at_rest.ensures.learnt in
    let x = c.load_own-ticket.new.seat.me.0 in
    let u = c.look_up-after.new.seat.me.0 in
    let zx = learn_more S L B z w x zw c.load_own-ticket.ensures.learnt in
    let xu = learn_first S L B _ _ x u c.look_up-after.ensures.learns in
    learn_more S L B z x u zx xu

pub returns-then-after-before-clause-cause : goal.returns-then-after-before-clause-cause
returns-then-after-before-clause-cause g c =
    let row = c.args.self.now in
    let key = key_of row in
    let S = setup_at g.W.Work.meaning row in
    let L = g.W.Work.lawful key.work in
    let B = row_start g.W.Work.meaning row in
    let laws : RowLaws S L = at_row g.W.Work.meaning g.W.Work.lawful g.W.Work.many g.W.Work.size key.callers key.cells key.limit c.limit-limit.result key.work c.work-work.result c.shape.ensures.work (sym c.limit-limit.ensures.is) (sym c.work-work.ensures) RowLaws c.protocol.ensures in
    let z = c.args.pass.now.seat.me.0 in
    let v = c.look_up-before.new.seat.me.0 in
    let w = c.is_at_rest.new.seat.me.0 in
    let zv = learn_first S L B _ _ z v c.look_up-before.ensures.learns in
    let zw = learn_more S L B z v w zv c.is_at_rest.ensures.learnt in
    let x = c.load_own-ticket.new.seat.me.0 in
    let u = c.look_up-after.new.seat.me.0 in
    let zx = learn_more S L B z w x zw c.load_own-ticket.ensures.learnt in
    let xu = learn_first S L B _ _ x u c.look_up-after.ensures.learns in
    moved_on S L B laws z v u zv.past (learn_more S L B v w u c.is_at_rest.ensures.learnt (learn_more S L B w x u c.load_own-ticket.ensures.learnt xu)) c.look_up-before.result c.look_up-after.result (word_of S L B laws _ _ _ _ _ c.look_up-before.ensures.learns c.cur-current.ensures.value) (word_of S L B laws _ _ _ _ _ c.look_up-after.ensures.learns c.cur-current.ensures.value) c.if-after-before.true

pub returns-clause-learnt : goal.returns-clause-learnt
returns-clause-learnt g c =
    let row = c.args.self.now in
    let key = key_of row in
    let S = setup_at g.W.Work.meaning row in
    let L = g.W.Work.lawful key.work in
    let B = row_start g.W.Work.meaning row in
    let z = c.args.pass.now.seat.me.0 in
    let v = c.look_up-before.new.seat.me.0 in
    let w = c.is_at_rest.new.seat.me.0 in
    let zv = learn_first S L B _ _ z v c.look_up-before.ensures.learns in
    let zw = learn_more S L B z v w zv c.is_at_rest.ensures.learnt in
    let x = c.load_own-ticket.new.seat.me.0 in
    let u = c.look_up-after.new.seat.me.0 in
    let zx = learn_more S L B z w x zw c.load_own-ticket.ensures.learnt in
    let xu = learn_first S L B _ _ x u c.look_up-after.ensures.learns in
    learn_more S L B z x u zx xu

pub returns-clause-found : goal.returns-clause-found
returns-clause-found g c =
    let row = c.args.self.now in
    let key = key_of row in
    let S = setup_at g.W.Work.meaning row in
    let L = g.W.Work.lawful key.work in
    let B = row_start g.W.Work.meaning row in
    let laws : RowLaws S L = at_row g.W.Work.meaning g.W.Work.lawful g.W.Work.many g.W.Work.size key.callers key.cells key.limit c.limit-limit.result key.work c.work-work.result c.shape.ensures.work (sym c.limit-limit.ensures.is) (sym c.work-work.ensures) RowLaws c.protocol.ensures in
    let z = c.args.pass.now.seat.me.0 in
    let v = c.look_up-before.new.seat.me.0 in
    let w = c.is_at_rest.new.seat.me.0 in
    let zv = learn_first S L B _ _ z v c.look_up-before.ensures.learns in
    let zw = learn_more S L B z v w zv c.is_at_rest.ensures.learnt in
    let x = c.load_own-ticket.new.seat.me.0 in
    let u = c.look_up-after.new.seat.me.0 in
    let zx = learn_more S L B z w x zw c.load_own-ticket.ensures.learnt in
    let xu = learn_first S L B _ _ x u c.look_up-after.ensures.learns in
    let i : ℕ = c.args.number in
    let inside : reply_cell S i 16 ≤ S.cells = omega (arith, row.own, row.key.0, row.key.1, row_within i key.callers 18 c.requires.number, ap (λ (k : ℕ). k * 18) row.key.0) in
    last_found S L B laws i v w x u c.look_up-before.result c.look_up-after.result _ _ c.is_at_rest.ensures.learnt c.load_own-ticket.ensures.learnt (subst (λ (k : ℕ). LearnsWord S L B k x c.look_up-after.result u) c.cur-current.ensures.value c.look_up-after.ensures.learns) inside (omega (arith, inside)) (word_of S L B laws _ _ _ _ _ c.look_up-before.ensures.learns c.cur-current.ensures.value) (omega (arith, c.if-after-before.false)) (c.is_at_rest.ensures.closed c.if-not-is_at_rest.false) c.load_own-ticket.ensures.found
