use Rattle.std.proofs.Common.{◌*◌, ℕ, None, Some, Result, Ok, Err, ◌∙◌, arith, ap, sym, subst}
use Rattle.std.specs.Prelude.{IfErr}
use Rattle.of_cell.proofs.Places.{row_within}
use Rattle.of_row.specs.Looking.{FindsLastAt, WasNotStill}
use Rattle.of_row.specs.Replacing.{HasLearntAt}
use Rattle.of_row.specs.Rows.{key_of, setup_at, row_start, view_of_pass}
use Rattle.of_row.proofs.RowLaws.{at_row}
use Rattle.of_cells.specs.Looking.{ShowLastCall}
use Rattle.of_cells.specs.Memories.{row_of}
use Rattle.of_cells.specs.Moments.{RowsHoldHistory}
use Rattle.of_cells.proofs.Looked.{looked}
use Rattle.of_cells.proofs.memory.CellMemory.last_reply_of.Goals as goal

-- a fact that needs no error holds of each error
of_each : {A E : Type 0} (r : Result A E) (P : Type 0) → P → IfErr r (λ e. P)
of_each (Ok a) P p = tt
of_each (Err e) P p = p

pub returns-in_err-ticket-clause-cause : goal.returns-in_err-ticket-clause-cause
returns-in_err-ticket-clause-cause g c =
    of_each c.from_residual.result _ (subst (λ r. WasNotStill (setup_at g.W.Work.meaning r) (row_start g.W.Work.meaning r) (view_of_pass c.args.self.now.pass) (view_of_pass c.last_reply.new.pass)) c.deref.ensures c.in_err-ticket.ensures.cause)

pub returns-then-ticket-eq0-clause-last : goal.returns-then-ticket-eq0-clause-last
returns-then-ticket-eq0-clause-last g c =
    let row = row_of c.args.self.now in
    let key = key_of row in
    let S = setup_at g.W.Work.meaning row in
    let L = g.W.Work.lawful key.work in
    let law : RowsHoldHistory L S = at_row g.W.Work.meaning g.W.Work.lawful g.W.Work.many g.W.Work.size key.callers key.cells key.limit c.limit.result key.work c.work.result c.shape-shape.ensures (sym c.limit.ensures) (sym c.work.ensures) (λ T K. RowsHoldHistory K T) c.rows_hold_history.ensures in
    let laws = g.met.W.Work in
    let room = laws.fits key.work in
    let fits = c.shape-shape.ensures in
    let e = c.in_ok-ticket.ensures in
    let k = record c.args.self.now { pass = c.last_reply.new.pass } in
    let i : ℕ = c.args.number in
    let low = row_within i key.callers 18 c.requires.number in
    let learnt : HasLearntAt g.W.Work.meaning g.W.Work.lawful row (view_of_pass c.args.self.now.pass) (view_of_pass c.last_reply.new.pass) = subst (λ r. HasLearntAt g.W.Work.meaning g.W.Work.lawful r (view_of_pass c.args.self.now.pass) (view_of_pass c.last_reply.new.pass)) c.deref.ensures e.learnt in
    let found : FindsLastAt g.W.Work.meaning g.W.Work.lawful row (view_of_pass c.last_reply.new.pass) i c.in_ok-ticket.ticket c.in_ok-ticket.raw = subst (λ r. FindsLastAt g.W.Work.meaning g.W.Work.lawful r (view_of_pass c.last_reply.new.pass) i c.in_ok-ticket.ticket c.in_ok-ticket.raw) c.deref.ensures e.found in
    looked g.W.Work.meaning g.W.Work.lawful c.args.self.now k i c.in_ok-ticket.ticket c.in_ok-ticket.raw learnt found
    (omega (arith, room.small, fits.1)) (omega (arith, low, room.own, ap (λ (n : ℕ). n * 18) fits.0, fits.1)) law
    (ShowLastCall i None) (λ xs h. h.ticket_is ∙ c.if-ticket-eq0.true)

pub returns-clause-last : goal.returns-clause-last
returns-clause-last g c =
    let row = row_of c.args.self.now in
    let key = key_of row in
    let S = setup_at g.W.Work.meaning row in
    let L = g.W.Work.lawful key.work in
    let law : RowsHoldHistory L S = at_row g.W.Work.meaning g.W.Work.lawful g.W.Work.many g.W.Work.size key.callers key.cells key.limit c.limit.result key.work c.work.result c.shape-shape.ensures (sym c.limit.ensures) (sym c.work.ensures) (λ T K. RowsHoldHistory K T) c.rows_hold_history.ensures in
    let laws = g.met.W.Work in
    let room = laws.fits key.work in
    let fits = c.shape-shape.ensures in
    let e = c.in_ok-ticket.ensures in
    let k = record c.args.self.now { pass = c.last_reply.new.pass } in
    let i : ℕ = c.args.number in
    let low = row_within i key.callers 18 c.requires.number in
    let learnt : HasLearntAt g.W.Work.meaning g.W.Work.lawful row (view_of_pass c.args.self.now.pass) (view_of_pass c.last_reply.new.pass) = subst (λ r. HasLearntAt g.W.Work.meaning g.W.Work.lawful r (view_of_pass c.args.self.now.pass) (view_of_pass c.last_reply.new.pass)) c.deref.ensures e.learnt in
    let found : FindsLastAt g.W.Work.meaning g.W.Work.lawful row (view_of_pass c.last_reply.new.pass) i c.in_ok-ticket.ticket c.in_ok-ticket.raw = subst (λ r. FindsLastAt g.W.Work.meaning g.W.Work.lawful r (view_of_pass c.last_reply.new.pass) i c.in_ok-ticket.ticket c.in_ok-ticket.raw) c.deref.ensures e.found in
    looked g.W.Work.meaning g.W.Work.lawful c.args.self.now k i c.in_ok-ticket.ticket c.in_ok-ticket.raw learnt found
    (omega (arith, room.small, fits.1)) (omega (arith, low, room.own, ap (λ (n : ℕ). n * 18) fits.0, fits.1)) law
    (ShowLastCall i (Some (c.in_ok-ticket.ticket, c.in_ok-ticket.raw))) (λ xs h. (c.if-ticket-eq0.false, h))
