use Rattle.std.proofs.Common.{sym, ap, ◌∙◌, subst}
use Rattle.of_row.specs.Rows.{key_of}
use Rattle.of_cells.specs.Serving.{ServeAll}
use Rattle.of_cells.specs.Saving.{KeepsOwnCells}
use Rattle.of_cells.proofs.Seats.{keeps_asked}
use Rattle.of_cells.proofs.Holding.{history}
use Rattle.of_cells.proofs.memory.CellMemory.close_at_home.Goals as goal

pub gather-pass-requires-clause-serve : goal.gather-pass-requires-clause-serve
gather-pass-requires-clause-serve g c = subst (λ r. ServeAll g.W.Work.meaning r c.args.self.callers.items) (sym c.deref.ensures) c.requires.memory.serve

pub close-requires-clause-keeps : goal.close-requires-clause-keeps
close-requires-clause-keeps g c =
    keeps_asked c.args.self.callers.items _ c.gather-pass.result.seat.me.0 (c.requires.memory.each ∙ ap (λ r. (key_of r).callers) (sym c.deref-2.ensures)) c.requires.here c.gather-pass.ensures.keeps

pub returns-clause-history : goal.returns-clause-history
returns-clause-history g c =
    history g.W.Work.meaning c.args.self c.close.result c.deref-2.result.now c.gather-pass.result.seat.me.0 c.deref-2.ensures c.close.ensures.callers c.gather-pass.ensures.keeps c.gather-pass.ensures.pasts c.close.ensures.leads

pub returns-clause-own : goal.returns-clause-own
returns-clause-own g c = subst (λ r. KeepsOwnCells g.W.Work.meaning r c.close.result) c.deref-2.ensures c.close.ensures.own
