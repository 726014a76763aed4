use Rattle.std.proofs.lemmas.Result.{err_from_is_err_and}
use Rattle.of_queue.proofs.PopsOn.{link_lacks, may_close, closes}
use Rattle.of_queue.proofs.pop_front.Goals as goal

pub returns-in_err-link : goal.returns-in_err-link
returns-in_err-link g c =
    let p = err_from_is_err_and c.from_residual-in_err-link.result c.from_residual-in_err-link.ensures.1 in
    rw (p.1, p.2) (link_lacks c.args.plot.now c.args.queue c.args.block _ c.requires (g.C.Cells.run c.get.new.self) c.in_ok-item.item c.block.result c.block-2.result c.block.ensures c.block-2.ensures c.in_ok-item.ensures.runs _ _ c.in_err-link.ensures.runs)

pub close-requires : goal.close-requires
close-requires g c = may_close c.args.plot.now c.args.queue c.args.block _ c.requires (g.C.Cells.run c.get.new.self) c.in_ok-item.item c.block.result c.block-2.result c.block.ensures c.block-2.ensures c.in_ok-item.ensures.runs (g.C.Cells.run c.get-2.new.self) (g.C.Cells.run c.set.new.self) c.in_ok-link.link c.head.result c.head.ensures c.in_ok-link.ensures.runs c.set.ensures

pub returns : goal.returns
returns g c = closes c.args.plot.now c.args.queue c.args.block _ c.requires (g.C.Cells.run c.get.new.self) c.in_ok-item.item c.block.result c.block-2.result c.block.ensures c.block-2.ensures c.in_ok-item.ensures.runs (g.C.Cells.run c.get-2.new.self) (g.C.Cells.run c.set.new.self) c.in_ok-link.link c.head.result c.head.ensures c.in_ok-link.ensures.runs c.set.ensures (g.C.Cells.run c.close.new.cells) c.close.result c.close.ensures
