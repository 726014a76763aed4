use Rattle.std.proofs.Common.{ℕ, ◌<◌, sym, subst, arith}
use Rattle.of_mem.specs.Places.{base_of}
use Rattle.of_image.proofs.MovedRows.{own_source_below}
use Rattle.of_image.proofs.migration.source.Goals as goal

pub returns-then-own-old-clause-below : goal.returns-then-own-old-clause-below
returns-then-own-old-clause-below c =
    let o = c.args.old.now in
    let n = c.args.new.now in
    let own : c.args.at < base_of o.callers n.instrs = subst (λ (k : ℕ). c.args.at < base_of k n.instrs) (sym c.requires.callers) (omega arith) in
    omega (arith, own_source_below o.instrs n.instrs o.callers c.args.at own c.if-own-old.true)
