use Rattle.std.proofs.Common.{◌≡◌, ◌%◌, length, inl, inr, arith}
use Rattle.of_mem.specs.declared.index.TheConstants.{HOMES}
use Rattle.of_mem.specs.Chains.{pairs_of, latest}
use Rattle.of_mem.proofs.Chains.{entries_size, front_none, begins_unmet}
use Rattle.of_mem.proofs.index.find.Goals as goal
use Rattle.of_mem.proofs.index.find.Goals.{then-number-eq0-via-then-number-eq0, then-number-eq0-via-else-number-eq0+then-number-entries}

pub returns-then-number-eq0 : goal.returns-then-number-eq0
returns-then-number-eq0 c =
    let ps = pairs_of c.args.entries.now in
    let none : latest HOMES ps (c.args.addr % HOMES) (length ps) ≡ 0 =
    elim c.then-number-eq0.branch [
      | then-number-eq0-via-then-number-eq0 w ↦ front_none HOMES ps c.args.fronts.now (c.args.addr % HOMES) (c.requires.fronts _ (omega arith)) (inl w.if-number-eq0.true)
      | then-number-eq0-via-else-number-eq0+then-number-entries w ↦ front_none HOMES ps c.args.fronts.now (c.args.addr % HOMES) (c.requires.fronts _ (omega arith)) (inr (omega (arith, w.if-number-entries.true, entries_size c.args.entries.now)))
    ] in
    λ k l. begins_unmet HOMES ps c.args.addr k (omega (arith, none)) l
