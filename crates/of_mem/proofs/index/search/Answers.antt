use Rattle.std.proofs.Common.{◌≡◌, ◌%◌, ◌∙◌, length, sym, arith}
use Rattle.of_mem.specs.declared.index.TheConstants.{HOMES}
use Rattle.of_mem.specs.Chains.{pairs_of, latest}
use Rattle.of_mem.proofs.Chains.{entries_size, address_is, latest_few, begins_unmet}
use Rattle.of_mem.proofs.index.search.Goals as goal

pub returns-then-last-eq0 : goal.returns-then-last-eq0
returns-then-last-eq0 c =
    let ps = pairs_of c.args.entries.now in
    let none : latest HOMES ps (c.args.addr % HOMES) (length ps) ≡ 0 = sym c.requires.last ∙ c.if-last-eq0.true in
    λ k l. begins_unmet HOMES ps c.args.addr k (omega (arith, none)) l

pub bounds-entries-place : goal.bounds-entries-place
bounds-entries-place c =
    let ps = pairs_of c.args.entries.now in
    omega (arith, c.if-last-eq0.false, c.requires.last, latest_few HOMES ps (c.args.addr % HOMES) (length ps), entries_size c.args.entries.now)

pub returns-then-entries-place : goal.returns-then-entries-place
returns-then-entries-place c =
    let ps = pairs_of c.args.entries.now in (
      omega (arith, c.if-last-eq0.false, c.requires.last, latest_few HOMES ps (c.args.addr % HOMES) (length ps)),
      address_is c.args.entries.now _ ∙ c.if-entries-place.true,
    )
