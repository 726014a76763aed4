use Rattle.std.proofs.Common.{ℕ, ◌+◌, ◌-◌, ◌≤◌, ◌∙◌, sym, ap, subst, arith}
use Rattle.of_mem.specs.Places.{head_at, block_at}
use Rattle.of_memory.proofs.Chains.{LeadsIn, cell_inside, at_end, block_below, next_in, leads_past, read_field, HasItemOf, has_item, past_item, leads_to_item}
use Rattle.of_memory.proofs.saved.Saved.item.Goals as goal

pub loop-passed-init : goal.loop-passed-init
loop-passed-init c = record {
  leads =
      let d = c.args.self.now in
      let front = c.head-cell.ensures ∙ ap (λ (x : ℕ). head_at x c.args.q) c.plot-plot.ensures.base in
      subst (λ (x : ℕ). LeadsIn d (HasItemOf d c.args.q c.args.at 0) x 0) (sym front) (leads_to_item d c.args.q c.args.at c.requires.queue);
}

pub number-pointer-requires-clause-cell : goal.number-pointer-requires-clause-cell
number-pointer-requires-clause-cell c =
    cell_inside c.args.self.now c.requires.saved (HasItemOf c.args.self.now c.args.q c.args.at c.loop-passed.passed) c.loop-passed.cell c.loop-passed.passed c.loop-passed.invariant.leads

pub returns-then-pointer-eq0 : goal.returns-then-pointer-eq0
returns-then-pointer-eq0 c =
    at_end c.args.self.now c.requires.saved (HasItemOf c.args.self.now c.args.q c.args.at c.loop-passed.passed) c.loop-passed.cell c.loop-passed.passed c.loop-passed.invariant.leads c.number-pointer.result c.number-pointer.ensures c.if-pointer-eq0.true

pub block-cell-requires-clause-block : goal.block-cell-requires-clause-block
block-cell-requires-clause-block c =
    let below = block_below c.args.self.now c.requires.saved (HasItemOf c.args.self.now c.args.q c.args.at c.loop-passed.passed) c.loop-passed.cell c.loop-passed.passed c.loop-passed.invariant.leads c.number-pointer.result c.number-pointer.ensures c.if-pointer-eq0.false in
    omega (arith, below, c.plot-plot.ensures.blocks)

pub loop-passed-preserved : goal.loop-passed-preserved
loop-passed-preserved c = record {
  leads =
      let d = c.args.self.now in
      let To = HasItemOf d c.args.q c.args.at (c.loop-passed.passed + 1) in
      let place = c.block-cell.ensures ∙ ap (λ (x : ℕ). block_at x (c.number-pointer.result - 1) 2) c.plot-plot.ensures.base in
      subst (λ (x : ℕ). LeadsIn d To x (c.loop-passed.passed + 1)) (sym place)
      (leads_past c.args.self.now c.requires.saved (HasItemOf c.args.self.now c.args.q c.args.at c.loop-passed.passed) c.loop-passed.cell c.loop-passed.passed c.loop-passed.invariant.leads c.number-pointer.result c.number-pointer.ensures c.if-pointer-eq0.false To (past_item d c.args.q c.args.at (c.number-pointer.result - 1) c.loop-passed.passed c.loop-passed-test.true));
}

pub number-pointer-requires-2-clause-cell : goal.number-pointer-requires-2-clause-cell
number-pointer-requires-2-clause-cell c =
    cell_inside c.args.self.now c.requires.saved (HasItemOf c.args.self.now c.args.q c.args.at c.loop-passed.passed) c.loop-passed.cell c.loop-passed.passed c.loop-passed.invariant.leads

pub returns-then-pointer-eq0-2 : goal.returns-then-pointer-eq0-2
returns-then-pointer-eq0-2 c =
    at_end c.args.self.now c.requires.saved (HasItemOf c.args.self.now c.args.q c.args.at c.loop-passed.passed) c.loop-passed.cell c.loop-passed.passed c.loop-passed.invariant.leads c.number-pointer-2.result c.number-pointer-2.ensures c.if-pointer-eq0-2.true

pub block-requires-clause-block : goal.block-requires-clause-block
block-requires-clause-block c =
    let below = block_below c.args.self.now c.requires.saved (HasItemOf c.args.self.now c.args.q c.args.at c.loop-passed.passed) c.loop-passed.cell c.loop-passed.passed c.loop-passed.invariant.leads c.number-pointer-2.result c.number-pointer-2.ensures c.if-pointer-eq0-2.false in
    omega (arith, below, c.plot-plot.ensures.blocks)

pub number-requires-clause-cell : goal.number-requires-clause-cell
number-requires-clause-cell c =
    let below = block_below c.args.self.now c.requires.saved (HasItemOf c.args.self.now c.args.q c.args.at c.loop-passed.passed) c.loop-passed.cell c.loop-passed.passed c.loop-passed.invariant.leads c.number-pointer-2.result c.number-pointer-2.ensures c.if-pointer-eq0-2.false in
    omega (arith, below, c.block.ensures, c.plot-plot.ensures.base)

pub returns : goal.returns
returns c s h =
    let d = c.args.self.now in
    let next = next_in c.args.self.now c.requires.saved (HasItemOf c.args.self.now c.args.q c.args.at c.loop-passed.passed) c.loop-passed.cell c.loop-passed.passed c.loop-passed.invariant.leads c.number-pointer-2.result c.number-pointer-2.ensures c.if-pointer-eq0-2.false s h in
    let first = read_field d _ _ 0 _ _ c.number.ensures c.block.ensures c.plot-plot.ensures.base in
    let all : c.args.at ≤ c.loop-passed.passed = omega (arith, c.loop-passed-test.false) in
    has_item d c.args.q c.args.at (c.number-pointer-2.result - 1) c.loop-passed.passed c.number.result all first s next.rest next.so
