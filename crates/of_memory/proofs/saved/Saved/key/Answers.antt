use Rattle.std.proofs.Common.{ℕ, ◌+◌, ◌-◌, ◌∙◌, sym, ap, subst, arith}
use Rattle.of_mem.specs.Places.{block_at}
use Rattle.of_memory.proofs.Chains.{LeadsIn, cell_inside, few_passed, at_end, block_below, next_in, leads_past, read_field, HasValueOf, has_value, past_value, leads_to_key, key_front}
use Rattle.of_memory.proofs.saved.Saved.key.Goals as goal

pub loop-passed-init : goal.loop-passed-init
loop-passed-init c = record {
  leads =
      let front = key_front _ _ _ _ _ c.args.key _ c.bucket-cell.ensures c.buckets.ensures.value c.plot-plot.ensures.base c.plot-plot.ensures.blocks in
      subst (λ (x : ℕ). LeadsIn c.args.self.now (HasValueOf c.args.self.now c.args.key) x 0) (sym front) (leads_to_key c.args.self.now c.args.key);
}

pub number-pointer-requires-clause-cell : goal.number-pointer-requires-clause-cell
number-pointer-requires-clause-cell c =
    cell_inside c.args.self.now c.requires (HasValueOf c.args.self.now c.args.key) c.loop-passed.cell c.loop-passed.passed c.loop-passed.invariant.leads

pub returns-then-pointer-eq0 : goal.returns-then-pointer-eq0
returns-then-pointer-eq0 c =
    at_end c.args.self.now c.requires (HasValueOf c.args.self.now c.args.key) c.loop-passed.cell c.loop-passed.passed c.loop-passed.invariant.leads c.number-pointer.result c.number-pointer.ensures c.if-pointer-eq0.true

pub block-requires-clause-block : goal.block-requires-clause-block
block-requires-clause-block c =
    let below = block_below c.args.self.now c.requires (HasValueOf c.args.self.now c.args.key) c.loop-passed.cell c.loop-passed.passed c.loop-passed.invariant.leads c.number-pointer.result c.number-pointer.ensures c.if-pointer-eq0.false in
    omega (arith, below, c.plot-plot.ensures.blocks)

pub number-requires-clause-cell : goal.number-requires-clause-cell
number-requires-clause-cell c =
    let below = block_below c.args.self.now c.requires (HasValueOf c.args.self.now c.args.key) c.loop-passed.cell c.loop-passed.passed c.loop-passed.invariant.leads c.number-pointer.result c.number-pointer.ensures c.if-pointer-eq0.false in
    omega (arith, below, c.block.ensures, c.plot-plot.ensures.base)

pub block-requires-then-number-key-clause-block : goal.block-requires-then-number-key-clause-block
block-requires-then-number-key-clause-block c =
    let below = block_below c.args.self.now c.requires (HasValueOf c.args.self.now c.args.key) c.loop-passed.cell c.loop-passed.passed c.loop-passed.invariant.leads c.number-pointer.result c.number-pointer.ensures c.if-pointer-eq0.false in
    omega (arith, below, c.plot-plot.ensures.blocks)

pub number-requires-then-number-key-clause-cell : goal.number-requires-then-number-key-clause-cell
number-requires-then-number-key-clause-cell c =
    let below = block_below c.args.self.now c.requires (HasValueOf c.args.self.now c.args.key) c.loop-passed.cell c.loop-passed.passed c.loop-passed.invariant.leads c.number-pointer.result c.number-pointer.ensures c.if-pointer-eq0.false in
    omega (arith, below, c.block-then-number-key.ensures, c.plot-plot.ensures.base)

pub returns-then-number-key : goal.returns-then-number-key
returns-then-number-key c s h =
    let d = c.args.self.now in
    let next = next_in c.args.self.now c.requires (HasValueOf c.args.self.now c.args.key) c.loop-passed.cell c.loop-passed.passed c.loop-passed.invariant.leads c.number-pointer.result c.number-pointer.ensures c.if-pointer-eq0.false s h in
    let first = read_field d _ _ 0 _ _ c.number.ensures c.block.ensures c.plot-plot.ensures.base in
    let second = read_field d _ _ 1 _ _ c.number-then-number-key.ensures c.block-then-number-key.ensures c.plot-plot.ensures.base in
    has_value d c.args.key (c.number-pointer.result - 1) c.number.result c.number-then-number-key.result first c.if-number-key.true second s next.rest next.so

pub block-cell-requires-clause-block : goal.block-cell-requires-clause-block
block-cell-requires-clause-block c =
    let below = block_below c.args.self.now c.requires (HasValueOf c.args.self.now c.args.key) c.loop-passed.cell c.loop-passed.passed c.loop-passed.invariant.leads c.number-pointer.result c.number-pointer.ensures c.if-pointer-eq0.false in
    omega (arith, below, c.plot-plot.ensures.blocks)

pub loop-passed-preserved : goal.loop-passed-preserved
loop-passed-preserved c = record {
  leads =
      let d = c.args.self.now in
      let So = HasValueOf d c.args.key in
      let first = read_field d _ _ 0 _ _ c.number.ensures c.block.ensures c.plot-plot.ensures.base in
      let place = c.block-cell.ensures ∙ ap (λ (x : ℕ). block_at x (c.number-pointer.result - 1) 2) c.plot-plot.ensures.base in
      subst (λ (x : ℕ). LeadsIn d So x (c.loop-passed.passed + 1)) (sym place)
      (leads_past c.args.self.now c.requires (HasValueOf c.args.self.now c.args.key) c.loop-passed.cell c.loop-passed.passed c.loop-passed.invariant.leads c.number-pointer.result c.number-pointer.ensures c.if-pointer-eq0.false So (past_value d c.args.key (c.number-pointer.result - 1) c.number.result first c.if-number-key.false));
}

pub returns : goal.returns
returns c s h =
    let few = few_passed c.args.self.now c.requires (HasValueOf c.args.self.now c.args.key) c.loop-passed.cell c.loop-passed.passed c.loop-passed.invariant.leads in
    absurd (omega (arith, few, c.loop-passed-test.false, c.plot-plot.ensures.blocks))
