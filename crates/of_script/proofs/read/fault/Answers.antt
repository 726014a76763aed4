use Rattle.std.proofs.Common.{[], ◌∷◌, ◌++◌, subst, arith}
use Rattle.std.proofs.lemmas.List.{length-append}
use Rattle.of_script.specs.Text.{IsFault}
use Rattle.of_script.proofs.ByPieces.{read_more, read_fault, read_ninth, last_fault, cut_first, is_none, has_some}
use Rattle.of_script.proofs.read.fault.Goals as goal

-- at the last piece
pub returns-in_default : goal.returns-in_default
returns-in_default c =
    let h = c.loop-at.invariant in
    subst (IsFault c.args.text.now) h.1
    (last_fault c.args.text.now c.loop-at.rest.now c.cut.result.0.now h.0 h.2 (omega (arith, h.1, c.loop-at-test.true)) (rw c.in_default.is at c.cut.ensures.parts) c.requires)

-- at a piece that is no instruction
pub returns-then-not-is_instr : goal.returns-then-not-is_instr
returns-then-not-is_instr c =
    let h = c.loop-at.invariant in
    let cut = cut_first _ _ _ c.cut.ensures.parts in
    subst (IsFault c.args.text.now) h.1
    (read_fault c.args.text.now c.loop-at.rest.now c.cut.result.0.now cut.0 h.0 h.2 (omega (arith, h.1, c.loop-at-test.true)) cut.1 (is_none _ c.if-not-is_instr.ensures))

pub loop-at-preserved : goal.loop-at-preserved
loop-at-preserved c =
    let h = c.loop-at.invariant in
    let one = has_some _ c.if-not-is_instr.ensures in (
      h.0 ++ one.0 ∷ [],
      omega (arith, h.1, length-append h.0 (one.0 ∷ [])),
      read_more c.args.text.now c.loop-at.rest.now c.in-Some.more.now c.cut.result.0.now h.0 one.0 h.2 (rw c.in-Some.is at c.cut.ensures.parts) one.1,
    )

-- past the most pieces
pub returns : goal.returns
returns c =
    let h = c.loop-at.invariant in
    read_ninth c.args.text.now c.loop-at.rest.now h.0 h.2 (omega (arith, h.1))
