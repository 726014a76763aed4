use Rattle.std.proofs.Common.{◌<◌, ◌++◌, ◌∷◌, [], List, get_or, sym, ap, ◌∙◌, arith}
use Rattle.std.proofs.lemmas.List.{length-set, take_more}
use Rattle.of_script.specs.declared.instr.Instr.{Instr}
use Rattle.of_script.specs.declared.instr.Instr.TheVariants.{Load}
use Rattle.of_script.specs.declared.instr.TheConstants.{MOST_INSTRS}
use Rattle.of_script.proofs.Grown.{placed, rest_placed}
use Rattle.of_script.proofs.script.Script.new.Goals as goal

pub loop-i-preserved : goal.loop-i-preserved
loop-i-preserved c =
    let few : c.loop-i.i < MOST_INSTRS = omega (arith, c.requires.few) in
    let one : Instr = get_or c.args.instrs.now c.loop-i.i (Load 0) in
    record {
      same = placed MOST_INSTRS c.loop-i.all c.loop-i.i one c.loop-i.invariant.room few
          ∙ ap (λ (l : List Instr). l ++ one ∷ []) c.loop-i.invariant.same
          ∙ sym (take_more c.args.instrs.now c.loop-i.i (Load 0) c.loop-i-test.true);
      room = length-set c.loop-i.all c.loop-i.i one ∙ c.loop-i.invariant.room;
      rest = rest_placed MOST_INSTRS c.loop-i.all c.loop-i.i one _ c.loop-i.invariant.room few c.loop-i.invariant.rest;
    }
