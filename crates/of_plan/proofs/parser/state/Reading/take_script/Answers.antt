use Rattle.std.proofs.Common.{List, [], ◌∷◌, ◌++◌, set, ap, ◌∙◌, arith, Global}
use Rattle.std.proofs.lemmas.List.{map-set}
use Rattle.std.specs.declared.vec.Vec.{Vec}
use Rattle.of_script.specs.declared.instr.Instr.{Instr}
use Rattle.of_plan.specs.Reading.{reading_value}
use Rattle.of_plan.proofs.Entering.{script_entered}
use Rattle.of_plan.proofs.Lists.{at_place}
use Rattle.of_plan.proofs.parser.state.Reading.take_script.Goals as goal

pub returns : goal.returns
returns c =
    let p = reading_value c.args.self.now in
    let f = λ (v : Vec (List Instr) Global). v.items in
    let at = at_place f c.args.self.now.scripts.items c.args.caller c.index_mut-scripts.result.now c.index_mut-scripts.ensures.value (omega arith) in
    script_entered p _ c.args.caller c.args.script.now (omega arith) (omega arith)
    (map-set f c.args.self.now.scripts.items c.args.caller c.push.new.self ∙ ap (set p.scripts c.args.caller) (c.in_ok-push.ensures.items ∙ ap (λ (ss : List (List Instr)). ss ++ c.args.script.now ∷ []) at))
