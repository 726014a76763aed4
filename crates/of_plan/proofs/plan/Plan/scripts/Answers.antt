use Rattle.std.proofs.Common.{List, [], ap, sym, ◌∙◌, subst, map, arith, Global}
use Rattle.std.proofs.lemmas.List.{length-map}
use Rattle.std.specs.List.{AllByRecursion}
use Rattle.std.specs.declared.vec.Vec.{Vec}
use Rattle.of_script.specs.declared.instr.Instr.{Instr}
use Rattle.of_script.specs.Language.{IsScript}
use Rattle.of_plan.specs.Plan.{Plan}
use Rattle.of_plan.proofs.Lists.{at_place, all_at}
use Rattle.of_plan.proofs.plan.Plan.scripts.Goals as goal

pub returns-clause-each : goal.returns-clause-each
returns-clause-each c =
    let f = λ (v : Vec (List Instr) Global). v.items in
    let xs = c.self.inside.scripts.items in
    let callers = ap (λ (p : Plan). p.callers) c.self.view_is in
    subst (AllByRecursion IsScript)
    (sym (c.deref.ensures.value ∙ at_place f xs c.args.caller c.index.result.now c.index.ensures (omega (arith, callers, c.self.invariant.each_caller, length-map xs f))))
    (all_at (AllByRecursion IsScript) (map f xs) c.args.caller [] (omega (arith, callers, c.self.invariant.each_caller)) c.self.invariant.each_script)
