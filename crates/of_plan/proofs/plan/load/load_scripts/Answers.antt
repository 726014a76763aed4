use Rattle.std.proofs.Common.{◌++◌, ◌∷◌, [], List, sym, ap, ◌∙◌, arith}
use Rattle.std.proofs.lemmas.List.FromFn.{map-range_with_len_more}
use Rattle.of_script.specs.declared.instr.Instr.{Instr}
use Rattle.of_plan.specs.Generated.{load_script}
use Rattle.of_plan.proofs.plan.load.load_scripts.Goals as goal

pub loop-index-preserved : goal.loop-index-preserved
loop-index-preserved c =
    let l = c.loop-index in
    c.in_ok-push.ensures.items ∙ ap (λ (script : List Instr). l.scripts.items ++ script ∷ []) c.load_script.ensures
    ∙ ap (λ (scripts : List (List Instr)). scripts ++ load_script c.args.caller l.index ∷ []) l.invariant
    ∙ sym (map-range_with_len_more (load_script c.args.caller) 0 l.index l.index (omega arith))
