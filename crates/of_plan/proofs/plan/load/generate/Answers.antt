use Rattle.std.proofs.Common.{ℕ, List, Option, [], ◌∷◌, ◌++◌, map, None, sym, ap, subst, ◌∙◌, arith}
use Rattle.std.specs.List.{range_with_len}
use Rattle.std.proofs.lemmas.List.{replicate_more}
use Rattle.std.proofs.lemmas.List.{map-append}
use Rattle.std.proofs.lemmas.List.FromFn.{map-range_with_len_more}
use Rattle.of_script.specs.declared.instr.Instr.{Instr}
use Rattle.std.specs.declared.vec.Vec.{Vec}
use Rattle.std.proofs.Common.{Global}
use Rattle.of_plan.specs.Plan.{IsPlan}
use Rattle.of_plan.specs.Generated.{load_scripts}
use Rattle.of_plan.proofs.LoadPlans.{generated_is_plan, each_within, same_plan}
use Rattle.of_plan.proofs.plan.load.generate.Goals as goal

pub loop-caller-preserved : goal.loop-caller-preserved
loop-caller-preserved c =
    let l = c.loop-caller in
    let f = λ (v : Vec (List Instr) Global). v.items in
    record {
      scripts = ap (map f) c.in_ok-push.ensures.items
          ∙ map-append f l.all.items (c.in_ok-load_scripts.field-0 ∷ [])
          ∙ ap (λ (front : List (List (List Instr))). front ++ f c.in_ok-load_scripts.field-0 ∷ []) l.invariant.scripts
          ∙ ap (λ (own : List (List Instr)). map (load_scripts c.args.scripts) (range_with_len 0 l.caller) ++ own ∷ []) c.in_ok-load_scripts.ensures
          ∙ sym (map-range_with_len_more (load_scripts c.args.scripts) 0 l.caller l.caller (omega arith));
      stops = c.in_ok-push-2.ensures.items ∙ ap (λ (front : List (Option ℕ)). front ++ None ∷ []) l.invariant.stops ∙ replicate_more l.caller None;
    }

pub invariant_of-result : goal.invariant_of-result
invariant_of-result c =
    subst IsPlan (sym (same_plan c.args.callers c.args.scripts c.loop-caller.caller _ _ _ (omega arith) c.loop-caller.invariant.scripts c.loop-caller.invariant.stops c.new.ensures.items))
    (generated_is_plan c.args.callers c.args.scripts (omega arith) (omega arith) (each_within c.args.callers c.args.scripts 20000 (omega arith) (omega arith)) (omega arith))
