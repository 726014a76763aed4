use Rattle.std.proofs.Common.{◌++◌, sym, subst}
use Rattle.of_caller.specs.Trees.{AllPaired, Leaves}
use Rattle.of_caller.proofs.Pairs.{both_append}
use Rattle.of_caller.proofs.join_tree.+tree.Goals as goal

pub run_all-returns : goal.run_all-returns
run_all-returns g t c = let cut = c.split_at_mut-front in let P = Leaves g.F.Fn c.args.task.now in let b = c.run_both.new.back in let f = c.run_both.new.front in
    subst (λ z. AllPaired P z (f ++ b)) (sym cut.ensures.value) (both_append P cut.result.0.now f cut.result.1.now b c.run_both.ensures.front c.run_both.ensures.back)
