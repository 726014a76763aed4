use Rattle.std.proofs.lemmas.Result.{err_from_is_err_and}
use Rattle.of_tool.proofs.Refused.{same_input}
use Rattle.of_tool.proofs.commands.made_by.Goals as goal

pub returns-in_err-input-clause-made : goal.returns-in_err-input-clause-made
returns-in_err-input-clause-made g c = let p = err_from_is_err_and c.from_residual.result c.from_residual.ensures.1 in
    rw (p.1, p.2) c.in_err-input.ensures.input

pub returns-clause-made : goal.returns-clause-made
returns-clause-made g c = c.text_for.ensures _ (same_input c.args.command _ _ _ c.deref.ensures.value c.in_ok-input.ensures.input)
