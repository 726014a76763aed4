use Rattle.std.proofs.Common.{◌≡◌, rules, sym, subst}
use Rattle.of_script.specs.Text.{script_text, SpellsScript}
use Rattle.of_script.proofs.Marks.{printed_again}
use Rattle.of_script.proofs.printing.print.Goals as goal

pub returns-clause-spells : goal.returns-clause-spells
returns-clause-spells c =
    let text : c.into_bytes.result.items ≡ script_text c.args.script.now = search rules in
    subst (λ t. SpellsScript t c.args.script.now) (sym text) (printed_again c.args.script.now c.len.ensures.fits)
