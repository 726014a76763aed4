use Rattle.std.proofs.Common.{ℕ, sym, subst}
use Rattle.of_script.specs.declared.instr.TheConstants.{MOST_INSTRS}
use Rattle.of_report.specs.Image.{IsRestored}
use Rattle.of_memory.specs.Words.{row_with}
use Rattle.of_memory.proofs.StartWords.{start_image, start_restored}
use Rattle.of_memory.proofs.words.find.Goals as goal

pub returns-in-Err-Unlawful-clause-back : goal.returns-in-Err-Unlawful-clause-back
returns-in-Err-Unlawful-clause-back c start =
    let image = start_image c.args.scripts c.args.limit c.args.words.now start in
    let restored = start_restored c.args.scripts c.args.limit c.args.words.now start in
    let not = c.in-Err-Unlawful.ensures.only image (subst (λ (k : ℕ × ℕ). IsRestored MOST_INSTRS (row_with k.0 k.1 c.args.words.now) image) (λ i. (sym c.plot.ensures.callers i, sym c.plot.ensures.blocks i)) restored) in
    absurd cc

pub returns-clause-holds : goal.returns-clause-holds
returns-clause-holds c =
    let image = c.in-Ok.image in (
      image,
      subst (λ (k : ℕ × ℕ). IsRestored MOST_INSTRS (row_with k.0 k.1 c.args.words.now) image) (λ i. (c.plot.ensures.callers i, c.plot.ensures.blocks i)) c.in-Ok.ensures.ok,
      c.saved_of.ensures.image,
    )
