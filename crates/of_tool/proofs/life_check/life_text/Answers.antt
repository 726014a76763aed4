use Rattle.std.proofs.Common.{refl}
use Rattle.std.proofs.lemmas.Result.{err_from_is_err_and}
use Rattle.of_image.specs.declared.version.Version.TheVariants.{Two}
use Rattle.of_image.specs.Parsed.{ReadsImage}
use Rattle.of_tool.specs.Inputs.{WholeLife}
use Rattle.of_tool.proofs.Refused.{refuse, no_whole_life, four}
use Rattle.of_tool.proofs.life_check.life_text.Goals as goal

pub returns-in_err-image : goal.returns-in_err-image
returns-in_err-image c = λ source input.
    let p = err_from_is_err_and c.from_residual.result c.from_residual.ensures.1 in
    rw (p.1, p.2) (refuse _ source WholeLife refl
    (no_whole_life source c.args.input.now (input _ refl) c.parts.result.0.now c.parts-2.result.0.now c.parts.result.1.now c.parts-2.result.1.now c.parts-3.result.0.now c.parts-3.result.1.now c.parts.ensures c.parts-2.ensures c.parts-3.ensures)
    c.in_err-image.field-0.0 c.in_err-image.ensures.read)

pub why_life-requires-clause-fits : goal.why_life-requires-clause-fits
why_life-requires-clause-fits c = c.in_ok-image.ensures.read.fits

pub returns-in-None : goal.returns-in-None
returns-in-None c = λ source input.
    let are = c.in_ok-image.ensures.read.are in
    record {
      legal = record {
        image = c.in_ok-image.image;
        plan = c.in_ok-image.plan;
        told = c.parts-3.result.0.now;
        left = c.parts-3.result.1.now;
        read = four source c.args.input.now (input _ refl) c.parts.result.0.now c.parts-2.result.0.now c.parts.result.1.now c.parts-2.result.1.now c.parts-3.result.0.now c.parts-3.result.1.now c.parts.ensures c.parts-2.ensures c.parts-3.ensures (λ text. ReadsImage Two text c.in_ok-image.image) c.in_ok-image.plan are.reads are.spelled;
        fits = c.in_ok-image.ensures.read.fits;
        legal = rw c.in-None.is at c.in_ok-why_life.ensures;
      };
      text_is = c.in_ok-from_slice-in-None.ensures.items;
    }

pub returns : goal.returns
returns c = λ source input.
    let are = c.in_ok-image.ensures.read.are in
    record {
      input = WholeLife;
      reads = refl;
      cause = record {
        image = c.in_ok-image.image;
        plan = c.in_ok-image.plan;
        told = c.parts-3.result.0.now;
        left = c.parts-3.result.1.now;
        read = four source c.args.input.now (input _ refl) c.parts.result.0.now c.parts-2.result.0.now c.parts.result.1.now c.parts-2.result.1.now c.parts-3.result.0.now c.parts-3.result.1.now c.parts.ensures c.parts-2.ensures c.parts-3.ensures (λ text. ReadsImage Two text c.in_ok-image.image) c.in_ok-image.plan are.reads are.spelled;
        fits = c.in_ok-image.ensures.read.fits;
        illegal = (rw c.in-Some.is at c.in_ok-why_life.ensures).1;
      };
    }
