use Rattle.std.proofs.Common.{◌≤◌, sym, ap, subst, ◌∙◌}
use Rattle.of_report.specs.Image.{Image}
use Rattle.of_memory.proofs.Texts.{image_starts, image_saved, image_held}
use Rattle.of_memory.proofs.image.saved_of.Goals as goal

pub of_recovered-requires-clause-row : goal.of_recovered-requires-clause-row
of_recovered-requires-clause-row c = image_starts (record { callers = c.image.inside.callers; blocks = c.image.inside.blocks; some_callers = c.scripts-1.given.0; few_callers = c.scripts-1.given.1.0; few_blocks = c.scripts-1.given.1.1.0 }) _ c.args.image (sym (ap (λ (v : Image). v.row) c.image.view_is)) c.requires.image c.args.limit c.requires.within

pub returns-clause-saved : goal.returns-clause-saved
returns-clause-saved c =
    let e = c.of_recovered.ensures in
    let rows = sym (ap (λ (v : Image). v.row) c.image.view_is) ∙ (λ j. record { callers = (sym e.row.work_is j).callers; blocks = (sym e.row.work_is j).blocks; words = sym e.words j }) in
    image_saved (record { cells = c.of_recovered.result }) c.args.image e.saved rows c.requires.image (subst (λ n. 1 ≤ n) (sym e.limit) c.requires.some)

pub returns-clause-image : goal.returns-clause-image
returns-clause-image c =
    let e = c.of_recovered.ensures in
    let rows = sym (ap (λ (v : Image). v.row) c.image.view_is) ∙ (λ j. record { callers = (sym e.row.work_is j).callers; blocks = (sym e.row.work_is j).blocks; words = sym e.words j }) in
    image_held (record { cells = c.of_recovered.result }) c.args.image e.saved rows c.requires.image
