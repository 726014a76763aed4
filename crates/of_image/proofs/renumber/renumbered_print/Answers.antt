use Rattle.std.proofs.Common.{◌≡◌, ℕ, List, false, get_or, sym, ap, subst, ◌∙◌, arith}
use Rattle.std.proofs.lemmas.Result.{IfOk-weaker}
use Rattle.of_mem.proofs.BucketPlaces.{few_behind}
use Rattle.of_recover.specs.Row.{is_open}
use Rattle.of_recover.specs.Recovered.{recovered_words}
use Rattle.of_recover.specs.Renumbered.{renumbered_words, BeginsAnew}
use Rattle.of_script.specs.declared.instr.TheConstants.{MOST_INSTRS}
use Rattle.of_report.specs.Image.{Image, IsImage}
use Rattle.of_image.specs.declared.version.Version.TheVariants.{Two}
use Rattle.of_image.specs.ImageText.{image_text}
use Rattle.of_image.specs.RenumberedImage.{Renumbers}
use Rattle.of_image.proofs.RenumberedImages.{closed, renumbers}
use Rattle.of_image.proofs.renumber.renumbered_print.Goals as goal

pub invariant_of-shape-clause-few_cells : goal.invariant_of-shape-clause-few_cells
invariant_of-shape-clause-few_cells c =
    let held = subst (IsImage MOST_INSTRS) (sym c.image.view_is) c.requires in
    omega (arith, c.cells.ensures, held.row.few_callers, few_behind c.image.inside.blocks held.row.few_blocks, held.row.few_blocks)

pub renumbered-requires-clause-closed : goal.renumbered-requires-clause-closed
renumbered-requires-clause-closed c =
    let i = c.image.inside in
    let held = subst (IsImage MOST_INSTRS) (sym c.image.view_is) c.requires in
    let N = i.callers in
    let one = subst (λ (l : List ℕ). is_open N (λ k. get_or (recovered_words N c.cells.result l) k 0) ≡ false) c.deref.ensures.value c.recovered_twice.ensures.closed in
    let shut = subst (λ (m : ℕ). is_open N (λ k. get_or (recovered_words N m i.durable.items) k 0) ≡ false) c.cells.ensures one in
    subst (λ (l : List ℕ). is_open N (λ k. get_or l k 0) ≡ false) (sym c.deref-3.ensures.value) (closed _ held shut)

pub returns : goal.returns
returns c =
    let i = c.image.inside in
    let held = subst (IsImage MOST_INSTRS) (sym c.image.view_is) c.requires in
    let N = i.callers in
    let one = subst (λ (l : List ℕ). BeginsAnew N c.cells.result l (renumbered_words N c.cells.result l)) c.deref-2.ensures.value c.renumbered_row.ensures in
    let anew = subst (λ (m : ℕ). BeginsAnew N m i.durable.items (renumbered_words N m i.durable.items)) c.cells.ensures one in
    let made = c.deref-4.ensures.value ∙ c.in_ok-words.ensures ∙ (λ j. renumbered_words N (c.cells.ensures j) (c.deref-3.ensures.value j)) in
    IfOk-weaker c.print_row.result (λ text. text.items ≡ image_text Two (record { callers = N; blocks = i.blocks; words = c.deref-4.result.now })) _
    (λ text is. subst (λ (v : Image). Renumbers v text.items) c.image.view_is
    (renumbers _ held anew text.items (is ∙ ap (λ (l : List ℕ). image_text Two (record { callers = N; blocks = i.blocks; words = l })) made))) c.print_row.ensures
