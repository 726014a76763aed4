-- Texts of images, as their reader reads them.
use Rattle.std.proofs.Common.{◌≡◌, ℕ, List, [], ◌∷◌, map, refl, sym, ap, subst, ◌∙◌, arith, lit≤}
use Rattle.std.specs.Prelude.{codes}
use Rattle.std.specs.Fmt.{digits}
use Rattle.of_script.proofs.Instrs.{some_is}
use Rattle.of_plan.proofs.TextLines.{NoNewline}
use Rattle.of_image.specs.declared.grammar.Grammar.{Grammar}
use Rattle.of_image.specs.declared.grammar.Limits.{Limits}
use Rattle.of_image.specs.declared.version.Version.{Version}
use Rattle.of_image.specs.declared.version.Version.TheVariants.{One, Two}
use Rattle.of_image.specs.declared.line.ImageLine.TheVariants.{Title, Callers, Blocks, End}
use Rattle.of_image.specs.declared.reading.Stage.{Stage}
use Rattle.of_image.specs.declared.reading.Stage.TheVariants.{Start, Named, Counted, Body, Ended}
use Rattle.of_plan.specs.BadLine.{HasBadLine}
use Rattle.of_report.specs.ImageRow.{DurableRow}
use Rattle.of_image.specs.ImageText.{image_line_words, image_lines, SpellsIn, IsTextIn}
use Rattle.of_image.specs.ImageReading.{RowReading, row_read, no_row_read, image_language, image_reader}
use Rattle.of_plan.specs.Reader.{after_lines}
use Rattle.of_plan.proofs.Readings.{Reads, Completed, IsReader, IsReading, same_lines, same_refusal, read_at_end}
use Rattle.of_image.proofs.Bounds.{some_callers}
use Rattle.of_image.proofs.ImageLines.{line_same}
use Rattle.of_image.proofs.ImageProgress.{Fits, lines_at, said, row_leads, image_in_range}

abbrev pub IsEnded : RowReading → Type 0
IsEnded p = p.stage ≡ Ended

title_one_clean : NoNewline (codes "onefile image 1")
title_one_clean = (refl, (refl, (refl, (refl, (refl, (refl, (refl, (refl, (refl, (refl, (refl, (refl, (refl, (refl, (refl, tt)))))))))))))))

title_two_clean : NoNewline (codes "onefile image 2")
title_two_clean = (refl, (refl, (refl, (refl, (refl, (refl, (refl, (refl, (refl, (refl, (refl, (refl, (refl, (refl, (refl, tt)))))))))))))))

callers_clean : NoNewline (codes "callers 1")
callers_clean = (refl, (refl, (refl, (refl, (refl, (refl, (refl, (refl, (refl, tt)))))))))

blocks_clean : NoNewline (codes "blocks 0")
blocks_clean = (refl, (refl, (refl, (refl, (refl, (refl, (refl, (refl, tt))))))))

end_clean : NoNewline (codes "end")
end_clean = (refl, (refl, (refl, tt)))

abbrev at : Stage → RowReading → RowReading
at stage p = record p { stage = stage }

-- a text of either version is begun by its title
completed_start : (v : Version) (k : Limits) (p : RowReading) → Completed (image_language (record { version = v; limits = k })) (image_reader (record { version = v; limits = k })) IsEnded (at Start p)
unfolding digits
completed_start One k p = record { last = _; first = codes "onefile image 1"; others = codes "callers 1" ∷ codes "blocks 0" ∷ codes "end" ∷ []; clean = (title_one_clean, (callers_clean, (blocks_clean, (end_clean, tt)))); more = Title 1 ∷ Callers 1 ∷ Blocks 0 ∷ End ∷ []; range = (lit≤ tt, (some_callers k, (omega arith, (tt, tt)))); says = refl; leads = refl; ended = refl }
completed_start Two k p = record { last = _; first = codes "onefile image 2"; others = codes "callers 1" ∷ codes "blocks 0" ∷ codes "end" ∷ []; clean = (title_two_clean, (callers_clean, (blocks_clean, (end_clean, tt)))); more = Title 2 ∷ Callers 1 ∷ Blocks 0 ∷ End ∷ []; range = (lit≤ tt, (some_callers k, (omega arith, (tt, tt)))); says = refl; leads = refl; ended = refl }

completed_at : (g : Grammar) (stage : Stage) (p : RowReading) → Completed (image_language g) (image_reader g) IsEnded (at stage p)
unfolding digits
completed_at g Start p = completed_start g.version g.limits p
completed_at g Named p = record { last = _; first = codes "callers 1"; others = codes "blocks 0" ∷ codes "end" ∷ []; clean = (callers_clean, (blocks_clean, (end_clean, tt))); more = Callers 1 ∷ Blocks 0 ∷ End ∷ []; range = (some_callers g.limits, (omega arith, (tt, tt))); says = refl; leads = refl; ended = refl }
completed_at g Counted p = record { last = _; first = codes "blocks 0"; others = codes "end" ∷ []; clean = (blocks_clean, (end_clean, tt)); more = Blocks 0 ∷ End ∷ []; range = (omega arith, (tt, tt)); says = refl; leads = refl; ended = refl }
completed_at g Body p = record { last = _; first = codes "end"; others = []; clean = (end_clean, tt); more = End ∷ []; range = (tt, tt); says = refl; leads = refl; ended = refl }
completed_at g Ended p = record { last = at Ended p; first = []; others = []; clean = (tt, tt); more = []; range = tt; says = refl; leads = refl; ended = refl }

pub is_reader : (g : Grammar) → IsReader (image_language g) (image_reader g) IsEnded
is_reader g = record { same = line_same g; completed = λ p. completed_at g p.stage p }

abbrev pub ReadsImage : Grammar → List ℕ → Type 0
ReadsImage g text = Reads (image_language g) (image_reader g) no_row_read IsEnded text

-- what is read to an end is spelled
pub spelled : (g : Grammar) (text : List ℕ) (r : ReadsImage g text) → SpellsIn g text (row_read r.last)
spelled g text r =
    let s = said g no_row_read r.last r.said tt r.range r.leads in
    record {
      row = subst (λ (t : Stage). Fits g t r.last) r.ended s.fits;
      each = r.each ∙ ap (map image_line_words) (sym s.lines ∙ ap (λ (t : Stage). lines_at g t r.last) r.ended);
    }

pub spelled_at_end : (g : Grammar) (text : List ℕ) (number : ℕ) (p : RowReading) → IsReading (image_language g) (image_reader g) no_row_read text [] number p → p.stage ≡ Ended → SpellsIn g text (row_read p)
spelled_at_end g text number p r ended =
    let s = read_at_end (image_language g) (image_reader g) no_row_read IsEnded (is_reader g) text number p r ended in
    subst (λ (q : RowReading). SpellsIn g text (row_read q)) s.1 (spelled g text s.0)

-- and what is spelled is read
pub read : (g : Grammar) (text : List ℕ) (r : DurableRow) → SpellsIn g text r → ReadsImage g text
read g text r s = let l = row_leads g r s.row in record { said = image_lines g.version r; range = image_in_range g r s.row; each = s.each; last = _; leads = l.leads; ended = refl }

pub refused : (g : Grammar) (text : List ℕ) (line : ℕ) → HasBadLine (ReadsImage g) text line → HasBadLine (IsTextIn g) text line
refused g text line h = same_refusal (ReadsImage g) (IsTextIn g) (λ t r. (row_read r.last, spelled g t r)) (λ t s. read g t s.0 s.1) text line h

-- a text has at most one row
pub one_row : (g : Grammar) (text : List ℕ) (r s : DurableRow) → SpellsIn g text r → SpellsIn g text s → r ≡ s
one_row g text r s h k =
    let lines : image_lines g.version r ≡ image_lines g.version s = same_lines (image_language g) (image_reader g) no_row_read IsEnded (is_reader g) (image_lines g.version r) (image_lines g.version s) (image_in_range g r h.row) (image_in_range g s k.row) (sym h.each ∙ k.each) in
    let a = row_leads g r h.row in
    let b = row_leads g s k.row in
    let last = some_is _ _ (sym a.leads ∙ ap (after_lines (image_language g) (image_reader g) no_row_read) lines ∙ b.leads) in
    ap row_read last
