-- The printed text of a row is read again as that row.
use Rattle.std.proofs.Common.{◌≡◌, ℕ, ◌+◌, false, List, [], ◌∷◌, ◌++◌, map, refl, sym, ap, ◌∙◌, append_assoc, arith}
use Rattle.std.specs.Prelude.{codes, flat_map}
use Rattle.std.specs.List.{AllByRecursion, enumerate_from}
use Rattle.std.proofs.lemmas.List.{append-nil}
use Rattle.std.proofs.lemmas.List.Concat.{flat_map-append}
use Rattle.of_plan.specs.Lines.{text_lines, unskipped_words, is_skipped}
use Rattle.of_image.specs.declared.grammar.Grammar.{Grammar}
use Rattle.of_image.specs.declared.version.Version.{Version}
use Rattle.of_image.specs.declared.line.ImageLine.{ImageLine}
use Rattle.of_image.specs.declared.line.ImageLine.TheVariants.{Title, Callers, Blocks, Cell, End}
use Rattle.of_report.specs.ImageRow.{DurableRow}
use Rattle.of_image.specs.Grammar.{IsRowIn}
use Rattle.of_image.specs.Version.{version_number}
use Rattle.of_image.specs.ImageText.{image_line_words, cell_line, cell_lines, image_line_text, image_cell_text, image_lines, image_text, SpellsIn}
use Rattle.of_image.specs.ImageReading.{IsImageLineInRange}
use Rattle.of_plan.proofs.PlainWords.{Plains, plain_name, plain_number, line_first}
use Rattle.of_image.proofs.Bounds.{few_callers, few_blocks}
use Rattle.of_image.proofs.ImageProgress.{image_in_range}

plain_line : (g : Grammar) (l : ImageLine) → IsImageLineInRange g l → Plains (image_line_words l)
plain_line g (Title v) r = (plain_name (codes "onefile") (omega arith) refl refl, (plain_name (codes "image") (omega arith) refl refl, (plain_number v (omega arith), tt)))
plain_line g (Callers n) r = (plain_name (codes "callers") (omega arith) refl refl, (plain_number n (omega (arith, r, few_callers g.limits)), tt))
plain_line g (Blocks n) r = (plain_name (codes "blocks") (omega arith) refl refl, (plain_number n (omega (arith, r, few_blocks g.limits)), tt))
plain_line g (Cell c s p) r = (plain_name (codes "cell") (omega arith) refl refl, (plain_number c (omega (arith, r.0)), (plain_number s (omega (arith, r.1)), (plain_number p (omega (arith, r.2)), tt))))
plain_line g End r = (plain_name (codes "end") (omega arith) refl refl, tt)

stays : (l : ImageLine) → is_skipped (image_line_words l) ≡ false
stays (Title v) = refl
stays (Callers n) = refl
stays (Blocks n) = refl
stays (Cell c s p) = refl
stays End = refl

printed_lines : (g : Grammar) (ls : List ImageLine) → AllByRecursion (IsImageLineInRange g) ls → unskipped_words (text_lines (flat_map image_line_text ls)) ≡ map image_line_words ls
printed_lines g [] r = refl
printed_lines g (l ∷ ls) r = line_first (image_line_words l) (flat_map image_line_text ls) (plain_line g l r.0) (stays l) ∙ ap (λ (all : List (List (List ℕ))). image_line_words l ∷ all) (printed_lines g ls r.1)

pub printed_again : (g : Grammar) (r : DurableRow) → IsRowIn g r → SpellsIn g (image_text g.version r) r
printed_again g r h = record { row = h; each = printed_lines g (image_lines g.version r) (image_in_range g r h) }

-- cell by cell
pub cells_text : (c : ℕ) (ws : List ℕ) → flat_map image_cell_text (enumerate_from c ws) ≡ flat_map image_line_text (cell_lines c ws)
cells_text c [] = refl
cells_text c (w ∷ ws) = ap (λ (t : List ℕ). flat_map image_line_text (cell_line c w) ++ t) (cells_text (c + 1) ws) ∙ sym (flat_map-append image_line_text (cell_line c w) (cell_lines (c + 1) ws))

assembled : (s t c b ls e : List ℕ) → ((((s ++ t) ++ c) ++ b) ++ ls) ++ e ≡ s ++ (t ++ (c ++ (b ++ (ls ++ (e ++ [])))))
assembled s t c b ls e = simp (append_assoc, append-nil)

-- what is printed one after the other is the text of the row
pub printed_row : (v : Version) (r : DurableRow) (number : ℕ) (start titled counted sized celled end : List ℕ) → number ≡ version_number v → titled ≡ start ++ image_line_text (Title number) → counted ≡ titled ++ image_line_text (Callers r.callers) → sized ≡ counted ++ image_line_text (Blocks r.blocks)
    → celled ≡ sized ++ flat_map image_cell_text (enumerate_from 0 r.words) → end ≡ celled ++ image_line_text End → end ≡ start ++ image_text v r
printed_row v r number start titled counted sized celled end a b c d e f =
    let T = image_line_text (Title (version_number v)) in
    let C = image_line_text (Callers r.callers) in
    let B = image_line_text (Blocks r.blocks) in
    let L = flat_map image_cell_text (enumerate_from 0 r.words) in
    let E = image_line_text End in
    f ∙ ap (λ (x : List ℕ). x ++ E) (e ∙ ap (λ (x : List ℕ). x ++ L) (d ∙ ap (λ (x : List ℕ). x ++ B) (c ∙ ap (λ (x : List ℕ). x ++ C) (b ∙ ap (λ (n : ℕ). start ++ image_line_text (Title n)) a))))
    ∙ assembled start T C B L E
    ∙ ap (λ (x : List ℕ). start ++ (T ++ (C ++ (B ++ x)))) (ap (λ (x : List ℕ). x ++ (E ++ [])) (cells_text 0 r.words) ∙ sym (flat_map-append image_line_text (cell_lines 0 r.words) (End ∷ [])))
