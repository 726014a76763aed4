-- The lines of an image, the texts that spell a row, and the one printed text of a row.
use Rattle.std.specs.Prelude.{◌≡◌, ℕ, ◌+◌, List, [], ◌∷◌, ◌++◌, map, flat_map, codes, decimal, if◌then◌else◌, ◌==◌, slice_range}
use Rattle.std.specs.List.{join_with_byte, enumerate_from}
use Rattle.of_cell.specs.Words.{seq_of, payload_of}
use Rattle.of_cell.specs.Cells.{durable_cells}
use Rattle.of_mem.specs.declared.plot.Plot.{Plot}
use Rattle.of_mem.specs.Plots.{data_cell_count}
use Rattle.of_plan.specs.Lines.{text_lines, unskipped_words}
use Rattle.of_image.specs.declared.grammar.Grammar.{Grammar}
use Rattle.of_image.specs.declared.version.Version.{Version}
use Rattle.of_image.specs.declared.line.ImageLine.{ImageLine}
use Rattle.of_image.specs.declared.line.ImageLine.TheVariants.{Title, Callers, Blocks, Cell, End}
use Rattle.of_report.specs.ImageRow.{DurableRow, row_in}
use Rattle.of_image.specs.Grammar.{IsRowIn, plan_grammar}
use Rattle.of_image.specs.Version.{version_number}

-- the words that spell a line
abbrev pub image_line_words : ImageLine → List (List ℕ)
image_line_words (Title v) = codes "onefile" ∷ codes "image" ∷ decimal v ∷ []
image_line_words (Callers n) = codes "callers" ∷ decimal n ∷ []
image_line_words (Blocks n) = codes "blocks" ∷ decimal n ∷ []
image_line_words (Cell c s p) = codes "cell" ∷ decimal c ∷ decimal s ∷ decimal p ∷ []
image_line_words End = codes "end" ∷ []

-- the line of a cell; a cell whose word is 0 has none
abbrev pub cell_line : (cell word : ℕ) → List ImageLine
cell_line c w = if w == 0 then [] else Cell c (seq_of w) (payload_of w) ∷ []

-- the lines of these words, from this cell on
abbrev pub cell_lines : (cell : ℕ) → List ℕ → List ImageLine
cell_lines c [] = []
cell_lines c (w ∷ ws) = cell_line c w ++ cell_lines (c + 1) ws

-- the lines of a row's text that aren't skipped: version, sizes, a line for each cell whose word
-- isn't 0, in order, and the end
abbrev pub image_lines : Version → DurableRow → List ImageLine
image_lines v r =
    Title (version_number v) ∷ Callers r.callers ∷ Blocks r.blocks
    ∷ (cell_lines 0 r.words ++ End ∷ [])

-- the text is in this grammar, and has this row
pub record SpellsIn (g : Grammar) (text : List ℕ) (r : DurableRow) : Type 0 where
  pub row : IsRowIn g r
  pub each : unskipped_words (text_lines text) ≡ map image_line_words (image_lines g.version r)

-- the text is in this grammar
abbrev pub IsTextIn : Grammar → List ℕ → Type 0
IsTextIn g text = (r : DurableRow) × SpellsIn g text r

-- the text is in the grammar of this version, within the limits of a plan, and has this row
abbrev pub SpellsImage : Version → List ℕ → DurableRow → Type 0
SpellsImage v text r = SpellsIn (plan_grammar v) text r

-- the text is in the grammar of this version, within the limits of a plan
abbrev pub IsImageText : Version → List ℕ → Type 0
IsImageText v text = IsTextIn (plan_grammar v) text

-- the text of a line with its newline, with one space between words
abbrev pub image_line_text : ImageLine → List ℕ
image_line_text l = join_with_byte 32 (image_line_words l) ++ codes "\n"

-- the text that is printed of a row
abbrev pub image_text : Version → DurableRow → List ℕ
image_text v r = flat_map image_line_text (image_lines v r)

-- the text of the line of a cell with this word; empty if the word is 0
abbrev pub image_cell_text : ℕ × ℕ → List ℕ
image_cell_text (c, w) = flat_map image_line_text (cell_line c w)

-- the text of the lines of these words, from cell 0 on
abbrev pub image_cells_text : List ℕ → List ℕ
image_cells_text words = flat_map image_cell_text (enumerate_from 0 words)

-- the row of the durable words of a table, if `ws` are all words of the table
abbrev pub table_row : Plot → List ℕ → DurableRow
table_row p ws =
    let cells = durable_cells p.callers (data_cell_count p) in
    row_in p (slice_range ws cells (cells + cells))
