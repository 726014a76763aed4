-- How the code reads an image: the lines, and what each leads to.
use Rattle.std.specs.Prelude.{ℕ, ◌+◌, ◌≤◌, ◌==◌, nat_lt, nat_le, List, [], length, replicate, slice_set, if◌then◌else◌, Option, Some, None}
use Rattle.of_cell.specs.Words.{pack}
use Rattle.of_cell.specs.Cells.{durable_cells}
use Rattle.of_image.specs.declared.grammar.Grammar.{Grammar}
use Rattle.of_image.specs.declared.line.ImageLine.{ImageLine}
use Rattle.of_image.specs.declared.line.ImageLine.TheVariants.{Title, Callers, Blocks, Cell, End}
use Rattle.of_image.specs.declared.reading.Stage.{Stage}
use Rattle.of_image.specs.declared.reading.Stage.TheVariants.{Start, Named, Counted, Body, Ended}
use Rattle.of_image.specs.declared.reading.Reading.{Reading as RustReading}
use Rattle.of_report.specs.ImageRow.{DurableRow, data_cell_count_for}
use Rattle.of_image.specs.Grammar.{most_callers, most_blocks}
use Rattle.of_image.specs.Version.{version_number, instrs_of}
use Rattle.of_image.specs.ImageText.{image_line_words}
use Rattle.of_plan.specs.Reader.{Language, Reader}

-- ---- a line

-- the numbers of a line are in the ranges that hold whatever lines come before it
abbrev pub IsImageLineInRange : Grammar → ImageLine → Type 0
IsImageLineInRange g (Title v) = v ≤ 4294967295
IsImageLineInRange g (Callers n) = n ≤ most_callers g.limits
IsImageLineInRange g (Blocks n) = n ≤ most_blocks g.limits
IsImageLineInRange g (Cell c s p) = (c ≤ 4294967295) × (s ≤ 4294967295) × (p ≤ 4294967295)
IsImageLineInRange g End = Unit {0}

-- the lines of images, the words of each, and the ranges of its numbers
abbrev pub image_language : Grammar → Language
image_language g = record {
  Line = ImageLine;
  words_of = image_line_words;
  InRange = IsImageLineInRange g;
}

-- ---- what a line leads to

-- what has been read of an image: the stage, the sizes, the word of each cell, and the first cell
-- whose line may still come
pub record RowReading : Type 0 where
  pub stage : Stage
  pub callers : ℕ
  pub blocks : ℕ
  pub words : List ℕ
  pub from : ℕ

-- what contracts see of the code's reading
abbrev pub row_reading_value : RustReading → RowReading
row_reading_value r = record {
  stage = r.stage;
  callers = r.callers;
  blocks = r.blocks;
  words = r.words.items;
  from = r.from;
}

-- the reading before the first line
abbrev pub no_row_read : RowReading
no_row_read = record { stage = Start; callers = 0; blocks = 0; words = []; from = 0 }

-- the row of the words that have been read
abbrev pub row_read : RowReading → DurableRow
row_read p = record { callers = p.callers; blocks = p.blocks; words = p.words }

-- the reading with one more cell, if its line may come next: it is not before `from`, the row has
-- this cell, and its word isn't 0
abbrev pub with_cell : RowReading → (cell seq payload : ℕ) → Option RowReading
with_cell p c s x =
    if nat_lt c p.from then None
    else if nat_le (length p.words) c then None
    else if pack s x == 0 then None
    else Some (record p { words = slice_set p.words c (pack s x); from = c + 1 })

-- the reading after one more line, by what was read last; None if the line may not come next
abbrev pub after_line_at : Grammar → Stage → RowReading → ImageLine → Option RowReading
after_line_at g Start p (Title x) =
    if x == version_number g.version then Some (record p { stage = Named }) else None
after_line_at g Named p (Callers n) =
    if n == 0 then None else Some (record p { stage = Counted; callers = n })
after_line_at g Counted p (Blocks b) = Some (record p {
  stage = Body;
  blocks = b;
  words =
      replicate (durable_cells p.callers (data_cell_count_for (instrs_of g.version) p.callers b)) 0;
})
after_line_at g Body p (Cell c s x) = with_cell p c s x
after_line_at g Body p End = Some (record p { stage = Ended })
after_line_at g _ p l = None

-- how the lines of an image are read, one after the other
abbrev pub image_reader : (g : Grammar) → Reader (image_language g)
image_reader g = record { Progress = RowReading; next = λ p l. after_line_at g p.stage p l }
