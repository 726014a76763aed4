-- What the calls that read a line of an image, or a part of a line, promise of their answers.
use Rattle.std.specs.Prelude.{◌≡◌, ℕ, ◌≤◌, List, Result, MatchResult}
use Rattle.of_script.specs.Text.{text_words}
use Rattle.of_plan.specs.declared.flaw.Flaw.TheVariants.{WordTooMany}
use Rattle.of_plan.specs.Flaws.{IsNumberFlaw}
use Rattle.of_plan.specs.Pieces.{IsBad}
use Rattle.of_plan.specs.Reader.{ReadsLine, RefusesLine}
use Rattle.of_image.specs.declared.feed.Bad.{Bad}
use Rattle.of_image.specs.declared.grammar.Grammar.{Grammar}
use Rattle.of_image.specs.declared.line.ImageLine.TheVariants.{Blocks}
use Rattle.of_image.specs.declared.reading.Reading.{Reading as RustReading}
use Rattle.of_image.specs.declared.reading.Stage.TheVariants.{Counted, Body}
use Rattle.of_image.specs.declared.reason.Reason.{Reason}
use Rattle.of_image.specs.declared.reason.Reason.TheVariants.{Flawed}
use Rattle.of_image.specs.Grammar.{most_blocks, IsRowIn}
use Rattle.of_image.specs.ImageText.{image_line_words}
use Rattle.of_image.specs.ImageReading.{RowReading, row_read, row_reading_value, image_language, image_reader}
use Rattle.of_image.specs.Reasons.{IsTrueOfImage}

-- the reason for a word where the line should end
abbrev pub TooManyWords : Reason
TooManyWords = Flawed WordTooMany

-- the reason says why the piece is no number up to `most`
abbrev pub IsImageNumberFault : Reason → (most : ℕ) (piece : List ℕ) → Type 0
IsImageNumberFault (Flawed flaw) most piece = IsNumberFlaw flaw most piece
IsImageNumberFault _ most piece = ⊥

-- after the line of callers, there is a caller
abbrev pub HasSomeCallers : RowReading → Type 0
HasSomeCallers p = p.stage ≡ Counted → 1 ≤ p.callers

-- after the heading, the words read are as many as a row of these sizes has
abbrev pub IsBodyRow : Grammar → RowReading → Type 0
IsBodyRow g p = p.stage ≡ Body → IsRowIn g (row_read p)

-- the line may not come next, and this is the piece of it at fault, for a true reason
abbrev pub RefusesImageLine : Grammar → RowReading → (line : List ℕ) → Bad → Type 0
RefusesImageLine g p line bad =
    RefusesLine (image_language g) (image_reader g) (text_words line) p
    × IsBad line bad.piece (IsTrueOfImage g bad.reason p)

-- if the result is Ok, the line was skipped, or was read and leads from `old` to `new`; otherwise
-- it may not come next
abbrev pub HasReadImageLine : Grammar → (line : List ℕ) → (old new : RustReading)
    → Result (Unit {0}) Bad → Type 0
HasReadImageLine g line old new result =
    MatchResult result
    (λ taken. ReadsLine (image_language g) (image_reader g) (text_words line)
    (row_reading_value old) (row_reading_value new))
    (RefusesImageLine g (row_reading_value old) line)

-- if the result is Ok, the line says this number of blocks; otherwise it says none that may come
-- next
abbrev pub HasReadBlocksLine : Grammar → (line : List ℕ) → Result ℕ Bad → Type 0
HasReadBlocksLine g line result =
    MatchResult result
    (λ n. (n ≤ most_blocks g.limits) × (text_words line ≡ image_line_words (Blocks n)))
    (λ bad. (p : RowReading) → p.stage ≡ Counted → RefusesImageLine g p line bad)
