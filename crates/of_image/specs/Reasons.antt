-- When a reason is true of a piece of a line, and what a fault of an image's text is.
use Rattle.std.specs.Prelude.{◌≡◌, ◌⊎◌, ℕ, ◌+◌, ◌-◌, ◌≤◌, ◌<◌, false, Some, List, [], ◌∷◌, length, take, drop, map, slice_range, codes, decimal}
use Rattle.of_cell.specs.Cells.{durable_cells}
use Rattle.of_script.specs.Text.{text_words}
use Rattle.of_report.specs.ImageRow.{data_cell_count_for}
use Rattle.of_plan.specs.declared.above.Wanted.TheVariants.{Cell}
use Rattle.of_plan.specs.declared.flaw.Flaw.{Flaw}
use Rattle.of_plan.specs.declared.flaw.Flaw.TheVariants.{NumberMissing, NoNumber, TooGreat, Zero, WordTooMany}
use Rattle.of_plan.specs.Above.{Says, line_at}
use Rattle.of_plan.specs.BadLine.{HasBadLine}
use Rattle.of_plan.specs.Flaws.{PieceIsNumber, HasFlaw, IsHiddenByte}
use Rattle.of_plan.specs.Lines.{text_lines, unskipped_words, is_skipped}
use Rattle.of_plan.specs.Pieces.{IsWholePiece}
use Rattle.of_plan.specs.Reader.{after_lines}
use Rattle.of_image.specs.declared.grammar.Grammar.{Grammar}
use Rattle.of_image.specs.declared.line.ImageLine.{ImageLine}
use Rattle.of_image.specs.declared.reading.Stage.TheVariants.{Start, Named, Counted, Body, Ended}
use Rattle.of_image.specs.declared.reason.Reason.{Reason}
use Rattle.of_image.specs.declared.reason.Reason.TheVariants.{Flawed, TitleExpected, OtherVersion, CallersExpected, BlocksExpected, AfterEnd, UnknownLine, NoCell, CellPassed, OutOfOrder, EmptyCell, HeadingOver, EndMissing}
use Rattle.of_image.specs.declared.refusal.BadPiece.{BadPiece}
use Rattle.of_image.specs.ImageText.{IsTextIn, image_line_words}
use Rattle.of_image.specs.ImageReading.{RowReading, no_row_read, IsImageLineInRange, image_language, image_reader}
use Rattle.of_image.specs.Grammar.{most_callers, most_blocks}
use Rattle.of_image.specs.Version.{version_number, instrs_of}

-- ---- what comes next after the words of a line

-- after these words of a line a number up to `most` comes next: the version, a count of the
-- heading, or one of a cell's three numbers
abbrev pub WantsImageNumber : Grammar → (before : List (List ℕ)) (most : ℕ) → Type 0
WantsImageNumber g before most =
    ((before ≡ codes "onefile" ∷ codes "image" ∷ []) × (most ≡ 4294967295))
    ⊎ (((before ≡ codes "callers" ∷ []) × (most ≡ most_callers g.limits))
    ⊎ (((before ≡ codes "blocks" ∷ []) × (most ≡ most_blocks g.limits))
    ⊎ ((numbers : List ℕ) × (length numbers ≤ 2)
    × (before ≡ codes "cell" ∷ map decimal numbers) × (most ≡ 4294967295))))

-- these words are a whole line, after which nothing comes
pub record IsWholeLine (g : Grammar) (before : List (List ℕ)) : Type 0 where
  pub line : ImageLine
  pub range : IsImageLineInRange g line
  pub words : before ≡ image_line_words line

-- after these words a line goes on with what the flaw speaks of: a number, one that may not be 0,
-- or nothing
abbrev pub IsPlaceInImage : Grammar → Flaw → (before : List (List ℕ)) → Type 0
IsPlaceInImage g NumberMissing before = (most : ℕ) × WantsImageNumber g before most
IsPlaceInImage g NoNumber before = (most : ℕ) × WantsImageNumber g before most
IsPlaceInImage g (TooGreat most) before = WantsImageNumber g before most
IsPlaceInImage g Zero before = before ≡ codes "callers" ∷ []
IsPlaceInImage g WordTooMany before = IsWholeLine g before
IsPlaceInImage g _ before = ⊥

-- ---- reasons

-- the piece is the first word of a line of the heading
abbrev pub IsHeadingName : List ℕ → Type 0
IsHeadingName piece =
    (piece ≡ codes "onefile") ⊎ ((piece ≡ codes "callers") ⊎ (piece ≡ codes "blocks"))

-- no line of an image begins with the piece
pub record IsNoName (piece : List ℕ) : Type 0 where
  pub heading : IsHeadingName piece → ⊥
  pub cell : piece ≡ codes "cell" → ⊥
  pub «end» : piece ≡ codes "end" → ⊥

-- the words before the piece begin a title, and the piece is not its next word
abbrev pub IsNoImageTitleWord : (before : List (List ℕ)) (piece : List ℕ) → Type 0
IsNoImageTitleWord before piece =
    ((before ≡ []) × (piece ≡ codes "onefile" → ⊥))
    ⊎ ((before ≡ codes "onefile" ∷ []) × (piece ≡ codes "image" → ⊥))

-- the reason is true of a piece of a line, of the words before it, and of the reading `p` to which
-- the lines above lead
abbrev pub IsTrueOfImage : Grammar → Reason → RowReading → (before : List (List ℕ))
    (piece : List ℕ) → Type 0
IsTrueOfImage g (Flawed flaw) p before piece = HasFlaw flaw piece × IsPlaceInImage g flaw before
IsTrueOfImage g (TitleExpected version) p before piece =
    (p.stage ≡ Start) × (version ≡ version_number g.version) × IsNoImageTitleWord before piece
IsTrueOfImage g (OtherVersion found read) p before piece =
    (p.stage ≡ Start) × (before ≡ codes "onefile" ∷ codes "image" ∷ []) × PieceIsNumber piece found
    × (read ≡ version_number g.version) × (found ≡ read → ⊥)
IsTrueOfImage g (CallersExpected most) p before piece =
    (p.stage ≡ Named) × (most ≡ most_callers g.limits) × (before ≡ [])
    × (piece ≡ codes "callers" → ⊥)
IsTrueOfImage g (BlocksExpected most) p before piece =
    (p.stage ≡ Counted) × (most ≡ most_blocks g.limits) × (before ≡ [])
    × (piece ≡ codes "blocks" → ⊥)
IsTrueOfImage g AfterEnd p before piece = (p.stage ≡ Ended) × (before ≡ [])
IsTrueOfImage g UnknownLine p before piece = (p.stage ≡ Body) × (before ≡ []) × IsNoName piece
IsTrueOfImage g HeadingOver p before piece = (p.stage ≡ Body) × (before ≡ []) × IsHeadingName piece
IsTrueOfImage g (NoCell cell cells) p before piece =
    (before ≡ codes "cell" ∷ []) × PieceIsNumber piece cell
    × (cells
    ≡ durable_cells p.callers (data_cell_count_for (instrs_of g.version) p.callers p.blocks))
    × (cells ≤ cell)
IsTrueOfImage g (CellPassed cell) p before piece =
    (before ≡ codes "cell" ∷ []) × PieceIsNumber piece cell × (cell < p.from)
IsTrueOfImage g EmptyCell p before piece =
    (cell : ℕ) × (before ≡ codes "cell" ∷ decimal cell ∷ decimal 0 ∷ []) × PieceIsNumber piece 0
IsTrueOfImage g (OutOfOrder line) p before piece = ⊥
IsTrueOfImage g EndMissing p before piece = ⊥

-- ---- the fault of a text

-- the first `count` lines of the text are lines of an image, or skipped, and lead to this reading
pub record ImageLinesLeadTo (g : Grammar) (text : List ℕ) (count : ℕ) (p : RowReading)
    : Type 0 where
  pub said : List ImageLine
  pub says : unskipped_words (take count (text_lines text)) ≡ map image_line_words said
  pub leads : after_lines (image_language g) (image_reader g) no_row_read said ≡ Some p

-- the text has `above + 1` lines, which can all be read, and none of them is an end line
pub record IsUnendedImage (g : Grammar) (text : List ℕ) (above : ℕ) : Type 0 where
  pub last : length (text_lines text) ≡ above + 1
  pub reading : RowReading
  pub leads : ImageLinesLeadTo g text (above + 1) reading
  pub unended : reading.stage ≡ Ended → ⊥

-- the piece names a cell, and the line of this number, further up, has the same cell or a later one
pub record IsOutOfOrder (text : List ℕ) (above : ℕ) (before : List (List ℕ)) (piece : List ℕ)
    (number : ℕ) : Type 0 where
  pub place : before ≡ codes "cell" ∷ []
  pub cell : ℕ
  pub named : PieceIsNumber piece cell
  pub at : ℕ
  pub other : ℕ
  pub says : Says (text_lines text) above (Cell cell) at other
  pub is : number ≡ at + 1

-- the reason is true of a piece of a text, and of the words before it, in a line with this many
-- lines above it
abbrev pub IsTrueInImage : Grammar → Reason → (text : List ℕ) (above : ℕ) (before : List (List ℕ))
    (piece : List ℕ) → Type 0
IsTrueInImage g EndMissing text above before piece = IsUnendedImage g text above × (piece ≡ [])
IsTrueInImage g (OutOfOrder number) text above before piece =
    IsOutOfOrder text above before piece number
IsTrueInImage g reason text above before piece =
    (p : RowReading) × ImageLinesLeadTo g text above p × IsTrueOfImage g reason p before piece

-- the piece at fault is a whole word or the end of the line, and the reason is true of it
pub record IsImageWordFault (g : Grammar) (text : List ℕ) (f : BadPiece) : Type 0 where
  pub before : List (List ℕ)
  pub whole :
      let line = line_at (text_lines text) (f.line - 1) in
      IsWholePiece (text_words line) before (slice_range line f.start f.end) (drop f.end line)
  pub is :
      let line = line_at (text_lines text) (f.line - 1) in
      IsTrueInImage g f.reason text (f.line - 1) before (slice_range line f.start f.end)

-- the piece at fault is a byte order mark, a carriage return or a tab, in a line that isn't skipped
pub record IsHiddenImageFault (text : List ℕ) (f : BadPiece) : Type 0 where
  pub flaw : Flaw
  pub reason : f.reason ≡ Flawed flaw
  pub kept : is_skipped (text_words (line_at (text_lines text) (f.line - 1))) ≡ false
  pub is : IsHiddenByte (f.line - 1) (line_at (text_lines text) (f.line - 1))
      (record { start = f.start; end = f.end; flaw = flaw })

-- `f` is the bad line of the text, the piece of it at fault, and a reason that is true of the piece
pub record IsLineFault (g : Grammar) (text : List ℕ) (f : BadPiece) : Type 0 where
  pub bad : HasBadLine (IsTextIn g) text f.line
  pub order : f.start ≤ f.end
  pub within : f.end ≤ length (line_at (text_lines text) (f.line - 1))
  pub is : IsImageWordFault g text f ⊎ IsHiddenImageFault text f
