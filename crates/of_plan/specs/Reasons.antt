-- When a reason is true of a piece of a line, and what a fault of a text is.
use Rattle.std.specs.Prelude.{◌≡◌, ◌⊎◌, ℕ, ◌+◌, ◌-◌, ◌≤◌, ◌<◌, true, false, is_some, List, [], ◌∷◌, ◌++◌, length, take, drop, map, slice_range, slice_index_or, if◌then◌else◌, ◌==◌, codes, decimal, Some, None}
use Rattle.of_cell.specs.Cells.{durable_cells}
use Rattle.of_script.specs.declared.instr.Instr.{Instr}
use Rattle.of_script.specs.declared.instr.TheConstants.{MOST_INSTRS}
use Rattle.of_script.specs.Text.{text_words, semicolon_byte}
use Rattle.of_script.specs.Table.{form_named, first_most, second_most}
use Rattle.of_plan.specs.declared.plan.TheConstants.{MOST_SCRIPTS, MOST_TURNS}
use Rattle.of_plan.specs.declared.parser.line.LineForm.{LineForm}
use Rattle.of_plan.specs.declared.parser.line.BodyLine.TheVariants.{Script}
use Rattle.of_plan.specs.declared.parser.line.PlanLine.{PlanLine}
use Rattle.of_plan.specs.declared.parser.line.PlanLine.TheVariants.{Body}
use Rattle.of_plan.specs.declared.parser.state.Stage.{Stage}
use Rattle.of_plan.specs.declared.parser.state.Stage.TheVariants.{Start, Named, Counted, Sized, Body as InBody, Ended}
use Rattle.of_plan.specs.declared.refusal.BadPiece.{BadPiece}
use Rattle.of_plan.specs.declared.reason.Reason.{Reason}
use Rattle.of_plan.specs.declared.reason.Reason.TheVariants.{Flawed, TitleExpected, CallersExpected, BlocksExpected, AfterEnd, UnknownLine, UnknownInstruction, NoCaller, NoCell, InstructionMissing, TooManyInstructions, TooManyScripts, TooManyTurns, StopTwice, SecondStop, HeadingOver, EndMissing}
use Rattle.of_plan.specs.declared.flaw.Flaw.{Flaw}
use Rattle.of_plan.specs.declared.flaw.Flaw.TheVariants.{NumberMissing, NoNumber, TooGreat, Zero, WordTooMany}
use Rattle.of_plan.specs.Plan.{data_cells}
use Rattle.of_plan.specs.Lines.{text_lines, unskipped_words, is_skipped, line_words}
use Rattle.of_plan.specs.LineTable.{form_name, line_second_most, line_form_named}
use Rattle.of_plan.specs.declared.parser.line.TheConstants.{GREATEST_CELL}
use Rattle.of_plan.specs.Checks.{first_read}
use Rattle.of_plan.specs.LineReading.{IsLineInRange, plan_language}
use Rattle.of_plan.specs.Reader.{after_lines}
use Rattle.of_plan.specs.Reading.{Reading, nothing_read, plan_reader}
use Rattle.of_plan.specs.BadLine.{HasBadLine}
use Rattle.of_plan.specs.Grammar.{IsPlanText}
use Rattle.of_plan.specs.declared.above.Wanted.TheVariants.{Stop}
use Rattle.of_plan.specs.Above.{line_at, Says}
use Rattle.of_plan.specs.Flaws.{PieceIsNumber, IsNoWord, HasFlaw, IsHiddenByte}
use Rattle.of_plan.specs.Pieces.{IsWholePiece}

-- ---- what comes next after the words of a line

-- after these words of a line an instruction comes next: the last of them is the caller's number of
-- a script line, or a semicolon
pub record WantsInstr (before : List (List ℕ)) : Type 0 where
  pub caller : List ℕ
  pub others : List (List ℕ)
  pub are : before ≡ codes "script" ∷ caller ∷ others
  pub mark : (others ≡ []) ⊎ ((front : List (List ℕ)) × (others ≡ front ++ semicolon_byte ∷ []))

-- A number up to `most` comes after these words. The words are either this name, and `most` is
-- `first`; or the name and its first number, if it has one, and `most` is `second`.
abbrev pub IsAfterName : (name : List ℕ) (first second : ℕ) (words : List (List ℕ)) (most : ℕ)
    → Type 0
IsAfterName name first second words most =
    ((words ≡ name ∷ []) × (most ≡ first))
    ⊎ ((x : ℕ) × (words ≡ name ∷ (if first == 0 then [] else decimal x ∷ [])) × (most ≡ second))

-- The words are an instruction's name, or its name and its first number. A number up to `most`
-- comes after them.
abbrev pub IsAfterInstr : (words : List (List ℕ)) (most : ℕ) → Type 0
IsAfterInstr words most =
    (name : List ℕ) × (i : Instr) × (form_named name ≡ Some i)
    × IsAfterName name (first_most i) (second_most i) words most

-- A number up to `most` comes after these words of a line. It is a number of a line that has only
-- numbers after its name, the caller of a script, or a number of an instruction.
abbrev pub WantsNumber : (before : List (List ℕ)) (most : ℕ) → Type 0
WantsNumber before most =
    ((form : LineForm)
    × IsAfterName (form_name form) (first_read form) (line_second_most form) before most)
    ⊎ (((before ≡ codes "script" ∷ []) × (most ≡ GREATEST_CELL))
    ⊎ ((opening words : List (List ℕ)) × WantsInstr opening × (before ≡ opening ++ words)
    × IsAfterInstr words most))

-- after these words of a line a number comes next that may not be 0
abbrev pub WantsCount : (before : List (List ℕ)) → Type 0
WantsCount before =
    (before ≡ codes "callers" ∷ [])
    ⊎ ((before ≡ codes "limit" ∷ [])
    ⊎ ((caller : ℕ) × (before ≡ codes "turns" ∷ decimal caller ∷ [])))

-- the words before the piece are a whole line; after a script line the piece is no semicolon
pub record IsBehindLine (before : List (List ℕ)) (piece : List ℕ) : Type 0 where
  pub line : PlanLine
  pub range : IsLineInRange line
  pub words : before ≡ line_words line
  pub no_mark : (caller : ℕ) (script : List Instr) → line ≡ Body (Script caller script)
      → piece ≡ semicolon_byte → ⊥

-- after the words `before` a line goes on with what the flaw speaks of: a number, one that may not
-- be 0, or nothing
abbrev pub IsPlaceOf : Flaw → (before : List (List ℕ)) (piece : List ℕ) → Type 0
IsPlaceOf NumberMissing before piece = (most : ℕ) × WantsNumber before most
IsPlaceOf NoNumber before piece = (most : ℕ) × WantsNumber before most
IsPlaceOf (TooGreat most) before piece = WantsNumber before most
IsPlaceOf Zero before piece = WantsCount before
IsPlaceOf WordTooMany before piece = IsBehindLine before piece
IsPlaceOf _ before piece = ⊥

-- ---- reasons

-- the heading is over, and the end has not come
abbrev pub IsBelowHeading : Stage → Type 0
IsBelowHeading stage = (stage ≡ Sized) ⊎ (stage ≡ InBody)

-- the piece is the first word of a line of the heading; the word `limit` counts only if the body
-- has begun
abbrev pub IsHeadingWord : Stage → List ℕ → Type 0
IsHeadingWord stage piece =
    (piece ≡ codes "onefile")
    ⊎ ((piece ≡ codes "callers")
    ⊎ ((piece ≡ codes "blocks") ⊎ ((piece ≡ codes "limit") × (stage ≡ InBody))))

-- the words before the piece begin a title, and the piece is not its next word
abbrev pub IsNoTitleWord : (before : List (List ℕ)) (piece : List ℕ) → Type 0
IsNoTitleWord before piece =
    ((before ≡ []) × (piece ≡ codes "onefile" → ⊥))
    ⊎ (((before ≡ codes "onefile" ∷ []) × (piece ≡ codes "plan" → ⊥))
    ⊎ ((before ≡ codes "onefile" ∷ codes "plan" ∷ []) × (piece ≡ codes "1" → ⊥)))

-- after these words of a line the number of a caller comes next
abbrev pub WantsCaller : (before : List (List ℕ)) → Type 0
WantsCaller before =
    (before ≡ codes "script" ∷ [])
    ⊎ ((before ≡ codes "stop" ∷ []) ⊎ (before ≡ codes "turns" ∷ []))

-- the reason is true of a piece of a line, of the words before it, and of the reading `p` to which
-- the lines above lead
abbrev pub IsTrueOf : Reason → Reading → (before : List (List ℕ)) (piece : List ℕ) → Type 0
IsTrueOf (Flawed flaw) p before piece = HasFlaw flaw piece × IsPlaceOf flaw before piece
IsTrueOf TitleExpected p before piece = (p.stage ≡ Start) × IsNoTitleWord before piece
IsTrueOf CallersExpected p before piece =
    (p.stage ≡ Named) × (before ≡ []) × (piece ≡ codes "callers" → ⊥)
IsTrueOf BlocksExpected p before piece =
    (p.stage ≡ Counted) × (before ≡ []) × (piece ≡ codes "blocks" → ⊥)
IsTrueOf AfterEnd p before piece = (p.stage ≡ Ended) × (before ≡ [])
IsTrueOf HeadingOver p before piece =
    IsBelowHeading p.stage × (before ≡ []) × IsHeadingWord p.stage piece
IsTrueOf UnknownLine p before piece =
    (before ≡ []) × (line_form_named piece ≡ None) × (piece ≡ codes "script" → ⊥)
    × (piece ≡ codes "onefile" → ⊥)
IsTrueOf UnknownInstruction p before piece = WantsInstr before × (form_named piece ≡ None)
IsTrueOf InstructionMissing p before piece = WantsInstr before × IsNoWord piece
IsTrueOf TooManyInstructions p before piece =
    (piece ≡ semicolon_byte) × (caller : ℕ) × (script : List Instr)
    × (length script ≡ MOST_INSTRS) × (before ≡ line_words (Body (Script caller script)))
IsTrueOf (NoCaller caller callers) p before piece =
    WantsCaller before × PieceIsNumber piece caller × (callers ≡ p.callers) × (callers ≤ caller)
IsTrueOf (NoCell cell cells) p before piece =
    (before ≡ codes "evict" ∷ []) × PieceIsNumber piece cell
    × (cells ≡ durable_cells p.callers (data_cells p.callers p.blocks)) × (cells ≤ cell)
IsTrueOf (StopTwice caller) p before piece =
    (before ≡ codes "stop" ∷ []) × PieceIsNumber piece caller
    × (is_some (slice_index_or p.stops caller None) ≡ true)
IsTrueOf TooManyScripts p before piece =
    (before ≡ []) × (piece ≡ codes "script") × (MOST_SCRIPTS ≤ p.count)
IsTrueOf TooManyTurns p before piece =
    (caller turns : ℕ) × (before ≡ codes "turns" ∷ decimal caller ∷ []) × PieceIsNumber piece turns
    × (MOST_TURNS < p.turns + turns)
IsTrueOf (SecondStop line) p before piece = ⊥
IsTrueOf EndMissing p before piece = ⊥

-- ---- the fault of a text

-- the first `count` lines of the text are lines of a plan, or skipped, and lead to this reading
pub record LinesLeadTo (text : List ℕ) (count : ℕ) (p : Reading) : Type 0 where
  pub said : List PlanLine
  pub says : unskipped_words (take count (text_lines text)) ≡ map line_words said
  pub leads : after_lines plan_language plan_reader nothing_read said ≡ Some p

-- the text has `above + 1` lines, which can all be read, and none of them is an end line
pub record IsUnended (text : List ℕ) (above : ℕ) : Type 0 where
  pub last : length (text_lines text) ≡ above + 1
  pub reading : Reading
  pub leads : LinesLeadTo text (above + 1) reading
  pub unended : reading.stage ≡ Ended → ⊥

-- the piece names a caller in a stop line, and the caller has a stop already, in the line of this
-- number
pub record HasStop (text : List ℕ) (above : ℕ) (before : List (List ℕ)) (piece : List ℕ)
    (number : ℕ) : Type 0 where
  pub place : before ≡ codes "stop" ∷ []
  pub caller : ℕ
  pub named : PieceIsNumber piece caller
  pub at : ℕ
  pub says : Says (text_lines text) above (Stop caller) at caller
  pub is : number ≡ at + 1

-- the reason is true of a piece of a text, and of the words before it, in a line with this many
-- lines above it
abbrev pub IsTrueIn : Reason → (text : List ℕ) (above : ℕ) (before : List (List ℕ))
    (piece : List ℕ) → Type 0
IsTrueIn EndMissing text above before piece = IsUnended text above × (piece ≡ [])
IsTrueIn (SecondStop number) text above before piece = HasStop text above before piece number
IsTrueIn reason text above before piece =
    (p : Reading) × LinesLeadTo text above p × IsTrueOf reason p before piece

-- the piece at fault is a whole word or the end of the line, and the reason is true of it
pub record IsWordFault (text : List ℕ) (f : BadPiece) : Type 0 where
  pub before : List (List ℕ)
  pub whole :
      let line = line_at (text_lines text) (f.line - 1) in
      IsWholePiece (text_words line) before (slice_range line f.start f.end) (drop f.end line)
  pub is :
      let line = line_at (text_lines text) (f.line - 1) in
      IsTrueIn f.reason text (f.line - 1) before (slice_range line f.start f.end)

-- the piece at fault is a byte order mark, a carriage return or a tab, in a line that isn't skipped
pub record IsHiddenFault (text : List ℕ) (f : BadPiece) : Type 0 where
  pub flaw : Flaw
  pub reason : f.reason ≡ Flawed flaw
  pub kept : is_skipped (text_words (line_at (text_lines text) (f.line - 1))) ≡ false
  pub is : IsHiddenByte (f.line - 1) (line_at (text_lines text) (f.line - 1))
      (record { start = f.start; end = f.end; flaw = flaw })

-- `f` is the bad line of the text, the piece of it at fault, and a reason that is true of the piece
pub record IsFaultOf (text : List ℕ) (f : BadPiece) : Type 0 where
  pub bad : HasBadLine IsPlanText text f.line
  pub order : f.start ≤ f.end
  pub within : f.end ≤ length (line_at (text_lines text) (f.line - 1))
  pub is : IsWordFault text f ⊎ IsHiddenFault text f
