-- When a flaw is true of a piece of a line, whatever the text is.
use Rattle.std.specs.Prelude.{◌≡◌, ◌⊎◌, ℕ, ◌≤◌, List, [], ◌∷◌, length, slice_range, Some, None}
use Rattle.of_script.specs.Text.{semicolon_byte}
use Rattle.of_script.specs.Reading.{parsed_number}
use Rattle.of_plan.specs.declared.parser.line.TheConstants.{GREATEST_CELL}
use Rattle.of_plan.specs.declared.pieces.HiddenByte.{HiddenByte}
use Rattle.of_plan.specs.declared.flaw.Flaw.{Flaw}
use Rattle.of_plan.specs.declared.flaw.Flaw.TheVariants.{ByteOrderMark, CarriageReturn, Tab, NumberMissing, NoNumber, TooGreat, Zero, WordTooMany}
use Rattle.of_plan.specs.Numerals.{IsNumeral}

-- the piece is the number `n` in digits, at most `GREATEST_CELL`
abbrev pub PieceIsNumber : List ℕ → ℕ → Type 0
PieceIsNumber piece n = parsed_number GREATEST_CELL piece ≡ Some n

-- the piece is empty or a semicolon
abbrev pub IsNoWord : List ℕ → Type 0
IsNoWord piece = (piece ≡ []) ⊎ (piece ≡ semicolon_byte)

-- the piece has this flaw
abbrev pub HasFlaw : Flaw → (piece : List ℕ) → Type 0
HasFlaw ByteOrderMark piece = piece ≡ 239 ∷ 187 ∷ 191 ∷ []
HasFlaw CarriageReturn piece = piece ≡ 13 ∷ []
HasFlaw Tab piece = piece ≡ 9 ∷ []
HasFlaw NumberMissing piece = IsNoWord piece
HasFlaw NoNumber piece = IsNumeral piece → ⊥
HasFlaw (TooGreat most) piece = IsNumeral piece × (parsed_number most piece ≡ None)
HasFlaw Zero piece = PieceIsNumber piece 0
HasFlaw WordTooMany piece = piece ≡ [] → ⊥

-- the flaw is one that cannot be seen in print: a byte order mark, a carriage return or a tab
abbrev pub IsHidden : Flaw → Type 0
IsHidden ByteOrderMark = Unit {0}
IsHidden CarriageReturn = Unit {0}
IsHidden Tab = Unit {0}
IsHidden _ = ⊥

-- the flaw says why the piece is no number up to `most`
abbrev pub IsNumberFlaw : Flaw → (most : ℕ) (piece : List ℕ) → Type 0
IsNumberFlaw NumberMissing most piece = IsNoWord piece
IsNumberFlaw NoNumber most piece = IsNumeral piece → ⊥
IsNumberFlaw (TooGreat n) most piece =
    (n ≡ most) × IsNumeral piece × (parsed_number most piece ≡ None)
IsNumberFlaw _ most piece = ⊥

-- `b` is a byte order mark, a carriage return or a tab in a line with this many lines above it
pub record IsHiddenByte (above : ℕ) (line : List ℕ) (b : HiddenByte) : Type 0 where
  pub order : b.start ≤ b.end
  pub within : b.end ≤ length line
  pub has : HasFlaw b.flaw (slice_range line b.start b.end)
  pub hidden : IsHidden b.flaw
  pub mark : b.flaw ≡ ByteOrderMark → above ≡ 0
