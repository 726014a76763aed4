-- What is printed of a piece of a line.
use Rattle.std.specs.Prelude.{ℕ, ◌+◌, ◌-◌, min, max, Bool, nat_lt, nat_le, List, [], ◌∷◌, ◌++◌, length, map, replicate, slice_range, if◌then◌else◌, codes, decimal}
use Rattle.of_plan.specs.declared.refusal.BadPiece.{BadPiece}
use Rattle.of_plan.specs.Lines.{text_lines}
use Rattle.of_plan.specs.Above.{line_at}
use Rattle.of_plan.specs.ReasonText.{reason_text}

-- the byte that is shown for this byte: a question mark if the byte has no sign of its own
abbrev pub sign : ℕ → ℕ
sign b = if nat_lt b 32 then 63 else if nat_lt 126 b then 63 else b

-- Where the shown part of a line begins: 60 bytes before the piece. It begins at the line's first
-- byte if the line has at most 100 bytes, or if fewer than 60 bytes come before the piece.
abbrev pub first_shown_byte : (size start : ℕ) → ℕ
first_shown_byte size start = if nat_le size 100 then 0 else start - 60

-- where the shown part of a line ends, at most 100 bytes after its begin
abbrev pub last : (start size : ℕ) → ℕ
last start size = min size (first_shown_byte size start + 100)

-- the byte twice if a part of the line is cut off, and otherwise nothing
abbrev pub cut_mark : (byte : ℕ) → Bool → List ℕ
cut_mark byte is_cut = if is_cut then byte ∷ byte ∷ [] else []

-- how many carets there are below the piece, at least one
abbrev pub width : (start end size : ℕ) → ℕ
width start end size = max (min end (last start size) - start) 1

-- whether a part of the line is cut off before what is shown
abbrev pub is_cut_before : (size start : ℕ) → Bool
is_cut_before size start = nat_lt 0 (first_shown_byte size start)

-- whether a part of the line is cut off after what is shown
abbrev pub is_cut_behind : (size start : ℕ) → Bool
is_cut_behind size start = nat_lt (last start size) size

-- what is printed of a piece: the line's number, the column and the reason; the line, with two dots
-- where it is cut; and carets below the piece
abbrev pub message : (number : ℕ) (line : List ℕ) (start end : ℕ) (reason : List ℕ) → List ℕ
message number line start end reason =
    (((((((((codes "line " ++ (decimal number ++ (codes ", column " ++ (decimal (start + 1)
    ++ (codes ": " ++ (reason ++ codes "\n    "))))))
    ++ cut_mark 46 (is_cut_before (length line) start))
    ++ map sign
    (slice_range line (first_shown_byte (length line) start) (last start (length line))))
    ++ cut_mark 46 (is_cut_behind (length line) start))
    ++ codes "\n    ") ++ cut_mark 32 (is_cut_before (length line) start))
    ++ replicate (start - first_shown_byte (length line) start) 32)
    ++ replicate (width start end (length line)) 94) ++ codes "\n")

-- what is printed of the bad piece of a text
abbrev pub bad_piece_message : (text : List ℕ) → BadPiece → List ℕ
bad_piece_message text f =
    message f.line (line_at (text_lines text) (f.line - 1)) f.start f.end (reason_text f.reason)
