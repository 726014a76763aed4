-- What is wrong with a line that was found in a text where a report must have another, the wanted
-- one.
use Rattle.std.specs.Prelude.{◌≡◌, ◌≢◌, ℕ, ◌≤◌, ◌<◌, ◌⊎◌, List, [], length, take, ◌==◌, codes, slice_index_or}
use Rattle.std.specs.List.{slice_split}
use Rattle.of_check.specs.declared.line_rule.LineRule.{LineRule}
use Rattle.of_check.specs.declared.line_rule.LineRule.TheVariants.{AfterEnd, Store, Reply, Caller, Entries, Sequence, TooMany, Spelling}

-- the pieces of a line, which is cut at each space; the bytes after the last space are a piece too
abbrev pub line_pieces : List ℕ → List (List ℕ)
line_pieces line = slice_split (λ b. b == 32) line

-- the piece of a line with this many pieces before it; empty if there is none
abbrev pub piece_at : List ℕ → (before : ℕ) → List ℕ
piece_at line before = slice_index_or (line_pieces line) before []

-- the line has a piece with this many pieces before it, and it is `piece`
pub record IsPiece (line : List ℕ) (before : ℕ) (piece : List ℕ) : Type 0 where
  pub there : before < length (line_pieces line)
  pub is : piece ≡ piece_at line before

-- both lines have at least this many pieces, and the first `count` are the same
pub record SharePieces (count : ℕ) (one other : List ℕ) : Type 0 where
  pub first : count ≤ length (line_pieces one)
  pub second : count ≤ length (line_pieces other)
  pub same : take count (line_pieces one) ≡ take count (line_pieces other)

-- Both lines have a piece with this many pieces before it. The two pieces differ, and the found
-- line's piece isn't empty.
pub record HasOtherPiece (found wanted : List ℕ) (before : ℕ) : Type 0 where
  pub there : before < length (line_pieces found)
  pub wants : before < length (line_pieces wanted)
  pub word : piece_at found before ≢ []
  pub other : piece_at found before ≢ piece_at wanted before

-- the word is the first of a line of a store
abbrev pub IsStoreName : List ℕ → Type 0
IsStoreName name = (name ≡ codes "register") ⊎ (name ≡ codes "key") ⊎ (name ≡ codes "queue")

-- the wanted line begins with this word, the two lines have the same first `before` pieces, and
-- their next pieces differ
pub record IsOtherIn (kind : List ℕ) (before : ℕ) (found wanted : List ℕ) : Type 0 where
  pub name : piece_at wanted 0 ≡ kind
  pub same : SharePieces before found wanted
  pub other : HasOtherPiece found wanted before

-- the line has another piece after its name
abbrev pub HasMorePieces : List ℕ → Type 0
HasMorePieces line = 1 < length (line_pieces line)

-- What a reason says of a line that was found in place of the wanted line. `Spelling` says nothing
-- of its own (`IsTrueOfLine`). The reply of an entry is its sixth piece and those after it.
abbrev pub SaysOfLine : LineRule → (found wanted : List ℕ) → Type 0
SaysOfLine AfterEnd found wanted = wanted ≡ []
SaysOfLine Store found wanted =
    IsStoreName (piece_at wanted 0)
    ⊎ (HasMorePieces found × IsStoreName (piece_at found 0) × (wanted ≡ codes "end"))
SaysOfLine Reply found wanted = (piece_at wanted 0 ≡ codes "entry") × SharePieces 5 found wanted
SaysOfLine Caller found wanted = IsOtherIn (codes "caller") 1 found wanted
SaysOfLine Entries found wanted = IsOtherIn (codes "caller") 4 found wanted
SaysOfLine Sequence found wanted = IsOtherIn (codes "seq") 1 found wanted
SaysOfLine TooMany found wanted =
    (piece_at wanted 0 ≡ codes "seq") × (piece_at found 0 ≡ codes "caller") × HasMorePieces found
SaysOfLine Spelling found wanted = ⊥

-- the reason is true of the line; `Spelling` is true if no other reason is
abbrev pub IsTrueOfLine : LineRule → (found wanted : List ℕ) → Type 0
IsTrueOfLine Spelling found wanted = (r : LineRule) → SaysOfLine r found wanted → ⊥
IsTrueOfLine r found wanted = SaysOfLine r found wanted
