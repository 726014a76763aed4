-- What the lines above a line say.
use Rattle.std.specs.Prelude.{◌≡◌, ℕ, ◌-◌, ◌<◌, List, [], ◌∷◌, nat_lt, slice_index_or, if◌then◌else◌, ◌==◌, codes, Option, Some, None}
use Rattle.std.specs.Str.{bytes_eq}
use Rattle.of_plan.specs.declared.plan.TheConstants.{MOST_PLAN_CALLERS}
use Rattle.of_plan.specs.declared.parser.line.TheConstants.{GREATEST_CELL}
use Rattle.of_script.specs.Text.{text_words}
use Rattle.of_script.specs.Reading.{◌>>=◌, next_number}
use Rattle.of_plan.specs.declared.above.Wanted.{Wanted}
use Rattle.of_plan.specs.declared.above.Wanted.TheVariants.{Stop, Cell}

-- the number in the words `ws` after a line's name; None if the name isn't the wanted one, or the
-- number is above `most`
abbrev pub number_behind : (name wanted : List ℕ) → List (List ℕ) → (most : ℕ) → Option ℕ
number_behind name wanted ws most = if bytes_eq name wanted then (do
  x ← next_number most ws
  Some x.0) else None

-- `n` if it equals `wanted`; otherwise None
abbrev pub only : ℕ → ℕ → Option ℕ
only wanted n = if n == wanted then Some n else None

-- `n` if it is at least `least`; otherwise None
abbrev pub at_least : ℕ → ℕ → Option ℕ
at_least least n = if nat_lt n least then None else Some n

-- the number in a wanted line: the caller's number in a stop line of this caller, or the cell's
-- number in a line of an image for a cell from `least` on; None for any other line
abbrev pub said : Wanted → List (List ℕ) → Option ℕ
said wanted [] = None
said (Stop c) (name ∷ ws) = number_behind name (codes "stop") ws (MOST_PLAN_CALLERS - 1) >>= only c
said (Cell least) (name ∷ ws) =
    number_behind name (codes "cell") ws GREATEST_CELL >>= at_least least

-- the line with this many lines above it, or an empty one if there is none
abbrev pub line_at : List (List ℕ) → ℕ → List ℕ
line_at ls above = slice_index_or ls above []

-- line `at`, counted from 0, is one of the first `above` lines; the line is wanted, and this is the
-- number in it
pub record Says (ls : List (List ℕ)) (above : ℕ) (wanted : Wanted) (at number : ℕ) : Type 0 where
  pub there : at < above
  pub says : said wanted (text_words (line_at ls at)) ≡ Some number

-- none of the first `above` lines is wanted
abbrev pub NoneSays : List (List ℕ) → (above : ℕ) → Wanted → Type 0
NoneSays ls above wanted = (at : ℕ) → at < above → said wanted (text_words (line_at ls at)) ≡ None
