-- A row in the layout of shorter scripts, moved to the layout of longer ones.
use Rattle.std.specs.Prelude.{◌≡◌, ℕ, ◌+◌, ◌-◌, ◌*◌, ◌/◌, ◌%◌, ◌≤◌, ◌<◌, nat_lt, nat_le, if◌then◌else◌, false, List, map, Option, Some, None, slice_index}
use Rattle.std.specs.List.{range_with_len}
use Rattle.of_cell.specs.Cells.{request_cell, data_cell, durable_cells}
use Rattle.of_script.specs.declared.instr.TheConstants.{MOST_INSTRS}
use Rattle.of_mem.specs.declared.plot.Plot.{Plot}
use Rattle.of_mem.specs.Places.{base_of, ticket_cell_at, shape_at, reply_at}
use Rattle.of_report.specs.ImageRow.{DurableRow, data_cell_count_for}
use Rattle.of_image.specs.declared.version.Version.TheVariants.{One, Two}
use Rattle.of_image.specs.ImageText.{image_text}
use Rattle.of_report.specs.Image.{Image}
use Rattle.of_image.specs.Parsed.{ReadsImage}

-- the caller's own data cell with the same meaning in the layout of shorter scripts; None for a
-- number of a reply that has no place there
abbrev pub earlier_own_address : (few many addr : ℕ) → Option ℕ
earlier_own_address few many a =
    if nat_lt (a % (many + 2)) (few + 2) then Some (a / (many + 2) * (few + 2) + a % (many + 2))
    else None

-- the data cell with the same meaning in the layout of shorter scripts, if there is one
abbrev pub earlier_address : (few many callers addr : ℕ) → Option ℕ
earlier_address few many callers a =
    if nat_lt a (base_of callers many) then earlier_own_address few many a
    else Some (base_of callers few + (a - base_of callers many))

-- the word of this data cell in the old row; 0 if there is no such cell
abbrev pub word_from : (callers : ℕ) → (ℕ → ℕ) → Option ℕ → ℕ
word_from callers row None = 0
word_from callers row (Some a) = row (data_cell callers a)

-- the word of a cell in the moved row: the current transaction and the requests keep their words,
-- data cells get that of the same meaning, and logs are 0
abbrev pub moved_word : (few many callers blocks : ℕ) → (ℕ → ℕ) → (cell : ℕ) → ℕ
moved_word few many callers blocks row c =
    if nat_le c callers then row c
    else if nat_lt c (data_cell callers (data_cell_count_for many callers blocks))
    then word_from callers row (earlier_address few many callers (c - (callers + 1)))
    else 0

-- the words of the moved row
unfoldable pub moved_words : (few many callers blocks : ℕ) → List ℕ → List ℕ
moved_words few many callers blocks words =
    map (moved_word few many callers blocks (slice_index words))
    (range_with_len 0 (durable_cells callers (data_cell_count_for many callers blocks)))

-- the word of a cell in a row that is moved from one plot to another
abbrev pub moved_word_to : (old new : Plot) → List ℕ → (cell : ℕ) → ℕ
moved_word_to old new words c =
    moved_word old.instrs new.instrs old.callers old.blocks (slice_index words) c

-- the words of a row that is moved from one plot to another
abbrev pub moved_words_to : (old new : Plot) → List ℕ → List ℕ
moved_words_to old new words = moved_words old.instrs new.instrs old.callers old.blocks words

-- the row in the layout of scripts of `many` instructions, from that of scripts of `few`
abbrev pub moved_row : (few many : ℕ) → DurableRow → DurableRow
moved_row few many r = record r { words = moved_words few many r.callers r.blocks r.words }

-- the image of the moved row; no transaction is open in it, since the row was recovered
abbrev pub moved_image : (few many : ℕ) → Image → Image
moved_image few many i = record {
  row = moved_row few many i.row;
  seq = i.seq;
  replayed = false;
  store = i.store;
}

-- each word of the new row, for scripts of `many` instructions, is that of the same meaning in the
-- old row, for scripts of `few`
pub record HasMoved (few many : ℕ) (old new : DurableRow) : Type 0 where
  pub callers : new.callers ≡ old.callers
  pub blocks : new.blocks ≡ old.blocks
  pub current : slice_index new.words 0 ≡ slice_index old.words 0
  pub requests : (c : ℕ) → c < old.callers
      → slice_index new.words (request_cell c) ≡ slice_index old.words (request_cell c)
  pub tickets : (c : ℕ) → c < old.callers
      → slice_index new.words (data_cell old.callers (ticket_cell_at many c))
      ≡ slice_index old.words (data_cell old.callers (ticket_cell_at few c))
  pub shapes : (c : ℕ) → c < old.callers
      → slice_index new.words (data_cell old.callers (shape_at many c))
      ≡ slice_index old.words (data_cell old.callers (shape_at few c))
  pub replies : (c j : ℕ) → c < old.callers → j < few
      → slice_index new.words (data_cell old.callers (reply_at many c j))
      ≡ slice_index old.words (data_cell old.callers (reply_at few c j))
  -- the places for further numbers of a reply are 0
  pub no_more : (c j : ℕ) → c < old.callers → few ≤ j → j < many
      → slice_index new.words (data_cell old.callers (reply_at many c j)) ≡ 0
  -- the cells of the store come after those of the callers
  pub store : (k : ℕ)
      → base_of old.callers many + k < data_cell_count_for many old.callers old.blocks
      → slice_index new.words (data_cell old.callers (base_of old.callers many + k))
      ≡ slice_index old.words (data_cell old.callers (base_of old.callers few + k))
  pub logs : (c : ℕ) → data_cell old.callers (data_cell_count_for many old.callers old.blocks) ≤ c
      → slice_index new.words c ≡ 0

-- `after` is the text of a version 1 image's recovered row, moved to the layout of version 2; it
-- has an image with the same sequence, store and tickets
pub record Migrates (before after : List ℕ) : Type 0 where
  pub image : Image
  pub read : ReadsImage One before image
  pub text : after ≡ image_text Two (moved_row 8 MOST_INSTRS image.row)
  pub moved : HasMoved 8 MOST_INSTRS image.row (moved_row 8 MOST_INSTRS image.row)
  pub again : ReadsImage Two after (moved_image 8 MOST_INSTRS image)
