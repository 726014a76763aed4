-- An image whose sequences begin anew.
use Rattle.std.specs.Prelude.{◌≡◌, ℕ, List, false}
use Rattle.of_script.specs.declared.instr.TheConstants.{MOST_INSTRS}
use Rattle.of_recover.specs.Renumbered.{renumbered_words}
use Rattle.of_report.specs.ImageRow.{DurableRow, row_cell_count, data_numbers_in}
use Rattle.of_report.specs.Image.{Image}
use Rattle.of_image.specs.declared.version.Version.TheVariants.{Two}
use Rattle.of_image.specs.ImageText.{image_text}
use Rattle.of_image.specs.Parsed.{ReadsImage}

-- the row in which each data cell keeps its number, with sequence 0, and every other cell is 0
abbrev pub renumbered_row : (instrs : ℕ) → DurableRow → DurableRow
renumbered_row instrs r = record r {
  words = renumbered_words r.callers (row_cell_count instrs r) r.words;
}

-- the image of the renumbered row: its sequence is 0, no transaction is open, and the store is the
-- same
abbrev pub renumbered_image : Image → Image
renumbered_image i = record {
  row = renumbered_row MOST_INSTRS i.row;
  seq = 0;
  replayed = false;
  store = i.store;
}

-- the text is that of the image with its sequences begun anew; its own image has sequence 0, the
-- same store, and the same numbers in the data cells: tickets, shapes and replies too
pub record Renumbers (i : Image) (text : List ℕ) : Type 0 where
  pub text_is : text ≡ image_text Two (renumbered_image i).row
  pub again : ReadsImage Two text (renumbered_image i)
  pub numbers : data_numbers_in MOST_INSTRS (renumbered_image i).row
      ≡ data_numbers_in MOST_INSTRS i.row
