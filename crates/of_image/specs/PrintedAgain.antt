-- The printed text of the row that a text spells.
use Rattle.std.specs.Prelude.{◌≡◌, ℕ, List}
use Rattle.of_report.specs.ImageRow.{DurableRow}
use Rattle.of_image.specs.declared.version.Version.TheVariants.{Two}
use Rattle.of_image.specs.ImageText.{SpellsImage, image_text}

-- the text spells a row, and `again` is the text that is printed of this row
pub record PrintsAgain (text again : List ℕ) : Type 0 where
  pub row : DurableRow
  pub spelled : SpellsImage Two text row
  pub is : again ≡ image_text Two row
