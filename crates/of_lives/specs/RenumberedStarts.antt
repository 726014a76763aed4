-- Renumbered images: a life from a renumbered image starts where a life from the image before
-- renumbering does, but at sequence 0.
use Rattle.std.specs.Prelude.{◌≡◌}
use Rattle.of_script.specs.declared.instr.TheConstants.{MOST_INSTRS}
use Rattle.of_report.specs.ImageRow.{data_numbers_in}
use Rattle.of_report.specs.Image.{Image, IsImage, start_of_image}
use Rattle.of_lives.specs.Lives.{renumbered_start}

-- the second image has the callers, the store and the numbers of the data cells of the first, and
-- sequence 0
pub record IsRenumberedImage (i j : Image) : Type 0 where
  pub callers : j.row.callers ≡ i.row.callers
  pub store : j.store ≡ i.store
  pub numbers : data_numbers_in MOST_INSTRS j.row ≡ data_numbers_in MOST_INSTRS i.row
  pub seq : j.seq ≡ 0

-- a life from a renumbered image starts at sequence 0, with the store and the tickets of the image
-- before renumbering
abbrev pub RenumberedImagesStart : Type 0
RenumberedImagesStart =
    (i j : Image) → IsImage MOST_INSTRS i → IsImage MOST_INSTRS j → IsRenumberedImage i j
    → start_of_image j ≡ renumbered_start (start_of_image i)
