-- The versions of the text of images.
use Rattle.std.specs.Prelude.{ℕ}
use Rattle.of_script.specs.declared.instr.TheConstants.{MOST_INSTRS}
use Rattle.of_image.specs.declared.version.Version.{Version}
use Rattle.of_image.specs.declared.version.Version.TheVariants.{One, Two}

-- the number of a version in the title of a text
abbrev pub version_number : Version → ℕ
version_number One = 1
version_number Two = 2

-- how many instructions a script has at most: a caller's own cells have room for this many numbers
-- of a reply
abbrev pub instrs_of : Version → ℕ
instrs_of One = 8
instrs_of Two = MOST_INSTRS
