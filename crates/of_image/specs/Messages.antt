-- What is printed of a text that has no image, and of its fault.
use Rattle.std.specs.Prelude.{ℕ, ◌-◌, List, ◌++◌, codes, decimal}
use Rattle.of_image.specs.declared.error.ImageErr.{ImageErr}
use Rattle.of_image.specs.declared.error.ImageErr.TheVariants.{Memory, Bad, Unlawful}
use Rattle.of_plan.specs.Lines.{text_lines}
use Rattle.of_plan.specs.Above.{line_at}
use Rattle.of_plan.specs.Pointed as pointed
use Rattle.of_image.specs.declared.refusal.BadPiece.{BadPiece}
use Rattle.of_image.specs.declared.refusal.ImageFault.{ImageFault}
use Rattle.of_image.specs.declared.refusal.ImageFault.TheVariants.{Line, Cell}
use Rattle.of_image.specs.ReasonText.{image_reason_text}
use Rattle.of_image.specs.declared.law.Law.{Law}
use Rattle.of_image.specs.declared.law.Law.TheVariants.{Owner, Newest, Store}

-- the text that is printed of an error
abbrev pub error_text : ImageErr → List ℕ
error_text Memory = codes "out of memory"
error_text (Bad line) = codes "bad image, line " ++ decimal line
error_text (Unlawful cell) = codes "unlawful image, cell " ++ decimal cell

-- the text that is printed of a law that a cell breaks
abbrev pub law_text : Law → List ℕ
law_text Owner = codes "its payload is no caller's number"
law_text Newest = codes "its sequence is above that of cell 0"
law_text Store = codes "the data cells stand for no store, and this is the first at fault"

-- the text that is printed of a cell at fault
abbrev pub cell_message : (cell : ℕ) → Law → List ℕ
cell_message cell law =
    codes "cell " ++ (decimal cell ++ (codes ": " ++ (law_text law ++ codes "\n")))

-- the text that is printed of a bad line
abbrev pub piece_message : (text : List ℕ) → BadPiece → List ℕ
piece_message text p =
    pointed.message p.line (line_at (text_lines text) (p.line - 1)) p.start p.end
    (image_reason_text p.reason)

-- the text that is printed of a fault
abbrev pub fault_message : (text : List ℕ) → ImageFault → List ℕ
fault_message text (Line p) = piece_message text p
fault_message text (Cell cell law) = cell_message cell law
