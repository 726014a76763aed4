-- What a fault says of a text that has no image.
use Rattle.std.specs.Prelude.{ℕ, List}
use Rattle.of_report.specs.ImageRow.{DurableRow, recovered_row}
use Rattle.of_report.specs.Image.{Image}
use Rattle.of_image.specs.declared.refusal.ImageFault.{ImageFault}
use Rattle.of_image.specs.declared.refusal.ImageFault.TheVariants.{Line, Cell}
use Rattle.of_image.specs.declared.refusal.Refusal.{Refusal}
use Rattle.of_image.specs.declared.refusal.Refusal.TheVariants.{Memory, Fault}
use Rattle.of_image.specs.declared.law.Law.{Law}
use Rattle.of_image.specs.declared.grammar.Grammar.{Grammar}
use Rattle.of_image.specs.declared.version.Version.{Version}
use Rattle.of_image.specs.Grammar.{plan_grammar}
use Rattle.of_image.specs.Version.{instrs_of}
use Rattle.of_image.specs.ImageText.{SpellsIn}
use Rattle.of_image.specs.RowFault.{Breaks}
use Rattle.of_image.specs.Parsed.{ReadsImage}
use Rattle.of_image.specs.Reasons.{IsLineFault}

-- the text of this version has an image
abbrev pub HasImage : Version → List ℕ → Type 0
HasImage v text = (image : Image) × ReadsImage v text image

-- the text is in the grammar; in what recovery finds in its row this cell is the first at fault,
-- and it breaks this law
pub record IsCellFault (g : Grammar) (text : List ℕ) (cell : ℕ) (law : Law) : Type 0 where
  pub raw : DurableRow
  pub spelled : SpellsIn g text raw
  pub breaks :
      Breaks law (instrs_of g.version) (recovered_row (instrs_of g.version) raw) cell

-- the fault is true of the text: a bad line, or a cell of what recovery finds
abbrev pub IsImageFaultIn : Grammar → List ℕ → ImageFault → Type 0
IsImageFaultIn g text (Line p) = IsLineFault g text p
IsImageFaultIn g text (Cell cell law) = IsCellFault g text cell law

-- the refusal is true of a text that has no row: it names the bad line; if memory ran out, nothing
-- is promised
abbrev pub HasLineFault : Grammar → List ℕ → Refusal → Type 0
HasLineFault g text Memory = Unit {0}
HasLineFault g text (Fault (Line piece)) = IsLineFault g text piece
HasLineFault g text (Fault (Cell cell law)) = ⊥

-- the refusal is true of a text that has no image: it names the fault; if memory ran out, nothing
-- is promised
abbrev pub HasFaultIn : Grammar → List ℕ → Refusal → Type 0
HasFaultIn g text Memory = Unit {0}
HasFaultIn g text (Fault fault) = IsImageFaultIn g text fault

-- ---- texts of a version, within the limits of a plan

-- the fault is true of the text
abbrev pub IsImageFaultOf : Version → List ℕ → ImageFault → Type 0
IsImageFaultOf v text fault = IsImageFaultIn (plan_grammar v) text fault

-- the refusal is true of a text that has no image
abbrev pub HasImageFault : Version → List ℕ → Refusal → Type 0
HasImageFault v text refusal = HasFaultIn (plan_grammar v) text refusal
