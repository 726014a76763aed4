-- How the text of an image is read: what recovery finds in its words, and which line or cell is at
-- fault in a text that is refused.
use Rattle.std.specs.Prelude.{◌≡◌, ◌≤◌, ℕ, List}
use Rattle.of_plan.specs.BadLine.{HasBadLine}
use Rattle.of_script.specs.declared.instr.TheConstants.{MOST_INSTRS}
use Rattle.of_report.specs.ImageRow.{DurableRow, recovered_row}
use Rattle.of_report.specs.Image.{Image, IsRestored}
use Rattle.of_image.specs.declared.error.ImageErr.{ImageErr}
use Rattle.of_image.specs.declared.error.ImageErr.TheVariants.{Memory, Bad, Unlawful}
use Rattle.of_image.specs.declared.grammar.Grammar.{Grammar}
use Rattle.of_image.specs.declared.version.Version.{Version}
use Rattle.of_image.specs.declared.version.Version.TheVariants.{Two}
use Rattle.of_plan.specs.declared.plan.TheConstants.{MOST_PLAN_CALLERS, MOST_PLAN_BLOCKS}
use Rattle.of_image.specs.Grammar.{plan_grammar, table_grammar}
use Rattle.of_image.specs.Version.{instrs_of}
use Rattle.of_image.specs.ImageText.{SpellsIn, IsTextIn}
use Rattle.of_image.specs.declared.refusal.ImageFault.TheVariants.{Line, Cell}
use Rattle.of_image.specs.declared.refusal.Refusal.{Refusal}
use Rattle.of_image.specs.declared.refusal.Refusal.TheVariants.{Memory as NoMemory, Fault}
use Rattle.of_image.specs.RowFault.{Breaks, IsRowFault}

-- the text is in this grammar, and what recovery finds in its row is the image
pub record ReadsIn (g : Grammar) (text : List ℕ) (i : Image) : Type 0 where
  pub raw : DurableRow
  pub spelled : SpellsIn g text raw
  pub restored : IsRestored (instrs_of g.version) raw i

-- the text is in the grammar, and this is the first cell at fault in what recovery finds in its row
pub record IsUnlawfulIn (g : Grammar) (text : List ℕ) (cell : ℕ) : Type 0 where
  pub raw : DurableRow
  pub spelled : SpellsIn g text raw
  pub fault : IsRowFault (instrs_of g.version) (recovered_row (instrs_of g.version) raw) cell

-- the error is true of a text that has no image: it names the bad line or the cell at fault; if
-- memory ran out, nothing is promised
abbrev pub IsRefusedIn : Grammar → List ℕ → ImageErr → Type 0
IsRefusedIn g text Memory = Unit {0}
IsRefusedIn g text (Bad line) = HasBadLine (IsTextIn g) text line
IsRefusedIn g text (Unlawful cell) = IsUnlawfulIn g text cell

-- the error is true of a text that has no row: it names the bad line; if memory ran out, nothing is
-- promised
abbrev pub HasNoRowIn : Grammar → List ℕ → ImageErr → Type 0
HasNoRowIn g text Memory = Unit {0}
HasNoRowIn g text (Bad line) = HasBadLine (IsTextIn g) text line
HasNoRowIn g text (Unlawful cell) = ⊥

-- ---- texts of a version, within the limits of a plan

-- what recovery finds in the text's row is the image
abbrev pub ReadsImage : Version → List ℕ → Image → Type 0
ReadsImage v text i = ReadsIn (plan_grammar v) text i

-- this is the first cell at fault in what recovery finds in the text's row
abbrev pub IsUnlawful : Version → List ℕ → (cell : ℕ) → Type 0
IsUnlawful v text cell = IsUnlawfulIn (plan_grammar v) text cell

-- the error is true of a text that has no image
abbrev pub ImageIsRefused : Version → List ℕ → ImageErr → Type 0
ImageIsRefused v text e = IsRefusedIn (plan_grammar v) text e

-- the error is true of a text that has no row
abbrev pub IsNoImage : Version → List ℕ → ImageErr → Type 0
IsNoImage v text e = HasNoRowIn (plan_grammar v) text e

-- ---- rows

-- the error is true of durable words that have no image: it names the cell at fault; if memory ran
-- out, nothing is promised
abbrev pub WordsAreRefused : DurableRow → ImageErr → Type 0
WordsAreRefused r Memory = Unit {0}
WordsAreRefused r (Bad line) = ⊥
WordsAreRefused r (Unlawful cell) = IsRowFault MOST_INSTRS (recovered_row MOST_INSTRS r) cell

-- the refusal is true of a row that stands for no store: it names the cell and the law; if memory
-- ran out, nothing is promised
abbrev pub NamesRowFault : (instrs : ℕ) → DurableRow → Refusal → Type 0
NamesRowFault instrs r NoMemory = Unit {0}
NamesRowFault instrs r (Fault (Line piece)) = ⊥
NamesRowFault instrs r (Fault (Cell cell law)) = Breaks law instrs r cell

-- the error for a refusal; it names only the line or the cell
abbrev pub refusal_err : Refusal → ImageErr
refusal_err NoMemory = Memory
refusal_err (Fault (Line piece)) = Bad piece.line
refusal_err (Fault (Cell cell law)) = Unlawful cell

-- a text with a cell at fault has no image
abbrev pub UnlawfulHaveNone : Type 0
UnlawfulHaveNone =
    (v : Version) (text : List ℕ) (cell : ℕ) (image : Image) → IsUnlawful v text cell
    → ReadsImage v text image → ⊥

-- a text has at most one first cell at fault
abbrev pub HasOneFault : Type 0
HasOneFault =
    (v : Version) (text : List ℕ) (c d : ℕ) → IsUnlawful v text c → IsUnlawful v text d → c ≡ d

-- a text has at most one image
abbrev pub OneImage : Type 0
OneImage =
    (v : Version) (text : List ℕ) (i j : Image) → ReadsImage v text i → ReadsImage v text j → i ≡ j

-- an image that is read within the limits of a plan is read within those of a table
abbrev pub PlanImagesAreTableImages : Type 0
PlanImagesAreTableImages =
    (text : List ℕ) (i : Image) → ReadsImage Two text i → ReadsIn table_grammar text i

-- an image that is read within the limits of a table is read within those of a plan, if a plan may
-- have as many callers and blocks
abbrev pub SmallTableImagesArePlanImages : Type 0
SmallTableImagesArePlanImages =
    (text : List ℕ) (i : Image) → i.row.callers ≤ MOST_PLAN_CALLERS
    → i.row.blocks ≤ MOST_PLAN_BLOCKS → ReadsIn table_grammar text i → ReadsImage Two text i
