-- The text of what a memory has left.
use Rattle.std.specs.Prelude.{◌≡◌, ◌≢◌, ℕ, ◌++◌, List, length, slice_range, Option}
use Rattle.of_cell.specs.declared.word.TheConstants.{GREATEST_LIMIT}
use Rattle.of_memory.specs.declared.saved.Saved.{Saved}
use Rattle.of_memory.specs.declared.error.ImageTextError.{ImageTextError}
use Rattle.of_memory.specs.declared.error.ImageTextError.TheVariants.{OutOfMemory, Bad, Unlawful, PastLimits}
use Rattle.of_memory.specs.Saving.{IsSaved, saved_limit}
use Rattle.of_memory.specs.Texts.{IsTextOfSaved, TextHolds, IsReadBack}
use Rattle.of_c.specs.declared.codes.TheConstants.{DONE, NO_IMAGE, NO_MEMORY, NO_ROOM}
use Rattle.of_c.specs.declared.held.Held.{Held}
use Rattle.of_c.specs.Slots.{HoldsSaved}

-- with this code C gets neither a text nor its length
abbrev pub TellsNoText : (code : ℕ) → Type 0
TellsNoText code = (code ≢ DONE) × (code ≢ NO_ROOM)

-- the buffer begins with the text; what comes after the text is as it was
abbrev pub HoldsText : (text before now : List ℕ) → Type 0
HoldsText text before now = now ≡ text ++ slice_range before (length text) (length before)

-- Something is held that a memory has left, and P holds of the text that is printed for it. This
-- text is read as what is held.
pub record HasText (held : Option Held) (P : List ℕ → Type 0) : Type 0 where
  pub left : Saved
  pub is : HoldsSaved held left
  pub text : List ℕ
  pub printed : IsTextOfSaved left text
  pub holds : TextHolds text left
  pub so : P text

-- The slot now holds a saved memory, with the greatest limit, of which the text is an image. If the
-- text is also an image of something that a memory has saved, both have the same durable words,
-- store, tickets and last replies.
pub record HoldsRead (text : List ℕ) (now : Option Held) : Type 0 where
  pub left : Saved
  pub is : HoldsSaved now left
  pub holds : TextHolds text left
  pub limit : saved_limit left ≡ GREATEST_LIMIT
  pub back : (d : Saved) → IsSaved d → TextHolds text d → IsReadBack d left

-- the text holds nothing that a memory has left
abbrev pub IsOfNoneSaved : List ℕ → Type 0
IsOfNoneSaved text = (d : Saved) → IsSaved d → TextHolds text d → ⊥

-- the code for the reason why nothing is read from a text
abbrev pub fault_code : ImageTextError → ℕ
fault_code OutOfMemory = NO_MEMORY
fault_code (Bad line) = NO_IMAGE
fault_code (Unlawful cell) = NO_IMAGE
fault_code (PastLimits seq) = NO_IMAGE
