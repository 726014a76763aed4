-- The durable words of a memory, and what is saved with other sequences.
use Rattle.std.specs.Prelude.{◌≡◌, ℕ, List, Option}
use Rattle.of_memory.specs.declared.saved.Saved.{Saved}
use Rattle.of_memory.specs.declared.words.TableSizes.{TableSizes}
use Rattle.of_memory.specs.Saving.{saved_limit, saved_seq}
use Rattle.of_memory.specs.Texts.{SavesSame}
use Rattle.of_memory.specs.Words.{AreSizesOf, WordsHold}
use Rattle.of_c.specs.declared.held.Held.{Held}
use Rattle.of_c.specs.declared.words.CSizes.{CSizes}
use Rattle.of_c.specs.Slots.{HoldsSaved}

-- C is shown the sizes of the table of a memory with this many callers and blocks
pub record ShowsSizes (callers blocks : ℕ) (shown : CSizes) : Type 0 where
  pub sizes : TableSizes
  pub are : AreSizesOf callers blocks sizes
  pub words : shown.words ≡ sizes.words
  pub first : shown.first ≡ sizes.first
  pub durable : shown.durable ≡ sizes.durable

-- what recovery finds in the words is held, with this limit
pub record HoldsWords (callers blocks limit : ℕ) (words : List ℕ) (now : Option Held) : Type 0 where
  pub left : Saved
  pub is : HoldsSaved now left
  pub holds : WordsHold callers blocks words left
  pub limit_is : saved_limit left ≡ limit

-- what is held now has the store, tickets, replies and limit that it had, and as its last committed
-- sequence 0
pub record HoldsRenumbered (before now : Option Held) : Type 0 where
  pub left : Saved
  pub was : HoldsSaved before left
  pub next : Saved
  pub is : HoldsSaved now next
  pub same : SavesSame left next
  pub seq : saved_seq next ≡ 0
  pub limit : saved_limit next ≡ saved_limit left

-- what is held now has the store, tickets, replies and sequence that it had, and this limit
pub record HoldsLimited (limit : ℕ) (before now : Option Held) : Type 0 where
  pub left : Saved
  pub was : HoldsSaved before left
  pub next : Saved
  pub is : HoldsSaved now next
  pub same : SavesSame left next
  pub seq : saved_seq next ≡ saved_seq left
  pub limit_is : saved_limit next ≡ limit
