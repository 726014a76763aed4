-- Texts of what is saved, and when two `Saved` hold the same, maybe with other sequences.
use Rattle.std.specs.Prelude.{◌≡◌, ℕ, ◌<◌, List}
use Rattle.of_cell.specs.declared.word.TheConstants.{GREATEST_LIMIT}
use Rattle.of_plan.specs.BadLine.{HasBadLine}
use Rattle.of_store.specs.Store.{Store, Reply}
use Rattle.of_report.specs.ImageRow.{DurableRow}
use Rattle.of_report.specs.Image.{Image, image_ticket}
use Rattle.of_image.specs.declared.version.Version.TheVariants.{Two}
use Rattle.of_image.specs.Grammar.{table_grammar}
use Rattle.of_image.specs.ImageText.{image_text, IsTextIn}
use Rattle.of_image.specs.Parsed.{ReadsIn, IsUnlawfulIn}
use Rattle.of_cells.specs.Saving as generic
use Rattle.of_cells.specs.Saving.{saved_words}
use Rattle.of_memory.specs.declared.saved.Saved.{Saved}
use Rattle.of_memory.specs.declared.error.ImageTextError.{ImageTextError}
use Rattle.of_memory.specs.declared.error.ImageTextError.TheVariants.{OutOfMemory, Bad, Unlawful, PastLimits}
use Rattle.of_memory.specs.Saving.{SavedHolds, HoldsReply, saved_scripts, saved_seq, saved_callers, saved_ticket}

-- the durable words of what is saved, with its numbers of callers and blocks
abbrev pub saved_row : Saved → DurableRow
saved_row d = record {
  callers = (saved_scripts d).callers;
  blocks = (saved_scripts d).blocks;
  words = saved_words d.cells;
}

-- the text is the one that is printed for what is saved
abbrev pub IsTextOfSaved : Saved → List ℕ → Type 0
IsTextOfSaved d text = text ≡ image_text Two (saved_row d)

-- the image has the words, the sequence, the store and the callers' tickets of what is saved
pub record IsImageOfSaved (i : Image) (d : Saved) : Type 0 where
  pub row : i.row ≡ saved_row d
  pub seq : i.seq ≡ saved_seq d
  pub store : SavedHolds d i.store
  pub tickets : (n : ℕ) → n < saved_callers d → image_ticket i n ≡ saved_ticket d n

-- the text is read, within the limits of a table, as an image of what is saved
abbrev pub TextHolds : List ℕ → Saved → Type 0
TextHolds text d = (i : Image) × ReadsIn table_grammar text i × IsImageOfSaved i d

-- `now` has the store, and the ticket and the last reply of each caller, that `before` has
pub record SavesSame (before now : Saved) : Type 0 where
  pub callers : saved_callers now ≡ saved_callers before
  pub store : (s : Store) → SavedHolds before s → SavedHolds now s
  pub tickets : (n : ℕ) → saved_ticket now n ≡ saved_ticket before n
  pub replies : (n : ℕ) (r : Reply) → HoldsReply before n r → HoldsReply now n r

-- the limit is out of its range, or below the last sequence that was committed in what is saved
abbrev pub IsNoLimitOf : Saved → (limit : ℕ) → Type 0
IsNoLimitOf d limit = generic.IsNoLimitOf d.cells limit

-- `now` has the durable words that `before` has, and the same store, tickets and replies
pub record IsReadBack (before now : Saved) : Type 0 where
  pub row : saved_row now ≡ saved_row before
  pub same : SavesSame before now

-- the error names the sequence of the image, which is above all limits
pub record IsPastAll (i : Image) (e : ImageTextError) : Type 0 where
  pub is : e ≡ PastLimits i.seq
  pub past : GREATEST_LIMIT < i.seq

-- the text is read as an image with this sequence, which is above all limits
pub record IsPastLimits (text : List ℕ) (seq : ℕ) : Type 0 where
  pub image : Image
  pub reads : ReadsIn table_grammar text image
  pub seq_is : image.seq ≡ seq
  pub past : GREATEST_LIMIT < seq

-- why nothing that is saved is read from this text
abbrev pub IsTextCause : List ℕ → ImageTextError → Type 0
IsTextCause text OutOfMemory = Unit {0}
IsTextCause text (Bad line) = HasBadLine (IsTextIn table_grammar) text line
IsTextCause text (Unlawful cell) = IsUnlawfulIn table_grammar text cell
IsTextCause text (PastLimits seq) = IsPastLimits text seq
