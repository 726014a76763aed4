-- The last reply of a number, looked up on a row while others make steps.
use Rattle.std.specs.Prelude.{◌≡◌, ◌≢◌, ◌<◌, ◌⊎◌, ℕ, List, length}
use Rattle.std.proofs.Common.{get_or}
use mathlib.Core.List.{IsPrefix}
use Rattle.atomic_table.specs.Table.{State}
use Rattle.of_cell.specs.Words.{pack, payload_of}
use Rattle.of_recover.specs.Recovered.{recovered_data}
use Rattle.of_mem.specs.Meaning.{Meaning}
use Rattle.of_mem.specs.declared.work.RawReply.{RawReply}
use Rattle.of_mem.specs.declared.work.TheConstants.{MOST_INSTRS}
use Rattle.of_core.specs.Table.{Setup, ticket_cell, shape_cell, reply_cell, current_word, request_of, data_word, durable_word, committed_seq, committed_owner}
use Rattle.of_core.specs.TableMoment.{TableStart}
use Rattle.of_core.specs.Events.{Event}
use Rattle.of_core.specs.Starts.{IsDurable}
use Rattle.of_row.specs.declared.row.Row.{Row}
use Rattle.of_row.specs.Views.{View}
use Rattle.of_row.specs.Trail.{moment}
use Rattle.of_row.specs.Rule.{MeetsRule}
use Rattle.of_row.specs.Rows.{key_of, setup_at, row_start}

-- no transaction is open, by the table's words: the request of the last transaction's owner is past
-- the word that opens this transaction, and the transaction's sequence is durable
pub record IsAtRest (S : Setup) (ws : List ℕ) : Type 0 where
  pub closed : (committed_seq ws ≡ 0)
      ⊎ (pack (committed_seq ws) 0 < request_of ws (committed_owner ws))
  pub durable : durable_word S ws 0 ≡ current_word ws

-- caller i's own cells hold this ticket and this reply
pub record AreOwnCells (S : Setup) (ws : List ℕ) (i ticket : ℕ) (raw : RawReply) : Type 0 where
  pub ticket_is : ticket ≡ payload_of (data_word S ws (ticket_cell S i))
  pub shape : raw.shape ≡ payload_of (data_word S ws (shape_cell S i))
  pub long : length raw.values ≡ MOST_INSTRS
  pub numbers : (y : ℕ) → y < MOST_INSTRS
      → get_or raw.values y 0 ≡ payload_of (data_word S ws (reply_cell S i y))

-- recovery of the durable words would find each data cell as it is
abbrev pub RecoversAsItIs : Setup → List ℕ → Type 0
RecoversAsItIs S ws =
    (a : ℕ) → a < S.cells
    → recovered_data S.callers S.cells (durable_word S ws) a ≡ data_word S ws a

-- At the moment to which the past of the view w leads, no transaction is open, and caller i's own
-- cells hold this ticket and this reply. Recovery of the durable words of this moment would find
-- the same. The row was in `state` then, and its durable words are `words`.
pub record FindsLast (S : Setup) (Lawful : List ℕ → Type 0) (B : TableStart) (w : View)
    (i ticket : ℕ) (raw : RawReply) : Type 0 where
  pub state : State (Unit {0}) View
  pub rule : MeetsRule S Lawful B state
  pub now : rule.events ≡ w.past
  pub words : List ℕ
  pub durable : IsDurable S state.words words
  pub rest : IsAtRest S (moment S B w.past).words
  pub cells : AreOwnCells S (moment S B w.past).words i ticket raw
  pub recovers : RecoversAsItIs S (moment S B w.past).words

-- between two moments, which come after the events that v knew, and no later than those that w
-- knows, a transaction was open at the second one, or one was committed
abbrev pub WasNotStill : Setup → TableStart → (v w : View) → Type 0
WasNotStill S B v w =
    (es ds : List Event) × IsPrefix v.past es × IsPrefix es ds × IsPrefix ds w.past
    × ((IsAtRest S (moment S B ds).words → ⊥)
    ⊎ (current_word (moment S B es).words ≢ current_word (moment S B ds).words))

-- if no transaction was committed between the moments that v and w know, none is open at the second
-- one
abbrev pub IsShownAtRest : Setup → TableStart → (v w : View) → Type 0
IsShownAtRest S B v w =
    current_word (moment S B w.past).words ≡ current_word (moment S B v.past).words
    → IsAtRest S (moment S B w.past).words

-- no transaction was open at the moment that v knows, and none was committed up to the one that w
-- knows
abbrev pub StayedAtRest : Setup → TableStart → (v w : View) → Type 0
StayedAtRest S B v w =
    IsAtRest S (moment S B v.past).words
    × (current_word (moment S B w.past).words ≡ current_word (moment S B v.past).words)

-- the first numbers of caller i's reply are these
abbrev pub AreFirstNumbers : Setup → List ℕ → (i count : ℕ) → List ℕ → Type 0
AreFirstNumbers S ws i count values =
    (y : ℕ) → y < count → get_or values y 0 ≡ payload_of (data_word S ws (reply_cell S i y))

-- the same on a row
abbrev pub FindsLastAt : {W : Type 0} → (W → Meaning) → (W → List ℕ → Type 0) → Row W → View
    → (i ticket : ℕ) → RawReply → Type 0
FindsLastAt meaning lawful r w i ticket raw =
    FindsLast (setup_at meaning r) (lawful (key_of r).work) (row_start meaning r) w i ticket raw

abbrev pub StaysAtRest : {W : Type 0} → (W → Meaning) → Row W → (v w : View) → Type 0
StaysAtRest meaning r v w = StayedAtRest (setup_at meaning r) (row_start meaning r) v w
