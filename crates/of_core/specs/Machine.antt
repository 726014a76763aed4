-- One call as a machine: what it holds.
use Rattle.std.specs.Prelude.{◌≡◌, ◌⊎◌, ℕ, ◌+◌, nat_lt, List, [], ◌∷◌, ◌++◌, length, Option, Some, None, Bool, true, false, if◌then◌else◌}
use Rattle.std.proofs.Common.{get_or, set, take, drop, replicate}
use Rattle.of_cell.specs.Words.{payload_of}
use Rattle.of_mem.specs.declared.work.RawReply.{RawReply}
use Rattle.of_core.specs.declared.place.Place.{Place}
use Rattle.of_core.specs.declared.place.Place.TheVariants.{Idle, TryCurrent, StoreScript}
use Rattle.of_core.specs.declared.place.Outcome.{Outcome}
use Rattle.of_mem.specs.declared.work.TheConstants.{LEAST_ABORT}
use Rattle.of_core.specs.Table.{Setup}

-- a call as it was run, with its reply
pub record Call : Type 0 where
  pub caller : ℕ
  -- the number of the call among the calls of its caller
  pub ticket : ℕ
  -- the operation, as words
  pub op : List ℕ
  pub raw : RawReply

-- the call that stands for a place beyond the end of a list of calls
abbrev pub no_call : Call
no_call = record { caller = 0; ticket = 0; op = []; raw = record { shape = 0; values = [] } }

-- the state of a caller's machine: its open or last call, and what the machine has loaded and kept
pub record CallState : Type 0 where
  pub caller : ℕ
  -- how many calls the caller has begun, and the operation of its last call
  pub made : ℕ
  pub op : List ℕ
  pub place : Place
  -- the sequence and the owner of a transaction: the one that was last committed when the round or
  -- the try began, or the one that is applied
  pub seq : ℕ
  pub owner : ℕ
  -- what is known of each data cell of that transaction's state
  pub known : List (Option ℕ)
  -- the write-set of the calls run so far, or of the transaction that is applied
  pub log : List (ℕ × ℕ)
  -- the log words that a helper has loaded, and whether it helps
  pub copy : List ℕ
  pub helps : Bool
  -- the reply of the machine's own call, and how its last call ended
  pub raw : RawReply
  pub answer : Option Outcome
  -- the word to which the open call last raised the durable word of its caller's request; 0 if the
  -- call has not raised that durable word
  pub kept : ℕ
  -- the steps that the open call has made
  pub steps : ℕ
  -- how many rounds the call has begun, and the sequence at which its first round began
  pub rounds : ℕ
  pub first : ℕ
  -- how many tries the call has begun
  pub tries : ℕ
  -- for a scan: the caller that it has come to, this caller's announcement and script words as
  -- loaded, and the calls that the scan has run so far
  pub scan : ℕ
  pub heard : ℕ
  pub script : List ℕ
  pub calls : List Call

-- whether no call is open
abbrev pub is_idle : Place → Bool
is_idle Idle = true
is_idle p = false

-- a call is open at this place
abbrev pub IsOpen : Place → Type 0
IsOpen p = is_idle p ≡ false

-- the entry j of the write-set: a data cell, and its number
abbrev pub log_entry : CallState → ℕ → ℕ × ℕ
log_entry m j = get_or m.log j (0, 0)

-- the machine that stands for a place beyond the end of a list of machines
abbrev pub no_machine : CallState
no_machine = record {
  caller = 0;
  made = 0;
  op = [];
  place = Idle;
  seq = 0;
  owner = 0;
  known = [];
  log = [];
  copy = [];
  helps = false;
  raw = record { shape = 0; values = [] };
  answer = None;
  kept = 0;
  steps = 0;
  rounds = 0;
  first = 0;
  tries = 0;
  scan = 0;
  heard = 0;
  script = [];
  calls = [];
}

-- what is known before any load: no cell
abbrev pub no_cell_known : Setup → List (Option ℕ)
no_cell_known S = replicate S.cells None

-- a new machine of caller i, which has begun this many calls before
abbrev pub idle_machine : Setup → ℕ → (made : ℕ) → CallState
idle_machine S i made = record no_machine {
  caller = i;
  made = made;
  known = no_cell_known S;
  raw = record { shape = 0; values = replicate S.instrs 0 };
}

-- d is m, or, if m is idle, a fresh machine of the same caller with the same number of calls
abbrev pub MayReplace : Setup → (m d : CallState) → Type 0
MayReplace S m d = (d ≡ m) ⊎ ((m.place ≡ Idle) × (d ≡ idle_machine S m.caller m.made))

-- the first place of a call: if the operation only reads, a try comes first, and otherwise the
-- announcement
abbrev pub first_place : (reads : Bool) → Place
first_place true = TryCurrent
first_place false = StoreScript 0

-- a machine that keeps of m only its caller, its number of calls and the words of its operation
abbrev pub fresh_call : Setup → CallState → CallState
fresh_call S m = record (idle_machine S m.caller m.made) { op = m.op }

-- m after it has begun a call of this operation: of its earlier calls it keeps only their number
abbrev pub begin_call : Setup → CallState → List ℕ → CallState
begin_call S m op = record (idle_machine S m.caller m.made) {
  made = m.made + 1;
  op = op;
  place = first_place (S.meaning.reads_only op);
}

-- the cell and the number of each entry, one entry after the other
abbrev pub flat_entries : List (ℕ × ℕ) → List ℕ
flat_entries [] = []
flat_entries (e ∷ es) = e.0 ∷ e.1 ∷ flat_entries es

-- the words of a log: the number of its entries, and then the cell and the number of each entry
abbrev pub log_words : List (ℕ × ℕ) → List ℕ
log_words es = length es ∷ flat_entries es

-- the entries that the words stand for: of each two words the first is a cell, and the second its
-- number
abbrev pub entries_of_words : List ℕ → List (ℕ × ℕ)
entries_of_words [] = []
entries_of_words (a ∷ []) = []
entries_of_words (a ∷ v ∷ ws) = (a, v) ∷ entries_of_words ws

-- the entries of the log with these words; the first word, which is the number of entries, is left
-- out
abbrev pub log_of : List ℕ → List (ℕ × ℕ)
log_of [] = []
log_of (n ∷ ws) = entries_of_words ws

-- all entries of the log in a circle: first entry f and those after it, then the entries before f
abbrev pub entries_going_round : ℕ → List (ℕ × ℕ) → List (ℕ × ℕ)
entries_going_round f es = drop f es ++ take f es

-- what is known of the cells after the word `found` was loaded from the data cell a
abbrev pub with_cell_known : Setup → CallState → (a found : ℕ) → List (Option ℕ)
with_cell_known S m a found = set m.known a (Some (payload_of found))

-- entries that give these numbers to the cells from a on
abbrev pub cells_from : ℕ → List ℕ → List (ℕ × ℕ)
cells_from a [] = []
cells_from a (v ∷ vs) = (a, v) ∷ cells_from (a + 1) vs

-- entries for the reply cells of the caller whose ticket cell is `row`: the first `count` numbers
-- of the reply, or none if its shape is that of an abort
abbrev pub reply_cell_pairs : (row count : ℕ) → RawReply → List (ℕ × ℕ)
reply_cell_pairs row count r =
    if nat_lt r.shape LEAST_ABORT then cells_from (row + 2) (take count r.values) else []

-- what a call of `count` words writes into the own cells of its caller, whose ticket cell is `row`:
-- the reply, and then the shape and the ticket
abbrev pub own_cells : (row ticket count : ℕ) → RawReply → List (ℕ × ℕ)
own_cells row ticket count r =
    reply_cell_pairs row count r ++ (row + 1, r.shape) ∷ (row, ticket) ∷ []
