-- The words of the shared table: the index of each, and its name.
use Rattle.std.specs.Prelude.{ℕ, List, [], ◌∷◌, ◌++◌, ◌%◌}
use Rattle.std.proofs.Common.{get_or, zero, suc}
use Rattle.of_cell.specs.declared.shape.Shape.{Shape}
use Rattle.of_cell.specs.Words.{seq_of, payload_of}
use Rattle.of_cell.specs.Cells.{log_room, request_cell, data_cell, log_cell, durable_cells, durable_place, script_place, members_place}
use Rattle.of_recover.specs.Row.{current_seq}
use Rattle.of_mem.specs.Meaning.{Meaning}
use Rattle.of_mem.specs.Places.{ticket_cell_at, shape_at, reply_at, base_of}
use Rattle.of_mem.specs.declared.work.TheConstants.{MOST_INSTRS}

-- what all machines of a table have in common
pub record Setup : Type 0 where
  pub callers : ℕ
  -- the most words of an operation
  pub instrs : ℕ
  pub cells : ℕ
  -- the last sequence that may be committed
  pub limit : ℕ
  -- for helper i and a log of n entries, the entry at which the helper begins to apply
  pub begins : ℕ → ℕ → ℕ
  -- what operations do
  pub meaning : Meaning

-- the setup of a table of these sizes; helper i begins to apply a log of n entries at entry i mod n
abbrev pub setup_of : (callers cells limit : ℕ) → Meaning → Setup
setup_of n m l meaning = record {
  callers = n;
  instrs = MOST_INSTRS;
  cells = m;
  limit = l;
  begins = λ i n. i % n;
  meaning = meaning;
}

-- the setup of a table of this shape
abbrev pub setup_on : Shape → (limit : ℕ) → Meaning → Setup
setup_on shape limit meaning = setup_of shape.callers shape.cells limit meaning

-- Cells. Cell 0 is the current-transaction word. After it come each caller's request, the data
-- cells, and each caller's log words.
abbrev pub request_at : ℕ → ℕ
request_at i = request_cell i

-- the cell of the table that is data cell a
abbrev pub data_at : Setup → ℕ → ℕ
data_at S a = data_cell S.callers a

-- the cell of the table that is word x of caller i's log
abbrev pub log_at : Setup → ℕ → ℕ → ℕ
log_at S i x = log_cell S.callers S.cells i x

-- the most entries of a log
abbrev pub most_entries : Setup → ℕ
most_entries S = log_room S.callers S.cells

-- how many cells there are
abbrev pub cell_count : Setup → ℕ
cell_count S = durable_cells S.callers S.cells

-- the place of the durable word of cell c: durable words come after all cells
abbrev pub durable_at : Setup → ℕ → ℕ
durable_at S c = durable_place S.callers S.cells c

-- the place of script word x of caller i: script words come after the durable words, and each
-- caller's announcement comes after its script words
abbrev pub script_word_at : Setup → ℕ → ℕ → ℕ
script_word_at S i x = script_place S.callers S.instrs S.cells i x

-- how many words a table has before the word for its members
abbrev pub words_before_members : Setup → ℕ
words_before_members S = members_place S.callers S.instrs S.cells

-- Data cells. Each caller's own cells come first: the ticket of its last announced call that was
-- run, and the shape and the numbers of that call's reply.
abbrev pub ticket_cell : Setup → ℕ → ℕ
ticket_cell S i = ticket_cell_at S.instrs i

-- the data cell with the shape of the reply of caller i's last announced call that was run
abbrev pub shape_cell : Setup → ℕ → ℕ
shape_cell S i = shape_at S.instrs i

-- the data cell with number j of the reply of caller i's last announced call that was run
abbrev pub reply_cell : Setup → ℕ → ℕ → ℕ
reply_cell S i j = reply_at S.instrs i j

-- the place in the table of caller i's ticket cell
abbrev pub ticket_word_at : Setup → ℕ → ℕ
ticket_word_at S i = data_at S (ticket_cell S i)

-- the place in the table of caller i's shape cell
abbrev pub shape_word_at : Setup → ℕ → ℕ
shape_word_at S i = data_at S (shape_cell S i)

-- the place in the table of caller i's cell for number j of a reply
abbrev pub reply_word_at : Setup → ℕ → ℕ → ℕ
reply_word_at S i j = data_at S (reply_cell S i j)

-- the first data cell that is no caller's own: from here on cells belong to the operations
abbrev pub first_operation_cell : Setup → ℕ
first_operation_cell S = base_of S.callers S.instrs

-- the current-transaction word, if the words of the table are ws
abbrev pub current_word : List ℕ → ℕ
current_word ws = get_or ws 0 0

-- the request of caller i, if the words of the table are ws
abbrev pub request_of : List ℕ → ℕ → ℕ
request_of ws i = get_or ws (request_at i) 0

-- the word of data cell a, if the words of the table are ws
abbrev pub data_word : Setup → List ℕ → ℕ → ℕ
data_word S ws a = get_or ws (data_at S a) 0

-- word x of caller i's log, if the words of the table are ws
abbrev pub log_word_of : Setup → List ℕ → ℕ → ℕ → ℕ
log_word_of S ws i x = get_or ws (log_at S i x) 0

-- the durable word of cell c, if the words of the table are ws
abbrev pub durable_word : Setup → List ℕ → ℕ → ℕ
durable_word S ws c = get_or ws (durable_at S c) 0

-- the durable word of caller i's request, if the words of the table are ws
abbrev pub durable_request : Setup → List ℕ → ℕ → ℕ
durable_request S ws i = get_or ws (durable_at S (request_at i)) 0

-- the durable word of data cell a, if the words of the table are ws
abbrev pub durable_cell : Setup → List ℕ → ℕ → ℕ
durable_cell S ws a = get_or ws (durable_at S (data_at S a)) 0

-- the durable word of word x of caller i's log, if the words of the table are ws
abbrev pub durable_log : Setup → List ℕ → ℕ → ℕ → ℕ
durable_log S ws i x = get_or ws (durable_at S (log_at S i x)) 0

-- script word x of caller i, if the words of the table are ws
abbrev pub script_word : Setup → List ℕ → ℕ → ℕ → ℕ
script_word S ws i x = get_or ws (script_word_at S i x) 0

-- caller i's announcement, if the words of the table are ws
abbrev pub announcement_of : Setup → List ℕ → ℕ → ℕ
announcement_of S ws i = get_or ws (script_word_at S i S.instrs) 0

-- the first n script words of caller i
abbrev pub script_words_of : Setup → List ℕ → ℕ → ℕ → List ℕ
script_words_of S ws i zero = []
script_words_of S ws i (suc n) = script_words_of S ws i n ++ script_word S ws i n ∷ []

-- the last committed sequence, by the current-transaction word
abbrev pub committed_seq : List ℕ → ℕ
committed_seq ws = seq_of (current_word ws)

-- the owner of the last committed transaction, by the current-transaction word
abbrev pub committed_owner : List ℕ → ℕ
committed_owner ws = payload_of (current_word ws)

-- the durable sequence: that of the durable current-transaction word, the last one that a crash
-- keeps
abbrev pub durable_seq : Setup → List ℕ → ℕ
durable_seq S ws = current_seq (durable_word S ws)
