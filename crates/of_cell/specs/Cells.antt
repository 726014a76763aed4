-- The cells of a shape and the words of its shared table, by their numbers, and the step bound of a
-- call. A shape is three numbers: how many callers there are, how many script words each caller has
-- room for, and how many data cells there are.
use Rattle.std.specs.Prelude.{ℕ, ◌+◌, ◌*◌, ◌≤◌, min}
use Rattle.of_cell.specs.declared.shape.TheConstants.{MOST_CALLERS, MOST_SCRIPT_WORDS, MOST_DATA_CELLS, FEW_DATA_CELLS, LOG_SHARE}

-- each of a shape's three numbers is in its range
pub record IsShape (callers instrs cells : ℕ) : Type 0 where
  pub some_callers : 1 ≤ callers
  pub few_callers : callers ≤ MOST_CALLERS
  pub some_instrs : 1 ≤ instrs
  pub few_instrs : instrs ≤ MOST_SCRIPT_WORDS
  pub some_cells : 1 ≤ cells
  pub few_cells : cells ≤ MOST_DATA_CELLS

-- the number of the cell that holds a caller's request; number 0 is the current-transaction word
abbrev pub request_cell : (caller : ℕ) → ℕ
request_cell caller = caller + 1

-- the cell number of the data cell with this address
abbrev pub data_cell : (callers addr : ℕ) → ℕ
data_cell callers addr = callers + 1 + addr

-- the most entries that a log has room for: one for each data cell, but at most FEW_DATA_CELLS and
-- LOG_SHARE more for each caller
unfoldable pub log_room : (callers cells : ℕ) → ℕ
log_room callers cells = min cells (FEW_DATA_CELLS + callers * LOG_SHARE)

-- the cell number of word x of a caller's log: word 0 is the number of entries, and after it come
-- the address and the value of each entry
abbrev pub log_cell : (callers cells caller x : ℕ) → ℕ
log_cell callers cells caller x =
    callers + 1 + cells + caller * (2 * log_room callers cells + 1) + x

-- the number of the cell that holds how many entries a caller's log has
abbrev pub log_count_cell : (callers cells caller : ℕ) → ℕ
log_count_cell callers cells caller = log_cell callers cells caller 0

-- the number of the cell that holds the address of an entry of a caller's log
abbrev pub log_addr_cell : (callers cells caller entry : ℕ) → ℕ
log_addr_cell callers cells caller entry = log_cell callers cells caller (2 * entry + 1)

-- the number of the cell that holds the value of an entry of a caller's log
abbrev pub log_value_cell : (callers cells caller entry : ℕ) → ℕ
log_value_cell callers cells caller entry = log_cell callers cells caller (2 * entry + 2)

-- the number of cells: the current-transaction word, a request for each caller, the data cells, and
-- a log for each caller. Each of them has a durable word.
abbrev pub durable_cells : (callers cells : ℕ) → ℕ
durable_cells callers cells = 1 + callers + cells + callers * (2 * log_room callers cells + 1)

-- The index of a cell's durable word in the shared table. The index of the cell's own word is the
-- cell's number.
abbrev pub durable_place : (callers cells cell : ℕ) → ℕ
durable_place callers cells cell = durable_cells callers cells + cell

-- the index of a caller's script word x in the shared table; the caller's announcement comes after
-- its last script word
abbrev pub script_place : (callers instrs cells caller x : ℕ) → ℕ
script_place callers instrs cells caller x =
    durable_cells callers cells + durable_cells callers cells + caller * (instrs + 1) + x

-- the index of a caller's announcement in the shared table
abbrev pub announce_place : (callers instrs cells caller : ℕ) → ℕ
announce_place callers instrs cells caller = script_place callers instrs cells caller instrs

-- the index of the members word, which says which callers take part; it is the last word of the
-- shared table
abbrev pub members_place : (callers instrs cells : ℕ) → ℕ
members_place callers instrs cells =
    durable_cells callers cells + durable_cells callers cells + callers * (instrs + 1)

-- the number of words of the shared table
abbrev pub table_words : (callers instrs cells : ℕ) → ℕ
table_words callers instrs cells = members_place callers instrs cells + 1

-- the most steps of a call: instrs + 1 of its announcement, then those of three rounds and of four
-- tries
abbrev pub step_bound : (callers instrs cells : ℕ) → ℕ
step_bound callers instrs cells =
    instrs + 1 + 3 * (15 * cells + (instrs + 1) * callers + 15) + 4 * (7 * cells + 7)
