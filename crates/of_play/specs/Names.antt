-- The names of the words of a plan's table. of_cell and of_mem define the index of each word in the
-- table; here the name for each index is found.
use Rattle.std.specs.Prelude.{◌≡◌, ℕ, ◌+◌, ◌-◌, ◌*◌, ◌/◌, ◌%◌, ◌<◌, ◌==◌, nat_lt, if◌then◌else◌}
use Rattle.of_cell.specs.Cells.{log_room, request_cell, data_cell, log_cell, durable_cells, durable_place, script_place, announce_place, members_place, table_words}
use Rattle.of_mem.specs.declared.work.TheConstants.{MOST_INSTRS}
use Rattle.of_mem.specs.Places.{base_of, ticket_cell_at, shape_at, reply_at, register_at, fresh_at, free_at, keys_at, few_bucket_at, head_at, tail_at, length_at, block_at}
use Rattle.of_play.specs.declared.names.CellUse.{CellUse}
use Rattle.of_play.specs.declared.names.CellUse.TheVariants.{Ticket, Shape, Reply, Register, Taken, Free, Keys, Bucket, Front, Back, Length, Block}
use Rattle.of_play.specs.declared.names.ShownCell.{ShownCell}
use Rattle.of_play.specs.declared.names.ShownCell.TheVariants.{Current, Request, Data, Log}
use Rattle.of_play.specs.declared.names.ShownWord.{ShownWord}
use Rattle.of_play.specs.declared.names.ShownWord.TheVariants.{Now, Durable, Script, Announcement, Members}

-- the address of the data cell that has this use, if there are `n` callers
abbrev pub address_of : (n : ℕ) → CellUse → ℕ
address_of n (Ticket i) = ticket_cell_at MOST_INSTRS i
address_of n (Shape i) = shape_at MOST_INSTRS i
address_of n (Reply i j) = reply_at MOST_INSTRS i j
address_of n (Register r) = register_at (base_of n MOST_INSTRS) r
address_of n Taken = fresh_at (base_of n MOST_INSTRS)
address_of n Free = free_at (base_of n MOST_INSTRS)
address_of n Keys = keys_at (base_of n MOST_INSTRS)
address_of n (Bucket b) = few_bucket_at (base_of n MOST_INSTRS) b
address_of n (Front q) = head_at (base_of n MOST_INSTRS) q
address_of n (Back q) = tail_at (base_of n MOST_INSTRS) q
address_of n (Length q) = length_at (base_of n MOST_INSTRS) q
address_of n (Block b f) = block_at (base_of n MOST_INSTRS) b f

-- the number of a cell that a trace names, if there are `n` callers and `m` data cells
abbrev pub shown_cell_number : (n m : ℕ) → ShownCell → ℕ
shown_cell_number n m Current = 0
shown_cell_number n m (Request i) = request_cell i
shown_cell_number n m (Data a) = data_cell n a
shown_cell_number n m (Log i x) = log_cell n m i x

-- the index in the table of a word that a trace names
abbrev pub shown_word_place : (n m : ℕ) → ShownWord → ℕ
shown_word_place n m (Now c) = shown_cell_number n m c
shown_word_place n m (Durable c) = durable_place n m (shown_cell_number n m c)
shown_word_place n m (Script i x) = script_place n MOST_INSTRS m i x
shown_word_place n m (Announcement i) = announce_place n MOST_INSTRS m i
shown_word_place n m Members = members_place n MOST_INSTRS m

-- what data cell `j` of the cells that belong to caller `i` holds
abbrev pub own_cell : (i j : ℕ) → CellUse
own_cell i j = if j == 0 then Ticket i else if j == 1 then Shape i else Reply i (j - 2)

-- what cell `j` of queue `q`, 0 to 2, holds
abbrev pub queue_cell : (q j : ℕ) → CellUse
queue_cell q j = if j == 0 then Front q else if j == 1 then Back q else Length q

-- what the data cell `a` of the store holds; the store's cells come after the callers' own, from
-- `o` on
abbrev pub store_cell : (o a : ℕ) → CellUse
store_cell o a =
    if nat_lt a (fresh_at o) then Register (a - o)
    else if a == fresh_at o then Taken
    else if a == free_at o then Free
    else if a == keys_at o then Keys
    else if nat_lt a (head_at o 0) then Bucket (a - few_bucket_at o 0)
    else if nat_lt a (block_at o 0 0)
    then queue_cell ((a - head_at o 0) / 3) ((a - head_at o 0) % 3)
    else Block ((a - block_at o 0 0) / 3) ((a - block_at o 0 0) % 3)

-- what the data cell with the address `a` holds, if there are `n` callers
abbrev pub cell_use_at : (n a : ℕ) → CellUse
cell_use_at n a =
    if nat_lt a (base_of n MOST_INSTRS)
    then own_cell (a / (MOST_INSTRS + 2)) (a % (MOST_INSTRS + 2))
    else store_cell (base_of n MOST_INSTRS) a

-- the cell with the number `c`, if there are `n` callers and `m` data cells
abbrev pub cell_at : (n m c : ℕ) → ShownCell
cell_at n m c =
    if c == 0 then Current
    else if nat_lt c (data_cell n 0) then Request (c - 1)
    else if nat_lt c (data_cell n m) then Data (c - data_cell n 0)
    else Log ((c - data_cell n m) / (2 * log_room n m + 1))
    ((c - data_cell n m) % (2 * log_room n m + 1))

-- word `x` of caller `i`: the script words come first, and the announcement after them
abbrev pub row_word : (i x : ℕ) → ShownWord
row_word i x = if x == MOST_INSTRS then Announcement i else Script i x

-- the word with the index `w` in the table, if there are `n` callers and `m` data cells
abbrev pub word_at_place : (n m w : ℕ) → ShownWord
word_at_place n m w =
    if nat_lt w (durable_cells n m) then Now (cell_at n m w)
    else if nat_lt w (script_place n MOST_INSTRS m 0 0)
    then Durable (cell_at n m (w - durable_cells n m))
    else if nat_lt w (members_place n MOST_INSTRS m)
    then row_word ((w - script_place n MOST_INSTRS m 0 0) / (MOST_INSTRS + 1))
    ((w - script_place n MOST_INSTRS m 0 0) % (MOST_INSTRS + 1))
    else Members

-- each data cell is named by its use: the use that `cell_use_at` finds has the cell's address
abbrev pub CellUsesAreNamed : Type 0
CellUsesAreNamed = (n a : ℕ) → address_of n (cell_use_at n a) ≡ a

-- the name that `cell_at` finds for a cell's number stands for this number
abbrev pub CellsAreNamed : Type 0
CellsAreNamed = (n m c : ℕ) → shown_cell_number n m (cell_at n m c) ≡ c

-- the name that `word_at_place` finds for the index of a word in a table stands for this index
abbrev pub WordsAreNamed : Type 0
WordsAreNamed =
    (n m w : ℕ) → w < table_words n MOST_INSTRS m → shown_word_place n m (word_at_place n m w) ≡ w
