-- The address of each data cell, by what the cell is for. `o` is the address of the first cell
-- after the callers' own cells.
use Rattle.std.specs.Prelude.{ℕ, ◌+◌, ◌-◌, ◌*◌, ◌/◌, if◌then◌else◌, nat_le}
use Rattle.of_mem.specs.declared.plot.TheConstants.{FEW_BLOCKS, BUCKETS, FRESH, FREE, KEYS, FIRST_BUCKET, FIRST_QUEUE, FIRST_BLOCK}

-- the address of the first cell after the callers' own cells: a caller has a ticket, a shape and
-- `instrs` numbers
abbrev pub base_of : ℕ → ℕ → ℕ
base_of callers instrs = callers * (instrs + 2)

abbrev pub ticket_cell_at : ℕ → ℕ → ℕ
ticket_cell_at instrs caller = caller * (instrs + 2)

abbrev pub shape_at : ℕ → ℕ → ℕ
shape_at instrs caller = ticket_cell_at instrs caller + 1

abbrev pub reply_at : ℕ → ℕ → ℕ → ℕ
reply_at instrs caller place = ticket_cell_at instrs caller + 2 + place

abbrev pub register_at : ℕ → ℕ → ℕ
register_at o r = o + r

abbrev pub fresh_at : ℕ → ℕ
fresh_at o = o + FRESH

abbrev pub free_at : ℕ → ℕ
free_at o = o + FREE

abbrev pub keys_at : ℕ → ℕ
keys_at o = o + KEYS

-- How many buckets the keys of a store with this many blocks are spread over: BUCKETS with at most
-- FEW_BLOCKS blocks, otherwise an odd number, about one for each block.
unfoldable pub bucket_count : (blocks : ℕ) → ℕ
bucket_count blocks =
    if nat_le blocks FEW_BLOCKS then BUCKETS
    else (BUCKETS + (blocks - FEW_BLOCKS)) / 2 * 2 + 1

-- How many cells after `o` the first bucket is. With more than FEW_BLOCKS blocks, the buckets come
-- after all other cells.
unfoldable pub first_bucket : (blocks : ℕ) → ℕ
first_bucket blocks =
    if nat_le blocks FEW_BLOCKS then FIRST_BUCKET else FIRST_BLOCK + 3 * blocks

-- how many buckets come after the blocks: none with at most FEW_BLOCKS blocks, otherwise all of
-- them
unfoldable pub buckets_behind : (blocks : ℕ) → ℕ
buckets_behind blocks = if nat_le blocks FEW_BLOCKS then 0 else bucket_count blocks

abbrev pub bucket_at : (o blocks b : ℕ) → ℕ
bucket_at o blocks b = o + first_bucket blocks + b

-- the address of bucket b in a store with at most FEW_BLOCKS blocks
abbrev pub few_bucket_at : (o b : ℕ) → ℕ
few_bucket_at o b = o + FIRST_BUCKET + b

abbrev pub head_at : ℕ → ℕ → ℕ
head_at o q = o + FIRST_QUEUE + 3 * q

abbrev pub tail_at : ℕ → ℕ → ℕ
tail_at o q = o + (FIRST_QUEUE + 1) + 3 * q

abbrev pub length_at : ℕ → ℕ → ℕ
length_at o q = o + (FIRST_QUEUE + 2) + 3 * q

abbrev pub block_at : ℕ → ℕ → ℕ → ℕ
block_at o b field = o + FIRST_BLOCK + 3 * b + field

abbrev pub cells_at : ℕ → ℕ → ℕ
cells_at o blocks = o + FIRST_BLOCK + 3 * blocks + buckets_behind blocks
