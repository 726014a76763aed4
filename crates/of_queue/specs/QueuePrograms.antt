-- Which cells the calls of a queue read and write, and in which order.
use Rattle.std.specs.Prelude.{ℕ, zero, suc, ◌+◌, ◌-◌, Bool, true, false, Option, Some, None}
use Rattle.of_mem.specs.declared.plot.Plot.{Plot}
use Rattle.of_mem.specs.Plots.{base}
use Rattle.of_mem.specs.Places.{head_at, tail_at, length_at}
use Rattle.of_mem.specs.Stores.{first_at, link_at}
use Rattle.of_mem.specs.Programs.{Program, Done, Read, Write, then_do}
use Rattle.of_alloc.specs.BlockPrograms.{take_program, give_program}

-- Pushing an item onto the end of a queue. The answer is whether there was a block for it.

abbrev pub count_up : ℕ → ℕ → ℕ → Program Bool
count_up o q n = Write (length_at o q) (n + 1) (Done true)

abbrev pub new_tail : ℕ → ℕ → ℕ → Program Bool
new_tail o q b = Write (tail_at o q) (b + 1) (Read (length_at o q) (count_up o q))

-- the cell that will point to a new last block: the link of the last block, to which the tail's
-- pointer leads, or the head if the queue is empty
abbrev pub last_cell : ℕ → ℕ → ℕ → ℕ
last_cell o q zero = head_at o q
last_cell o q (suc t) = link_at o t

abbrev pub with_tail : ℕ → ℕ → ℕ → ℕ → Program Bool
with_tail o q b tail = Write (last_cell o q tail) (b + 1) (new_tail o q b)

abbrev pub push_new : ℕ → ℕ → ℕ → Option ℕ → Program Bool
push_new o q v None = Done false
push_new o q v (Some b) =
    Write (first_at o b) v (Write (link_at o b) 0 (Read (tail_at o q) (with_tail o q b)))

abbrev pub push_program : ℕ → ℕ → ℕ → ℕ → Program Bool
push_program o blocks q v = then_do (take_program o blocks) (push_new o q v)

-- Popping the front item.

abbrev pub count_down_program : ℕ → ℕ → ℕ → ℕ → Program (Option ℕ)
count_down_program o q v n = Write (length_at o q) (n - 1) (Done (Some v))

abbrev pub item_after_give : ℕ → ℕ → ℕ → Unit {0} → Program (Option ℕ)
item_after_give o q v u = Read (length_at o q) (count_down_program o q v)

-- the program gives the block back, takes 1 off the count of items, and answers the item v
abbrev pub give_item_block : ℕ → ℕ → ℕ → ℕ → Program (Option ℕ)
give_item_block o q b v = then_do (give_program o b) (item_after_give o q v)

-- the program goes on with the link of the block that leaves the queue: if the link is 0, no block
-- is left in the queue, and its tail becomes 0 too
abbrev pub new_end : ℕ → ℕ → ℕ → ℕ → ℕ → Program (Option ℕ)
new_end o q b v zero = Write (tail_at o q) 0 (give_item_block o q b v)
new_end o q b v (suc t) = give_item_block o q b v

abbrev pub with_head_link : ℕ → ℕ → ℕ → ℕ → ℕ → Program (Option ℕ)
with_head_link o q b v link = Write (head_at o q) link (new_end o q b v link)

abbrev pub with_first : ℕ → ℕ → ℕ → ℕ → Program (Option ℕ)
with_first o q b v = Read (link_at o b) (with_head_link o q b v)

abbrev pub front_program : ℕ → ℕ → ℕ → Program (Option ℕ)
front_program o q b = Read (first_at o b) (with_first o q b)

-- the program goes on with the pointer in the head of the queue: if the pointer is 0, the queue is
-- empty
abbrev pub with_head : ℕ → ℕ → ℕ → Program (Option ℕ)
with_head o q zero = Done None
with_head o q (suc b) = front_program o q b

abbrev pub pop_program : ℕ → ℕ → Program (Option ℕ)
pop_program o q = Read (head_at o q) (with_head o q)

-- Counting the items.

abbrev pub len_program : ℕ → ℕ → Program ℕ
len_program o q = Read (length_at o q) Done

-- The programs of the calls, and of their parts, on the cells of a plot.

abbrev pub push : Plot → ℕ → ℕ → Program Bool
push plot q v = push_program (base plot) plot.blocks q v

abbrev pub append : Plot → ℕ → ℕ → ℕ → Program Bool
append plot q v b = push_new (base plot) q v (Some b)

abbrev pub pop : Plot → ℕ → Program (Option ℕ)
pop plot q = pop_program (base plot) q

abbrev pub pop_front : Plot → ℕ → ℕ → Program (Option ℕ)
pop_front plot q b = front_program (base plot) q b

abbrev pub close : Plot → ℕ → ℕ → ℕ → ℕ → Program (Option ℕ)
close plot q b v link = new_end (base plot) q b v link

abbrev pub give_item_back : Plot → ℕ → ℕ → ℕ → Program (Option ℕ)
give_item_back plot q b v = give_item_block (base plot) q b v

abbrev pub count_item_down : Plot → ℕ → ℕ → Program (Option ℕ)
count_item_down plot q v = item_after_give (base plot) q v tt

abbrev pub len : Plot → ℕ → Program ℕ
len plot q = len_program (base plot) q
