-- Which cells the allocator reads and writes, and in which order, when it takes a block and when it
-- gets one back.
use Rattle.std.specs.Prelude.{ℕ, zero, suc, ◌+◌, Bool, true, false, ltb, Option, Some, None}
use Rattle.of_mem.specs.declared.plot.Plot.{Plot}
use Rattle.of_mem.specs.Plots.{base}
use Rattle.of_mem.specs.Places.{fresh_at, free_at}
use Rattle.of_mem.specs.Programs.{Program, Done, Read, Write}
use Rattle.of_mem.specs.Stores.{link_at}

-- the program takes block n, the first one that was never taken, if the flag says that there is
-- such a block
abbrev pub take_fresh : ℕ → ℕ → Bool → Program (Option ℕ)
take_fresh o n true = Write (fresh_at o) (n + 1) (Done (Some n))
take_fresh o n false = Done None

abbrev pub with_fresh : ℕ → ℕ → ℕ → Program (Option ℕ)
with_fresh o blocks n = take_fresh o n (ltb n blocks)

abbrev pub with_free_link : ℕ → ℕ → ℕ → Program (Option ℕ)
with_free_link o b link = Write (free_at o) link (Done (Some b))

-- the program takes a block: the first of the free list, to which the pointer leads that was read;
-- or if the list is empty, one that was never taken
abbrev pub with_free : ℕ → ℕ → ℕ → Program (Option ℕ)
with_free o blocks zero = Read (fresh_at o) (with_fresh o blocks)
with_free o blocks (suc b) = Read (link_at o b) (with_free_link o b)

abbrev pub take_program : ℕ → ℕ → Program (Option ℕ)
take_program o blocks = Read (free_at o) (with_free o blocks)

abbrev pub give_program : ℕ → ℕ → Program (Unit {0})
give_program o b =
    Read (free_at o) (λ front. Write (link_at o b) front (Write (free_at o) (b + 1) (Done tt)))

-- The programs of `take` and `give` on the cells of a plot.

abbrev pub take : Plot → Program (Option ℕ)
take plot = take_program (base plot) plot.blocks

abbrev pub give : Plot → ℕ → Program (Unit {0})
give plot b = give_program (base plot) b
