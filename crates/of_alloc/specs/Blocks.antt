-- Which blocks are free and which are out, and what changes if a block is taken or given back.
use Rattle.std.specs.Prelude.{◌≡◌, ◌≢◌, ℕ, ◌<◌, ◌≤◌, ◌↔◌, List, [], ◌∷◌, length, Option, Some, None, Result, IfOk}
use Rattle.std.specs.List.{AllByRecursion as Each}
use Rattle.of_mem.specs.declared.part.Need.{Need}
use Rattle.of_mem.specs.declared.plot.Plot.{Plot}
use Rattle.of_mem.specs.Plots.{base, data_cell_count}
use Rattle.of_mem.specs.Places.{fresh_at, free_at}
use Rattle.of_mem.specs.Part.{Part}
use Rattle.of_mem.specs.Programs.{IsPartOf, with_writes}
use Rattle.of_mem.specs.Stores.{IsChain, link_at}

-- in the memory m, the free list consists of the blocks `free`, in order, each of which was taken
-- at least once
pub record IsFreeList (o blocks : ℕ) (m : ℕ → ℕ) (free : List ℕ) : Type 0 where
  pub linked : IsChain o m (free_at o) free
  pub below : Each (λ b. b < m (fresh_at o)) free
  pub few : m (fresh_at o) ≤ blocks

-- block b is out: it was taken at least once, and it is not in the free list now
abbrev pub IsOut : ℕ → (ℕ → ℕ) → List ℕ → ℕ → Type 0
IsOut o m free b = (b < m (fresh_at o)) × Each (λ x. x ≢ b) free

-- From memory m to memory n, block b was taken: it was not out before, and now it is. No other
-- block was taken or given back.
pub record IsBlockTaken (o blocks : ℕ) (m : ℕ → ℕ) (free : List ℕ) (b : ℕ) (n : ℕ → ℕ)
    : Type 0 where
  pub left : List ℕ
  pub list : IsFreeList o blocks n left
  pub was_in : IsOut o m free b → ⊥
  pub goes_out : IsOut o n left b
  pub others : (x : ℕ) → x ≢ b → IsOut o m free x ↔ IsOut o n left x
  -- only two cells changed: the pointer to the free list, and the count of blocks that were taken
  -- at least once
  pub cells : (a : ℕ) → a ≢ free_at o → a ≢ fresh_at o → n a ≡ m a

-- The answer of taking a block, and the memory n after it. None says that all blocks are out, and
-- no cell changed. `Some b` says that block b was taken.
abbrev pub TakesBlock : ℕ → ℕ → (ℕ → ℕ) → List ℕ → Option ℕ → (ℕ → ℕ) → Type 0
TakesBlock o blocks m free None n = (free ≡ []) × (m (fresh_at o) ≡ blocks) × (n ≡ m)
TakesBlock o blocks m free (Some b) n = IsBlockTaken o blocks m free b n

-- from memory m to memory n, block b was given back: it is now the first block of the free list,
-- and no other block was taken or given back
pub record IsGiven (o blocks : ℕ) (m : ℕ → ℕ) (free : List ℕ) (b : ℕ) (n : ℕ → ℕ) : Type 0 where
  pub list : IsFreeList o blocks n (b ∷ free)
  pub others : (x : ℕ) → x ≢ b → IsOut o m free x ↔ IsOut o n (b ∷ free) x
  -- only two cells changed: the block's link, and the pointer to the free list
  pub cells : (a : ℕ) → a ≢ link_at o b → a ≢ free_at o → n a ≡ m a

-- the partial memory has as many cells as the plot, and agrees with some memory that has a free
-- list
pub record HasFreeList (plot : Plot) (p : Part) : Type 0 where
  pub fits : length p.known ≡ data_cell_count plot
  pub memory : ℕ → ℕ
  pub free : List ℕ
  pub part : IsPartOf p memory
  pub list : IsFreeList (base plot) plot.blocks memory free

-- the partial memory has as many cells as the plot, and agrees with some memory that has a free
-- list and in which block b is out
pub record HasOut (plot : Plot) (p : Part) (b : ℕ) : Type 0 where
  pub fits : length p.known ≡ data_cell_count plot
  pub memory : ℕ → ℕ
  pub free : List ℕ
  pub part : IsPartOf p memory
  pub list : IsFreeList (base plot) plot.blocks memory free
  pub out : IsOut (base plot) memory free b

-- Block r was taken, or none, in the memory m with this free list. The memory afterwards is m with
-- the script's writes.
pub record TakesFromList (plot : Plot) (m : ℕ → ℕ) (free : List ℕ) (r : Option ℕ) (after : Part)
    : Type 0 where
  pub part : IsPartOf after (with_writes m after.script)
  pub takes : TakesBlock (base plot) plot.blocks m free r (with_writes m after.script)

-- If the call answered, it took a block, or none, as `TakesFromList` says, for every memory that
-- agrees with `before` and every free list of this memory. If the call took no block, it changed
-- nothing.
pub record TakesFromMemory (plot : Plot) (before after : Part) (result : Result (Option ℕ) Need)
    : Type 0 where
  pub takes : IfOk result (λ r. (m : ℕ → ℕ) (free : List ℕ)
      → IsPartOf before m → IsFreeList (base plot) plot.blocks m free
      → TakesFromList plot m free r after)
  pub none : IfOk result (λ r. r ≡ None → after ≡ before)

-- Block b was given back in the memory m with this free list. The memory afterwards is m with the
-- script's writes.
pub record GivesToList (plot : Plot) (m : ℕ → ℕ) (free : List ℕ) (b : ℕ) (after : Part)
    : Type 0 where
  pub part : IsPartOf after (with_writes m after.script)
  pub given : IsGiven (base plot) plot.blocks m free b (with_writes m after.script)

-- If the call answered, it put block b in front of the free list, for every memory that agrees with
-- `before` and in which block b is out.
abbrev pub GivesToMemory : Plot → Part → Part → ℕ → Result (Unit {0}) Need → Type 0
GivesToMemory plot before after b result =
    IfOk result (λ r. (m : ℕ → ℕ) (free : List ℕ)
    → IsPartOf before m → IsFreeList (base plot) plot.blocks m free → IsOut (base plot) m free b
    → GivesToList plot m free b after)
