-- How far the walk through the chains came. Its owners table says which blocks were met and in
-- which chain; its store has what these blocks hold.
use Rattle.std.specs.Prelude.{◌≡◌, ◌≢◌, ◌⊎◌, ℕ, ◌+◌, ◌%◌, ◌<◌, ◌≤◌, cond, eqb, Option, Some, None, List, [], ◌∷◌, length, map}
use Rattle.std.specs.FinMap as fin
use Rattle.std.proofs.Common.{get_or, set}
use Rattle.of_mem.specs.declared.plot.Plot.{Plot}
use Rattle.of_mem.specs.Places.{bucket_count, register_at, fresh_at}
use Rattle.of_mem.specs.Plots.{base}
use Rattle.of_mem.specs.ProgramWork.{memory_of}
use Rattle.of_mem.specs.Stores.{out_chain, queue_chain, first_at, value_in, blocks_in_chains}
use Rattle.of_script.specs.declared.instr.TheConstants.{REGISTERS}
use Rattle.of_store.specs.Store.{Store, IsState, queue}
use Rattle.of_eval.specs.declared.lawful_cells.LawErr.{LawErr}
use Rattle.of_eval.specs.declared.lawful_cells.LawErr.TheVariants.{Memory, Unlawful}
use Rattle.of_eval.specs.Lawful.{OwnCellsAreSound, DataCellsStandFor}
use Rattle.of_eval.specs.Faults.{OwnFault, AllOwnCellsAreSound, AreNumbers, IsFirstFault, HasSoundHead, HasPassed, HasRightCounts, ContainsNumber, IsMet, NamesCellWith}

-- if the error names a cell, this is the first cell at fault
abbrev pub NamesFault : Plot → List ℕ → LawErr → Type 0
NamesFault p cells e = NamesCellWith (IsFirstFault p.callers p.instrs p.blocks (memory_of cells)) e

-- the caller's own cells have no shape if there was no call, and hold a reply if there was one
abbrev pub CallerIsSound : Plot → List ℕ → (caller : ℕ) → Type 0
CallerIsSound p cells caller = OwnCellsAreSound p.instrs (memory_of cells) caller

-- if the error names a cell, this is the first one at fault among the caller's own cells
abbrev pub NamesOwnFault : Plot → List ℕ → (caller : ℕ) → LawErr → Type 0
NamesOwnFault p cells caller e = NamesCellWith (OwnFault p.instrs (memory_of cells) caller) e

-- the own cells of every caller are sound
abbrev pub CallersAreSound : Plot → List ℕ → Type 0
CallersAreSound p cells = AllOwnCellsAreSound p.instrs (memory_of cells) p.callers

-- each register holds a number of stores, below 2 ^ 31
abbrev pub RegistersAreNumbers : Plot → List ℕ → Type 0
RegistersAreNumbers p cells = AreNumbers (base p) (memory_of cells) REGISTERS

-- the cells stand for the store s, and the own cells of every caller are sound
abbrev pub CellsStandFor : Plot → List ℕ → Store → Type 0
CellsStandFor p cells s = DataCellsStandFor p.callers p.instrs p.blocks (memory_of cells) s

-- what is looked at before the chains is sound: callers' own cells, registers, count of taken
-- blocks
abbrev pub HasBegun : Plot → List ℕ → Type 0
HasBegun p cells = HasSoundHead p.callers p.instrs p.blocks (memory_of cells)

-- how many blocks were not met yet: the number of zeros in the owners table
abbrev pub unmet_count : List ℕ → ℕ
unmet_count [] = 0
unmet_count (x ∷ owners) = cond (eqb x 0) 1 0 + unmet_count owners

-- The owners table has an entry for each block below `fresh`: the number of the block's chain plus
-- 1 if the block was met, and otherwise 0.
pub record OwnersMatchChains (blocks fresh : ℕ) (chains : ℕ → List ℕ) (owners : List ℕ)
    : Type 0 where
  pub sized : length owners ≡ fresh
  pub paint : (c b : ℕ) → ContainsNumber (chains c) b → get_or owners b 0 ≡ c + 1
  pub met : (b : ℕ) → get_or owners b 0 ≢ 0 → IsMet chains b
  pub counted : blocks_in_chains chains (out_chain blocks) + unmet_count owners ≡ fresh

-- What is looked at before the chains is sound. The walk met the blocks in `chains`, up to chain n.
-- The owners table shows them, and what is counted after the chains before chain k is right.
pub record HasWalked (p : Plot) (cells : List ℕ) (n k : ℕ) (chains : ℕ → List ℕ) (owners : List ℕ) :
    Type 0 where
  pub begun : HasBegun p cells
  pub passed : HasPassed (base p) p.blocks (memory_of cells) n chains
  pub counted : HasRightCounts (base p) p.blocks (memory_of cells) k chains
  pub painted : OwnersMatchChains p.blocks (memory_of cells (fresh_at (base p))) chains owners

-- the store s has the registers, and the keys, values and items of the blocks met so far; it has as
-- many keys as blocks of buckets were met
pub record HoldsWhatWasMet (p : Plot) (cells : List ℕ) (chains : ℕ → List ℕ) (s : Store)
    : Type 0 where
  pub state : IsState s
  pub room : s.room ≡ p.blocks
  pub registers : (r : ℕ) → r < 16
      → memory_of cells (register_at (base p) r) ≡ get_or s.registers r 0
  pub values : (key : ℕ)
      → fin.get s.keys key
      ≡ value_in (base p) (memory_of cells) key (chains (1 + key % bucket_count p.blocks))
  pub key_blocks :
      blocks_in_chains chains (queue_chain p.blocks 0) ≡ length (chains 0) + fin.len s.keys
  pub items : (q : ℕ) → q < 4
      → map (λ b. memory_of cells (first_at (base p) b)) (chains (queue_chain p.blocks q))
      ≡ queue s q

-- The walk has met all chains before chain n and no block of chain n, and the store s has what was
-- met. What is counted after the chains before chain k is right.
pub record IsBeforeChain (p : Plot) (cells : List ℕ) (n k : ℕ) (owners : List ℕ) (s : Store)
    : Type 0 where
  pub chains : ℕ → List ℕ
  pub walked : HasWalked p cells n k chains owners
  pub kept : HoldsWhatWasMet p cells chains s
  pub start : chains n ≡ []

-- the walk has met all blocks of the free list, and no block of another chain
pub record HasWalkedFreeList (p : Plot) (cells : List ℕ) (owners : List ℕ) : Type 0 where
  pub chains : ℕ → List ℕ
  pub walked : HasWalked p cells 1 1 chains owners
  pub start : chains 1 ≡ []

-- the store s has the first n registers, no key and no item
pub record HasRegisters (p : Plot) (cells : List ℕ) (n : ℕ) (s : Store) : Type 0 where
  pub state : IsState s
  pub room : s.room ≡ p.blocks
  pub registers : (r : ℕ) → r < n
      → memory_of cells (register_at (base p) r) ≡ get_or s.registers r 0
  pub keys : s.keys ≡ fin.empty
  pub queues : (q : ℕ) → queue s q ≡ []

-- The pointer in this cell is 0 and ends its chain, or it leads to a block without an owner; then
-- the block's owner becomes this chain.
abbrev pub LinkLeadsOn : List ℕ → ℕ → ℕ → List ℕ → List ℕ → Option ℕ → Type 0
LinkLeadsOn cells cell chain before after None = (memory_of cells cell ≡ 0) × (after ≡ before)
LinkLeadsOn cells cell chain before after (Some b) =
    (memory_of cells cell ≡ b + 1) × (b < length before) × (get_or before b 0 ≡ 0)
    × (after ≡ set before b (chain + 1))

-- the error names this cell, whose pointer leads to a block that has an owner or is not in the
-- owners table
abbrev pub LinkIsAtFault : List ℕ → ℕ → List ℕ → LawErr → Type 0
LinkIsAtFault cells cell owners Memory = ⊥
LinkIsAtFault cells cell owners (Unlawful at) =
    (at ≡ cell)
    × ((b : ℕ) × (memory_of cells cell ≡ b + 1) × ((length owners ≤ b) ⊎ (get_or owners b 0 ≢ 0)))

-- if the walk has met all chains before those of the queues, the count of keys in the cells is the
-- number of keys met
abbrev pub KeysAreCounted : Plot → List ℕ → Store → Type 0
KeysAreCounted p cells s =
    (owners : List ℕ) → IsBeforeChain p cells (queue_chain p.blocks 0) 0 owners s
    → IsBeforeChain p cells (queue_chain p.blocks 0) (queue_chain p.blocks 0) owners s

-- if the walk has met all chains before those of the queues, the error names the first cell at
-- fault
abbrev pub KeysAreMiscounted : Plot → List ℕ → Store → LawErr → Type 0
KeysAreMiscounted p cells s e =
    (owners : List ℕ) → IsBeforeChain p cells (queue_chain p.blocks 0) 0 owners s
    → NamesFault p cells e

-- if the walk has met all chains, the cells stand for the walk's store
abbrev pub AllAreMet : Plot → List ℕ → List ℕ → Type 0
AllAreMet p cells owners =
    (s : Store) → IsBeforeChain p cells (out_chain p.blocks) (out_chain p.blocks) owners s
    → CellsStandFor p cells s

-- if the walk has met all chains, the error names the first cell at fault
abbrev pub SomeAreUnmet : Plot → List ℕ → List ℕ → LawErr → Type 0
SomeAreUnmet p cells owners e =
    (s : Store) → IsBeforeChain p cells (out_chain p.blocks) (out_chain p.blocks) owners s
    → NamesFault p cells e
