-- The first data cell at fault, if the data cells stand for no store. Cells are looked at in a
-- fixed order: the callers' own cells, the registers, the free list, the buckets, the queues.
use Rattle.std.specs.Prelude.{◌≡◌, ◌≢◌, ◌⊎◌, ℕ, ◌+◌, ◌%◌, ◌<◌, ◌≤◌, true, is_some, None, List, [], ◌∷◌, length, replicate, slice_index_or}
use Rattle.std.specs.List.{AllByRecursion as Each, AllPairs}
use Rattle.of_script.specs.declared.instr.Reply.{Reply}
use Rattle.of_script.specs.declared.instr.TheConstants.{MOST_INSTRS, REGISTERS}
use Rattle.of_mem.specs.declared.work.RawReply.{RawReply}
use Rattle.of_mem.specs.Places.{bucket_count, base_of, ticket_cell_at, shape_at, reply_at, register_at, fresh_at, keys_at, tail_at, length_at}
use Rattle.of_mem.specs.Numbers.{IsNumber}
use Rattle.of_mem.specs.Stores.{out_chain, queue_chain, IsChain, IsBucket, front_at, first_at, second_at, link_at, cell_after, last_pointer, blocks_in_chains}
use Rattle.of_eval.specs.declared.lawful_cells.LawErr.{LawErr}
use Rattle.of_eval.specs.declared.lawful_cells.LawErr.TheVariants.{Memory, Unlawful}
use Rattle.of_eval.specs.Shapes.{IsHeldBy}
use Rattle.of_store.specs.Store.{Store}
use Rattle.of_eval.specs.Lawful.{OwnCellsAreSound, DataCellsStandFor}

-- ---- the cells of a caller

-- the reply as cells hold it, with this shape and with all numbers 0
abbrev pub shape_alone : ℕ → RawReply
shape_alone shape = record { shape = shape; values = replicate MOST_INSTRS 0 }

-- the shape is the shape of reply r, to a script of at most `instrs` instructions; the shape
-- doesn't say which numbers r has
pub record IsShapeOf (instrs shape : ℕ) (r : Reply) : Type 0 where
  pub held : IsHeldBy (shape_alone shape) r
  pub few : r.len ≤ instrs

-- reply r has a number as its answer j
abbrev pub HasNumber : Reply → ℕ → Type 0
HasNumber r j = is_some (slice_index_or r.values j None) ≡ true

-- the cell is the first one at fault among a caller's own cells
pub data OwnFault (instrs : ℕ) (m : ℕ → ℕ) (caller cell : ℕ) : Type 0 where
  -- the ticket says that there was no call, but the shape is not 0
  Left : m (ticket_cell_at instrs caller) ≡ 0 → m (shape_at instrs caller) ≢ 0
      → cell ≡ shape_at instrs caller → OwnFault instrs m caller cell
  -- there was a call, but the shape is not the shape of any reply
  NoShape : m (ticket_cell_at instrs caller) ≢ 0
      → ((r : Reply) → IsShapeOf instrs (m (shape_at instrs caller)) r → ⊥)
      → cell ≡ shape_at instrs caller → OwnFault instrs m caller cell
  -- there was a call, and this is the first number of its reply that is 2 ^ 31 or more
  GreatReply : m (ticket_cell_at instrs caller) ≢ 0 → (r : Reply)
      → IsShapeOf instrs (m (shape_at instrs caller)) r
      → (j : ℕ) → j < r.len → HasNumber r j
      → ((i : ℕ) → i < j → HasNumber r i → IsNumber (m (reply_at instrs caller i)))
      → (IsNumber (m (reply_at instrs caller j)) → ⊥)
      → cell ≡ reply_at instrs caller j → OwnFault instrs m caller cell

-- ---- what is looked at before the chains

-- the own cells of the first n callers are sound
abbrev pub AllOwnCellsAreSound : ℕ → (ℕ → ℕ) → ℕ → Type 0
AllOwnCellsAreSound instrs m n = (c : ℕ) → c < n → OwnCellsAreSound instrs m c

-- each of the first n registers holds a number of stores, below 2 ^ 31
abbrev pub AreNumbers : ℕ → (ℕ → ℕ) → ℕ → Type 0
AreNumbers o m n = (r : ℕ) → r < n → IsNumber (m (register_at o r))

-- what is looked at before the chains is sound: the callers' own cells, the registers, and the
-- count of blocks taken at least once, which is at most the number of blocks
pub record HasSoundHead (callers instrs blocks : ℕ) (m : ℕ → ℕ) : Type 0 where
  pub own : AllOwnCellsAreSound instrs m callers
  pub registers : AreNumbers (base_of callers instrs) m REGISTERS
  pub few : m (fresh_at (base_of callers instrs)) ≤ blocks

-- ---- the chains

-- the pointers from this cell on lead through these blocks, in order; what follows the last one is
-- left open
abbrev pub IsPath : ℕ → (ℕ → ℕ) → ℕ → List ℕ → Type 0
IsPath o m cell [] = Unit {0}
IsPath o m cell (b ∷ bs) = (m cell ≡ b + 1) × IsPath o m (link_at o b) bs

-- the number x is in the list
abbrev pub ContainsNumber : List ℕ → ℕ → Type 0
ContainsNumber [] x = ⊥
ContainsNumber (a ∷ l) x = (x ≡ a) ⊎ ContainsNumber l x

-- The blocks met so far: all blocks of the chains before chain n, and the first blocks of chain n.
-- Each of them was taken at least once and is in one chain, and there once. The keys, values and
-- items in them are sound.
pub record HasPassed (o blocks : ℕ) (m : ℕ → ℕ) (n : ℕ) (chains : ℕ → List ℕ) : Type 0 where
  pub linked : (c : ℕ) → c < n → IsChain o m (front_at o blocks c) (chains c)
  pub path : IsPath o m (front_at o blocks n) (chains n)
  pub others : (c : ℕ) → n < c → chains c ≡ []
  pub owner : ℕ → ℕ
  pub owned : (c : ℕ) → Each (λ b. (b < m (fresh_at o)) × (owner b ≡ c)) (chains c)
  pub once : AllPairs (λ x y. x ≢ y) (chains n)
  pub buckets : (k : ℕ) → k < bucket_count blocks → IsBucket o blocks m k (chains (1 + k))
  pub items : (q : ℕ) → q < 4
      → Each (λ b. IsNumber (m (first_at o b))) (chains (queue_chain blocks q))

-- What is counted after the chains before chain n is right. The keys are counted after all buckets.
-- The tail and the length of a queue are checked after its chain.
pub record HasRightCounts (o blocks : ℕ) (m : ℕ → ℕ) (n : ℕ) (chains : ℕ → List ℕ) : Type 0 where
  pub keys : queue_chain blocks 0 ≤ n
      → m (keys_at o) + length (chains 0) ≡ blocks_in_chains chains (queue_chain blocks 0)
  pub tails : (q : ℕ) → queue_chain blocks q < n
      → m (tail_at o q) ≡ last_pointer 0 (chains (queue_chain blocks q))
  pub lengths : (q : ℕ) → queue_chain blocks q < n
      → m (length_at o q) ≡ length (chains (queue_chain blocks q))

-- the cell with the pointer that comes after the blocks met so far in chain n
abbrev pub pointer_cell : ℕ → ℕ → ℕ → (ℕ → List ℕ) → ℕ
pointer_cell o blocks n chains = cell_after o (front_at o blocks n) (chains n)

-- block b is in one of the chains, so it was met
abbrev pub IsMet : (ℕ → List ℕ) → ℕ → Type 0
IsMet chains b = (c : ℕ) × ContainsNumber (chains c) b

-- the pointer after the blocks met so far in chain n leads to block b, which was taken at least
-- once and was not met before
pub record LeadsToNewBlock (o blocks : ℕ) (m : ℕ → ℕ) (n : ℕ) (chains : ℕ → List ℕ) (b : ℕ)
    : Type 0 where
  pub pointer : m (pointer_cell o blocks n chains) ≡ b + 1
  pub below : b < m (fresh_at o)
  pub unmet : IsMet chains b → ⊥

-- the number cannot be a key of bucket k: it is too great, or belongs to another bucket, or is the
-- key of a block met in this bucket before
abbrev pub IsNoKey : ℕ → ℕ → (ℕ → ℕ) → ℕ → List ℕ → ℕ → Type 0
IsNoKey o blocks m k bucket key =
    (IsNumber key → ⊥)
    ⊎ ((key % bucket_count blocks ≢ k)
    ⊎ ((x : ℕ) × ContainsNumber bucket x × (m (first_at o x) ≡ key)))

-- the cell is the first one at fault, found in chain n after the blocks met so far
pub data ChainFault (o blocks : ℕ) (m : ℕ → ℕ) (n : ℕ) (chains : ℕ → List ℕ) (cell : ℕ)
    : Type 0 where
  -- the pointer leads to a block that is not below fresh, or that was met before
  Pointer : n < out_chain blocks → (b : ℕ) → m (pointer_cell o blocks n chains) ≡ b + 1
      → (m (fresh_at o) ≤ b) ⊎ IsMet chains b → cell ≡ pointer_cell o blocks n chains
      → ChainFault o blocks m n chains cell
  -- the number in the block's first cell cannot be a key of this bucket
  Key : (k b : ℕ) → k < bucket_count blocks → n ≡ 1 + k → LeadsToNewBlock o blocks m n chains b
      → IsNoKey o blocks m k (chains n) (m (first_at o b)) → cell ≡ first_at o b
      → ChainFault o blocks m n chains cell
  -- the value at the block's key is 2 ^ 31 or more
  Value : (k b : ℕ) → k < bucket_count blocks → n ≡ 1 + k → LeadsToNewBlock o blocks m n chains b
      → (IsNoKey o blocks m k (chains n) (m (first_at o b)) → ⊥)
      → (IsNumber (m (second_at o b)) → ⊥)
      → cell ≡ second_at o b → ChainFault o blocks m n chains cell
  -- the item in the block is 2 ^ 31 or more
  Item : (q b : ℕ) → q < 4 → n ≡ queue_chain blocks q → LeadsToNewBlock o blocks m n chains b
      → (IsNumber (m (first_at o b)) → ⊥) → cell ≡ first_at o b
      → ChainFault o blocks m n chains cell

-- the cell is the first one at fault among the counts that are checked after the chains before
-- chain n
pub data CountFault (o blocks : ℕ) (m : ℕ → ℕ) (n : ℕ) (chains : ℕ → List ℕ) (cell : ℕ)
    : Type 0 where
  -- the count of keys isn't the number of keys in the buckets
  Keys : n ≡ queue_chain blocks 0
      → m (keys_at o) + length (chains 0) ≢ blocks_in_chains chains (queue_chain blocks 0)
      → cell ≡ keys_at o → CountFault o blocks m n chains cell
  -- the tail does not point to the last block
  Tail : (q : ℕ) → q < 4 → n ≡ queue_chain blocks (1 + q)
      → m (tail_at o q) ≢ last_pointer 0 (chains (queue_chain blocks q))
      → cell ≡ tail_at o q → CountFault o blocks m n chains cell
  -- the queue's length isn't the number of its items
  Length : (q : ℕ) → q < 4 → n ≡ queue_chain blocks (1 + q)
      → m (tail_at o q) ≡ last_pointer 0 (chains (queue_chain blocks q))
      → m (length_at o q) ≢ length (chains (queue_chain blocks q)) → cell ≡ length_at o q
      → CountFault o blocks m n chains cell

-- The cell is the first one at fault. All that is looked at before it is sound.
pub data IsFirstFault (callers instrs blocks : ℕ) (m : ℕ → ℕ) (cell : ℕ) : Type 0 where
  -- the fault is in the own cells of caller c
  Own : (c : ℕ) → c < callers → AllOwnCellsAreSound instrs m c → OwnFault instrs m c cell
      → IsFirstFault callers instrs blocks m cell
  -- the fault is a register that holds 2 ^ 31 or more
  Register : AllOwnCellsAreSound instrs m callers → (r : ℕ) → r < REGISTERS
      → AreNumbers (base_of callers instrs) m r
      → (IsNumber (m (register_at (base_of callers instrs) r)) → ⊥)
      → cell ≡ register_at (base_of callers instrs) r → IsFirstFault callers instrs blocks m cell
  -- the count of blocks taken at least once is above the number of blocks
  Fresh : AllOwnCellsAreSound instrs m callers → AreNumbers (base_of callers instrs) m REGISTERS
      → blocks < m (fresh_at (base_of callers instrs))
      → cell ≡ fresh_at (base_of callers instrs) → IsFirstFault callers instrs blocks m cell
  -- the fault is a pointer of a chain, or what a block of a chain holds
  Chain : HasSoundHead callers instrs blocks m → (n : ℕ) (chains : ℕ → List ℕ)
      → HasPassed (base_of callers instrs) blocks m n chains
      → HasRightCounts (base_of callers instrs) blocks m n chains
      → ChainFault (base_of callers instrs) blocks m n chains cell
      → IsFirstFault callers instrs blocks m cell
  -- the first fault is in a count that is checked after chain n, and the counts that are checked
  -- before are right
  Count : HasSoundHead callers instrs blocks m → (n : ℕ) (chains : ℕ → List ℕ)
      → HasPassed (base_of callers instrs) blocks m (1 + n) chains
      → HasRightCounts (base_of callers instrs) blocks m n chains → chains (1 + n) ≡ []
      → CountFault (base_of callers instrs) blocks m (1 + n) chains cell
      → IsFirstFault callers instrs blocks m cell
  -- some block was taken at least once, but is in no chain
  Lost : HasSoundHead callers instrs blocks m → (chains : ℕ → List ℕ)
      → HasPassed (base_of callers instrs) blocks m (out_chain blocks) chains
      → HasRightCounts (base_of callers instrs) blocks m (out_chain blocks) chains
      → chains (out_chain blocks) ≡ []
      → blocks_in_chains chains (out_chain blocks) ≢ m (fresh_at (base_of callers instrs))
      → cell ≡ fresh_at (base_of callers instrs) → IsFirstFault callers instrs blocks m cell

-- if the error names a cell, P holds of this cell
abbrev pub NamesCellWith : (ℕ → Type 0) → LawErr → Type 0
NamesCellWith P Memory = Unit {0}
NamesCellWith P (Unlawful cell) = P cell

-- if the data cells have a first cell at fault, they stand for no store
abbrev pub FaultsExcludeStores : Type 0
FaultsExcludeStores =
    (callers instrs blocks : ℕ) (m : ℕ → ℕ) (s : Store) (cell : ℕ)
    → DataCellsStandFor callers instrs blocks m s → IsFirstFault callers instrs blocks m cell → ⊥

-- there is at most one first cell at fault
abbrev pub FirstFaultIsOne : Type 0
FirstFaultIsOne =
    (callers instrs blocks : ℕ) (m : ℕ → ℕ) (a b : ℕ) → IsFirstFault callers instrs blocks m a
    → IsFirstFault callers instrs blocks m b → a ≡ b
