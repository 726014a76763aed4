-- How far a walk through the buckets came. A walk to a key goes through the key's bucket. A walk to
-- the least key from some key on goes through all buckets.
use Rattle.std.specs.Prelude.{◌≡◌, ◌≢◌, ◌≤◌, ◌<◌, ◌⊎◌, ◌%◌, ℕ, zero, suc, nat_lt, if◌then◌else◌, true, Option, Some, None}
use Rattle.of_mem.specs.declared.plot.Plot.{Plot}
use Rattle.of_mem.specs.declared.walk.Sought.{Sought}
use Rattle.of_mem.specs.declared.walk.Sought.TheVariants.{Key, LeastFrom}
use Rattle.of_mem.specs.declared.walk.Walk.{Walk}
use Rattle.of_mem.specs.declared.walk.KeptWalk.{KeptWalk}
use Rattle.of_mem.specs.Part.{Part, newest_at}
use Rattle.of_mem.specs.Places.{bucket_count, bucket_at}
use Rattle.of_mem.specs.Plots.{base}
use Rattle.of_mem.specs.Stores.{first_at, link_at}

-- Known pointers lead from the pointer cell `from` through n blocks to the pointer cell `to`. The
-- keys of these blocks are known, and none of them is `key`. `o` is the first cell of the store.
abbrev pub Passes : ℕ → ℕ → Part → ℕ → ℕ → ℕ → Type 0
Passes o key p zero from to = from ≡ to
Passes o key p (suc n) from to =
    (b : ℕ) × (k : ℕ)
    × (newest_at p from ≡ Some (suc b)) × (newest_at p (first_at o b) ≡ Some k) × (k ≢ key)
    × Passes o key p n (link_at o b) to

-- the less of key k and the best key so far
abbrev pub lesser_of : ℕ → Option ℕ → Option ℕ
lesser_of k None = Some k
lesser_of k (Some b) = if nat_lt b k then Some b else Some k

-- the least key after the key k is looked at: the less of k and `best`, the least key so far; a key
-- k below `low` doesn't count
abbrev pub better_of : ℕ → ℕ → Option ℕ → Option ℕ
better_of low k best = if nat_lt k low then best else lesser_of k best

-- Known pointers lead from the pointer cell `from` through n blocks to the pointer cell `to`, and
-- the keys of these blocks are known. `best` is the least key from `low` on before these blocks,
-- and `result` is the least one together with the keys of these blocks.
abbrev pub Weighs : ℕ → ℕ → Part → ℕ → ℕ → Option ℕ → ℕ → Option ℕ → Type 0
Weighs o low p zero from best to result = (from ≡ to) × (best ≡ result)
Weighs o low p (suc n) from best to result =
    (b : ℕ) × (k : ℕ)
    × (newest_at p from ≡ Some (suc b)) × (newest_at p (first_at o b) ≡ Some k)
    × Weighs o low p n (link_at o b) (better_of low k best) to result

-- All pointers and keys of bucket i are known. `best` is the least key from `low` on in the buckets
-- before, and `result` is the least one together with the keys of this bucket. The walk passes no
-- more blocks than the store has.
pub record WeighsBucket (o blocks low : ℕ) (p : Part) (i : ℕ) (best result : Option ℕ)
    : Type 0 where
  pub passed : ℕ
  pub to : ℕ
  pub last : ℕ
  pub weighs : Weighs o low p passed (bucket_at o blocks i) best to result
  pub known : newest_at p to ≡ Some last
  pub few : passed ≤ blocks
  pub ends : (last ≡ 0) ⊎ (passed ≡ blocks)

-- `result` is the least key from `low` on in the first buckets; the fifth argument says how many.
-- All pointers and keys of these buckets are known.
abbrev pub WeighsBuckets : ℕ → ℕ → ℕ → Part → ℕ → Option ℕ → Type 0
WeighsBuckets o blocks low p zero result = result ≡ None
WeighsBuckets o blocks low p (suc i) result =
    (best : Option ℕ)
    × WeighsBuckets o blocks low p i best × WeighsBucket o blocks low p i best result

-- What is kept of the walk w is true. From the front of the walk's bucket, known cells lead through
-- as many blocks as the walk has passed, to the walk's cell. If a key is sought, none of these
-- blocks has it. If the least key is sought, the walk's best key is the least one so far.
abbrev pub CameTo : ℕ → ℕ → Sought → Part → Walk → Type 0
CameTo o blocks (Key key) p w =
    (w.passed ≤ blocks)
    × Passes o key p w.passed (bucket_at o blocks (key % bucket_count blocks)) w.cell
CameTo o blocks (LeastFrom low) p w =
    (w.passed ≤ blocks) × (w.bucket < bucket_count blocks)
    × (best : Option ℕ) × WeighsBuckets o blocks low p w.bucket best
    × Weighs o low p w.passed (bucket_at o blocks w.bucket) best w.cell w.best

-- what is kept of the walk w is true of the known cells of the plot
abbrev pub HasCome : Plot → Sought → Part → Walk → Type 0
HasCome plot s p w = CameTo (base plot) plot.blocks s p w

-- if a walk is kept, what is kept of it is true of the known cells
abbrev pub IsSoundWalk : KeptWalk → Part → Type 0
IsSoundWalk k p = k.is_kept ≡ true → CameTo k.base k.blocks k.sought p k.walk

-- a walk is kept, it looks for s, and it is on the cells of this plot
abbrev pub IsWalkOf : KeptWalk → Plot → Sought → Type 0
IsWalkOf k plot s =
    (k.is_kept ≡ true) × (k.base ≡ base plot) × (k.blocks ≡ plot.blocks) × (k.sought ≡ s)
