-- How many buckets there are, and where their cells stand among the others.
use Rattle.std.proofs.Common.{◌≡◌, ℕ, ◌%◌, ◌+◌, ◌-◌, ◌*◌, ◌/◌, ◌<◌, ◌≤◌, ◌≢◌, ◌⊎◌, inl, inr, arith}
use Rattle.std.proofs.lemmas.Bool.{cases_lt}
use Rattle.std.proofs.lemmas.Bool.Decides.{nat_tests}
use Rattle.of_mem.specs.declared.plot.TheConstants.{FEW_BLOCKS, BUCKETS, FIRST_BUCKET, FIRST_BLOCK}
use Rattle.of_mem.specs.Places.{bucket_count, first_bucket, buckets_behind, bucket_at, tail_at, length_at, block_at, cells_at}

-- With few blocks.

pub few_count : (blocks : ℕ) → blocks ≤ FEW_BLOCKS → bucket_count blocks ≡ BUCKETS
unfolding bucket_count
few_count blocks l = grind (arith, nat_tests)

pub few_first : (blocks : ℕ) → blocks ≤ FEW_BLOCKS → first_bucket blocks ≡ FIRST_BUCKET
unfolding first_bucket
few_first blocks l = grind (arith, nat_tests)

pub few_behind : (blocks : ℕ) → blocks ≤ FEW_BLOCKS → buckets_behind blocks ≡ 0
unfolding buckets_behind
few_behind blocks l = grind (arith, nat_tests)

-- With many.

pub many_count : (blocks : ℕ) → FEW_BLOCKS < blocks → bucket_count blocks ≡ (BUCKETS + (blocks - FEW_BLOCKS)) / 2 * 2 + 1
unfolding bucket_count
many_count blocks l = grind (arith, nat_tests)

pub many_first : (blocks : ℕ) → FEW_BLOCKS < blocks → first_bucket blocks ≡ FIRST_BLOCK + 3 * blocks
unfolding first_bucket
many_first blocks l = grind (arith, nat_tests)

pub many_behind : (blocks : ℕ) → FEW_BLOCKS < blocks → buckets_behind blocks ≡ bucket_count blocks
unfolding buckets_behind
many_behind blocks l = grind (arith, nat_tests)

pub some_buckets : (blocks : ℕ) → 1 ≤ bucket_count blocks
some_buckets blocks = elim (cases_lt FEW_BLOCKS blocks) [
  | inl l ↦ omega (arith, many_count blocks l)
  | inr l ↦ omega (arith, few_count blocks l)
]

pub most_buckets : (blocks : ℕ) → bucket_count blocks ≤ BUCKETS + blocks
most_buckets blocks = elim (cases_lt FEW_BLOCKS blocks) [
  | inl l ↦ omega (arith, many_count blocks l)
  | inr l ↦ omega (arith, few_count blocks l)
]

-- the cells of the buckets stand in front of the queues, or behind the blocks
pub bucket_places : (blocks : ℕ) → ((bucket_count blocks ≡ BUCKETS) × (first_bucket blocks ≡ FIRST_BUCKET) × (buckets_behind blocks ≡ 0)) ⊎ ((first_bucket blocks ≡ FIRST_BLOCK + 3 * blocks) × (buckets_behind blocks ≡ bucket_count blocks))
bucket_places blocks = elim (cases_lt FEW_BLOCKS blocks) [
  | inl l ↦ inr (many_first blocks l, many_behind blocks l)
  | inr l ↦ inl (few_count blocks l, few_first blocks l, few_behind blocks l)
]

-- each bucket has a cell of its own, behind what is counted
pub bucket_in : (o blocks b : ℕ) → b < bucket_count blocks → (o + 19 ≤ bucket_at o blocks b) × (bucket_at o blocks b < cells_at o blocks)
bucket_in o blocks b l = (omega (arith, bucket_places blocks), omega (arith, bucket_places blocks))

-- which is none of a block
pub bucket_no_block : (o blocks n b f : ℕ) → n < bucket_count blocks → b < blocks → f < 3 → bucket_at o blocks n ≢ block_at o b f
bucket_no_block o blocks n b f l k g e = omega (arith, bucket_places blocks)

-- and none of a queue
pub bucket_no_end : (o blocks n q : ℕ) → n < bucket_count blocks → q < 4 → (bucket_at o blocks n ≢ tail_at o q) × (bucket_at o blocks n ≢ length_at o q)
bucket_no_end o blocks n q l k = ((λ e. omega (arith, bucket_places blocks)), (λ e. omega (arith, bucket_places blocks)))

-- the bucket of a key
pub key_bucket : (blocks key : ℕ) → key % bucket_count blocks < bucket_count blocks
key_bucket blocks key = omega (arith, some_buckets blocks)
