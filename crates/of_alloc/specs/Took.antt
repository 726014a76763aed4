-- What taking a block changes in the chains of blocks.
use Rattle.std.specs.Prelude.{◌≡◌, ◌≢◌, ℕ, ◌+◌, ◌<◌, ◌≤◌, List, [], ◌∷◌, length}
use Rattle.of_mem.specs.Places.{fresh_at, free_at}
use Rattle.of_mem.specs.Stores.{out_chain, queue_chain, IsHeap, blocks_in_chains}

-- From memory m to memory n, block b was taken and is the only block that is out. No chain but the
-- free list changed, and no cell but its pointer and the count of blocks taken at least once.
pub record HasTakenBlock (o blocks : ℕ) (m : ℕ → ℕ) (chains : ℕ → List ℕ) (b : ℕ) (n : ℕ → ℕ)
    : Type 0 where
  pub chains_after : ℕ → List ℕ
  pub owner : ℕ → ℕ
  pub heap : IsHeap o blocks n chains_after owner
  pub out : chains_after (out_chain blocks) ≡ b ∷ []
  pub others : (c : ℕ) → 1 ≤ c → c < out_chain blocks → chains_after c ≡ chains c
  pub sums : blocks_in_chains chains_after (queue_chain blocks 0) + length (chains 0)
      ≡ blocks_in_chains chains (queue_chain blocks 0) + length (chains_after 0)
  pub cells : (a : ℕ) → a ≢ free_at o → a ≢ fresh_at o → n a ≡ m a
