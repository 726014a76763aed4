-- Taking a block where the cells stand for a store.
use Rattle.std.proofs.Common.{◌≡◌, ℕ, ◌<◌, ◌≤◌, sym, ◌∙◌, ap, subst, arith, ltb, true, false, Option, Some, None, [], length}
use Rattle.std.proofs.lemmas.Bool.{lt-ltb, le-ltb}
use Rattle.of_mem.specs.declared.plot.TheConstants.{MOST_BLOCKS}
use Rattle.of_mem.specs.declared.plot.Plot.{Plot}
use Rattle.of_mem.specs.Plots.{base}
use Rattle.of_mem.specs.Calls.{HasStore}
use Rattle.of_mem.specs.Places.{cells_at}
use Rattle.of_mem.specs.Part.{Part}
use Rattle.of_mem.specs.Programs.{program_answer, memory_after, program_writes, StaysBetween, IsPartOf, RunsAs}
use Rattle.of_mem.specs.Stores.{queue_chain, CellStore, StandsForStore, thing_count}
use Rattle.of_mem.proofs.Moves.{out_owner}
use Rattle.of_mem.proofs.Counts.{all_chains, lengths, counted}
use Rattle.of_mem.proofs.Runs.{run_ended}
use Rattle.of_alloc.specs.Blocks.{IsFreeList, HasFreeList}
use Rattle.of_alloc.specs.BlockPrograms.{take_program}
use Rattle.of_alloc.specs.Took.{HasTakenBlock}
use Rattle.of_alloc.proofs.Heaped.{TakesOff, take_takes_off, heap_free_list}
use Rattle.of_alloc.proofs.Takings.{taking}

module _ (o blocks : ℕ) (few : blocks ≤ MOST_BLOCKS) (m : ℕ → ℕ) (s : CellStore) (h : StandsForStore o blocks m s) where
  pub free_list : IsFreeList o blocks m (h.chains 0)
  free_list = heap_free_list o blocks m h.chains h.owner h.heap

  pub take_inside : StaysBetween o (cells_at o blocks) (take_program o blocks) m
  take_inside = (taking o blocks m few (h.chains 0) free_list).inside

  pub takes_off : TakesOff o blocks m h.chains (program_answer (take_program o blocks) m) (memory_after (take_program o blocks) m)
  takes_off = take_takes_off o blocks m h.chains h.owner h.heap h.none_out

  -- there is a block to take exactly where fewer things than blocks are kept
  pub room_left : (b : ℕ) (n : ℕ → ℕ) → HasTakenBlock o blocks m h.chains b n → ltb (thing_count s) blocks ≡ true
  room_left b n t = lt-ltb (thing_count s) blocks (omega (
    arith,
    all_chains blocks t.chains_after,
    t.heap.counted,
    t.heap.few,
    t.sums,
    h.holds.key_blocks,
    ap length (t.others (queue_chain blocks 0) (omega arith) (omega arith)),
    ap length (t.others (queue_chain blocks 1) (omega arith) (omega arith)),
    ap length (t.others (queue_chain blocks 2) (omega arith) (omega arith)),
    ap length (t.others (queue_chain blocks 3) (omega arith) (omega arith)),
    ap length t.out,
    lengths o blocks m s h 0 (omega arith),
    lengths o blocks m s h 1 (omega arith),
    lengths o blocks m s h 2 (omega arith),
    lengths o blocks m s h 3 (omega arith),
  ))

  pub none_left : (n : ℕ → ℕ) → TakesOff o blocks m h.chains None n → ltb (thing_count s) blocks ≡ false
  none_left n t = le-ltb (thing_count s) blocks (omega (arith, counted o blocks m s h, ap length t.1, t.2))

  -- the block that a call took, and the memory after it
  pub took : (p q : Part) (x : Option ℕ) (b : ℕ) → IsPartOf p m → RunsAs (take_program o blocks) p x q → x ≡ Some b → HasTakenBlock o blocks m h.chains b (memory_after (take_program o blocks) m) × IsPartOf q (memory_after (take_program o blocks) m)
  took p q x b is e some =
      let d = run_ended o (cells_at o blocks) (take_program o blocks) p q m x is take_inside e in
      (subst (λ (y : Option ℕ). TakesOff o blocks m h.chains y (memory_after (take_program o blocks) m)) (sym d.answers ∙ some) takes_off, d.part)

  pub took_below : (b : ℕ) (n : ℕ → ℕ) → HasTakenBlock o blocks m h.chains b n → b < blocks
  took_below b n t = omega (arith, (out_owner o blocks n t.chains_after t.owner t.heap b t.out).0, t.heap.few)

-- where there is a store there is a free list
pub store_free : (plot : Plot) (p : Part) → HasStore plot p → HasFreeList plot p
store_free plot p h = record {
  fits = h.fits;
  memory = h.memory;
  free = h.stands.chains 0;
  part = h.part;
  list = free_list (base plot) plot.blocks plot.few_blocks h.memory h.store h.stands;
}
