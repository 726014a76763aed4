-- Cells with a first fault stand for no store.
use Rattle.std.proofs.Common.{◌≡◌, ℕ, ◌+◌, ◌≤◌, List, [], ◌∷◌, length, map, sym, ◌∙◌, ap, subst, arith}
use Rattle.std.specs.List.{AllByRecursion as Each}
use Rattle.std.specs.FinMap as fin
use Rattle.of_mem.specs.Places.{base_of, fresh_at, keys_at}
use Rattle.of_mem.specs.Numbers.{IsNumber}
use Rattle.of_mem.specs.Stores.{out_chain, queue_chain, CellStore, StandsForStore, first_at, blocks_in_chains}
use Rattle.of_mem.proofs.Counts.{chain_more, lengths}
use Rattle.of_store.specs.Store.{Store}
use Rattle.of_eval.specs.Stored.{cell_store}
use Rattle.of_eval.specs.Lawful.{DataCellsStandFor}
use Rattle.of_eval.specs.Faults.{HasRightCounts, IsFirstFault}
use Rattle.of_eval.specs.Faults.IsFirstFault.{Own, Register, Fresh, Chain, Count, Lost}
use Rattle.of_eval.proofs.OwnFaults.{own_excludes}
use Rattle.of_eval.proofs.ChainFaults.{Whole, fault_block, chain_excludes, count_in, count_excludes, all_same, total_passed}

each_unmap : (P : ℕ → Type 0) (f : ℕ → ℕ) (l : List ℕ) → Each P (map f l) → Each (λ b. P (f b)) l
each_unmap P f [] h = tt
each_unmap P f (b ∷ l) h = (h.0, each_unmap P f l h.1)

module _ (o blocks : ℕ) (m : ℕ → ℕ) (s : CellStore) (h : StandsForStore o blocks m s) where
  whole_stands : Whole o blocks m (out_chain blocks) h.chains
  whole_stands = record {
    linked = h.heap.linked;
    owner = h.owner;
    owned = λ c l. h.heap.owned c (omega arith);
    buckets = λ k k_in l. h.holds.buckets k k_in;
    items = λ q q_in l. each_unmap IsNumber (λ b. m (first_at o b)) (h.chains (queue_chain blocks q)) (subst (Each IsNumber) (sym (h.holds.queues q q_in).listed) (h.holds.queues q q_in).numbers);
  }

  keys_counted : (t : ℕ) → t ≡ length (h.chains 0) + fin.len s.map → m (keys_at o) + length (h.chains 0) ≡ t
  keys_counted t e = omega (arith, e, h.holds.keys)

  counted_stands : HasRightCounts o blocks m (out_chain blocks) h.chains
  counted_stands = record {
    keys = λ _. keys_counted (blocks_in_chains h.chains (queue_chain blocks 0)) h.holds.key_blocks;
    tails = λ q l. (h.holds.queues q (omega arith)).ends;
    lengths = λ q l. (h.holds.queues q (omega arith)).counted ∙ sym (lengths o blocks m s h q (omega arith));
  }

  blocks_counted : blocks_in_chains h.chains (out_chain blocks) ≡ m (fresh_at o)
  blocks_counted = less (blocks_in_chains h.chains (out_chain blocks)) (sym (chain_more h.chains (out_chain blocks) (1 + out_chain blocks) (omega arith)) ∙ h.heap.counted)
    where
      less : (t : ℕ) → t + length (h.chains (out_chain blocks)) ≡ m (fresh_at o) → t ≡ m (fresh_at o)
      less t e = omega (arith, e, ap length h.none_out)

-- a first fault excludes every store
pub first_excludes : (callers instrs blocks : ℕ) (m : ℕ → ℕ) (s : Store) (cell : ℕ) → DataCellsStandFor callers instrs blocks m s → IsFirstFault callers instrs blocks m cell → ⊥
first_excludes callers instrs blocks m s cell h (Own c l before f) = own_excludes instrs m c cell (h.own c l) f
first_excludes callers instrs blocks m s cell h (Register own r l before bad e) = bad (h.stored.stands.holds.registers r l).1
first_excludes callers instrs blocks m s cell h (Fresh own registers bad e) = omega (arith, bad, h.stored.stands.heap.few)
first_excludes callers instrs blocks m s cell h (Chain b n chains p c f) =
    let o = base_of callers instrs in
    chain_excludes (base_of callers instrs) blocks m n (out_chain blocks) chains h.stored.stands.chains cell p (whole_stands (base_of callers instrs) blocks m (cell_store s) h.stored.stands) (fault_block (base_of callers instrs) blocks m n chains cell f).0 f
first_excludes callers instrs blocks m s cell h (Count b n chains p c start f) =
    let l : 1 + n ≤ out_chain blocks = (let k = count_in (base_of callers instrs) blocks m (1 + n) chains cell f in omega (arith, k)) in
    count_excludes (base_of callers instrs) blocks m (1 + n) (out_chain blocks) chains h.stored.stands.chains cell
    (all_same (base_of callers instrs) blocks m (1 + n) (out_chain blocks) chains h.stored.stands.chains p (whole_stands (base_of callers instrs) blocks m (cell_store s) h.stored.stands) l)
    (counted_stands (base_of callers instrs) blocks m (cell_store s) h.stored.stands) l f
first_excludes callers instrs blocks m s cell h (Lost b chains p c start bad e) =
    bad (total_passed blocks chains h.stored.stands.chains (all_same (base_of callers instrs) blocks m (out_chain blocks) (out_chain blocks) chains h.stored.stands.chains p (whole_stands (base_of callers instrs) blocks m (cell_store s) h.stored.stands) (omega arith))
    ∙ blocks_counted (base_of callers instrs) blocks m (cell_store s) h.stored.stands)
