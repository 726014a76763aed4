-- If a register is written, the cells stand for the store with this register changed and nothing
-- else. These lemmas are in specs/, not in proofs/, since `impl Work for Scripts` cites laws that
-- are proved with them.
use Rattle.std.proofs.Common.{◌≡◌, ℕ, ◌+◌, ◌%◌, ◌<◌, ◌≤◌, inl, inr, refl, sym, ◌∙◌, arith, List, [], ◌∷◌, get_or, set, length-set}
use Rattle.std.proofs.lemmas.Bool.{cases_eq}
use Rattle.std.proofs.lemmas.List.{get_or-set_same, get_or-set_other}
use Rattle.of_mem.specs.Places.{bucket_count, register_at, keys_at, tail_at, length_at}
use Rattle.of_mem.specs.Programs.{with_value}
use Rattle.of_mem.specs.Numbers.{IsNumber}
use Rattle.of_mem.specs.Stores.{queue_chain, CellStore, StandsForStore, first_at, second_at}
use Rattle.of_mem.proofs.Changes.{changed_same, changed_other}
use Rattle.of_mem.proofs.Heaps.{front_below}
use Rattle.of_mem.proofs.Frames.{SameBlocks, value_same, bucket_same, queue_same}
use Rattle.of_mem.proofs.Moves.{heap_changed}

module _ (o blocks : ℕ) (m : ℕ → ℕ) (s : CellStore) (h : StandsForStore o blocks m s) (r v : ℕ)
    (r_in : r < 16) (v_in : IsNumber v) where
  abbrev n : ℕ → ℕ
  n = with_value m (register_at o r) v

  other : (a : ℕ) → o + 16 ≤ a → n a ≡ m a
  other a l = changed_other m (register_at o r) v a (λ e. omega (arith, r_in))

  same : (l : List ℕ) → SameBlocks o m n l
  same [] = tt
  same (b ∷ l) = ((other (first_at o b) (omega arith), other (second_at o b) (omega arith)), same l)

  registers : (x : ℕ) → x < 16
      → (n (register_at o x) ≡ get_or (set s.registers r v) x 0) × IsNumber (n (register_at o x))
  registers x l = elim (cases_eq x r) [
    | inl e ↦
        rw (
          e,
          changed_same m (register_at o r) v,
          get_or-set_same s.registers r v 0 (omega (arith, h.sixteen, r_in)),
        ) (refl, v_in)
    | inr k ↦
        let a : n (register_at o x) ≡ m (register_at o x) =
        changed_other m (register_at o r) v (register_at o x) (λ e. k (omega arith)) in
        rw (a, get_or-set_other s.registers r x v 0 k) (h.holds.registers x l)
  ]

  pub register_stands : StandsForStore o blocks n (record s { registers = set s.registers r v })
  register_stands = record {
    chains = h.chains;
    owner = h.owner;
    heap =
        heap_changed o blocks m h.chains h.owner h.heap (register_at o r) v
        (λ e. omega (arith, r_in)) (λ c l e. omega (arith, r_in, (front_below o blocks c l).0))
        (λ b e. omega (arith, r_in));
    none_out = h.none_out;
    room = h.room;
    sixteen = length-set s.registers r v ∙ h.sixteen;
    holds = record {
      registers = registers;
      values =
          λ key. h.holds.values key
          ∙ (let at = 1 + key % bucket_count blocks in
          sym (value_same o m n key (h.chains at) (same (h.chains at))));
      buckets =
          λ b l.
          bucket_same o blocks m n b (h.chains (1 + b)) (same (h.chains (1 + b)))
          (h.holds.buckets b l);
      keys = other (keys_at o) (omega arith) ∙ h.holds.keys;
      key_blocks = h.holds.key_blocks;
      queues =
          λ q l. queue_same o m n q (h.chains (queue_chain blocks q)) (s.queues q)
          (same (h.chains (queue_chain blocks q)))
          (other (tail_at o q) (omega arith)) (other (length_at o q) (omega arith))
          (h.holds.queues q l);
    };
  }
