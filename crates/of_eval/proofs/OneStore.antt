-- The same cells stand for one store.
use Rattle.std.proofs.Common.{◌≡◌, ℕ, ◌+◌, ◌%◌, ◌<◌, [], map, sym, ap, ◌∙◌, arith}
use Rattle.std.specs.FinMap.{get, same_map, nat_cmp-IsAntisymmetric}
use Rattle.std.proofs.lemmas.Cmp.{nat_cmp_total}
use Rattle.std.proofs.lemmas.List.{ext_get_or}
use Rattle.of_mem.specs.Stores.{out_chain, queue_chain, first_at, front_at, value_in}
use Rattle.of_mem.proofs.BucketPlaces.{key_bucket}
use Rattle.of_mem.proofs.Heaps.{same_chain}
use Rattle.of_store.specs.Store.{Store, register, queue}
use Rattle.of_eval.specs.Stored.{IsStored}
use Rattle.of_mem.specs.Places.{bucket_count}

module _ (o blocks : ℕ) (m : ℕ → ℕ) (s t : Store) (h : IsStored o blocks m s) (k : IsStored o blocks m t) where
  -- a front leads through one list of blocks
  chain : (c : ℕ) → c < out_chain blocks → h.stands.chains c ≡ k.stands.chains c
  chain c l = same_chain o m (front_at o blocks c) (h.stands.chains c) (k.stands.chains c) (h.stands.heap.linked c l) (k.stands.heap.linked c l)

  one_register : (r : ℕ) → r < 16 → register s r ≡ register t r
  one_register r l = sym (h.stands.holds.registers r l).0 ∙ (k.stands.holds.registers r l).0

  registers : s.registers ≡ t.registers
  registers = ext_get_or 0 s.registers t.registers (h.state.registers ∙ sym k.state.registers) (λ r l. one_register r (omega (arith, h.state.registers)))

  one_key : (key : ℕ) → get s.keys key ≡ get t.keys key
  one_key key = h.stands.holds.values key ∙ ap (value_in o m key) (chain (1 + key % bucket_count blocks) (omega (arith, key_bucket blocks key))) ∙ sym (k.stands.holds.values key)

  keys : s.keys ≡ t.keys
  keys = same_map nat_cmp_total nat_cmp-IsAntisymmetric s.keys t.keys one_key

  one_queue : (q : ℕ) → q < 4 → queue s q ≡ queue t q
  one_queue q l = sym (h.stands.holds.queues q l).listed ∙ ap (map (λ b. m (first_at o b))) (chain (queue_chain blocks q) (omega arith)) ∙ (k.stands.holds.queues q l).listed

  queues : s.queues ≡ t.queues
  queues = ext_get_or [] s.queues t.queues (h.state.queues ∙ sym k.state.queues) (λ q l. one_queue q (omega (arith, h.state.queues)))

  room : s.room ≡ t.room
  room = h.stands.room ∙ sym k.stands.room

  -- two stores for which the same cells stand are one
  pub one_store : s ≡ t
  one_store = λ i. record { registers = registers i; keys = keys i; queues = queues i; room = room i }
