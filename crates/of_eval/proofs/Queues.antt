-- A block of a queue and what is counted behind the queue, and the faults of them.
use Rattle.std.proofs.Common.{◌≡◌, ℕ, ◌+◌, ◌<◌, ◌≤◌, ◌≢◌, inl, inr, List, [], ◌∷◌, ◌++◌, length, Some, refl, sym, ◌∙◌, ap, subst, arith}
use Rattle.std.proofs.lemmas.Bool.{cases_eq}
use Rattle.of_mem.specs.declared.plot.Plot.{Plot}
use Rattle.of_mem.specs.Places.{fresh_at, tail_at, length_at}
use Rattle.of_mem.specs.Plots.{base}
use Rattle.of_mem.specs.ProgramWork.{memory_of}
use Rattle.of_mem.specs.Stores.{queue_chain, first_at, last_pointer}
use Rattle.of_mem.proofs.Changes.{changed_same}
use Rattle.of_queue.proofs.Pushes.{last_pointer-append}
use Rattle.of_script.specs.Language.{greatest}
use Rattle.of_store.specs.Store.{Store, stored_count, queue, with_queue}
use Rattle.of_eval.specs.Faults.{LeadsToNewBlock, HasRightCounts, IsFirstFault, pointer_cell}
use Rattle.of_eval.specs.Faults.ChainFault.{Item}
use Rattle.of_eval.specs.Faults.CountFault.{Tail, Length}
use Rattle.of_eval.specs.Faults.IsFirstFault.{Count}
use Rattle.of_eval.specs.Walking.{HasWalked, HoldsWhatWasMet, IsBeforeChain, LinkLeadsOn}
use Rattle.of_eval.proofs.Paintings.{room_left}
use Rattle.of_eval.proofs.Passing.{Fits, with_block, leads_on, walked_step, walked_on, chain_fault}
use Rattle.of_eval.proofs.Filling.{queue_kept, kept_blocks, lengths}

module _ (p : Plot) (cells : List ℕ) (q : ℕ) (chains : ℕ → List ℕ) (owners : List ℕ) (s : Store) (q_in : q < 4) (w : HasWalked p cells (queue_chain p.blocks q) (queue_chain p.blocks q) chains owners) (h : HoldsWhatWasMet p cells chains s) where
  module _ (cell b : ℕ) (after : List ℕ) (is : cell ≡ pointer_cell (base p) p.blocks (queue_chain p.blocks q) chains) (st : LinkLeadsOn cells cell (queue_chain p.blocks q) owners after (Some b)) where
    leads : LeadsToNewBlock (base p) p.blocks (memory_of cells) (queue_chain p.blocks q) chains b
    leads = leads_on p cells (queue_chain p.blocks q) (queue_chain p.blocks q) chains owners w cell (queue_chain p.blocks q) b after is st

    pub item_room : stored_count s < s.room
    item_room =
        let r = room_left p.blocks (memory_of cells (fresh_at (base p))) chains owners w.painted (queue_chain p.blocks q) b (omega (arith, q_in)) st.1 st.2 in
        omega (arith, r, kept_blocks p cells chains s h, w.begun.few, h.room)

    -- behind one block more the last pointer is that of the block
    pub last_push : last_pointer 0 (with_block chains (queue_chain p.blocks q) b (queue_chain p.blocks q)) ≡ b + 1
    last_push = ap (last_pointer 0) (changed_same chains (queue_chain p.blocks q) (chains (queue_chain p.blocks q) ++ b ∷ [])) ∙ last_pointer-append 0 b (chains (queue_chain p.blocks q))

    module _ (first : ℕ) (first_is : first ≡ first_at (base p) b) where
      pub item_fault : greatest < memory_of cells first → IsFirstFault p.callers p.instrs p.blocks (memory_of cells) first
      item_fault bad = chain_fault p cells (queue_chain p.blocks q) (queue_chain p.blocks q) chains owners w first w.counted
          (Item q b q_in refl leads (λ n. let great : greatest < memory_of cells (first_at (base p) b) = subst (λ a. greatest < memory_of cells a) first_is bad in omega (arith, n, great)) first_is)

      pub met_item : (t : Store) → memory_of cells first ≤ greatest → t ≡ with_queue s q (queue s q ++ memory_of cells first ∷ []) → HasWalked p cells (queue_chain p.blocks q) (queue_chain p.blocks q) (with_block chains (queue_chain p.blocks q) b) after × HoldsWhatWasMet p cells (with_block chains (queue_chain p.blocks q) b) t
      met_item t good t_is = (
        walked_step p cells (queue_chain p.blocks q) (queue_chain p.blocks q) chains owners w (queue_chain p.blocks q) b after refl (omega (arith, q_in)) (omega arith) st.1 st.2 st.3 leads fits,
        subst (λ (x : Store). HoldsWhatWasMet p cells (with_block chains (queue_chain p.blocks q) b) x) (sym (t_is ∙ ap (λ a. with_queue s q (queue s q ++ memory_of cells a ∷ [])) first_is)) (queue_kept p cells chains s h (queue_chain p.blocks q) q b q_in refl good' item_room),
      )
        where
          good' : memory_of cells (first_at (base p) b) ≤ greatest
          good' = subst (λ a. memory_of cells a ≤ greatest) first_is good

          fits : Fits (base p) p.blocks (memory_of cells) (queue_chain p.blocks q) chains b
          fits = record { bucket = λ j j_in e. absurd (omega (arith, e, j_in)); item = λ r r_in e. omega (arith, good') }

  module _ (cell : ℕ) (after : List ℕ) (is : cell ≡ pointer_cell (base p) p.blocks (queue_chain p.blocks q) chains) (zero_is : memory_of cells cell ≡ 0) (same : after ≡ owners) (tail last : ℕ) (tail_is : tail ≡ tail_at (base p) q) (last_is : last ≡ last_pointer 0 (chains (queue_chain p.blocks q))) where
    ended : HasWalked p cells (1 + (queue_chain p.blocks q)) (queue_chain p.blocks q) chains owners
    ended = walked_on p cells (queue_chain p.blocks q) (queue_chain p.blocks q) chains owners w (1 + (queue_chain p.blocks q)) cell (omega arith) is zero_is

    pub tail_fault : memory_of cells tail ≢ last → IsFirstFault p.callers p.instrs p.blocks (memory_of cells) tail
    tail_fault bad = Count w.begun (queue_chain p.blocks q) chains ended.passed w.counted (w.passed.others (1 + (queue_chain p.blocks q)) (omega arith))
        (Tail q q_in (omega arith) (λ e. bad (ap (memory_of cells) tail_is ∙ e ∙ sym last_is)) tail_is)

    module _ (good : memory_of cells tail ≡ last) (count : ℕ) (count_is : count ≡ length_at (base p) q) where
      right_tail : memory_of cells (tail_at (base p) q) ≡ last_pointer 0 (chains (queue_chain p.blocks q))
      right_tail = ap (memory_of cells) (sym tail_is) ∙ good ∙ last_is

      pub length_fault : memory_of cells count ≢ length (queue s q) → IsFirstFault p.callers p.instrs p.blocks (memory_of cells) count
      length_fault bad = Count w.begun (queue_chain p.blocks q) chains ended.passed w.counted (w.passed.others (1 + (queue_chain p.blocks q)) (omega arith))
          (Length q q_in (omega arith) right_tail (λ e. bad (ap (memory_of cells) count_is ∙ e ∙ lengths p cells chains s h q q_in)) count_is)

      pub queue_ends : memory_of cells count ≡ length (queue s q) → IsBeforeChain p cells (queue_chain p.blocks (1 + q)) (queue_chain p.blocks (1 + q)) after s
      queue_ends right = subst (λ (x : List ℕ). IsBeforeChain p cells (queue_chain p.blocks (1 + q)) (queue_chain p.blocks (1 + q)) x s) (sym same) (
          let on = walked_on p cells (queue_chain p.blocks q) (queue_chain p.blocks q) chains owners w (queue_chain p.blocks (1 + q)) cell (omega arith) is zero_is in
          record {
            chains = chains;
            walked = record { begun = w.begun; passed = on.passed; counted = counted; painted = w.painted };
            kept = h;
            start = w.passed.others (queue_chain p.blocks (1 + q)) (omega arith);
          })
        where
          counted : HasRightCounts (base p) p.blocks (memory_of cells) (queue_chain p.blocks (1 + q)) chains
          counted = record {
            keys = λ l. w.counted.keys (omega arith);
            tails = λ r l. elim (cases_eq r q) [
              | inl e ↦ subst (λ x. memory_of cells (tail_at (base p) x) ≡ last_pointer 0 (chains (queue_chain p.blocks x))) (sym e) right_tail
              | inr e ↦ w.counted.tails r (omega (arith, e, l))
            ];
            lengths = λ r l. elim (cases_eq r q) [
              | inl e ↦ subst (λ x. memory_of cells (length_at (base p) x) ≡ length (chains (queue_chain p.blocks x))) (sym e) (ap (memory_of cells) (sym count_is) ∙ right ∙ sym (lengths p cells chains s h q q_in))
              | inr e ↦ w.counted.lengths r (omega (arith, e, l))
            ];
          }
