-- What the code of the queues does is what a store does: the runs stay inside, and the store changes as it should.
use Rattle.std.proofs.Common.{◌≡◌, ℕ, suc, ◌<◌, ◌≤◌, refl, sym, ◌∙◌, ap, subst, arith, Bool, Option, Some, None, List, [], ◌∷◌, map, length}
use Rattle.of_mem.specs.declared.plot.TheConstants.{MOST_BLOCKS}
use Rattle.std.specs.Prelude.{Result}
use Rattle.of_mem.specs.Places.{head_at, cells_at}
use Rattle.of_mem.specs.Part.{Part}
use Rattle.of_mem.specs.Programs.{program_answer, memory_after, StaysBetween}
use Rattle.of_mem.specs.Numbers.{IsNumber}
use Rattle.of_mem.specs.Stores.{queue_chain, CellStore, StandsForStore, IsChain, front_at, first_at}
use Rattle.of_mem.specs.declared.part.Need.{Need}
use Rattle.of_mem.specs.declared.plot.Plot.{Plot}
use Rattle.of_mem.specs.Plots.{base}
use Rattle.of_mem.specs.Calls.{RunsProgram, ActsOnStore, AnswersOfStore}
use Rattle.of_mem.specs.OnDemand.{Running, RunsOn, HasOnlyRead}
use Rattle.of_mem.proofs.Calls.{acts, answered}
use Rattle.of_mem.proofs.Heaps.{front_head}
use Rattle.of_mem.proofs.OnDemand.{runs_over}
use Rattle.of_mem.proofs.Runs.{answer_then, after_then, inside_then}
use Rattle.of_alloc.specs.BlockPrograms.{take_program}
use Rattle.of_alloc.proofs.Heaped.{TakesOff}
use Rattle.of_alloc.proofs.Stored.{take_inside, takes_off, room_left, none_left}
use Rattle.of_queue.specs.QueuePrograms.{push_new, push_program, with_head, pop_program, push, pop, len}
use Rattle.of_queue.specs.Means.{IsItem, has_room, after_push, front_of, front_item, after_pop}
use Rattle.of_queue.proofs.Pushes.{stands, pushes, new_inside}
use Rattle.of_queue.proofs.Pops.{front_inside, pop_acts}

module _ (o blocks : ℕ) (few : blocks ≤ MOST_BLOCKS) (m : ℕ → ℕ) (s : CellStore) (h : StandsForStore o blocks m s) (q : ℕ) (q_in : q < 4) where
  module _ (v : ℕ) (v_in : IsNumber v) where
    abbrev Pushes : Bool → (ℕ → ℕ) → Type 0
    Pushes r n = (r ≡ has_room blocks s) × StandsForStore o blocks n (after_push blocks q v s)

    new_pushes : (r : Option ℕ) (n : ℕ → ℕ) → TakesOff o blocks m h.chains r n → StaysBetween o (cells_at o blocks) (push_new o q v r) n × Pushes (program_answer (push_new o q v r) n) (memory_after (push_new o q v r) n)
    new_pushes None n t = rw (none_left o blocks few m s h n t) (tt, (refl, subst (λ (x : ℕ → ℕ). StandsForStore o blocks x s) (sym t.0) h))
    new_pushes (Some b) n t =
        let g = pushes o blocks m s h q v q_in v_in b n t in
        (new_inside o blocks m s h q v q_in v_in b n t few, rw (room_left o blocks few m s h b n t, g.0, g.1) (refl, stands o blocks m s h q v q_in v_in b n t))

    pub push_means : StaysBetween o (cells_at o blocks) (push_program o blocks q v) m × Pushes (program_answer (push_program o blocks q v) m) (memory_after (push_program o blocks q v) m)
    push_means =
        let k = new_pushes (program_answer (take_program o blocks) m) (memory_after (take_program o blocks) m) (takes_off o blocks few m s h) in (
          inside_then o (cells_at o blocks) (take_program o blocks) (push_new o q v) m (take_inside o blocks few m s h) k.0,
          rw (answer_then (take_program o blocks) (push_new o q v) m, after_then (take_program o blocks) (push_new o q v) m) k.1,
        )

  abbrev Popped : Option ℕ → (ℕ → ℕ) → Type 0
  Popped r n = (r ≡ front_of (s.queues q)) × StandsForStore o blocks n (after_pop q s)

  linked : (l : List ℕ) → h.chains (queue_chain blocks q) ≡ l → IsChain o m (head_at o q) l
  linked l is = subst (λ (a : ℕ). IsChain o m a l) (front_head o blocks q) (subst (IsChain o m (front_at o blocks (queue_chain blocks q))) is (h.heap.linked (queue_chain blocks q) (omega (arith, q_in))))

  items_are : (l : List ℕ) → h.chains (queue_chain blocks q) ≡ l → s.queues q ≡ map (λ (x : ℕ). m (first_at o x)) l
  items_are l is = sym (h.holds.queues q q_in).listed ∙ ap (map (λ (x : ℕ). m (first_at o x))) is

  by_head : (f : ℕ) → m (head_at o q) ≡ f → StaysBetween o (cells_at o blocks) (with_head o q f) m × Popped (program_answer (with_head o q f) m) (memory_after (with_head o q f) m)
      → StaysBetween o (cells_at o blocks) (pop_program o q) m × Popped (program_answer (pop_program o q) m) (memory_after (pop_program o q) m)
  by_head f e k =
      let g = subst (λ (x : ℕ). StaysBetween o (cells_at o blocks) (with_head o q x) m × Popped (program_answer (with_head o q x) m) (memory_after (with_head o q x) m)) (sym e) k in
      ((omega arith, omega (arith, q_in), g.0), g.1)

  by_chain : (l : List ℕ) → h.chains (queue_chain blocks q) ≡ l → StaysBetween o (cells_at o blocks) (pop_program o q) m × Popped (program_answer (pop_program o q) m) (memory_after (pop_program o q) m)
  by_chain [] is = by_head 0 (linked [] is) (tt, rw (items_are [] is) (refl, h))
  by_chain (b ∷ rest) is =
      let items = map (λ (x : ℕ). m (first_at o x)) rest in
      by_head (suc b) ((linked (b ∷ rest) is).0 ∙ (omega arith)) (front_inside o blocks m s h q b rest items q_in is (items_are (b ∷ rest) is) few, pop_acts o blocks m s h q b rest items q_in is (items_are (b ∷ rest) is))

  pub pop_means : StaysBetween o (cells_at o blocks) (pop_program o q) m × Popped (program_answer (pop_program o q) m) (memory_after (pop_program o q) m)
  pop_means = by_chain (h.chains (queue_chain blocks q)) refl

-- what a push does
pub push_acts : (plot : Plot) (q v : ℕ) → IsItem q v → (p n : Part) (result : Result Bool Need) → RunsProgram (push plot q v) p n result → ActsOnStore plot p n result (has_room plot.blocks) (after_push plot.blocks q v)
push_acts plot q v item p n result = acts plot (push plot q v) (has_room plot.blocks) (after_push plot.blocks q v) (λ m s h.
    let g = push_means (base plot) plot.blocks plot.few_blocks m s h q item.0 v item.1 in
    record { inside = g.0; answers = g.1.0; stands = g.1.1 }) p n result

-- what a pop does
pub pop_acts_whole : (plot : Plot) (q : ℕ) → q < 4 → (p n : Part) (result : Result (Option ℕ) Need) → RunsProgram (pop plot q) p n result → ActsOnStore plot p n result (front_item q) (after_pop q)
pop_acts_whole plot q q_in p n result = acts plot (pop plot q) (front_item q) (after_pop q) (λ m s h.
    let g = pop_means (base plot) plot.blocks plot.few_blocks m s h q q_in in
    record { inside = g.0; answers = g.1.0; stands = g.1.1 }) p n result

-- what len answers
len_answers : (plot : Plot) (q : ℕ) → q < 4 → (p : Part) (result : Result ℕ Need) → RunsProgram (len plot q) p p result → AnswersOfStore plot p result (λ s. length (s.queues q))
len_answers plot q q_in p result = answered plot (len plot q) (λ s. length (s.queues q)) (λ m s h. ((omega arith, omega (arith, q_in), tt), (h.holds.queues q q_in).counted)) p result

-- and where more cells come to be known
pub lens_on : (plot : Plot) (q : ℕ) → q < 4 → (c d : Running) (result : Result ℕ Need) → HasOnlyRead c.part d.part → RunsOn (len plot q) c d result → AnswersOfStore plot d.part result (λ s. length (s.queues q))
lens_on plot q q_in c d result same r =
    len_answers plot q q_in d.part result (subst (λ (p : Part). RunsProgram (len plot q) p d.part result) (sym same) (runs_over (len plot q) c d result r))
