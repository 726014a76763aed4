-- The walk begins with no block met, and its pointer cell is a cell.
use Rattle.std.proofs.Common.{◌≡◌, ℕ, zero, suc, ◌+◌, ◌<◌, ◌≤◌, ◌%◌, ◌∙◌, List, [], ◌∷◌, length, map, get_or, set, Option, Some, None, ap, refl, sym, subst, inl, inr, arith}
use Rattle.std.specs.FinMap as fin
use Rattle.std.specs.Ordering.{nat_cmp}
use Rattle.std.specs.List.{All}
use Rattle.std.proofs.lemmas.Bool.{cases_lt}
use Rattle.std.proofs.lemmas.List.{get_or_past}
use Rattle.of_mem.specs.declared.plot.Plot.{Plot}
use Rattle.of_mem.specs.Places.{bucket_count, fresh_at}
use Rattle.of_mem.specs.Plots.{base, data_cell_count}
use Rattle.of_mem.specs.ProgramWork.{memory_of}
use Rattle.of_mem.specs.Stores.{out_chain, queue_chain, front_at, link_at, first_at, value_in, blocks_in_chains}
use Rattle.of_store.specs.Store.{Store}
use Rattle.of_mem.proofs.BucketPlaces.{some_buckets}
use Rattle.of_mem.proofs.Standing.{empty_chains}
use Rattle.of_mem.proofs.Heaps.{front_below, each_weaker, cell_in}
use Rattle.of_eval.specs.Faults.{pointer_cell}
use Rattle.of_eval.specs.Walking.{HasBegun, HasWalked, LinkLeadsOn, HasWalkedFreeList, IsBeforeChain, HasRegisters, unmet_count}
use Rattle.of_eval.proofs.Paintings.{unmet_set}
use Rattle.of_eval.proofs.Passing.{Fits, counted_few, walked_on}

zero_at : (l : List ℕ) → All (λ (x : ℕ). x ≡ 0) l → (b : ℕ) → get_or l b 0 ≡ 0
zero_at l h b = elim (cases_lt b (length l)) [ inl k ↦ h b 0 k | inr k ↦ get_or_past l b 0 k ]

unmet_all : (l : List ℕ) → ((b : ℕ) → get_or l b 0 ≡ 0) → unmet_count l ≡ length l
unmet_all [] h = refl
unmet_all (x ∷ l) h = let e : x ≡ 0 = h 0 in let r : unmet_count l ≡ length l = unmet_all l (λ b. h (suc b)) in rw e (omega (arith, r))

pub walked_none : (p : Plot) (cells owners : List ℕ) → HasBegun p cells → length owners ≡ memory_of cells (fresh_at (base p)) → All (λ (x : ℕ). x ≡ 0) owners → HasWalked p cells 0 0 (λ _. []) owners
walked_none p cells owners begun sized zeros =
    let z : (b : ℕ) → get_or owners b 0 ≡ 0 = zero_at owners zeros in
    let u : unmet_count owners ≡ length owners = unmet_all owners z in
    record {
      begun = begun;
      passed = record {
        linked = λ c l. absurd (omega arith);
        path = tt;
        others = λ c l. refl;
        owner = λ _. 0;
        owned = λ c. tt;
        once = λ i j d lt within. absurd (omega arith);
        buckets = λ k l. tt;
        items = λ q l. tt;
      };
      counted = counted_few (base p) p.blocks (memory_of cells) 0 (λ _. []) (omega arith);
      painted = record {
        sized = sized;
        paint = λ c b h. absurd h;
        met = λ b n. absurd (n (zero_at owners zeros b));
        counted = omega (arith, u, sized, empty_chains (out_chain p.blocks));
      };
    }

-- the pointer cell that is read next is among the data cells
pub here_below : (p : Plot) (cells : List ℕ) (n k : ℕ) (chains : ℕ → List ℕ) (owners : List ℕ) → HasWalked p cells n k chains owners → n < out_chain p.blocks → pointer_cell (base p) p.blocks n chains < data_cell_count p
here_below p cells n k chains owners w l =
    cell_in (base p) (λ a. a < data_cell_count p) (front_at (base p) p.blocks n) (chains n) (omega (arith, (front_below (base p) p.blocks n l).1))
    (each_weaker (λ b. (b < memory_of cells (fresh_at (base p))) × (w.passed.owner b ≡ n)) (λ b. link_at (base p) b < data_cell_count p) (λ b h. omega (arith, h.0, w.begun.few)) (chains n) (w.passed.owned n))

-- each step meets a block
pub stepped_smaller : (cells : List ℕ) (cell chain b : ℕ) (before after : List ℕ) → LinkLeadsOn cells cell chain before after (Some b) → unmet_count after < unmet_count before
stepped_smaller cells cell chain b before after s =
    let u : unmet_count (set before b (chain + 1)) + 1 ≡ unmet_count before = unmet_set before b (chain + 1) s.1 s.2 (λ q. omega (arith, q)) in
    let e : unmet_count after ≡ unmet_count (set before b (chain + 1)) = ap unmet_count s.3 in
    omega (arith, u, e)

-- no step is the end of a chain
pub stepped_end : (cells : List ℕ) (cell chain : ℕ) (before after : List ℕ) (o : Option ℕ) → ((b : ℕ) → o ≡ Some b → ⊥) → LinkLeadsOn cells cell chain before after o → (memory_of cells cell ≡ 0) × (after ≡ before)
stepped_end cells cell chain before after None n s = s
stepped_end cells cell chain before after (Some b) n s = absurd (n b refl)

-- every block fits the free list
pub fits_free : (o blocks : ℕ) (m : ℕ → ℕ) (chains : ℕ → List ℕ) (b : ℕ) → Fits o blocks m 0 chains b
fits_free o blocks m chains b = record { bucket = λ k l e. absurd (omega (arith, e)); item = λ q l e. absurd (omega (arith, e)) }

-- the free list ends
pub freed : (p : Plot) (cells : List ℕ) (chains : ℕ → List ℕ) (owners after : List ℕ) (cell : ℕ) → HasWalked p cells 0 0 chains owners → cell ≡ pointer_cell (base p) p.blocks 0 chains → memory_of cells cell ≡ 0 → after ≡ owners → HasWalkedFreeList p cells after
freed p cells chains owners after cell w e z same = subst (λ (x : List ℕ). HasWalkedFreeList p cells x) (sym same) (
    let on = walked_on p cells 0 0 chains owners w 1 cell refl e z in
    record {
      chains = chains;
      walked = record { begun = w.begun; passed = on.passed; counted = counted_few (base p) p.blocks (memory_of cells) 1 chains (omega (arith, some_buckets p.blocks)); painted = w.painted };
      start = w.passed.others 1 (omega arith);
    })

-- only the first chain has blocks
total_first : (chains : ℕ → List ℕ) → ((c : ℕ) → 1 ≤ c → chains c ≡ []) → (n : ℕ) → blocks_in_chains chains (suc n) ≡ length (chains 0)
total_first chains h zero = omega arith
total_first chains h (suc n) = let r : blocks_in_chains chains (suc n) ≡ length (chains 0) = total_first chains h n in omega (arith, r, ap length (h (suc n) (omega arith)))

-- the buckets begin with a store that has the registers alone
pub begins : (p : Plot) (cells owners : List ℕ) (s : Store) → HasWalkedFreeList p cells owners → HasRegisters p cells 16 s → IsBeforeChain p cells 1 0 owners s
begins p cells owners s f r = record {
  chains = f.chains;
  walked = record { begun = f.walked.begun; passed = f.walked.passed; counted = counted_few (base p) p.blocks (memory_of cells) 0 f.chains (omega arith); painted = f.walked.painted };
  kept = record {
    state = r.state;
    room = r.room;
    registers = r.registers;
    values = λ key. ap (λ (m : fin.FinMap nat_cmp ℕ). fin.get m key) r.keys ∙ fin.get-empty nat_cmp key ∙ ap (value_in (base p) (memory_of cells) key) (sym (none (1 + key % bucket_count p.blocks) (omega arith)));
    key_blocks =
        let t = total_first f.chains none (bucket_count p.blocks) in
        let e : fin.len s.keys ≡ 0 = ap fin.len r.keys ∙ fin.len-empty nat_cmp ℕ in
        let first : queue_chain p.blocks 0 ≡ suc (bucket_count p.blocks) = omega arith in
        ap (blocks_in_chains f.chains) first ∙ t ∙ omega (arith, e);
    items = λ q l. ap (map (λ b. memory_of cells (first_at (base p) b))) (none (queue_chain p.blocks q) (omega arith)) ∙ sym (r.queues q);
  };
  start = f.start;
}
  where
    none : (c : ℕ) → 1 ≤ c → f.chains c ≡ []
    none c l = elim (cases_lt 1 c) [
      | inl k ↦ f.walked.passed.others c k
      | inr k ↦ (let e : c ≡ 1 = omega arith in subst (λ x. f.chains x ≡ []) (sym e) f.start)
    ]
