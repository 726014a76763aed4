-- The walk compares the count of keys, and at its end looks for a block that was not met.
use Rattle.std.proofs.Common.{◌≡◌, ℕ, zero, suc, ◌+◌, ◌<◌, ◌≢◌, List, [], ◌∷◌, length, map, get_or, refl, sym, ◌∙◌, ap, subst, arith, Bool, true, false, cond, eqb}
use Rattle.std.specs.List.{AllByRecursion as Each}
use Rattle.std.specs.FinMap as fin
use Rattle.std.proofs.lemmas.Bool.{ne_eqb, eqb-false}
use Rattle.of_mem.specs.declared.plot.Plot.{Plot}
use Rattle.of_mem.specs.Places.{bucket_count, fresh_at, keys_at}
use Rattle.of_mem.specs.Plots.{base}
use Rattle.of_mem.specs.ProgramWork.{memory_of}
use Rattle.of_mem.specs.Numbers.{IsNumber}
use Rattle.of_mem.specs.Stores.{out_chain, queue_chain, StandsForStore, first_at, blocks_in_chains}
use Rattle.of_mem.proofs.Counts.{chain_more}
use Rattle.of_store.specs.Store.{Store}
use Rattle.of_eval.specs.Stored.{cell_store}
use Rattle.of_eval.specs.Lawful.{DataCellsStandFor}
use Rattle.of_eval.specs.Faults.{HasPassed, IsFirstFault}
use Rattle.of_eval.specs.Faults.CountFault.{Keys}
use Rattle.of_eval.specs.Faults.IsFirstFault.{Count, Lost}
use Rattle.of_eval.specs.Walking.{IsBeforeChain, unmet_count}
use Rattle.of_eval.proofs.Passing.{counted_few}
use Rattle.of_eval.proofs.Filling.{lengths}

each_map : (P : ℕ → Type 0) (f : ℕ → ℕ) (l : List ℕ) → Each (λ b. P (f b)) l → Each P (map f l)
each_map P f [] h = tt
each_map P f (b ∷ l) h = (h.0, each_map P f l h.1)

pub unmet_none : (l : List ℕ) → ((b : ℕ) → b < length l → get_or l b 0 ≢ 0) → unmet_count l ≡ 0
unmet_none [] h = refl
unmet_none (x ∷ l) h =
    let r : unmet_count l ≡ 0 = unmet_none l (λ b k. h (suc b) (omega arith)) in
    rw (ne_eqb x 0 (h 0 (omega arith))) (omega (arith, r))

pub none_unmet : (l : List ℕ) → unmet_count l ≡ 0 → (b : ℕ) → b < length l → get_or l b 0 ≢ 0
none_unmet [] e b k = absurd (omega arith)
none_unmet (x ∷ l) e zero k = go (eqb x 0) refl e
  where
    go : (t : Bool) → eqb x 0 ≡ t → cond t 1 0 + unmet_count l ≡ 0 → x ≢ 0
    go true q h = absurd (omega (arith, h))
    go false q h = eqb-false x 0 q
none_unmet (x ∷ l) e (suc b) k = none_unmet l (go (eqb x 0) e) b (omega arith)
  where
    go : (t : Bool) → cond t 1 0 + unmet_count l ≡ 0 → unmet_count l ≡ 0
    go true h = absurd (omega (arith, h))
    go false h = omega (arith, h)

module _ (p : Plot) (cells owners : List ℕ) (s : Store) where
  pub keys_right : (cell : ℕ) → cell ≡ keys_at (base p) → memory_of cells cell ≡ fin.len s.keys → IsBeforeChain p cells (queue_chain p.blocks 0) 0 owners s → IsBeforeChain p cells (queue_chain p.blocks 0) (queue_chain p.blocks 0) owners s
  keys_right cell is e h =
      let here : memory_of cells (keys_at (base p)) ≡ fin.len s.keys = ap (memory_of cells) (sym is) ∙ e in
      record {
        chains = h.chains;
        walked = record {
          begun = h.walked.begun;
          passed = h.walked.passed;
          counted = record { keys = λ _. omega (arith, here, h.kept.key_blocks); tails = λ q l. absurd (omega (arith, l)); lengths = λ q l. absurd (omega (arith, l)) };
          painted = h.walked.painted;
        };
        kept = h.kept;
        start = h.start;
      }

  pub keys_fault : (cell : ℕ) → cell ≡ keys_at (base p) → memory_of cells cell ≢ fin.len s.keys → IsBeforeChain p cells (queue_chain p.blocks 0) 0 owners s → IsFirstFault p.callers p.instrs p.blocks (memory_of cells) cell
  keys_fault cell is n h = Count h.walked.begun (bucket_count p.blocks) h.chains (subst (λ (x : ℕ). HasPassed (base p) p.blocks (memory_of cells) x h.chains) first h.walked.passed) (counted_few (base p) p.blocks (memory_of cells) (bucket_count p.blocks) h.chains (omega arith)) (subst (λ (x : ℕ). h.chains x ≡ []) first h.start)
      (Keys (omega arith) (λ e. n (ap (memory_of cells) is ∙ len (memory_of cells (keys_at (base p))) e)) is)
    where
      first : queue_chain p.blocks 0 ≡ 1 + bucket_count p.blocks
      first = omega arith

      len : (n : ℕ) → n + length (h.chains 0) ≡ blocks_in_chains h.chains (queue_chain p.blocks 0) → n ≡ fin.len s.keys
      len n e = let k : blocks_in_chains h.chains (queue_chain p.blocks 0) ≡ length (h.chains 0) + fin.len s.keys = h.kept.key_blocks in let both : n + length (h.chains 0) ≡ length (h.chains 0) + fin.len s.keys = e ∙ k in omega (arith, both)

  module _ (h : IsBeforeChain p cells (out_chain p.blocks) (out_chain p.blocks) owners s) where
    pub lost : (cell : ℕ) → cell ≡ fresh_at (base p) → unmet_count owners ≢ 0 → IsFirstFault p.callers p.instrs p.blocks (memory_of cells) cell
    lost cell is n = Lost h.walked.begun h.chains h.walked.passed h.walked.counted h.start (λ e. n (left (blocks_in_chains h.chains (out_chain p.blocks)) h.walked.painted.counted e)) is
      where
        left : (t : ℕ) → t + unmet_count owners ≡ memory_of cells (fresh_at (base p)) → t ≡ memory_of cells (fresh_at (base p)) → unmet_count owners ≡ 0
        left t e k = omega (arith, e, k)

    stands : unmet_count owners ≡ 0 → StandsForStore (base p) p.blocks (memory_of cells) (cell_store s)
    stands none = record {
      chains = h.chains;
      owner = h.walked.passed.owner;
      heap = record {
        linked = h.walked.passed.linked;
        owned = λ c l. h.walked.passed.owned c;
        counted = chain_more h.chains (out_chain p.blocks) (1 + out_chain p.blocks) (omega arith) ∙ all (blocks_in_chains h.chains (out_chain p.blocks)) h.walked.painted.counted;
        few = h.walked.begun.few;
      };
      none_out = h.start;
      holds = record {
        registers = λ r l. (h.kept.registers r l, h.walked.begun.registers r l);
        values = h.kept.values;
        buckets = h.walked.passed.buckets;
        keys = len (memory_of cells (keys_at (base p))) (h.walked.counted.keys (omega arith));
        key_blocks = h.kept.key_blocks;
        queues = λ q l. record {
          listed = h.kept.items q l;
          numbers = subst (λ (x : List ℕ). Each IsNumber x) (h.kept.items q l) (each_map IsNumber (λ b. memory_of cells (first_at (base p) b)) (h.chains (queue_chain p.blocks q)) (h.walked.passed.items q l));
          ends = h.walked.counted.tails q (omega arith);
          counted = h.walked.counted.lengths q (omega arith) ∙ lengths p cells h.chains s h.kept q l;
        };
      };
      room = h.kept.room;
      sixteen = h.kept.state.registers;
    }
      where
        all : (t : ℕ) → t + unmet_count owners ≡ memory_of cells (fresh_at (base p)) → t + length (h.chains (out_chain p.blocks)) ≡ memory_of cells (fresh_at (base p))
        all t e = omega (arith, e, none, ap length h.start)

        len : (n : ℕ) → n + length (h.chains 0) ≡ blocks_in_chains h.chains (queue_chain p.blocks 0) → n ≡ fin.len s.keys
        len n e = let k : blocks_in_chains h.chains (queue_chain p.blocks 0) ≡ length (h.chains 0) + fin.len s.keys = h.kept.key_blocks in let both : n + length (h.chains 0) ≡ length (h.chains 0) + fin.len s.keys = e ∙ k in omega (arith, both)

    pub stand_for : unmet_count owners ≡ 0 → DataCellsStandFor p.callers p.instrs p.blocks (memory_of cells) s
    stand_for none = record { own = h.walked.begun.own; stored = record { state = h.kept.state; stands = stands none } }
