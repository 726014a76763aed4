-- A run on a part of memory, batch and all, goes as on the known cells with the batch over them.
use Rattle.std.proofs.Common.{◌≡◌, ℕ, ◌+◌, ◌%◌, ◌^◌, ◌<◌, ◌≤◌, refl, sym, ◌∙◌, ap, subst, arith, Bool, true, false, cond, ltb, Option, Some, None, Result, Ok, Err, List, [], ◌∷◌, length, get_or}
use Rattle.std.specs.Prelude.{IfErr, OnErr, OnOk}
use Rattle.std.specs.Option.{unwrap_or}
use Rattle.std.specs.List.{AllByRecursion as Each}
use Rattle.std.proofs.lemmas.Bool.{lt-ltb, le-ltb, ltb-true}
use Rattle.of_mem.specs.declared.work.RawReply.{RawReply}
use Rattle.of_mem.specs.CellMap.{value_for}
use Rattle.of_mem.specs.Part.{Part, newest_at, newer_of, overlaid}
use Rattle.of_mem.specs.declared.plot.Plot.{Plot}
use Rattle.of_mem.specs.Plots.{base}
use Rattle.of_mem.specs.Places.{bucket_count, cells_at, register_at, fresh_at, keys_at, tail_at, length_at}
use Rattle.of_mem.specs.declared.part.Need.{Need}
use Rattle.of_mem.specs.Programs.{Program, RunEnd, Lacks, Ends, run_program, IsPartOf, NeedsAt}
use Rattle.of_mem.specs.Meaning.{Needs, Gives, Agrees, RunsAsWalked}
use Rattle.of_mem.specs.ProgramWork.{memory_of, fresh_part, walk_of_run}
use Rattle.of_mem.specs.Stores.{out_chain, queue_chain, CellStore, StandsForStore, front_at, link_at, first_at, second_at}
use Rattle.of_mem.proofs.BucketPlaces.{key_bucket}
use Rattle.of_mem.proofs.Counts.{blocks_below}
use Rattle.of_mem.proofs.Frames.{SameBlocks, value_same, bucket_same, queue_same}
use Rattle.of_mem.proofs.Heaps.{front_below, chain_copy}
use Rattle.of_mem.proofs.Overlaid.{over_at, RunsAlike, run_alike}
use Rattle.of_mem.proofs.Sounds.{part_fresh}
use Rattle.of_script.specs.declared.instr.TheConstants.{MOST_INSTRS}
use Rattle.of_script.specs.declared.instr.Cause.{Cause}
use Rattle.of_store.specs.Store.{Store, Aborted}
use Rattle.of_eval.specs.declared.scripts.Scripts.{Scripts}
use Rattle.of_eval.specs.Shapes.{reply_cells, mask_of}
use Rattle.of_eval.specs.Words.{reply_to}
use Rattle.of_eval.specs.ShapeLaws.{code_some, mask_width}
use Rattle.of_eval.specs.Stored.{cell_store, IsStored, HasState}
use Rattle.of_eval.specs.Calls.{script}
use Rattle.of_eval.specs.ScriptPrograms.{script_program}
use Rattle.of_eval.specs.Scripts.{store_at, scripts_data_cells, LawfulCells, is_success, scripts_meaning}
use Rattle.of_eval.specs.SoundScripts.{script_run}

-- Only cells of the store are looked at.
module _ (o blocks : ℕ) (m n : ℕ → ℕ) (same : (a : ℕ) → o ≤ a → a < cells_at o blocks → m a ≡ n a) (s : CellStore) (h : StandsForStore o blocks m s) where
  back : (a : ℕ) → o ≤ a → a < cells_at o blocks → n a ≡ m a
  back a l k = sym (same a l k)

  links : (l : List ℕ) → Each (λ b. b < blocks) l → Each (λ b. n (link_at o b) ≡ m (link_at o b)) l
  links [] k = tt
  links (b ∷ l) k = (back (link_at o b) (omega arith) (omega (arith, k.0)), links l k.1)

  blocks_same : (l : List ℕ) → Each (λ b. b < blocks) l → SameBlocks o m n l
  blocks_same [] k = tt
  blocks_same (b ∷ l) k = ((back (first_at o b) (omega arith) (omega (arith, k.0)), back (second_at o b) (omega arith) (omega (arith, k.0))), blocks_same l k.1)

  chain_same : (c : ℕ) → c < 1 + out_chain blocks → SameBlocks o m n (h.chains c)
  chain_same c l = blocks_same (h.chains c) (blocks_below o blocks m s h c l)

  pub stands_below : StandsForStore o blocks n s
  stands_below =
      let fresh : n (fresh_at o) ≡ m (fresh_at o) = back (fresh_at o) (omega arith) (omega arith) in
      record {
        chains = h.chains;
        owner = h.owner;
        heap = record {
          linked = λ c l. chain_copy o m n (front_at o blocks c) (front_at o blocks c) (h.chains c) (back (front_at o blocks c) (omega (arith, (front_below o blocks c l).0)) (omega (arith, (front_below o blocks c l).1))) (links (h.chains c) (blocks_below o blocks m s h c (omega (arith, l)))) (h.heap.linked c l);
          owned = λ c l. rw fresh (h.heap.owned c l);
          counted = h.heap.counted ∙ sym fresh;
          few = rw fresh h.heap.few;
        };
        none_out = h.none_out;
        room = h.room;
        sixteen = h.sixteen;
        holds = record {
          registers = λ r l. let e : n (register_at o r) ≡ m (register_at o r) = back (register_at o r) (omega arith) (omega (arith, l)) in rw e (h.holds.registers r l);
          values = λ key. h.holds.values key ∙ sym (value_same o m n key (h.chains (1 + key % bucket_count blocks)) (chain_same (1 + key % bucket_count blocks) (omega (arith, key_bucket blocks key))));
          buckets = λ b l. bucket_same o blocks m n b (h.chains (1 + b)) (chain_same (1 + b) (omega (arith, l))) (h.holds.buckets b l);
          keys = back (keys_at o) (omega arith) (omega arith) ∙ h.holds.keys;
          key_blocks = h.holds.key_blocks;
          queues = λ q l. queue_same o m n q (h.chains (queue_chain blocks q)) (s.queues q) (chain_same (queue_chain blocks q) (omega (arith, l))) (back (tail_at o q) (omega arith) (omega (arith, l))) (back (length_at o q) (omega arith) (omega (arith, l))) (h.holds.queues q l);
        };
      }

-- a reply with values is a success
pub answered_succeeds : (n : ℕ) (vs : List (Option ℕ)) → n ≤ MOST_INSTRS → length vs ≡ MOST_INSTRS → is_success (reply_cells (record { len = n; values = vs; abort = None })) ≡ true
answered_succeeds n vs few width =
    let k : mask_of vs < 2 ^ length vs = mask_width vs in
    let small : mask_of vs < 2 ^ MOST_INSTRS = subst (λ (m : ℕ). mask_of vs < 2 ^ m) width k in
    lt-ltb _ _ (omega (arith, small, few))

-- an abort is none
pub aborted_fails : (n place : ℕ) (cause : Cause) → is_success (reply_cells (reply_to n (Aborted place cause))) ≡ false
aborted_fails n place cause = let c = code_some cause in le-ltb _ _ (omega (arith, c.0))

-- the writes of a success are kept
pub kept_when : (x : RawReply) (q p : Part) → is_success x ≡ true → p ≡ q → Gives (cond (is_success x) q.script []) x ≡ Gives p.script x
kept_when x q p e same = rw e (λ i. Gives (sym same i).script x)

-- those of an abort are dropped
pub dropped_when : (x : RawReply) (q p : Part) → is_success x ≡ false → p.script ≡ [] → Gives (cond (is_success x) q.script []) x ≡ Gives p.script x
dropped_when x q p e none = rw e (λ i. Gives (sym none i) x)

-- runs that end alike walk alike
alike_walks : (keeps : RawReply → Bool) (x y : RunEnd RawReply) → RunsAlike x y → walk_of_run keeps x ≡ walk_of_run keeps y
alike_walks keeps (Lacks a) (Lacks b) h = ap Needs h
alike_walks keeps (Lacks a) (Ends r q) h = absurd h
alike_walks keeps (Ends s p) (Lacks a) h = absurd h
alike_walks keeps (Ends s p) (Ends r q) h = λ i. Gives (cond (keeps (h.0 i)) (h.1 i) []) (h.0 i)

-- what a run asks of its part of memory
abbrev pub IsPartOfLawful : Scripts → Part → Type 0
IsPartOfLawful w p = (xs : List ℕ) × (length xs ≡ scripts_data_cells w) × LawfulCells w xs × Agrees (overlaid p.known p.batch) xs

module _ (w : Scripts) (p : Part) (a : IsPartOfLawful w p) (size : length p.known ≡ scripts_data_cells w) (empty : p.script ≡ []) where
  -- the list's cells, and past them whatever is known
  abbrev whole : ℕ → ℕ
  whole x = cond (ltb x (scripts_data_cells w)) (memory_of a.0 x) (unwrap_or (newest_at p x) 0)

  inside : (x : ℕ) → x < scripts_data_cells w → memory_of a.0 x ≡ whole x
  inside x l = rw (lt-ltb x (scripts_data_cells w) l) refl

  newest_over : (x : ℕ) → x < scripts_data_cells w → newest_at p x ≡ get_or (overlaid p.known p.batch) x None
  unfolding newest_at
  newest_over x l = ap (λ (es : List (ℕ × ℕ)). newer_of (value_for es x) (newer_of (value_for p.batch x) (get_or p.known x None))) empty ∙ sym (over_at p.known p.batch x (omega (arith, size, l)))

  is_part : (x v : ℕ) → newest_at p x ≡ Some v → whole x ≡ v
  is_part x v e = go (ltb x (scripts_data_cells w)) refl
    where
      go : (t : Bool) → ltb x (scripts_data_cells w) ≡ t → cond t (memory_of a.0 x) (unwrap_or (newest_at p x) 0) ≡ v
      go true k = a.3 x v (sym (newest_over x (ltb-true x (scripts_data_cells w) k)) ∙ e)
      go false k = ap (λ (y : Option ℕ). unwrap_or y 0) e

  -- it is part of a memory that stands for the list's store
  pub has_state : (m : ℕ → ℕ) × (s : Store) × IsPartOf p m × IsStored (store_at w) w.blocks m s
  has_state = (whole, a.2.0, is_part, record { state = a.2.1.state; stands = stands_below (store_at w) w.blocks (memory_of a.0) whole (λ x l k. inside x k) (cell_store a.2.0) a.2.1.stands })

  module _ (op : List ℕ) where
    abbrev program : Program RawReply
    program = script_program (store_at w) w.blocks op

    alike : RunsAlike (run_program program (fresh_part (overlaid p.known p.batch))) (run_program program p)
    alike = run_alike (store_at w) (scripts_data_cells w) program (fresh_part (overlaid p.known p.batch)) p (memory_of a.0)
        (record { below = λ x l. over_at p.known p.batch x (omega (arith, size, l)); script = sym empty })
        (part_fresh (overlaid p.known p.batch) a.0 a.3)
        (script_run (store_at w) w.blocks w.few_blocks op (memory_of a.0) a.2.0 a.2.1).inside

    -- the work walks as the program runs on it
    pub walk_is : (scripts_meaning w).walk (overlaid p.known p.batch) op ≡ walk_of_run is_success (run_program program p)
    walk_is = alike_walks is_success (run_program program (fresh_part (overlaid p.known p.batch))) (run_program program p) alike

  -- so it is on the work's plot
  pub state_on : (plot : Plot) → base plot ≡ store_at w → plot.blocks ≡ w.blocks → HasState plot p
  state_on plot e f =
      let h = has_state in
      record { fits = size_is ∙ sym (λ i. cells_at (e i) (f i)); memory = h.0; state = h.1; part = h.2; stored = rw (e, f) h.3 }
    where
      size_is : length p.known ≡ scripts_data_cells w
      size_is = size

  -- and a run of the words on that plot goes as the work walks
  pub runs_on : (plot : Plot) → base plot ≡ store_at w → plot.blocks ≡ w.blocks → (op : List ℕ) (q : Part) → q ≡ p → (result : Result (Unit {0}) Need) (es : List (ℕ × ℕ)) (before after : RawReply)
      → OnOk result (walk_of_run is_success (run_program (script plot op) q) ≡ Gives es after)
      → IfErr result (λ need. NeedsAt (script plot op) q need.addr)
      → OnErr result (es ≡ []) → OnErr result (after ≡ before)
      → RunsAsWalked (scripts_meaning w) (overlaid p.known p.batch) op result es before after
  runs_on plot e f op q same result es before after = go result
    where
      walk_on : (scripts_meaning w).walk (overlaid p.known p.batch) op ≡ walk_of_run is_success (run_program (script plot op) q)
      walk_on = rw (same, e, f) (walk_is op)

      go : (r : Result (Unit {0}) Need)
          → OnOk r (walk_of_run is_success (run_program (script plot op) q) ≡ Gives es after)
          → IfErr r (λ need. NeedsAt (script plot op) q need.addr)
          → OnErr r (es ≡ []) → OnErr r (after ≡ before)
          → RunsAsWalked (scripts_meaning w) (overlaid p.known p.batch) op r es before after
      go (Ok u) ends needs undone out = walk_on ∙ ends
      go (Err need) ends needs undone out = (walk_on ∙ ap (walk_of_run is_success) needs, undone, out)
