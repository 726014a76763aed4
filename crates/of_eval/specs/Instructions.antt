-- An instruction does to cells that stand for a store what it does to the store. These lemmas are
-- in specs/, not in proofs/, since `impl Work for Scripts` cites laws that are proved with them.
use Rattle.std.proofs.Common.{◌≡◌, ℕ, ◌+◌, ◌-◌, ◌<◌, ◌≤◌, inl, inr, refl, sym, ap, subst, arith, Bool, true, false, cond, leb, ltb, ◌&&◌, Option, Some, None, Ok, Err, is_none, List, [], ◌∷◌, ◌++◌, length, get_or}
use Rattle.std.specs.Prelude.{sum_by}
use Rattle.std.specs.FinMap as fin
use Rattle.std.proofs.lemmas.Bool.{cases_eq, ltb-false, ltb-true, lt-leb, le-leb}
use Rattle.std.proofs.lemmas.List.{get_or-set_same, get_or-set_other}
use Rattle.of_mem.specs.declared.plot.TheConstants.{MOST_BLOCKS}
use Rattle.of_mem.specs.Places.{register_at, cells_at}
use Rattle.of_mem.specs.Programs.{Program, program_answer, memory_after, with_value, StaysBetween, then_do}
use Rattle.of_mem.specs.Stores.{StandsForStore, thing_count}
use Rattle.of_mem.proofs.Changes.{changed_same, changed_other}
use Rattle.of_mem.proofs.Runs.{answer_then, after_then, inside_then}
use Rattle.of_map.specs.MapPrograms.{get_program, put_program, del_program}
use Rattle.of_map.specs.declared.answers.Put.{Put as PutAnswer}
use Rattle.of_map.specs.Means.{put_answer, put_store}
use Rattle.of_map.proofs.Gets.{get_means}
use Rattle.of_map.proofs.Changes.{put_means}
use Rattle.of_map.proofs.Wholes.{put_inside}
use Rattle.of_map.proofs.Dels.{del_means}
use Rattle.of_order.specs.OrderPrograms.{least_program, drop_program}
use Rattle.of_order.proofs.Buckets.{least_means}
use Rattle.of_order.proofs.Drops.{drop_means}
use Rattle.of_queue.specs.QueuePrograms.{push_program, pop_program}
use Rattle.of_queue.specs.Means.{push_store, pop_store, front_of}
use Rattle.of_queue.proofs.Wholes.{push_means, pop_means}
use Rattle.of_script.specs.declared.instr.Cause.TheVariants.{Overflow, Short, NoRoom, Differs, BadOp}
use Rattle.of_script.specs.declared.instr.Instr.{Instr}
use Rattle.of_script.specs.declared.instr.Instr.TheVariants.{Load, Store as Put_in, Add, Sub, Get, Put, Del, Need, Push, Pop, Len, Count, First, Next, DropBelow}
use Rattle.of_script.specs.Language.{IsInstrInRange, greatest}
use Rattle.of_store.specs.declared.store.TheConstants.{MOST_ORDERED_BLOCKS}
use Rattle.of_store.specs.Store.{Store, IsState, InstrEffect, instr_effect, ordered_effect, pop_effect, least_from, keys_from, queue, stored_count, register, with_register, with_queue, is_there}
use Rattle.of_eval.specs.Stored.{cell_store, IsStored}
use Rattle.of_eval.specs.ScriptPrograms.{InstrResult, abort_program, ordered_program, answer_program, answers_number, put_answers, answers_if, need_answers, add_to, add_unless, sub_from, sub_unless, instr_program}
use Rattle.of_eval.specs.Registers.{register_stands}

-- the instruction has answered r and left the memory n, and this is what the effect on the store
-- says; after an abort only the cause counts, and n may be anything
abbrev pub GivesEffect : ℕ → ℕ → InstrEffect → InstrResult → (ℕ → ℕ) → Type 0
GivesEffect o blocks (Ok e) r n = (r ≡ Ok e.1) × StandsForStore o blocks n (cell_store e.0)
GivesEffect o blocks (Err cause) r n = r ≡ Err cause

-- run on the memory m, the program has this effect on the store, and uses only cells of the store
abbrev pub HasEffect : ℕ → ℕ → (ℕ → ℕ) → Program InstrResult → InstrEffect → Type 0
HasEffect o blocks m f e =
    StaysBetween o (cells_at o blocks) f m
    × GivesEffect o blocks e (program_answer f m) (memory_after f m)

four : (qs : List (List ℕ)) → length qs ≡ 4
    → sum_by length qs
    ≡ length (get_or qs 0 []) + length (get_or qs 1 []) + length (get_or qs 2 [])
    + length (get_or qs 3 [])
four [] e = absurd (omega arith)
four (a ∷ []) e = absurd (omega arith)
four (a ∷ b ∷ []) e = absurd (omega arith)
four (a ∷ b ∷ c ∷ []) e = absurd (omega arith)
four (a ∷ b ∷ c ∷ d ∷ []) e = omega arith
four (a ∷ b ∷ c ∷ d ∷ x ∷ l) e = absurd (omega arith)

-- both kinds of store count the same number of keys and items
pub things_kept : (s : Store) → IsState s → thing_count (cell_store s) ≡ stored_count s
things_kept s h = let e = four s.queues h.queues in omega (arith, e)

-- changing a queue's items gives the same store, whether it is done on a store of scripts or on a
-- store of cells
pub queue_plain : (s : Store) (q : ℕ) (items : List ℕ) → q < length s.queues
    → cell_store (with_queue s q items)
    ≡ record (cell_store s) { queues = with_value (λ x. queue s x) q items }
queue_plain s q items l =
    λ i. record { registers = s.registers; map = s.keys; queues = λ x. at x i; room = s.room }
  where
    at : (x : ℕ) → queue (with_queue s q items) x ≡ with_value (λ y. queue s y) q items x
    at x = elim (cases_eq x q) [
      | inl e ↦
          rw (e, changed_same (λ y. queue s y) q items) (get_or-set_same s.queues q items [] l)
      | inr n ↦
          rw (changed_other (λ y. queue s y) q items x n) (get_or-set_other s.queues q x items [] n)
    ]

-- if a first program and a second one that goes on with its answer have effects one after the
-- other, the two as one program have the effect of both
after_first : {A : Type 0} (o blocks : ℕ) (m : ℕ → ℕ) (f : Program A) (g : A → Program InstrResult)
    (e : InstrEffect) → StaysBetween o (cells_at o blocks) f m
    → HasEffect o blocks (memory_after f m) (g (program_answer f m)) e
    → HasEffect o blocks m (then_do f g) e
after_first o blocks m f g e i k =
    (inside_then o (cells_at o blocks) f g m i k.0, rw (answer_then f g m, after_then f g m) k.1)

module _ (o blocks : ℕ) (few : blocks ≤ MOST_BLOCKS) (m : ℕ → ℕ) (s : Store)
    (h : IsStored o blocks m s) where
  abbrev Does : Program InstrResult → InstrEffect → Type 0
  Does f e = HasEffect o blocks m f e

  room_is : s.room ≡ blocks
  room_is = h.stands.room

  is_register : (r : ℕ) → r < 16 → m (register_at o r) ≡ register s r
  is_register r l = (h.stands.holds.registers r l).0

  load : (r : ℕ) → r < 16 → Does (instr_program o blocks (Load r)) (instr_effect s (Load r))
  load r l = (
    (omega arith, omega (arith, l), tt),
    (ap (λ (v : ℕ). Ok (Some v)) (is_register r l), h.stands),
  )

  writes : (r v : ℕ) → r < 16 → v ≤ greatest
      → StandsForStore o blocks (with_value m (register_at o r) v)
      (cell_store (with_register s r v))
  writes r v l k = register_stands o blocks m (cell_store s) h.stands r v l (omega (arith, k))

  store : (r v : ℕ) → r < 16 → v ≤ greatest
      → Does (instr_program o blocks (Put_in r v)) (instr_effect s (Put_in r v))
  store r v l k = ((omega arith, omega (arith, l), omega (arith, k), tt), (refl, writes r v l k))

  add_case : (r v : ℕ) → r < 16 → (t : Bool) → ltb greatest v ≡ t
      → Does (add_unless o r v t) (cond t (Err Overflow) (Ok (with_register s r v, Some v)))
  add_case r v l true e = (tt, refl)
  add_case r v l false e =
      let k : v ≤ greatest = ltb-false greatest v e in
      ((omega arith, omega (arith, l), omega (arith, k), tt), (refl, writes r v l k))

  add : (r v : ℕ) → r < 16 → Does (instr_program o blocks (Add r v)) (instr_effect s (Add r v))
  add r v l =
      let k = add_case r (register s r + v) l (ltb greatest (register s r + v)) refl in
      let g =
      subst (λ (n : ℕ). Does (add_to o r v n) (instr_effect s (Add r v)))
      (sym (is_register r l)) k in
      ((omega arith, omega (arith, l), g.0), g.1)

  sub_case : (r n v : ℕ) → r < 16 → n ≤ greatest → (t : Bool)
      → Does (sub_unless o r (n - v) t)
      (cond t (Err Short) (Ok (with_register s r (n - v), Some (n - v))))
  sub_case r n v l k true = (tt, refl)
  sub_case r n v l k false = (
    (omega arith, omega (arith, l), omega (arith, k), tt),
    (refl, writes r (n - v) l (omega (arith, k))),
  )

  sub : (r v : ℕ) → r < 16 → Does (instr_program o blocks (Sub r v)) (instr_effect s (Sub r v))
  sub r v l =
      let k = sub_case r (register s r) v l (h.state.small r) (ltb (register s r) v) in
      let g =
      subst (λ (n : ℕ). Does (sub_from o r v n) (instr_effect s (Sub r v)))
      (sym (is_register r l)) k in
      ((omega arith, omega (arith, l), g.0), g.1)

  get : (k : ℕ) → Does (instr_program o blocks (Get k)) (instr_effect s (Get k))
  get k =
      let g = get_means o blocks m (cell_store s) h.stands k in
      after_first o blocks m (get_program o blocks k) answer_program (instr_effect s (Get k)) g.2 (
        tt,
        (
          ap Ok g.0,
          subst (λ (n : ℕ → ℕ). StandsForStore o blocks n (cell_store s)) (sym g.1) h.stands,
        ),
      )

  need_case : (v : ℕ) (t : Bool) (n : ℕ → ℕ) → StandsForStore o blocks n (cell_store s)
      → HasEffect o blocks n (answers_if Differs t) (cond t (Ok (s, None)) (Err Differs))
  need_case v true n k = (tt, (refl, k))
  need_case v false n k = (tt, refl)

  need : (k v : ℕ) → Does (instr_program o blocks (Need k v)) (instr_effect s (Need k v))
  need k v =
      let g = get_means o blocks m (cell_store s) h.stands k in
      let stay =
      subst (λ (n : ℕ → ℕ). StandsForStore o blocks n (cell_store s)) (sym g.1) h.stands in
      after_first o blocks m (get_program o blocks k) (need_answers v) (instr_effect s (Need k v))
      g.2
      (subst
      (λ (x : Option ℕ). HasEffect o blocks (memory_after (get_program o blocks k) m)
      (need_answers v x) (instr_effect s (Need k v))) (sym g.0)
      (need_case v (is_there (fin.get s.keys k) v) (memory_after (get_program o blocks k) m) stay))

  -- the store of cells is full exactly if the store of scripts is
  full : ltb (thing_count (cell_store s)) blocks ≡ false → leb s.room (stored_count s) ≡ true
  full e =
      le-leb s.room (stored_count s)
      (omega
      (arith, ltb-false (thing_count (cell_store s)) blocks e, things_kept s h.state, room_is))

  not_full : ltb (thing_count (cell_store s)) blocks ≡ true → leb s.room (stored_count s) ≡ false
  not_full e =
      lt-leb s.room (stored_count s)
      (omega
      (arith, ltb-true (thing_count (cell_store s)) blocks e, things_kept s h.state, room_is))

  put : (k v : ℕ) → k ≤ greatest → v ≤ greatest
      → Does (instr_program o blocks (Put k v)) (instr_effect s (Put k v))
  put k v k_in v_in =
      let p =
      put_means o blocks few m (cell_store s) h.stands k v (omega (arith, k_in))
      (omega (arith, v_in)) in
      after_first o blocks m (put_program o blocks k v) put_answers (instr_effect s (Put k v))
      (put_inside o blocks few m (cell_store s) h.stands k v (omega (arith, k_in))
      (omega (arith, v_in)))
      (put_case (fin.get s.keys k) (ltb (thing_count (cell_store s)) blocks) refl
      (program_answer (put_program o blocks k v) m) (memory_after (put_program o blocks k v) m) p.0
      p.1)
    where
      put_case : (old : Option ℕ) (t : Bool) → ltb (thing_count (cell_store s)) blocks ≡ t
          → (r : PutAnswer) (n : ℕ → ℕ) → r ≡ put_answer old t
          → StandsForStore o blocks n (put_store (cell_store s) k v old t)
          → HasEffect o blocks n (put_answers r)
          (cond (is_none old && leb s.room (stored_count s)) (Err NoRoom)
          (Ok (record s { keys = fin.insert s.keys k v }, old)))
      put_case (Some w) t e r n is stands = rw is (tt, (refl, stands))
      put_case None true e r n is stands = rw (is, not_full e) (tt, (refl, stands))
      put_case None false e r n is stands = rw (is, full e) (tt, refl)

  del : (k : ℕ) → Does (instr_program o blocks (Del k)) (instr_effect s (Del k))
  del k =
      let d = del_means o blocks m (cell_store s) h.stands k few in
      after_first o blocks m (del_program o blocks k) answer_program (instr_effect s (Del k)) d.0
      (tt, (ap Ok d.1.0, d.1.1))

  push : (q v : ℕ) → q < 4 → v ≤ greatest
      → Does (instr_program o blocks (Push q v)) (instr_effect s (Push q v))
  push q v q_in v_in =
      let p = push_means o blocks few m (cell_store s) h.stands q q_in v (omega (arith, v_in)) in
      after_first o blocks m (push_program o blocks q v) (answers_if NoRoom)
      (instr_effect s (Push q v)) p.0
      (push_case (ltb (thing_count (cell_store s)) blocks) refl
      (program_answer (push_program o blocks q v) m) (memory_after (push_program o blocks q v) m)
      p.1.0 p.1.1)
    where
      push_case : (t : Bool) → ltb (thing_count (cell_store s)) blocks ≡ t → (r : Bool) (n : ℕ → ℕ)
          → r ≡ t → StandsForStore o blocks n (push_store (cell_store s) q v t)
          → HasEffect o blocks n (answers_if NoRoom r)
          (cond (leb s.room (stored_count s)) (Err NoRoom)
          (Ok (with_queue s q (queue s q ++ v ∷ []), None)))
      push_case true e r n is stands =
          rw (is, not_full e) (
            tt,
            (
              refl,
              subst (StandsForStore o blocks n)
                  (sym
                  (queue_plain s q (queue s q ++ v ∷ []) (omega (arith, h.state.queues, q_in))))
                  stands,
            ),
          )
      push_case false e r n is stands = rw (is, full e) (tt, refl)

  pop : (q : ℕ) → q < 4 → Does (instr_program o blocks (Pop q)) (instr_effect s (Pop q))
  pop q q_in =
      let p = pop_means o blocks few m (cell_store s) h.stands q q_in in
      after_first o blocks m (pop_program o q) answer_program (instr_effect s (Pop q)) p.0
      (pop_case (queue s q) (program_answer (pop_program o q) m) (memory_after (pop_program o q) m)
      p.1.0 p.1.1)
    where
      pop_case : (items : List ℕ) (r : Option ℕ) (n : ℕ → ℕ) → r ≡ front_of items
          → StandsForStore o blocks n (pop_store (cell_store s) q items)
          → HasEffect o blocks n (answer_program r) (pop_effect s q items)
      pop_case [] r n is stands = (tt, (ap Ok is, stands))
      pop_case (x ∷ items) r n is stands = (
        tt,
        (
          ap Ok is,
          subst (StandsForStore o blocks n)
              (sym (queue_plain s q items (omega (arith, h.state.queues, q_in)))) stands,
        ),
      )

  len : (q : ℕ) → q < 4 → Does (instr_program o blocks (Len q)) (instr_effect s (Len q))
  len q q_in = (
    (omega arith, omega (arith, q_in), tt),
    (ap (λ (v : ℕ). Ok (Some v)) (h.stands.holds.queues q q_in).counted, h.stands),
  )

  count : Does (instr_program o blocks Count) (instr_effect s Count)
  count =
      ((omega arith, omega arith, tt), (ap (λ (v : ℕ). Ok (Some v)) h.stands.holds.keys, h.stands))

  ordered_case : (t : Bool) (f : Program InstrResult) (e : InstrEffect) → Does f e
      → Does (cond t (abort_program BadOp) f) (cond t (Err BadOp) e)
  ordered_case true f e d = (tt, refl)
  ordered_case false f e d = d

  -- an instruction on keys in their order has its effect, because the store has room for as many
  -- keys and items as the cells have blocks
  ordered : (f : Program InstrResult) (e : InstrEffect) → Does f e
      → Does (ordered_program blocks f) (ordered_effect s e)
  ordered f e d =
      subst
      (λ (n : ℕ).
      Does (ordered_program blocks f) (cond (ltb MOST_ORDERED_BLOCKS n) (Err BadOp) e))
      (sym room_is) (ordered_case (ltb MOST_ORDERED_BLOCKS blocks) f e d)

  least : (low : ℕ)
      → Does (then_do (least_program o blocks low) answer_program) (Ok (s, least_from s.keys low))
  least low =
      let g = least_means o blocks low m (cell_store s) h.stands in
      after_first o blocks m (least_program o blocks low) answer_program
      (Ok (s, least_from s.keys low)) g.2 (
        tt,
        (
          ap Ok g.0,
          subst (λ (n : ℕ → ℕ). StandsForStore o blocks n (cell_store s)) (sym g.1) h.stands,
        ),
      )

  abbrev dropped : ℕ → InstrEffect
  dropped k = Ok (
    record s { keys = keys_from s.keys k },
    Some (fin.len s.keys - fin.len (keys_from s.keys k)),
  )

  drop : (k : ℕ) → Does (then_do (drop_program o blocks k) answers_number) (dropped k)
  drop k =
      let d = drop_means o blocks k few (cell_store s) m h.stands in
      after_first o blocks m (drop_program o blocks k) answers_number (dropped k)
      d.0 (tt, (ap (λ (v : ℕ). Ok (Some v)) d.1, d.2))

  -- every instruction does to cells that stand for a store what it does to the store
  pub instr_acts : (i : Instr) → IsInstrInRange i
      → HasEffect o blocks m (instr_program o blocks i) (instr_effect s i)
  instr_acts (Load r) k = load r k
  instr_acts (Put_in r v) k = store r v k.0 k.1
  instr_acts (Add r v) k = add r v k.0
  instr_acts (Sub r v) k = sub r v k.0
  instr_acts (Get k) l = get k
  instr_acts (Put k v) l = put k v l.0 l.1
  instr_acts (Del k) l = del k
  instr_acts (Need k v) l = need k v
  instr_acts (Push q v) k = push q v k.0 k.1
  instr_acts (Pop q) k = pop q k
  instr_acts (Len q) k = len q k
  instr_acts Count k = count
  instr_acts First k = ordered _ _ (least 0)
  instr_acts (Next k) l = ordered _ _ (least (k + 1))
  instr_acts (DropBelow k) l = ordered _ _ (drop k)
