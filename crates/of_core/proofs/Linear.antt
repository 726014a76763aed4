-- Every schedule is durably linearizable: the batches up to the durable sequence in order, and
-- after each the reads of its state, are a serial run that explains it.
use Rattle.std.proofs.Common.{◌≡◌, ℕ, ◌+◌, ◌-◌, ◌<◌, ◌≤◌, ◌⊎◌, inl, inr, List, [], ◌∷◌, ◌++◌, length, take, drop, get_or, refl, sym, ◌∙◌, ap, subst, arith, Option, Some, None, Bool, true, false, map}
use Rattle.std.specs.List.{All}
use Rattle.std.proofs.lemmas.Bool.{cases_lt}
use Rattle.std.proofs.lemmas.List.{length-map, length-take-le, get_or-take, get_or-map, get_or-drop, get_or_past, take-take, take-append-drop}
use Rattle.of_cell.specs.Words.{payload_of}
use Rattle.of_cell.proofs.Places.{row_within}
use Rattle.of_mem.specs.Meaning.{Meaning, IsSoundMeaning, Agrees, WalkFits, WalkEnd, SameFrom}
use Rattle.of_mem.specs.Meaning.WalkEnd.{Needs, Gives}
use Rattle.of_mem.specs.declared.work.RawReply.{RawReply}
use Rattle.of_core.specs.declared.place.Outcome.{Outcome}
use Rattle.of_core.specs.declared.place.Outcome.TheVariants.{Answered, Spent, Lost}
use Rattle.of_core.specs.Table.{Setup, first_operation_cell, ticket_cell, shape_cell, reply_cell, durable_seq}
use Rattle.of_core.specs.Machine.{Call, no_call}
use Rattle.of_core.specs.TableMoment.{Moment, TableStart, Batch, Read}
use Rattle.of_core.specs.History.{state_after, batch_at, no_batch, data_word_after, numbers_after, numbers_after_calls, numbers_after_batches, last_ticket_by, OwnCellsShowLast, IsCellOfCaller, HasCall, SameReply}
use Rattle.of_core.specs.Order.{no_read}
use Rattle.of_core.specs.Invariant.{MeetsInvariant}
use Rattle.of_core.specs.Events.{Event, after_events, IsSchedule, start_ticket}
use Rattle.of_core.specs.Calls.{operations_begun, outcomes, no_outcome, OutcomeStands, HasCalls}
use Rattle.of_core.specs.Claim.{IsNewerCall, IsSound}
use Rattle.of_core.specs.Linear.{Precedes, ExplainsOutcome, Linearizes, Sequences, HasOwnSequence, IsBySequence, recovered_number, FindsCall, Detects, IsDurablyLinearizable}
use Rattle.of_core.proofs.States.{state_length, state_start, batch_is, later, legal_front}
use Rattle.of_core.proofs.Assembling.{logs_of}
use Rattle.of_core.proofs.Overlays.{calls_lawful, calls_length}
use Rattle.of_core.proofs.Replays.{replay_length}
use Rattle.of_core.proofs.Tickets.{ticket_upto, tickets_rise}
use Rattle.of_core.proofs.Claims.{is_sound}
use Rattle.of_core.proofs.Calls.{fewer_outs}
use Rattle.of_core.proofs.InOrder.{call_of, serial_order, all_in_order, StandsIn, order_has_read, order_has_call, Pairs, pairs_in_order, Reads, order_leads}
use Rattle.of_core.proofs.Ranks.{HasRank, RanksBefore, AreInRank, one_rank, by_rank}
use Rattle.of_core.proofs.RealTime.{last_world, good_last, last_calls, durable_between, late_call, ended_call, late_read, ended_read, stands_begun}

-- An operation that only reads leaves the numbers.
module _ (W : Meaning) (Lawful : List ℕ → Type 0) (low size : ℕ) (sound : IsSoundMeaning W Lawful low size) where
  pub reads_stay : (xs op : List ℕ) → length xs ≡ size → Lawful xs → W.reads_only op ≡ true → W.cells xs op ≡ xs
  reads_stay xs op long lawful only = go (W.walk known op) (sound.walks known xs op long lawful agrees)
    where
      known : List (Option ℕ)
      known = map Some xs

      known_at : (a : ℕ) → a < size → get_or known a None ≡ Some (get_or xs a 0)
      known_at a l = get_or-map Some xs a 0 None (omega (arith, long))

      agrees : Agrees known xs
      agrees a v e = go (cases_lt a size)
        where
          go : (a < size) ⊎ (size ≤ a) → get_or xs a 0 ≡ v
          go (inl l) = let k : Some (get_or xs a 0) ≡ Some v = sym (known_at a l) ∙ e in cc
          go (inr l) = let k : None ≡ Some v = sym (get_or_past known a None (omega (arith, long, length-map xs Some))) ∙ e in cc

      go : (r : WalkEnd) → WalkFits W low size known xs op r → W.cells xs op ≡ xs
      go (Needs a) f = let k : Some (get_or xs a 0) ≡ None = sym (known_at a f.1) ∙ f.2 in cc
      go (Gives script r) f = rw (f.reads only) at f.cells

module _ (S : Setup) (Lawful : List ℕ → Type 0) (sound : IsSoundMeaning S.meaning Lawful (first_operation_cell S) S.cells) (B : TableStart) (first : Moment) (good_first : MeetsInvariant S Lawful B first)
    (none : (i : ℕ) → i < S.callers → HasCalls S B (start_ticket S B i) first i [] []) (es : List Event) (schedule : IsSchedule S first es) where
  abbrev w : Moment
  w = last_world S Lawful sound B first good_first none es schedule

  good : MeetsInvariant S Lawful B w
  good = good_last S Lawful sound B first good_first none es schedule

  calls_of : (i : ℕ) → i < S.callers → HasCalls S B (start_ticket S B i) w i (operations_begun es i) (outcomes S first es i)
  calls_of = last_calls S Lawful sound B first good_first none es schedule

  claim : IsSound S B w
  claim = is_sound S Lawful sound B w good.core good.within good.late good.order

  -- how many batches are durable, and which
  abbrev n : ℕ
  n = durable_seq S w.words - B.seq

  abbrev bs : List Batch
  bs = take n w.batches

  abbrev order : List Call
  order = serial_order B.seq bs w.reads

  n_is : B.seq + n ≡ durable_seq S w.words
  n_is = omega (arith, claim.from)

  long : length bs ≡ n
  long = length-take-le n w.batches (omega (arith, n_is, claim.reaches))

  batch_here : (d : ℕ) → d < n → batch_at B w.batches (B.seq + d + 1) ≡ get_or bs d no_batch
  batch_here d l = batch_is B w.batches d ∙ sym (get_or-take n w.batches d no_batch l)

  number : ℕ → ℕ
  number d = B.seq + d + 1

  -- What is so of each call of the durable batches and of each read is so of the order.
  module _ (P : Call → Type 0) where
    each_call : ((k : ℕ) → B.seq < k → k ≤ durable_seq S w.words → All P (batch_at B w.batches k).calls)
        → ((a : ℕ) → a < length w.reads → P (call_of (get_or w.reads a no_read))) → All P order
    each_call h t = all_in_order P bs B.seq w.reads (λ a l u. t a l) (λ d l. subst (λ (b : Batch). All P b.calls) (batch_here d (omega (arith, l, long))) (h (B.seq + d + 1) (omega arith) (omega (arith, l, long, n_is))))

  -- And what is so of each two of them, as they stand.
  module _ (R : Call → Call → Type 0) where
    pub record Ranked : Type 0 where
      pub calls : (j k : ℕ) → B.seq < j → j < k → k ≤ durable_seq S w.words → All (λ (c : Call). All (R c) (batch_at B w.batches k).calls) (batch_at B w.batches j).calls
      pub same : (k : ℕ) → B.seq < k → k ≤ durable_seq S w.words → (p q : ℕ) → p < q → q < length (batch_at B w.batches k).calls → R (get_or (batch_at B w.batches k).calls p no_call) (get_or (batch_at B w.batches k).calls q no_call)
      pub read_behind : (k a : ℕ) → B.seq < k → k ≤ durable_seq S w.words → a < length w.reads → k ≤ (get_or w.reads a no_read).seq → All (λ (c : Call). R c (call_of (get_or w.reads a no_read))) (batch_at B w.batches k).calls
      pub read_before : (a k : ℕ) → a < length w.reads → B.seq < k → k ≤ durable_seq S w.words → (get_or w.reads a no_read).seq < k → All (R (call_of (get_or w.reads a no_read))) (batch_at B w.batches k).calls
      pub reads : (a b : ℕ) → a < length w.reads → b < length w.reads → (get_or w.reads a no_read).seq < (get_or w.reads b no_read).seq → R (call_of (get_or w.reads a no_read)) (call_of (get_or w.reads b no_read))
      pub same_reads : (a b : ℕ) → a < b → b < length w.reads → (get_or w.reads a no_read).seq ≡ (get_or w.reads b no_read).seq → R (call_of (get_or w.reads a no_read)) (call_of (get_or w.reads b no_read))

    each_pair : Ranked → Pairs R order
    each_pair h = pairs_in_order R bs B.seq w.reads (record {
      same = λ d l. subst (λ (b : Batch). Pairs R b.calls) (batch_here d (omega (arith, l, long))) (h.same (B.seq + d + 1) (omega arith) (omega (arith, l, long, n_is)));
      calls = λ d e l u. subst (λ (b : Batch). All (λ (c : Call). All (R c) (get_or bs e no_batch).calls) b.calls) (batch_here d (omega (arith, l, u, long)))
          (subst (λ (b : Batch). All (λ (c : Call). All (R c) b.calls) (batch_at B w.batches (B.seq + d + 1)).calls) (batch_here e (omega (arith, u, long))) (h.calls (B.seq + d + 1) (B.seq + e + 1) (omega arith) (omega (arith, l)) (omega (arith, u, long, n_is))));
      read_behind = λ d a l u v. subst (λ (b : Batch). All (λ (c : Call). R c (call_of (get_or w.reads a no_read))) b.calls) (batch_here d (omega (arith, l, long))) (h.read_behind (B.seq + d + 1) a (omega arith) (omega (arith, l, long, n_is)) u v);
      read_before = λ a d l u v. subst (λ (b : Batch). All (R (call_of (get_or w.reads a no_read))) b.calls) (batch_here d (omega (arith, u, long))) (h.read_before a (B.seq + d + 1) l (omega arith) (omega (arith, u, long, n_is)) v);
      reads = h.reads;
      same_reads = h.same_reads;
    })

  -- Each is a call that was begun.
  abbrev WasBegunHere : Call → Type 0
  WasBegunHere c = (c.caller < S.callers) × (c.caller ≡ c.caller → (start_ticket S B c.caller < c.ticket) × (c.ticket ≤ start_ticket S B c.caller + length (operations_begun es c.caller)) × (c.op ≡ get_or (operations_begun es c.caller) (c.ticket - start_ticket S B c.caller - 1) []))

  begun : All WasBegunHere order
  begun = each_call WasBegunHere of_batches of_reads
    where
      of_batches : (k : ℕ) → B.seq < k → k ≤ durable_seq S w.words → All WasBegunHere (batch_at B w.batches k).calls
      of_batches k l u y d z =
          let member = (good.core.shared.stands.now k l (omega (arith, u, claim.reaches)) y d z).0 in
          (member, λ q. (calls_of (get_or (batch_at B w.batches k).calls y d).caller member).calls k l (omega (arith, u, claim.reaches)) y d z refl)

      of_reads : (a : ℕ) → a < length w.reads → WasBegunHere (call_of (get_or w.reads a no_read))
      of_reads a l =
          let r : Read = get_or w.reads a no_read in
          let member : r.caller < S.callers = (good.order.ordered.reads a no_read l).caller in
          let p = (calls_of r.caller member).reads a no_read l refl in
          let below = fewer_outs S B (start_ticket S B r.caller) w r.caller (operations_begun es r.caller) (outcomes S first es r.caller) (calls_of r.caller member) in
          (member, λ q. (omega (arith, p.3), omega (arith, p.2, p.3, below), p.4 ∙ ap (λ (x : ℕ). get_or (operations_begun es r.caller) x []) (omega (arith, p.3))))

  -- Each caller's stand in the order in which it made them.
  rising : Pairs IsNewerCall order
  rising = each_pair IsNewerCall (record {
    calls = λ j k l u v. tickets_rise S Lawful B w.batches good.core.shared.stands j k l u (omega (arith, v, claim.reaches));
    same = λ k l u p q a b e. absurd (omega (arith, good.core.shared.stands.ordered k l (omega (arith, u, claim.reaches)) p q a b, e));
    read_behind = λ k a l u v x y d z e. behind_is k a (get_or (batch_at B w.batches k).calls y d).ticket x ((good.order.ordered.apart k l (omega (arith, u, claim.reaches))) y d z a no_read v (sym e));
    read_before = λ a k v l u x y d z e. before_is k a (get_or (batch_at B w.batches k).calls y d).ticket x ((good.order.ordered.apart k l (omega (arith, u, claim.reaches))) y d z a no_read v e);
    reads = λ a b l u x e. reads_rise a b l u x e (cases_lt a b);
    same_reads = λ a b l u x e. (good.order.ordered.successive a b l u (sym e)).0;
  })
    where
      behind_is : (k a t : ℕ) → k ≤ (get_or w.reads a no_read).seq → ((t < (get_or w.reads a no_read).ticket) × (k ≤ (get_or w.reads a no_read).seq)) ⊎ (((get_or w.reads a no_read).ticket < t) × ((get_or w.reads a no_read).seq < k)) → t < (get_or w.reads a no_read).ticket
      behind_is k a t x (inl h) = h.0
      behind_is k a t x (inr h) = absurd (omega (arith, h.1))

      before_is : (k a t : ℕ) → (get_or w.reads a no_read).seq < k → ((t < (get_or w.reads a no_read).ticket) × (k ≤ (get_or w.reads a no_read).seq)) ⊎ (((get_or w.reads a no_read).ticket < t) × ((get_or w.reads a no_read).seq < k)) → (get_or w.reads a no_read).ticket < t
      before_is k a t x (inl h) = absurd (omega (arith, h.1))
      before_is k a t x (inr h) = h.0

      reads_rise : (a b : ℕ) → a < length w.reads → b < length w.reads → (get_or w.reads a no_read).seq < (get_or w.reads b no_read).seq → (get_or w.reads b no_read).caller ≡ (get_or w.reads a no_read).caller → (a < b) ⊎ (b ≤ a) → (get_or w.reads a no_read).ticket < (get_or w.reads b no_read).ticket
      reads_rise a b l u x e (inl s) = (good.order.ordered.successive a b s u (sym e)).0
      reads_rise a b l u x e (inr s) = go (cases_lt b a)
        where
          go : (b < a) ⊎ (a ≤ b) → (get_or w.reads a no_read).ticket < (get_or w.reads b no_read).ticket
          go (inl t) = absurd (omega (arith, (good.order.ordered.successive b a t l e).1))
          go (inr t) = let same : a ≡ b = omega (arith, s, t) in absurd (omega (arith, x, ap (λ (y : ℕ). (get_or w.reads y no_read).seq) same))

  -- They stand by sequence, the announced ones of a batch first and by caller.
  by_sequence : Pairs (AreInRank S B w) order
  by_sequence = each_pair (AreInRank S B w) (record {
    calls = λ j k l u v y c z x d q. by_rank S B w claim _ _ j k true true (l, omega (arith, u, v), y, c, z, refl) (omega (arith, l, u), v, x, d, q, refl) (omega (arith, u), λ e t. absurd (omega (arith, e, u)));
    same = λ k l u p q a b. by_rank S B w claim _ _ k k true true (l, u, p, no_call, omega (arith, a, b), refl) (l, u, q, no_call, b, refl) (omega arith, λ e t. (refl, claim.rising k l (omega (arith, u, claim.reaches)) p q a b));
    read_behind = λ k a l u v x y d z. by_rank S B w claim _ _ k (get_or w.reads a no_read).seq true false (l, u, y, d, z, refl) (a, v, refl, refl) (x, λ e t. let n : true ≡ false = sym t in cc);
    read_before = λ a k v l u x y d z. by_rank S B w claim _ _ (get_or w.reads a no_read).seq k false true (a, v, refl, refl) (l, u, y, d, z, refl) (omega (arith, x), λ e t. absurd (omega (arith, e, x)));
    reads = λ a b l u x. by_rank S B w claim _ _ (get_or w.reads a no_read).seq (get_or w.reads b no_read).seq false false (a, l, refl, refl) (b, u, refl, refl) (omega (arith, x), λ e t. let n : true ≡ false = sym t in cc);
    same_reads = λ a b l u x. by_rank S B w claim _ _ (get_or w.reads a no_read).seq (get_or w.reads b no_read).seq false false (a, omega (arith, l, u), refl, refl) (b, u, refl, refl) (omega (arith, x), λ e t. let n : true ≡ false = sym t in cc);
  })

  -- Each has a rank, so the places of the order have sequences.
  abbrev IsRanked : Call → Type 0
  IsRanked c = (s : ℕ) × (a : Bool) × HasRank S B w c s a

  ranked : All IsRanked order
  ranked = each_call IsRanked (λ k l u y d z. (k, true, (l, u, y, d, z, refl))) (λ a l. ((get_or w.reads a no_read).seq, false, (a, l, refl, refl)))

  abbrev IsPlace : ℕ → Type 0
  IsPlace p = (p < length order) ⊎ (length order ≤ p)

  seq_if : (p : ℕ) → IsPlace p → ℕ
  seq_if p (inl l) = (ranked p no_call l).0
  seq_if p (inr l) = 0

  announced_if : (p : ℕ) → IsPlace p → Bool
  announced_if p (inl l) = (ranked p no_call l).1
  announced_if p (inr l) = false

  sequences : Sequences
  sequences = record { seq = λ p. seq_if p (cases_lt p (length order)); announced = λ p. announced_if p (cases_lt p (length order)) }

  has_rank : (p : ℕ) → p < length order → HasRank S B w (get_or order p no_call) (sequences.seq p) (sequences.announced p)
  unfolding sequences seq_if announced_if
  has_rank p l = go (cases_lt p (length order))
    where
      go : (d : IsPlace p) → HasRank S B w (get_or order p no_call) (seq_if p d) (announced_if p d)
      go (inl u) = (ranked p no_call u).2
      go (inr u) = absurd (omega (arith, l, u))

  by_seq : IsBySequence S B first es order
  by_seq = record {
    sequences = sequences;
    stands = record {
      rising = λ p q l u. (stand p q l u).0;
      announced_first = λ p q l u e t. ((stand p q l u).1 e t).0;
      by_caller = λ p q l u e t. ((stand p q l u).1 e t).1;
    };
    own = λ i x member l. own i x member (get_or (outcomes S first es i) x no_outcome) ((calls_of i member).each x l);
  }
    where
      stand : (p q : ℕ) → p < q → q < length order → RanksBefore S B w (get_or order p no_call) (get_or order q no_call) (sequences.seq p) (sequences.seq q) (sequences.announced p) (sequences.announced q)
      stand p q l u = by_sequence p q l u (sequences.seq p) (sequences.seq q) (sequences.announced p) (sequences.announced q) (has_rank p (omega (arith, l, u))) (has_rank q u)

      -- a call of the order with the name of one that has this rank
      told : (i t : ℕ) (c : Call) (s : ℕ) (a : Bool) → HasRank S B w c s a → c.caller ≡ i → c.ticket ≡ t → (p : ℕ) → p < length order → (get_or order p no_call).caller ≡ i → (get_or order p no_call).ticket ≡ t → (sequences.seq p ≡ s) × (sequences.announced p ≡ a)
      told i t c s a h e f p l m n = one_rank S B w claim (get_or order p no_call) c (sequences.seq p) s (sequences.announced p) a (e ∙ sym m, f ∙ sym n) (has_rank p l) h

      own : (i x : ℕ) → i < S.callers → (o : Outcome) → OutcomeStands S B w i (start_ticket S B i + x + 1) (get_or (operations_begun es i) x []) o → HasOwnSequence order sequences i (start_ticket S B i + x + 1) o
      own i x member (Answered s true raw steps) h = let c = h.2 in told i (start_ticket S B i + x + 1) (get_or (batch_at B w.batches s).calls c.place no_call) s true (h.0, h.1, c.place, no_call, c.among, refl) c.caller c.ticket
      own i x member (Answered s false raw steps) h =
          let r = h.1.2 in
          told i (start_ticket S B i + x + 1) (call_of (get_or w.reads h.1.0 no_read)) s false (h.1.0, h.1.1, refl, ap (λ (q : Read). q.seq) r) (ap (λ (q : Read). q.caller) r) (ap (λ (q : Read). q.ticket) r)
      own i x member (Spent s) h = tt
      own i x member (Lost s) h = tt

  -- None stands before one that ended before it began.
  abbrev InTime : Call → Call → Type 0
  InTime c d = Precedes S B first es d c → ⊥

  parts : (k : ℕ) → take k es ++ drop k es ≡ es
  parts k = take-append-drop k es

  real_time : Pairs InTime order
  real_time = each_pair InTime (record {
    calls = λ j k l u v y d z x c t h.
        let b = late_call S Lawful sound B first good_first none es schedule (take h.0 es) (drop h.0 es) (parts h.0) j y d l (omega (arith, u, v, claim.reaches)) z h.2 in
        let e = ended_call S Lawful sound B first good_first none es schedule (take h.0 es) (drop h.0 es) (parts h.0) k x c (omega (arith, l, u)) (omega (arith, v, claim.reaches)) t h.1 in
        omega (arith, b, e, u, low h.0);
    same = λ k l u p q a b h.
        let s = late_call S Lawful sound B first good_first none es schedule (take h.0 es) (drop h.0 es) (parts h.0) k p no_call l (omega (arith, u, claim.reaches)) (omega (arith, a, b)) h.2 in
        let e = ended_call S Lawful sound B first good_first none es schedule (take h.0 es) (drop h.0 es) (parts h.0) k q no_call l (omega (arith, u, claim.reaches)) b h.1 in
        omega (arith, s, e, low h.0);
    read_behind = λ k a l u v x y d z h.
        let s = late_call S Lawful sound B first good_first none es schedule (take h.0 es) (drop h.0 es) (parts h.0) k y d l (omega (arith, u, claim.reaches)) z h.2 in
        let e = (ended_read S Lawful sound B first good_first none es schedule (take h.0 es) (drop h.0 es) (parts h.0) a v h.1).0 in
        omega (arith, s, e, x, low h.0);
    read_before = λ a k v l u x y d z h.
        let s = late_read S Lawful sound B first good_first none es schedule (take h.0 es) (drop h.0 es) (parts h.0) a v h.2 in
        let e = ended_call S Lawful sound B first good_first none es schedule (take h.0 es) (drop h.0 es) (parts h.0) k y d l (omega (arith, u, claim.reaches)) z h.1 in
        omega (arith, s, e, x, low h.0);
    reads = λ a b l u x h.
        let s = late_read S Lawful sound B first good_first none es schedule (take h.0 es) (drop h.0 es) (parts h.0) a l h.2 in
        let e = (ended_read S Lawful sound B first good_first none es schedule (take h.0 es) (drop h.0 es) (parts h.0) b u h.1).0 in
        omega (arith, s, e, x, low h.0);
    same_reads = λ a b l u x h.
        let e = (ended_read S Lawful sound B first good_first none es schedule (take h.0 es) (drop h.0 es) (parts h.0) b u h.1).1 in
        let s = stands_begun S Lawful sound B first good_first none es schedule (take h.0 es) (drop h.0 es) (parts h.0) a (omega (arith, l, e)) in
        omega (arith, s, h.2);
  })
    where
      low : (k : ℕ) → durable_seq S (after_events S first (take k es)).words ≤ B.seq + length (after_events S first (take k es)).batches
      low k = durable_between S Lawful sound B first good_first none es schedule (take k es) (drop k es) (parts k)

  -- The order has each call that was answered.
  call_stands : (k y : ℕ) → B.seq < k → k ≤ durable_seq S w.words → y < length (batch_at B w.batches k).calls → StandsIn order (get_or (batch_at B w.batches k).calls y no_call)
  call_stands k y l u v =
      let d : ℕ = k - B.seq - 1 in
      let k_is : B.seq + d + 1 ≡ k = omega (arith, l) in
      let here : batch_at B w.batches k ≡ get_or bs d no_batch = ap (batch_at B w.batches) (sym k_is) ∙ batch_here d (omega (arith, l, u, n_is)) in
      subst (λ (b : Batch). StandsIn order (get_or b.calls y no_call)) (sym here) (order_has_call bs B.seq w.reads d y (omega (arith, l, u, n_is, long)) (subst (λ (b : Batch). y < length b.calls) here v))

  read_stands : (a : ℕ) → a < length w.reads → StandsIn order (call_of (get_or w.reads a no_read))
  read_stands a l = let r = good.order.ordered.reads a no_read l in order_has_read bs B.seq w.reads a l r.from (omega (arith, r.upto, n_is, long))

  has : (c : Call) (i t : ℕ) (op : List ℕ) (raw : RawReply) → StandsIn order c → c.caller ≡ i → c.ticket ≡ t → c.op ≡ op → SameReply S raw c.raw → HasCall S order i t op raw
  has c i t op raw h e f o r = record {
    place = h.0;
    among = h.1;
    caller = ap (λ (x : Call). x.caller) h.2 ∙ e;
    ticket = ap (λ (x : Call). x.ticket) h.2 ∙ f;
    same = ap (λ (x : Call). x.op) h.2 ∙ o;
    reply = subst (λ (x : Call). SameReply S raw x.raw) (sym h.2) r;
  }

  explained : (i x : ℕ) → i < S.callers → x < length (outcomes S first es i) → ExplainsOutcome S order i (start_ticket S B i + x + 1) (get_or (operations_begun es i) x []) (get_or (outcomes S first es i) x no_outcome)
  explained i x member l = go (get_or (outcomes S first es i) x no_outcome) refl ((calls_of i member).each x l)
    where
      t : ℕ
      t = start_ticket S B i + x + 1

      op : List ℕ
      op = get_or (operations_begun es i) x []

      go : (o : Outcome) → get_or (outcomes S first es i) x no_outcome ≡ o → OutcomeStands S B w i t op o → ExplainsOutcome S order i t op o
      go (Answered s true raw steps) e h = let c = h.2 in has (get_or (batch_at B w.batches s).calls c.place no_call) i t op raw (call_stands s c.place h.0 h.1 c.among) c.caller c.ticket c.same c.reply
      go (Answered s false raw steps) e h =
          let r = h.1.2 in
          has (call_of (get_or w.reads h.1.0 no_read)) i t op raw (read_stands h.1.0 h.1.1) (ap (λ (q : Read). q.caller) r) (ap (λ (q : Read). q.ticket) r) (ap (λ (q : Read). q.op) r)
          (subst (λ (q : Read). SameReply S raw q.raw) (sym r) (refl, λ y u. refl))
      go (Lost s) e h = tt
      go (Spent s) e h = each_call (λ (c : Call). c.caller ≡ i → c.ticket ≡ t → ⊥) (λ k u v y d z a b. omega (arith, h.2 k u (omega (arith, v, claim.reaches)) y d z a, b)) of_reads
        where
          of_reads : (a : ℕ) → a < length w.reads → (get_or w.reads a no_read).caller ≡ i → (get_or w.reads a no_read).ticket ≡ t → ⊥
          of_reads a u c b =
              let p = (calls_of i member).reads a no_read u c in
              let same : p.0 ≡ x = omega (arith, p.3, b) in
              let z : Answered (get_or w.reads a no_read).seq false (get_or w.reads a no_read).raw p.1 ≡ Spent s = sym p.5 ∙ ap (λ (y : ℕ). get_or (outcomes S first es i) y no_outcome) same ∙ e in
              cc

  -- It is a serial run.
  abbrev start : List ℕ
  start = map payload_of B.cells

  start_long : length start ≡ S.cells
  start_long = length-map B.cells payload_of ∙ good.core.shared.start.size

  start_lawful : Lawful start
  start_lawful = subst (λ (xs : List ℕ). Lawful (map payload_of xs)) (state_start B w.batches) (good.core.shared.stands.lawful B.seq (omega arith) (omega arith))

  replay_lawful : (xs : List ℕ) (cs : List Batch) → length xs ≡ S.cells → Lawful xs → Lawful (numbers_after_batches S.meaning xs cs)
  replay_lawful xs [] h l = l
  replay_lawful xs (b ∷ cs) h l = replay_lawful (numbers_after_calls S.meaning xs b.calls) cs (calls_length S Lawful sound xs b.calls h) (calls_lawful S Lawful sound xs b.calls h l)

  leads : (d a : ℕ) → d ≤ length bs → a < length w.reads → B.seq + d ≡ (get_or w.reads a no_read).seq → Reads S.meaning (numbers_after_batches S.meaning start (take d bs)) (get_or w.reads a no_read)
  leads d a l u e =
      let r : Read = get_or w.reads a no_read in
      let same : take (r.seq - B.seq) w.batches ≡ take d bs = ap (λ (x : ℕ). take x w.batches) (omega (arith, e)) ∙ sym (take-take d n w.batches (omega (arith, l, long))) in (
        ap (λ (cs : List Batch). S.meaning.reply (numbers_after_batches S.meaning start cs) r.op) (sym same) ∙ claim.reads a no_read u,
        reads_stay S.meaning Lawful (first_operation_cell S) S.cells sound (numbers_after_batches S.meaning start (take d bs)) r.op (replay_length S Lawful sound B start (take d bs) start_long) (replay_lawful start (take d bs) start_long start_lawful) (good.order.ordered.reads a no_read u).only,
      )

  pub linearizes : Linearizes S B first es order
  linearizes = record {
    begun = begun;
    rising = rising;
    ended = explained;
    legal = (order_leads S.meaning bs B.seq w.reads start (legal_front S.meaning start w.batches n claim.legal) leads).0;
    real_time = real_time;
  }

  -- Recovery finds where it leads.
  abbrev durable : ℕ
  durable = durable_seq S w.words

  found_is : (a : ℕ) → a < S.cells → recovered_number S w a ≡ payload_of (data_word_after B w.batches durable a)
  found_is a l = ap payload_of (claim.recovers a l)

  -- the state after the durable batches is where it leads
  pub leads_there : SameFrom (first_operation_cell S) (numbers_after B w.batches durable) (numbers_after_calls S.meaning start order)
  leads_there =
      let same : SameFrom (first_operation_cell S) (numbers_after B w.batches durable) (numbers_after_batches S.meaning start bs) = rw n_is at (claim.state n (omega (arith, n_is, claim.reaches))) in
      same ∙ ap (λ (xs : List ℕ). drop (first_operation_cell S) xs) (sym (order_leads S.meaning bs B.seq w.reads start (legal_front S.meaning start w.batches n claim.legal) leads).1)

  numbers_found : (a : ℕ) → first_operation_cell S ≤ a → a < S.cells → recovered_number S w a ≡ get_or (numbers_after_calls S.meaning start order) a 0
  numbers_found a low l = found_is a l ∙ sym (get_or-map payload_of (state_after B w.batches durable) a 0 0 (omega (arith, l, state_long))) ∙ same_from ∙ ap (λ (xs : List ℕ). get_or xs a 0) (sym (order_leads S.meaning bs B.seq w.reads start (legal_front S.meaning start w.batches n claim.legal) leads).1)
    where
      state_long : length (state_after B w.batches durable) ≡ S.cells
      state_long = state_length S B w.batches good.core.shared.start (logs_of good.core) durable claim.from claim.reaches

      same : SameFrom (first_operation_cell S) (numbers_after B w.batches durable) (numbers_after_batches S.meaning start bs)
      same = rw n_is at (claim.state n (omega (arith, n_is, claim.reaches)))

      back : first_operation_cell S + (a - first_operation_cell S) ≡ a
      back = omega (arith, low)

      same_from : get_or (numbers_after B w.batches durable) a 0 ≡ get_or (numbers_after_batches S.meaning start bs) a 0
      same_from =
          ap (λ (x : ℕ). get_or (numbers_after B w.batches durable) x 0) (sym back) ∙ sym (get_or-drop (first_operation_cell S) (numbers_after B w.batches durable) (a - first_operation_cell S) 0)
          ∙ ap (λ (xs : List ℕ). get_or xs (a - first_operation_cell S) 0) same
          ∙ get_or-drop (first_operation_cell S) (numbers_after_batches S.meaning start bs) (a - first_operation_cell S) 0 ∙ ap (λ (x : ℕ). get_or (numbers_after_batches S.meaning start bs) x 0) back

  own_in : (i : ℕ) → i < S.callers → ticket_cell S i + (S.instrs + 2) ≤ S.cells
  own_in i l = omega (arith, row_within i S.callers (S.instrs + 2) l, good.core.shared.own_in)

  -- A caller's own cells tell its last call in the batches.
  detects : (i : ℕ) → i < S.callers → Detects S B w order i
  detects i member = record { last = last_is (claim.own i member); upto = each_call Upto of_batches of_reads }
    where
      Upto : Call → Type 0
      Upto c = c.caller ≡ i → S.meaning.reads_only c.op ≡ false → c.ticket ≤ recovered_number S w (ticket_cell S i)

      ticket_in_cells : ticket_cell S i < S.cells
      ticket_in_cells = omega (arith, own_in i member)

      of_batches : (k : ℕ) → B.seq < k → k ≤ durable → All Upto (batch_at B w.batches k).calls
      of_batches k l u y d z e q = omega (arith, ticket_upto S Lawful B w.batches good.core.shared.stands k durable l u claim.reaches y d z, ap (last_ticket_by S B w.batches durable) e, found_is (ticket_cell S i) ticket_in_cells)

      of_reads : (a : ℕ) → a < length w.reads → Upto (call_of (get_or w.reads a no_read))
      of_reads a l e q = let z : true ≡ false = sym (good.order.ordered.reads a no_read l).only ∙ q in cc

      last_is : OwnCellsShowLast S B w.batches durable i → (recovered_number S w (ticket_cell S i) ≡ start_ticket S B i) ⊎ ((p : ℕ) × (p < length order) × ((get_or order p no_call).caller ≡ i) × FindsCall S w (get_or order p no_call))
      last_is (inl h) = inl (found_is (ticket_cell S i) ticket_in_cells ∙ ap payload_of (h.1 (ticket_cell S i) (omega arith, omega arith)) ∙ ap (λ (xs : List ℕ). payload_of (get_or xs (ticket_cell S i) 0)) (state_start B w.batches))
      last_is (inr h) = inr (stands.0, stands.1, ap (λ (x : Call). x.caller) stands.2 ∙ h.caller, subst (FindsCall S w) (sym stands.2) finds)
        where
          c : Call
          c = get_or (batch_at B w.batches h.number).calls h.place no_call

          stands : StandsIn order c
          stands = call_stands h.number h.place h.from h.upto h.among

          own_is : (a : ℕ) → IsCellOfCaller S i a → data_word_after B w.batches durable a ≡ data_word_after B w.batches h.number a
          own_is a r = later S B w.batches good.core.shared.start (logs_of good.core) h.number durable a (omega (arith, h.from)) h.upto claim.reaches (omega (arith, r, own_in i member)) (h.old a r)

          now : last_ticket_by S B w.batches h.number c.caller ≡ c.ticket
          now = (good.core.shared.stands.now h.number h.from (omega (arith, h.upto, claim.reaches)) h.place no_call h.among).1

          ticket_is : recovered_number S w (ticket_cell S i) ≡ c.ticket
          ticket_is = found_is (ticket_cell S i) ticket_in_cells ∙ ap payload_of (own_is (ticket_cell S i) (omega arith, omega arith)) ∙ ap (last_ticket_by S B w.batches h.number) (sym h.caller) ∙ now

          finds : FindsCall S w c
          finds = record {
            ticket = ap (λ (x : ℕ). recovered_number S w (ticket_cell S x)) h.caller ∙ ticket_is;
            shape = found_is (shape_cell S c.caller) (omega (arith, own_in c.caller (rw h.caller member))) ∙ h.shows.shape;
            replies = λ y l m. found_is (reply_cell S c.caller y) (omega (arith, l, own_in c.caller (rw h.caller member))) ∙ h.shows.replies y l m;
          }

  -- So it is durably linearizable, by an order that leads to the state after the durable batches.
  pub durably_linearizable : (l : IsDurablyLinearizable S B first es) × SameFrom (first_operation_cell S) (numbers_after B w.batches durable) (numbers_after_calls S.meaning start l.order)
  durably_linearizable = (
    record {
      order = order;
      linearizes = linearizes;
      by_seq = by_seq;
      recovered = record { numbers = numbers_found; own = detects };
    },
    leads_there,
  )
