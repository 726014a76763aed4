-- What recovery finds in the words of a table at any moment, and in those of a closed one.
use Rattle.std.proofs.Common.{◌≡◌, ◌==◌, ℕ, ◌+◌, ◌-◌, ◌≤◌, ◌<◌, ◌⊎◌, inl, inr, Bool, true, false, refl, sym, ◌∙◌, ap, subst, arith, List, [], ◌∷◌, ◌++◌, length, get_or, map, take, length-append}
use Rattle.std.specs.Prelude.{slice_index}
use Rattle.std.specs.List.{All, AllByRecursion as Each}
use Rattle.std.proofs.lemmas.Bool.{cases_lt}
use Rattle.std.proofs.lemmas.List.{get_or-map, length-map, get_or_append_left}
use Rattle.std.proofs.lemmas.List.Elements.{All-from_get_or}
use Rattle.std.proofs.Math.Seq.{get_or-append_seam, take-append_seam}
use mathlib.Core.List.{IsPrefix}
use Rattle.std.proofs.Math.ListN.{get_or-map as get_or_map_at}
use Rattle.atomic_table.specs.Table.{State}
use Rattle.of_cell.specs.Words.{payload_of}
use Rattle.of_cell.specs.declared.word.TheConstants.{GREATEST_LIMIT}
use Rattle.of_cell.specs.Cells.{data_cell}
use Rattle.of_mem.specs.Meaning.{Meaning, HasRoom}
use Rattle.of_mem.specs.Places.{shape_at, reply_at}
use Rattle.of_mem.specs.declared.work.TheConstants.{MOST_INSTRS}
use Rattle.of_mem.proofs.Lists.{part_at, prefix_trans}
use Rattle.of_recover.specs.Recovered.{recovered_words}
use Rattle.of_recover.proofs.Agreeing.{recovered_data-same}
use Rattle.of_recover.proofs.Kept.{data_at}
use Rattle.of_core.specs.declared.place.Outcome.{Outcome}
use Rattle.of_core.specs.declared.place.Outcome.TheVariants.{Answered, Spent, Lost}
use Rattle.of_core.specs.Table.{Setup, setup_of, durable_word, ticket_cell, shape_cell, reply_cell}
use Rattle.of_core.specs.TableMoment.{Moment, TableStart}
use Rattle.of_core.specs.Machine.{Call, no_call, is_idle, IsOpen}
use Rattle.of_core.specs.Events.{Event, Begins, Turns, Loads, Evicts, Raises, Revives, after_event, IsSchedule, MayHappen, start_ticket}
use Rattle.of_cells.specs.Times.{calls_ended_in, calls_begun_in}
use Rattle.of_core.specs.Calls.{if_so, operation_begun, operations_begun}
use Rattle.of_core.specs.Grounds.{GoodGrounds}
use Rattle.of_core.specs.Laws.{setup_for, StartsMeetInvariant, SchedulesKeepInvariant, InvariantIsSound, FirstStateIsStart}
use Rattle.of_core.specs.Linear.{ExplainsOutcome, FindsCall, recovered_number}
use Rattle.of_core.specs.Starts.{IsDurable, IsStartRow, start_from_durable}
use Rattle.of_row.specs.declared.member.Pass.{Pass}
use Rattle.of_row.specs.declared.row.Row.{Row}
use Rattle.of_row.specs.Views.{EndedCall, KnownCaller, View, no_ended}
use Rattle.of_row.specs.Rule.{MeetsRule, done_before}
use Rattle.of_row.specs.Told.{open_operation, operations_known}
use Rattle.of_row.specs.Trail.{first_of, IsRunBy}
use Rattle.of_row.specs.Rows.{key_of, setup_at, row_start, view_of_pass, IsRowPass, MayStartFrom}
use Rattle.of_row.specs.Keys.{FitsWork}
use Rattle.of_row.specs.Passes.{ClosesWithDurable}
use Rattle.of_row.specs.Moments.{ExplainsEndedCalls, HasNoneOf, HaveOwnSequence, StopsLoseNothing, LosesNothing, words_alone}
use Rattle.of_cells.specs.declared.saved.SavedCells.{SavedCells}
use Rattle.of_cells.specs.History.{ExplainsEnd, IsOneOf}
use Rattle.of_cells.specs.Serving.{cells_at_start, made_before}
use Rattle.of_cells.specs.Moments.{IsSized, HoldsHistory, RowsHoldHistory, numbers_found, numbers_of}
use Rattle.of_cells.specs.Saving.{ExplainsKept, HaveKeptSequences, HasOpenOperation, HasOnlyKept, RespectsEvents, HistoryLeads, HoldReply, TellLast, IsSavedCells, SavesHistory, KeepsOwnCells, OwnCellsStay, saved_cells, own_ticket}
use Rattle.of_row.proofs.Fronts.{each_append, each_at}
use Rattle.of_cells.proofs.OwnCells.{own_stay}
use Rattle.of_cells.proofs.Holding.{number_at}

-- ---- lists

each_of : {P Q : KnownCaller → Type 0} → ((x : KnownCaller) → P x → Q x) → (xs : List KnownCaller) → Each P xs → Each Q xs
each_of f [] h = tt
each_of f (x ∷ xs) h = (f x h.0, each_of f xs h.1)

-- an operation that a kept caller has begun is one of those that have ended, or the open one
begun_at : (x : KnownCaller) (b : Bool) → is_idle x.machine.place ≡ b → (k : ℕ) → k < length (map (λ (e : EndedCall). e.op) x.ended ++ open_operation x.machine b)
    → ((k < length x.ended) × (get_or (map (λ (e : EndedCall). e.op) x.ended ++ open_operation x.machine b) k [] ≡ (get_or x.ended k no_ended).op))
    ⊎ ((k ≡ length x.ended) × IsOpen x.machine.place × (get_or (map (λ (e : EndedCall). e.op) x.ended ++ open_operation x.machine b) k [] ≡ x.machine.op))
begun_at x b place k lt = elim (cases_lt k (length x.ended)) [
  | inl low ↦ inl (low, get_or_append_left (map (λ (e : EndedCall). e.op) x.ended) (open_operation x.machine b) [] k (omega (arith, low, long)) ∙ get_or_map_at (λ (e : EndedCall). e.op) x.ended k no_ended)
  | inr high ↦ inr (behind b place lt high)
]
  where
    long : length (map (λ (e : EndedCall). e.op) x.ended) ≡ length x.ended
    long = length-map x.ended (λ (e : EndedCall). e.op)

    behind : (b : Bool) → is_idle x.machine.place ≡ b → k < length (map (λ (e : EndedCall). e.op) x.ended ++ open_operation x.machine b) → length x.ended ≤ k
        → (k ≡ length x.ended) × IsOpen x.machine.place × (get_or (map (λ (e : EndedCall). e.op) x.ended ++ open_operation x.machine b) k [] ≡ x.machine.op)
    behind true is some high = absurd (omega (arith, length-append (map (λ (e : EndedCall). e.op) x.ended) [], long, some, high))
    behind false is some high =
        let at : k ≡ length (map (λ (e : EndedCall). e.op) x.ended) = omega (arith, length-append (map (λ (e : EndedCall). e.op) x.ended) (x.machine.op ∷ []), long, some, high) in
        (at ∙ long, is, ap (λ (n : ℕ). get_or (map (λ (e : EndedCall). e.op) x.ended ++ x.machine.op ∷ []) n []) at ∙ get_or-append_seam (map (λ (e : EndedCall). e.op) x.ended) x.machine.op [] [])

-- ---- how many words operations have

abbrev IsSizedOperation : Setup → List ℕ → Type 0
IsSizedOperation S op = (1 ≤ length op) × (length op ≤ S.instrs)

one_sized : (S : Setup) (w : Moment) (e : Event) → MayHappen S w e → (i : ℕ) → Each (IsSizedOperation S) (operation_begun e i)
one_sized S w (Begins j op) may i = go (i == j)
  where
    go : (b : Bool) → Each (IsSizedOperation S) (if_so b (op ∷ []))
    go true = ((may.2, may.3), tt)
    go false = tt
one_sized S w (Turns j) may i = tt
one_sized S w (Loads c) may i = tt
one_sized S w (Evicts k) may i = tt
one_sized S w (Raises c) may i = tt
one_sized S w (Revives j made) may i = tt

-- each operation that was begun in a schedule has as many words as it may have
begun_sized : (S : Setup) (w : Moment) (es : List Event) → IsSchedule S w es → (i : ℕ) → Each (IsSizedOperation S) (operations_begun es i)
begun_sized S w [] s i = tt
begun_sized S w (e ∷ es) s i = each_append (IsSizedOperation S) (operation_begun e i) (operations_begun es i) (one_sized S w e s.0 i) (begun_sized S (after_event S w e) es s.1 i)

-- ---- any moment of a row

module _ (callers cell_count limit : ℕ) (M : Meaning) (L : List ℕ → Type 0) (room : HasRoom callers cell_count) (start : StartsMeetInvariant (setup_of callers cell_count limit M) L) (runs : SchedulesKeepInvariant (setup_of callers cell_count limit M) L)
    (grounds : GoodGrounds (setup_of callers cell_count limit M) L) (sound : InvariantIsSound (setup_of callers cell_count limit M) L) (first : FirstStateIsStart) (law : StopsLoseNothing L (setup_of callers cell_count limit M)) where
  abbrev S : Setup
  S = setup_of callers cell_count limit M

  module _ (B : TableStart) (s : State (Unit {0}) View) (rule : MeetsRule S L B s) (words : List ℕ) (durable : IsDurable S s.words words) where
    abbrev lost : LosesNothing S L B s
    lost = law B s rule

    abbrev h : List Call
    h = lost.order

    -- ---- what recovery finds in the words

    abbrev number_in : ℕ → ℕ
    number_in a = recovered_number S (words_alone s.words) a

    abbrev found : List ℕ
    found = recovered_words callers cell_count words

    starts : IsStartRow S L found
    starts = lost.restarts words durable

    abbrev cells : List ℕ
    cells = (start_from_durable callers cell_count found).cells

    abbrev now : List ℕ
    now = numbers_found callers cell_count words

    now_long : length now ≡ cell_count
    now_long = length-map cells payload_of ∙ starts.may_start.start.size

    found_at : (a : ℕ) → a < cell_count → get_or now a 0 ≡ number_in a
    found_at a l =
        let e : data_cell callers 0 + a ≡ data_cell callers a = omega arith in
        get_or-map payload_of cells a 0 0 (omega (arith, l, starts.may_start.start.size))
        ∙ ap payload_of (part_at found (data_cell callers 0) cell_count a l ∙ ap (λ n. get_or found n 0) e ∙ data_at callers cell_count words durable.long a l
        ∙ recovered_data-same callers cell_count (slice_index words) (durable_word S s.words) durable.each a l (omega (arith, l, room.few, room.small)))

    -- ---- the history has a kept caller's calls as they have ended

    ends_as : (c t : ℕ) (op : List ℕ) (o : Outcome) → ExplainsOutcome S h c t op o → ExplainsEnd h c t op o
    ends_as c t op (Answered seq announced raw steps) e = record { place = e.place; among = e.among; caller_is = e.caller; ticket_is = e.ticket; words = e.same; reply = e.reply }
    ends_as c t op (Spent seq) e = e
    ends_as c t op (Lost seq) e = tt

    explained : (x : KnownCaller) → ExplainsEndedCalls S B h x → ExplainsKept S B h x
    explained x all y l = ends_as x.machine.caller (done_before S B x.machine.caller + y + 1) (get_or x.ended y no_ended).op (get_or x.ended y no_ended).outcome (all y l)

    -- each with its own sequence
    sequenced : (x : KnownCaller) → HaveOwnSequence S B h lost.by_seq.sequences x → HaveKeptSequences S B h lost.by_seq.sequences x
    sequenced x all = all

    -- and no others
    owned : (x : KnownCaller) → IsRunBy S B lost.events x → HasOnlyKept S B h x
    owned x told = All-from_get_or (λ (e : Call). e.caller ≡ x.machine.caller → IsOneOf (done_before S B x.machine.caller) x.ended (HasOpenOperation x) e) h no_call (λ y l mine.
        let c : Call = get_or h y no_call in
        let b = (lost.linearizes.begun y no_call l).1 refl in
        let st : ℕ = done_before S B x.machine.caller in
        let same_ops : operations_begun lost.events c.caller ≡ operations_known x = ap (operations_begun lost.events) mine ∙ sym told.told.begun in
        let start_is : start_ticket S B c.caller ≡ st = ap (start_ticket S B) mine in
        let op : c.op ≡ get_or (operations_known x) (c.ticket - st - 1) [] = b.2 ∙ (λ i. get_or (same_ops i) (c.ticket - start_is i - 1) []) in
        let low : st < c.ticket = omega (arith, b.0, start_is) in
        let high : c.ticket - st - 1 < length (operations_known x) = omega (arith, b.0, b.1, start_is, ap length same_ops) in
        elim (begun_at x (is_idle x.machine.place) refl (c.ticket - st - 1) high) [
          | inl before ↦ inl (c.ticket - st - 1, before.0, omega (arith, low), op ∙ before.1)
          | inr last ↦ inr (omega (arith, low, last.0), (last.1, sym last.2 ∙ sym op))
        ])

    -- a number that is not taken has begun none
    none_of : (n : ℕ) → operations_begun lost.events n ≡ [] → HasNoneOf h n
    none_of n none = All-from_get_or (λ (e : Call). e.caller ≡ n → ⊥) h no_call (λ y l mine.
        let b = (lost.linearizes.begun y no_call l).1 refl in
        let long : length (operations_begun lost.events (get_or h y no_call).caller) ≡ 0 = ap (λ (i : ℕ). length (operations_begun lost.events i)) mine ∙ ap length none in
        absurd (omega (arith, b.0, b.1, long)))

    -- ---- what the cells tell of each caller

    own_in : (n : ℕ) → n < callers → ticket_cell S n < cell_count
    own_in n low = omega (arith, low, room.own)

    holds_reply : (n : ℕ) (c : Call) → n < callers → c.caller ≡ n → FindsCall S (words_alone s.words) c → HoldReply now n c.raw
    holds_reply n c low mine finds = record {
      shape = found_at (shape_at MOST_INSTRS n) (omega (arith, low, room.own)) ∙ ap (λ (i : ℕ). number_in (shape_cell S i)) (sym mine) ∙ finds.shape;
      numbers = λ y k marked. found_at (reply_at MOST_INSTRS n y) (omega (arith, low, room.own, k)) ∙ ap (λ (i : ℕ). number_in (reply_cell S i y)) (sym mine) ∙ finds.replies y k marked;
    }

    tells_last : (n : ℕ) → n < callers → TellLast now h n (done_before S B n)
    tells_last n low = elim (lost.recovered_so.own n low).last [
      | inl none ↦ inl (found_at (ticket_cell S n) (own_in n low) ∙ none)
      | inr q ↦ inr (
        q.0,
        q.1,
        q.2,
        sym q.3.ticket ∙ ap (λ (i : ℕ). number_in (ticket_cell S i)) q.2 ∙ sym (found_at (ticket_cell S n) (own_in n low)),
        holds_reply n (get_or h q.0 no_call) low q.2 q.3,
      )
    ]

    own_cells : (n : ℕ) → n < callers → own_ticket now n ≡ done_before S B n → OwnCellsStay (numbers_of B) now n
    own_cells n low same a from upto =
        let lt : a < cell_count = omega (arith, low, upto, room.own) in
        found_at a lt
        ∙ own_stay S L start runs grounds sound first law B s rule n low (own_in n low) (sym (found_at (ticket_cell S n) (own_in n low)) ∙ same) a (from, upto) lt
        ∙ sym (number_at B.cells a)

    -- what a view knows of real time, the order respects
    on_time : (past : List Event) → IsPrefix past lost.events → RespectsEvents S B past h
    on_time past early n x k y before p q lt high first later =
        let es = lost.events in
        let known : IsPrefix before.moment es = prefix_trans before.moment past es before.early early in
        let cut : take (length before.moment) es ≡ before.moment = ap (take (length before.moment)) (sym known.1) ∙ take-append_seam before.moment known.0 in
        let c : Call = get_or h q no_call in
        let e : Call = get_or h p no_call in
        lost.linearizes.real_time p q lt high (
          length before.moment,
          subst (λ (z : List Event × ℕ). c.ticket ≤ start_ticket S B z.1 + calls_ended_in S B z.0 z.1) (λ i. (sym cut i, sym first.0 i)) (omega (arith, first.1, before.ended)),
          subst (λ (z : List Event × ℕ). start_ticket S B z.1 + calls_begun_in z.0 z.1 < e.ticket) (λ i. (sym cut i, sym later.0 i)) (omega (arith, later.1, before.begun)),
        )

    -- each call has as many words as it may have
    sized_all : All (IsSized S) h
    sized_all = All-from_get_or (IsSized S) h no_call (λ y l.
        let c : Call = get_or h y no_call in
        let b = (lost.linearizes.begun y no_call l).1 refl in
        let st : ℕ = start_ticket S B c.caller in
        let at = each_at (IsSizedOperation S) (operations_begun lost.events c.caller) (c.ticket - st - 1) [] (omega (arith, b.0, b.1)) (begun_sized S (first_of S B) lost.events lost.reached.schedule c.caller) in
        subst (IsSizedOperation S) (sym b.2) at)

    holds : HoldsHistory S L B s words
    holds = record {
      row = starts;
      history = h;
      sequences = lost.by_seq.sequences;
      leads = record {
        serial = lost.linearizes.legal;
        ends = λ a high lt. let low : a < cell_count = omega (arith, lt, now_long) in found_at a low ∙ lost.recovered_so.numbers a (omega (arith, high)) low;
        order = lost.linearizes.rising;
        by_seq = lost.by_seq.stands;
        callers = λ y x l. (lost.linearizes.begun y x l).0;
        later = λ y x l. ((lost.linearizes.begun y x l).1 refl).0;
        last = tells_last;
        upto = λ n low y x l mine writes.
            let few = (lost.recovered_so.own n low).upto y x l mine writes in
            let at = found_at (ticket_cell S n) (own_in n low) in
            omega (arith, few, at);
      };
      views = λ j v at live. record {
        calls = each_of explained v.kept (lost.explained j v at live);
        own_seq = each_of sequenced v.kept (lost.sequenced j v at live);
        only = each_of owned v.kept (lost.reached.callers j v at live);
        time = on_time v.past (lost.reached.pasts j v at live);
      };
      sized = sized_all;
      free = λ n low free. none_of n (lost.reached.free n low free).0;
      own = own_cells;
    }

  pub rows_hold : RowsHoldHistory L S
  rows_hold B s rule words durable = holds B s rule words durable

-- ---- the same of what is saved, with the sizes and the limit that the row tells

module _ {W : Type 0} (many size : W → ℕ) (meaning : W → Meaning) (lawful : W → List ℕ → Type 0) (r : Row W) (p : Pass) (seat : IsRowPass r p) (durable : List ℕ) (closes : ClosesWithDurable meaning lawful r p durable)
    (d : SavedCells W) (work_is : d.work ≡ (key_of r).work) (limit_is : d.limit ≡ (key_of r).limit) (few_limit : d.limit ≤ GREATEST_LIMIT) (callers_are : d.shape.callers ≡ (key_of r).callers) (instrs : d.shape.instrs ≡ MOST_INSTRS) (cells_are : d.shape.cells ≡ (key_of r).cells) (fit : FitsWork many size (key_of r))
    (law : RowsHoldHistory (lawful d.work) (setup_for many size meaning d.limit d.work)) (row_is : d.row.items ≡ recovered_words d.shape.callers d.shape.cells durable) where
  -- the law of the setup that the sizes make is that of the row's
  law_at : RowsHoldHistory (lawful (key_of r).work) (setup_at meaning r)
  law_at = subst (λ (k : (W × ℕ) × (ℕ × ℕ)). RowsHoldHistory (lawful k.0.0) (setup_of k.0.1 k.1.0 k.1.1 (meaning k.0.0)))
      (λ i. ((work_is i, (ap many work_is ∙ sym fit.0) i), ((ap size work_is ∙ sym fit.1) i, limit_is i))) law

  holds_here : HoldsHistory (setup_at meaning r) (lawful (key_of r).work) (row_start meaning r) closes.meets.state durable
  holds_here = law_at (row_start meaning r) closes.meets.state closes.meets.rule durable (subst (λ (xs : List ℕ). IsDurable (setup_at meaning r) xs durable) (sym closes.meets.words) closes.durable)

  row_here : d.row.items ≡ recovered_words (key_of r).callers (key_of r).cells durable
  row_here = row_is ∙ (λ i. recovered_words (callers_are i) (cells_are i) durable)

  cells_here : saved_cells d ≡ numbers_found (key_of r).callers (key_of r).cells durable
  cells_here = λ i. numbers_of (start_from_durable (callers_are i) (cells_are i) (row_here i))

  may_start : MayStartFrom meaning lawful d.shape d.limit d.work d.row.items
  may_start = subst (λ (k : ((W × ℕ) × (ℕ × ℕ)) × List ℕ). IsStartRow (setup_of k.0.0.1 k.0.1.0 k.0.1.1 (meaning k.0.0.0)) (lawful k.0.0.0) k.1)
      (λ i. (((sym work_is i, sym callers_are i), (sym cells_are i, sym limit_is i)), sym row_here i)) holds_here.row

  pub saved_so : IsSavedCells many size meaning lawful d
  saved_so = record {
    callers = callers_are ∙ fit.0 ∙ ap many (sym work_is);
    instrs = instrs;
    cells = cells_are ∙ fit.1 ∙ ap size (sym work_is);
    few_limit = few_limit;
    row = may_start;
  }

  pub history_so : SavesHistory meaning r (view_of_pass p) d
  history_so = record {
    history = holds_here.history;
    sequences = holds_here.sequences;
    leads = subst (λ (xs : List ℕ). HistoryLeads (meaning (key_of r).work) (key_of r).callers (made_before meaning r) (cells_at_start meaning r) xs holds_here.history holds_here.sequences) (sym cells_here) holds_here.leads;
    view = holds_here.views closes.meets.seat (view_of_pass p) closes.meets.view seat.2;
  }

  pub own_so : KeepsOwnCells meaning r d
  own_so = subst (λ (xs : List ℕ). (n : ℕ) → n < (key_of r).callers → own_ticket xs n ≡ made_before meaning r n → OwnCellsStay (cells_at_start meaning r) xs n) (sym cells_here) holds_here.own
