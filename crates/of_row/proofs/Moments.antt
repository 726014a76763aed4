-- Any moment of a row: the events that came lead to its words, and recovery of them finds all that was answered.
use Rattle.std.proofs.Common.{◌≡◌, ℕ, ◌+◌, ◌≤◌, ◌<◌, inl, inr, ⊎_elim, List, [], length, map, get_or, false, refl, sym, ◌∙◌, ap, subst, arith}
use Rattle.std.specs.List.{All, AllByRecursion as Each}
use Rattle.std.proofs.lemmas.List.{length-map, get_or-map, get_or_append_left}
use Rattle.atomic_table.specs.Table.{State}
use Rattle.of_cell.specs.Words.{payload_of}
use Rattle.of_cell.proofs.Places.{row_within}
use Rattle.of_recover.proofs.Agreeing.{recovered_data-same}
use Rattle.of_core.specs.declared.place.Outcome.{Outcome}
use Rattle.of_core.specs.Table.{Setup, cell_count, words_before_members, durable_at, durable_word, ticket_cell, shape_cell, reply_cell}
use Rattle.of_core.specs.Machine.{Call, no_call}
use Rattle.of_core.specs.TableMoment.{Moment, TableStart}
use Rattle.of_core.specs.Starts.{IsDurable}
use Rattle.of_core.specs.Invariant.{MeetsInvariant}
use Rattle.of_core.specs.Grounds.{HasGrounds}
use Rattle.of_core.specs.Events.{Event, start_ticket}
use Rattle.of_core.specs.Calls.{operations_begun, outcomes, no_outcome}
use Rattle.of_core.specs.Laws.{EveryOrder, RecoveredRowsMayStart}
use Rattle.of_core.specs.Linear.{ExplainsOutcome, Linearizes, HasOwnSequence, IsBySequence, recovered_number, FindsCall, Detects, IsRecovered, IsDurablyLinearizable}
use Rattle.of_row.specs.Views.{EndedCall, KnownCaller, View, no_ended}
use Rattle.of_row.specs.Rule.{members_of, ticket_at, ended_operation_at, outcome_at, IsAtHome, ViewFits, MeetsRule, ViewMeetsRule, EachFree}
use Rattle.of_row.specs.Trail.{first_of, moment, IsToldBy, IsRunBy, EachView}
use Rattle.of_row.specs.RowLaws.{RowLaws}
use Rattle.of_row.specs.Moments.{IsReachedBy, ExplainsEndedCalls, HaveOwnSequence, HasNoneOf, words_alone, LosesNothing, HoldsCalls}
use Rattle.of_row.proofs.RowLaws.{good_of, word_at}
use Rattle.of_row.proofs.Fronts.{each_both}

module _ (S : Setup) (L : List ℕ → Type 0) (B : TableStart) (s : State (Unit {0}) View) (r : MeetsRule S L B s) where
  abbrev es : List Event
  es = r.events

  abbrev W : Moment
  W = moment S B es

  pub reached : IsReachedBy S B s es
  reached = record {
    schedule = r.schedule;
    words = word_at S L B s r;
    seen = λ j v at live. (r.each j v at live).seen;
    pasts = λ j v at live. (r.each j v at live).past;
    raised = λ j v at live. (r.each j v at live).raised;
    callers = λ j v at live. (r.each j v at live).runs;
    free = r.free;
  }

  -- ---- recovery of the words as they are

  durable_same : (c : ℕ) → c < cell_count S → durable_word S s.words c ≡ durable_word S W.words c
  durable_same c low = word_at S L B s r (durable_at S c) (omega (arith, low))

  module _ (laws : RowLaws S L) where
    good : MeetsInvariant S L B W
    good = good_of S L laws B s r

    grounds : HasGrounds S L B W
    grounds = laws.grounds B W good

    found_same : (a : ℕ) → a < S.cells → recovered_number S (words_alone s.words) a ≡ recovered_number S W a
    found_same a low = ap payload_of (recovered_data-same S.callers S.cells (durable_word S s.words) (durable_word S W.words) durable_same a low (omega (arith, low, grounds.cells)))

    -- a caller's own cells are cells
    own_in : (i x : ℕ) → i < S.callers → x < S.instrs + 2 → ticket_cell S i + x < S.cells
    own_in i x below low = omega (arith, low, row_within i S.callers (S.instrs + 2) below, grounds.own_in)

    ticket_same : (i : ℕ) → i < S.callers → recovered_number S (words_alone s.words) (ticket_cell S i) ≡ recovered_number S W (ticket_cell S i)
    ticket_same i below = found_same (ticket_cell S i) (omega (arith, own_in i 0 below (omega arith)))

    finds_same : (c : Call) → c.caller < S.callers → FindsCall S W c → FindsCall S (words_alone s.words) c
    finds_same c below f = record {
      ticket = ticket_same c.caller below ∙ f.ticket;
      shape = found_same (shape_cell S c.caller) (omega (arith, own_in c.caller 1 below (omega arith))) ∙ f.shape;
      replies = λ y low on. found_same (reply_cell S c.caller y) (omega (arith, own_in c.caller (y + 2) below (omega (arith, low)))) ∙ f.replies y low on;
    }

    module _ (order : List Call) where
      detects_same : (i : ℕ) → i < S.callers → Detects S B W order i → Detects S B (words_alone s.words) order i
      detects_same i below d = record {
        last = ⊎_elim (λ e. inl (ticket_same i below ∙ e))
            (λ q. inr (q.0, q.1, q.2, finds_same (get_or order q.0 no_call) (subst (λ (k : ℕ). k < S.callers) (sym q.2) below) q.3))
            d.last;
        upto = subst (λ (t : ℕ). All (λ (c : Call). c.caller ≡ i → S.meaning.reads_only c.op ≡ false → c.ticket ≤ t) order) (sym (ticket_same i below)) d.upto;
      }

      recovered_same : IsRecovered S B W order → IsRecovered S B (words_alone s.words) order
      recovered_same h = record {
        numbers = λ a low high. found_same a high ∙ h.numbers a low high;
        own = λ i below. detects_same i below (h.own i below);
      }

      -- ---- the calls of those whom a seat keeps

      -- what is so of each call that has ended is so of those that a seat keeps
      module _ (P : (i ticket : ℕ) → List ℕ → Outcome → Type 0) (ends : (i x : ℕ) → i < S.callers → x < length (outcomes S (first_of S B) es i) → P i (start_ticket S B i + x + 1) (get_or (operations_begun es i) x []) (get_or (outcomes S (first_of S B) es i) x no_outcome)) where
        abbrev EndSo : KnownCaller → Type 0
        EndSo x = (y : ℕ) → y < length x.ended → P x.machine.caller (ticket_at S B x y) (ended_operation_at x.ended y) (outcome_at x.ended y)

        ends_by : (x : KnownCaller) → x.machine.caller < S.callers → IsToldBy S B es x.machine.caller x → EndSo x
        ends_by x below t y low =
            let i : ℕ = x.machine.caller in
            let ops : List (List ℕ) = map (λ (e : EndedCall). e.op) x.ended in
            let outs : outcomes S (first_of S B) es i ≡ map (λ (e : EndedCall). e.outcome) x.ended = sym t.ended in
            let many : y < length (outcomes S (first_of S B) es i) = omega (arith, low, ap length outs, length-map x.ended (λ (e : EndedCall). e.outcome)) in
            let op : get_or (operations_begun es i) y [] ≡ ended_operation_at x.ended y =
            ap (λ (z : List (List ℕ)). get_or z y []) (sym t.begun)
            ∙ (get_or_append_left ops _ [] y (omega (arith, low, length-map x.ended (λ (e : EndedCall). e.op))) ∙ get_or-map (λ (e : EndedCall). e.op) x.ended y no_ended [] low) in
            let out : get_or (outcomes S (first_of S B) es i) y no_outcome ≡ outcome_at x.ended y =
            ap (λ (z : List Outcome). get_or z y no_outcome) outs ∙ get_or-map (λ (e : EndedCall). e.outcome) x.ended y no_ended no_outcome low in
            subst (λ (z : List ℕ × Outcome). P i (ticket_at S B x y) z.0 z.1) (λ k. (op k, out k)) (ends i y below many)

        kept_so : EachView (λ v. Each EndSo v.kept) s.views
        kept_so j v at live =
            let f : ViewFits S B s.words es r.home r.chief j v = r.each j v at live in
            each_both (IsAtHome S r.home (members_of S s.words) j) (IsRunBy S B es) EndSo v.kept (λ x q t. ends_by x q.in_range t.told) f.kept f.runs

      explained : Linearizes S B (first_of S B) es order → EachView (λ v. Each (ExplainsEndedCalls S B order) v.kept) s.views
      explained h = kept_so (λ i t op o. ExplainsOutcome S order i t op o) h.ended

      sequenced : (h : IsBySequence S B (first_of S B) es order) → EachView (λ v. Each (HaveOwnSequence S B order h.sequences) v.kept) s.views
      sequenced h = kept_so (λ i t op o. HasOwnSequence order h.sequences i t o) h.own

    pub loses_nothing : EveryOrder S L → RecoveredRowsMayStart S L → LosesNothing S L B s
    loses_nothing orders restarts =
        let h : IsDurablyLinearizable S B (first_of S B) es = orders B r.from (words_before_members S + 1) (omega arith) es r.schedule in
        record {
          events = es;
          reached = reached;
          order = h.order;
          linearizes = h.linearizes;
          by_seq = h.by_seq;
          explained = explained h.order h.linearizes;
          sequenced = sequenced h.order h.by_seq;
          recovered_so = recovered_same h.order h.recovered;
          restarts = λ row is. (restarts B W good row record { long = is.long; each = λ c low. is.each c low ∙ durable_same c low }).0;
        }

-- the order has no call of a number that isn't taken
none_of_free : (S : Setup) (L : List ℕ → Type 0) (B : TableStart) (s : State (Unit {0}) View) (h : LosesNothing S L B s) → EachFree S s.words (HasNoneOf h.order)
none_of_free S L B s h n low unset p d l = λ is.
    let k = (h.linearizes.begun p d l).1 refl in
    let nothing : operations_begun h.events (get_or h.order p d).caller ≡ [] = ap (operations_begun h.events) is ∙ (h.reached.free n low unset).0 in
    let none : length (operations_begun h.events (get_or h.order p d).caller) ≡ 0 = ap length nothing in
    omega (arith, k.0, k.1, none)

-- a closed row stops at its last moment
pub closed_holds : (S : Setup) (L : List ℕ → Type 0) → RowLaws S L → EveryOrder S L → RecoveredRowsMayStart S L → (B : TableStart) (ws : List ℕ) (v : View) → ViewMeetsRule S L B ws v → v.spent ≡ false → HoldsCalls S L B ws v
closed_holds S L laws orders restarts B ws v m live =
    let h : LosesNothing S L B m.state = loses_nothing S L B m.state m.rule laws orders restarts in
    record {
      order = h.order;
      explained = h.explained m.seat v m.view live;
      sequences = h.by_seq.sequences;
      by_seq = h.by_seq.stands;
      sequenced = h.sequenced m.seat v m.view live;
      free = subst (λ (z : List ℕ). EachFree S z (HasNoneOf h.order)) m.words (none_of_free S L B m.state h);
      recovered_so = subst (λ (z : List ℕ). IsRecovered S B (words_alone z) h.order) m.words h.recovered_so;
      restarts = λ row is. h.restarts row (subst (λ (z : List ℕ). IsDurable S z row) (sym m.words) is);
    }
