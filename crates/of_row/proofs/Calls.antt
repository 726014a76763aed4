-- The calls of a kept caller: what the events tell of it is what the core claims of a caller's calls.
use Rattle.std.proofs.Common.{◌≡◌, ℕ, ◌+◌, ◌-◌, ◌<◌, ◌≤◌, ◌⊎◌, inl, inr, Bool, true, false, List, [], length, get_or, map, refl, sym, ap, ◌∙◌, subst, arith}
use Rattle.std.specs.List.{All}
use Rattle.std.proofs.lemmas.Bool.{cases_lt}
use Rattle.std.proofs.lemmas.List.{length-append, length-map, get_or-map, get_or_append_left, get_or_push}
use Rattle.of_core.specs.declared.place.Outcome.{Outcome}
use Rattle.of_core.specs.declared.place.Outcome.TheVariants.{Answered, Spent, Lost}
use Rattle.of_core.specs.Table.{Setup, words_before_members}
use Rattle.of_core.specs.Machine.{Call, CallState, is_idle, no_call}
use Rattle.of_core.specs.TableMoment.{Moment, TableStart, Batch}
use Rattle.of_core.specs.History.{batch_at}
use Rattle.of_core.specs.WordsMatch.{MayStart}
use Rattle.of_core.specs.Events.{Event, IsSchedule, machine_in, start_ticket}
use Rattle.of_core.specs.Calls.{HasCalls, OutcomeStands, WasBegun, IsNotBefore, no_outcome, outcome_seq}
use Rattle.of_core.specs.Laws.{EveryCallStands}
use Rattle.of_core.specs.Written.{OwnersTakePart}
use Rattle.of_row.specs.Views.{SeenBatch, EndedCall, KnownCaller, no_ended, IsSeenPrefix, seen_history, seen_seq}
use Rattle.of_row.specs.Told.{open_operation, operations_known, outcomes_of}
use Rattle.of_row.specs.Trail.{first_of, moment, IsRunBy, HasDoneNothing}
use Rattle.of_row.specs.Rule.{done_before, open_call_count, outcome_at, CountsMade, EachCallBetween, CallHasEnded, NoneAfterLoss, ticket_at, ended_operation_at, HasOwn, IsCallOf, IsCallOfIfOwn, OutcomesRise, KnowsCallsOf, NoneOwned, seen_last_seq}
use Rattle.of_row.proofs.Tellings.{begun_open}
use Rattle.of_row.proofs.Fronts.{ended_seen, seen_calls}

-- a call in a batch after s is newer than those that are in batches up to s
newer : (t k s ticket : ℕ) → (ticket ≤ t → k ≤ s) → s < k → t < ticket
newer t k s ticket old low = go (cases_lt t ticket)
  where
    go : (t < ticket) ⊎ (ticket ≤ t) → t < ticket
    go (inl l) = l
    go (inr l) = absurd (omega (arith, old l, low))

-- how many calls it has begun
begun_many : (x : KnownCaller) → length (operations_known x) ≡ length x.ended + open_call_count (is_idle x.machine.place)
begun_many x = length-append ops (open_operation x.machine (is_idle x.machine.place)) ∙ omega (arith, length-map x.ended (λ (e : EndedCall). e.op), one (is_idle x.machine.place))
  where
    ops : List (List ℕ)
    ops = map (λ (e : EndedCall). e.op) x.ended

    one : (b : Bool) → length (open_operation x.machine b) ≡ open_call_count b
    one true = refl
    one false = refl

-- the events have led to these calls of a caller that has run by them
pub calls_of : (S : Setup) (L : List ℕ → Type 0) → EveryCallStands S L → (B : TableStart) → MayStart S L B → (es : List Event) → IsSchedule S (first_of S B) es → (x : KnownCaller) → x.machine.caller < S.callers → IsRunBy S B es x
    → HasCalls S B (start_ticket S B x.machine.caller) (moment S B es) x.machine.caller (operations_known x) (outcomes_of x)
calls_of S L every B may es schedule x below r =
    let i : ℕ = x.machine.caller in
    subst (λ (z : List (List ℕ) × List Outcome). HasCalls S B (start_ticket S B i) (moment S B es) i z.0 z.1) (λ k. (sym r.told.begun k, sym r.told.ended k)) (every B may (words_before_members S + 1) (omega arith) es schedule i below)

module _ (S : Setup) (B : TableStart) (w : Moment) (x : KnownCaller) (is : machine_in w x.machine.caller ≡ x.machine) (calls : HasCalls S B (start_ticket S B x.machine.caller) w x.machine.caller (operations_known x) (outcomes_of x)) where
  abbrev before : ℕ
  before = start_ticket S B x.machine.caller

  made_is : x.machine.made ≡ before + length (operations_known x)
  made_is = ap (λ (m : CallState). m.made) (sym is) ∙ calls.made

  pub counts_made : CountsMade S B x
  counts_made = omega (arith, made_is, begun_many x)

  own_by : (c : Call) → c.caller ≡ x.machine.caller → WasBegun before x.machine.caller (operations_known x) c → IsCallOf S B x c
  own_by c e w = go (cases_lt y (length x.ended)) (is_idle x.machine.place) refl
    where
      h : (before < c.ticket) × (c.ticket ≤ before + length (operations_known x)) × (c.op ≡ get_or (operations_known x) (c.ticket - before - 1) [])
      h = w e

      y : ℕ
      y = c.ticket - before - 1

      ops : List (List ℕ)
      ops = map (λ (e : EndedCall). e.op) x.ended

      many : length ops ≡ length x.ended
      many = length-map x.ended (λ (e : EndedCall). e.op)

      go : (y < length x.ended) ⊎ (length x.ended ≤ y) → (b : Bool) → is_idle x.machine.place ≡ b → IsCallOf S B x c
      go (inl l) b q = inl (y, l, omega (arith, h.0), h.2 ∙ (get_or_append_left ops (open_operation x.machine (is_idle x.machine.place)) [] y (omega (arith, l, many)) ∙ get_or-map (λ (e : EndedCall). e.op) x.ended y no_ended [] l))
      go (inr l) true q = let none : open_call_count (is_idle x.machine.place) ≡ 0 = ap open_call_count q in absurd (omega (arith, h.0, h.1, l, begun_many x, none))
      go (inr l) false q =
          let one : open_call_count (is_idle x.machine.place) ≡ 1 = ap open_call_count q in
          let at : length ops ≡ y = omega (arith, many, h.0, h.1, l, begun_many x, one) in
          inr (q, omega (arith, made_is, h.0, h.1, l, begun_many x, one), h.2 ∙ (ap (λ (z : List (List ℕ)). get_or z y []) (begun_open x q) ∙ get_or_push ops x.machine.op [] y at))

  pub own_calls : EachCallBetween B w.batches B.seq (seen_last_seq B w.batches) (IsCallOfIfOwn S B x)
  own_calls k l u = λ j d n e. own_by (get_or (batch_at B w.batches k).calls j d) e (calls.calls k l u j d n)

  pub rises : OutcomesRise x.ended
  rises y l =
      let outs : List Outcome = outcomes_of x in
      let many : length outs ≡ length x.ended = length-map x.ended (λ (e : EndedCall). e.outcome) in
      let one : get_or outs y no_outcome ≡ outcome_at x.ended y = get_or-map (λ (e : EndedCall). e.outcome) x.ended y no_ended no_outcome (omega (arith, l)) in
      let two : get_or outs (y + 1) no_outcome ≡ outcome_at x.ended (y + 1) = get_or-map (λ (e : EndedCall). e.outcome) x.ended (y + 1) no_ended no_outcome l in
      subst (λ (z : Outcome × Outcome). IsNotBefore (outcome_seq z.0) z.1) (λ k. (one k, two k)) (calls.rising y (y + 1) (omega arith) (omega (arith, l, many)))

  -- what a view knows of the caller's own calls, as far as it has seen
  pub has_own : (cs : List SeenBatch) → IsSeenPrefix cs w.batches → KnowsCallsOf S B w.batches (seen_seq B cs) x → HasOwn S B cs x
  has_own cs f h = record {
    own_calls = λ k l u. subst (λ (z : List Call). All (λ (c : Call). c.caller ≡ x.machine.caller → IsCallOf S B x c) z) (sym (seen_calls B cs w.batches k f l u)) (own_calls k l (omega (arith, u, f.few)));
    made = counts_made;
    each = λ y l. ended_seen S B cs w.batches x.machine.caller (done_before S B x.machine.caller + y + 1) (get_or x.ended y no_ended).op (outcome_at x.ended y) f (h.each y l);
    lost = λ y l. none_after y l (outcome_at x.ended y) refl;
    rising = rises;
  }
    where
      -- the core says so of the whole history
      none_after : (y : ℕ) → y < length x.ended → (o : Outcome) → outcome_at x.ended y ≡ o → NoneAfterLoss B (seen_history cs) (seen_seq B cs) x.machine.caller (ticket_at S B x y) o
      none_after y l (Answered s announced raw steps) e = tt
      none_after y l (Spent s) e = tt
      none_after y l (Lost s) e = λ k low up.
          let outs : List Outcome = outcomes_of x in
          let many : length outs ≡ length x.ended = length-map x.ended (λ (e : EndedCall). e.outcome) in
          let one : get_or outs y no_outcome ≡ Lost s = get_or-map (λ (e : EndedCall). e.outcome) x.ended y no_ended no_outcome l ∙ e in
          let said : OutcomeStands S B w x.machine.caller (before + y + 1) (get_or (operations_known x) y []) (Lost s) = subst (λ (o : Outcome). OutcomeStands S B w x.machine.caller (before + y + 1) (get_or (operations_known x) y []) o) one (calls.each y (omega (arith, l, many))) in
          let from : B.seq ≤ s = (subst (λ (o : Outcome). CallHasEnded S B w.batches (seen_seq B cs) x.machine.caller (ticket_at S B x y) (ended_operation_at x.ended y) o) e (h.each y l)).0 in
          subst (λ (z : List Call). All (λ (c : Call). c.caller ≡ x.machine.caller → ticket_at S B x y < c.ticket) z) (sym (seen_calls B cs w.batches k f (omega (arith, from, low)) up))
          (λ j d n q. newer (ticket_at S B x y) k s (get_or (batch_at B w.batches k).calls j d).ticket (said.1 k (omega (arith, from, low)) (omega (arith, up, f.few)) j d n q).0 low)

-- a caller that has done nothing has committed no batch: its own call would be in it
pub unowned : (S : Setup) (L : List ℕ → Type 0) → EveryCallStands S L → OwnersTakePart S L → (B : TableStart) → MayStart S L B → (es : List Event) → IsSchedule S (first_of S B) es → (n : ℕ) → n < S.callers → HasDoneNothing es n → NoneOwned B (moment S B es).batches B.seq n
unowned S L every owners B may es schedule n below none k low up is =
    let bs : List Batch = (moment S B es).batches in
    let own = owners B may (words_before_members S + 1) (omega arith) es schedule k low up in
    let calls = every B may (words_before_members S + 1) (omega arith) es schedule n below in
    let begun = calls.calls k low up own.0 no_call own.1 (own.2 ∙ is) in
    absurd (omega (arith, begun.0, begun.1, ap length none.0))
