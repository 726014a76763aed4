-- A caller's announced calls stand once in what was seen: tickets rise from batch to batch.
use Rattle.std.proofs.Common.{◌≡◌, ℕ, ◌+◌, ◌<◌, ◌≤◌, ◌⊎◌, inl, inr, true, false, List, [], ◌++◌, length, map, ap, get_or, sym, ◌∙◌, subst, arith}
use Rattle.std.specs.List.{All}
use Rattle.std.proofs.lemmas.Bool.{cases_lt}
use Rattle.std.proofs.lemmas.List.{length-map, append-nil}
use mathlib.Core.List.{IsPrefix}
use Rattle.of_core.specs.declared.place.Outcome.{Outcome}
use Rattle.of_core.specs.declared.place.Outcome.TheVariants.{Answered, Spent, Lost}
use Rattle.of_core.specs.Table.{Setup}
use Rattle.of_core.specs.Machine.{Call, no_call}
use Rattle.of_cell.specs.Words.{payload_of}
use Rattle.of_core.specs.TableMoment.{Moment, Batch, TableStart}
use Rattle.of_core.specs.History.{batch_at, EachBatch, CallersRise}
use Rattle.of_core.specs.Claim.{IsNewerCall, IsSound}
use Rattle.of_row.specs.Views.{SeenBatch, KnownCaller, View, IsSeenPrefix, KnowsBothJoined, batch_of_seen, seen_history, seen_seq}
use Rattle.of_row.specs.Turned.{after_join}
use Rattle.of_row.specs.Rule.{CallHasEnded, HasOwn, IsLegalFront, StandsOnceIfAnnounced, IsCallOf, HasOwnOnce, ended_operation_at, outcome_at, ticket_at}
use Rattle.of_row.proofs.Fronts.{seen_calls, seen_legal}

-- of two calls of one caller in batches up to a sequence, the one in the later batch is the newer
abbrev TicketsRise : TableStart → List Batch → (upto : ℕ) → Type 0
TicketsRise B bs upto = (j k : ℕ) → B.seq < j → j < k → k ≤ upto → All (λ (c : Call). All (IsNewerCall c) (batch_at B bs k).calls) (batch_at B bs j).calls

tickets_rise : (B : TableStart) (cs : List SeenBatch) (bs : List Batch) → IsSeenPrefix cs bs → TicketsRise B bs (B.seq + length bs) → TicketsRise B (seen_history cs) (seen_seq B cs)
tickets_rise B cs bs front rise j k l m u = subst (λ (z : List Call × List Call). All (λ (c : Call). All (IsNewerCall c) z.1) z.0) (λ i. (sym (seen_calls B cs bs j front l (omega (arith, m, u))) i, sym (seen_calls B cs bs k front (omega (arith, l, m)) u) i)) (rise j k l m (omega (arith, u, front.few)))

module _ (S : Setup) (B : TableStart) (cs : List SeenBatch) (bs : List Batch) (x : KnownCaller) (front : IsSeenPrefix cs bs) (rise : TicketsRise B bs (B.seq + length bs)) (by_caller : EachBatch B bs CallersRise) (own : HasOwn S B cs x) where
  abbrev seen : List Batch
  seen = seen_history cs

  long : length seen ≡ length cs
  long = length-map cs batch_of_seen

  rises : TicketsRise B seen (seen_seq B cs)
  rises = tickets_rise B cs bs front rise

  stands : (i ticket : ℕ) (op : List ℕ) (o : Outcome) → CallHasEnded S B seen (seen_seq B cs) i ticket op o → StandsOnceIfAnnounced S B seen i ticket op o
  stands i ticket op (Answered n true raw steps) h = record { from = h.0; upto = omega (arith, long, h.1); has = h.3; only = only; single = subst CallersRise (sym (seen_calls B cs bs n front h.0 h.1)) (by_caller n h.0 (omega (arith, h.1, front.few))) }
    where
      here : Call
      here = get_or (batch_at B seen n).calls h.3.place no_call

      only : (k : ℕ) → B.seq < k → k ≤ B.seq + length seen → All (λ (c : Call). c.caller ≡ i → c.ticket ≡ ticket → k ≡ n) (batch_at B seen k).calls
      only k l u p d q e t = go (cases_lt k n) (cases_lt n k)
        where
          go : (k < n) ⊎ (n ≤ k) → (n < k) ⊎ (k ≤ n) → k ≡ n
          go (inl a) b = let newer = rises k n l a h.1 p d q h.3.place no_call h.3.among (h.3.caller ∙ sym e) in absurd (omega (arith, newer, t, h.3.ticket))
          go (inr a) (inl b) = let newer = rises n k h.0 b (omega (arith, long, u)) h.3.place no_call h.3.among p d q (e ∙ sym h.3.caller) in absurd (omega (arith, newer, t, h.3.ticket))
          go (inr a) (inr b) = omega (arith, a, b)
  stands i ticket op (Answered n false raw steps) h = tt
  stands i ticket op (Spent n) h = tt
  stands i ticket op (Lost n) h = tt

  pub own_once : HasOwnOnce S B cs x
  own_once = record {
    once = λ y l. stands x.machine.caller (ticket_at S B x y) (ended_operation_at x.ended y) (outcome_at x.ended y) (own.each y l);
    begun = λ k l u p d q e. low (get_or (batch_at B seen k).calls p d) (own.own_calls k l u p d q e);
  }
    where
      low : (c : Call) → IsCallOf S B x c → c.ticket ≤ x.machine.made
      low c (inl z) = omega (arith, z.1, z.2, own.made)
      low c (inr z) = omega (arith, z.1)

-- what was seen of a history that is legal is legal: no batch is empty, calls stand by caller, tickets rise
pub legal_front : (S : Setup) (B : TableStart) (cs : List SeenBatch) (w : Moment) → IsSeenPrefix cs w.batches → IsSound S B w → IsLegalFront S B cs
legal_front S B cs w f sound =
    let long : length (seen_history cs) ≡ length cs = length-map cs batch_of_seen in
    record {
      replies = seen_legal S.meaning (map payload_of B.cells) cs w.batches f sound.legal;
      some = λ k l u. subst (λ (ks : List Call). 0 < length ks) (sym (seen_calls B cs w.batches k f l (omega (arith, u, long)))) (sound.some k l (omega (arith, u, long, f.few)));
      by_caller = λ k l u. subst CallersRise (sym (seen_calls B cs w.batches k f l (omega (arith, u, long)))) (sound.rising k l (omega (arith, u, long, f.few)));
      tickets = tickets_rise B cs w.batches f sound.tickets;
    }

-- after a join each of the two is how what is known begins
pub joined_both : (v w u : View) → u ≡ after_join v w → KnowsBothJoined u → IsPrefix v.seen u.seen × IsPrefix w.seen u.seen × IsPrefix v.past u.past × IsPrefix w.past u.past
joined_both v w u e m =
    let k : KnowsBothJoined (after_join v w) = subst KnowsBothJoined e m in
    subst (λ (z : View). IsPrefix v.seen z.seen × IsPrefix w.seen z.seen × IsPrefix v.past z.past × IsPrefix w.past z.past) (sym e) (k.0.0, k.1.0.0, k.0.1, k.1.0.1)

-- with nobody taken in the callers stay
pub same_callers : (v w u : View) → u ≡ after_join v w → w.kept ≡ [] → u.kept ≡ v.kept
same_callers v w u e none = ap (λ (z : View). z.kept) e ∙ ap (λ (xs : List KnownCaller). v.kept ++ xs) none ∙ append-nil v.kept
