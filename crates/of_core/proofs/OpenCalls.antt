-- Where the calls of one caller stand in the history, by the place of its machine.
use Rattle.std.proofs.Common.{◌≡◌, ℕ, ◌+◌, ◌<◌, ◌≤◌, ◌⊎◌, inl, inr, List, length, get_or, Bool, true, false, refl, sym, ◌∙◌, ap, subst, arith}
use Rattle.std.proofs.lemmas.Bool.{cases_order}
use Rattle.std.proofs.lemmas.List.{get_or_default}
use Rattle.of_cell.specs.Words.{pack}
use Rattle.of_core.specs.declared.place.Place.{Place}
use Rattle.of_core.specs.declared.place.Place.TheVariants.{Idle, TryCurrent, TryRequest, TryCell, StoreScript, StoreAnnouncement, LoadCurrent, LoadRequest, CopyLog, LookAgain, LoadOwnTicket, LoadShape, LoadReply, LoadAnnouncement, LoadTicket, LoadScript, LoadCell, RaiseOld, StoreLog, RaiseLog, StoreRequest, RaiseRequest, ExchangeCurrent, RaiseCurrent, LoadTarget, ExchangeTarget, ReloadTarget, RaiseTarget, CloseRequest, RaiseClosed}
use Rattle.of_core.specs.Table.{Setup, announcement_of, script_words_of, committed_seq}
use Rattle.of_core.specs.Machine.{CallState, Call, IsOpen, is_idle, no_call}
use Rattle.of_core.specs.TableMoment.{Moment, TableStart}
use Rattle.of_core.specs.History.{batch_at, last_ticket_by}
use Rattle.of_core.specs.Rounds.{IsUnannounced, IsAnnounced, MayHelp, HasOneOperation, AnnouncesNothingNew}
use Rattle.of_core.specs.Transaction.{IsApplying, AppliesAs, OwnsTransaction}
use Rattle.of_core.specs.Invariant.{HoldsAtPlace, MeetsCore}
use Rattle.of_core.proofs.Tickets.{ticket_upto, tickets_rise}
use Rattle.of_core.proofs.Ordering.{idle_is}

module _ (S : Setup) (Lawful : List ℕ → Type 0) (B : TableStart) (w : Moment) (g : MeetsCore S Lawful B w) (i : ℕ) (m : CallState) (h : i < S.callers) where
  -- an open call isn't announced yet, or is announced, or its own batch is applied
  abbrev pub Holds : Type 0
  Holds = IsUnannounced S B w.words w.batches i m ⊎ (IsAnnounced S B w.words w.batches i m ⊎ (OwnsTransaction S B w.words w.batches i m × (B.seq < m.seq) × (m.seq ≤ committed_seq w.words)))

  helping : MayHelp S B w.words w.batches i m → Holds
  helping (inl r) = inr (inl r.begun)
  helping (inr t) = inl t.fresh

  applying : (j : ℕ) → IsApplying S B w.words w.batches i m j → Holds
  applying j a = go m.helps a.mode
    where
      go : (b : Bool) → AppliesAs S B w.words w.batches i m b → Holds
      go true d = helping d.helper
      go false d = inr (inr (d, a.after, a.upto))

  pub open_holds : (p : Place) → IsOpen p → HoldsAtPlace S B w.words w.batches i m p → Holds
  open_holds Idle o a = cc
  open_holds TryCurrent o a = inl a.fresh
  open_holds TryRequest o a = inl a.trying.fresh
  open_holds (TryCell x) o a = inl a.trying.fresh
  open_holds (StoreScript j) o a = inl a.fresh
  open_holds StoreAnnouncement o a = inl a.fresh
  open_holds LoadCurrent o a = inr (inl a.begun)
  open_holds LoadRequest o a = inr (inl a.round.begun)
  open_holds (CopyLog x) o a = helping a.copies.helping.helper
  open_holds LookAgain o a = helping a.copies.helping.helper
  open_holds LoadOwnTicket o a = inr (inl a.looks.round.begun)
  open_holds LoadShape o a = inr (inl a.looks.round.begun)
  open_holds (LoadReply j) o a = inr (inl a.looks.round.begun)
  open_holds LoadAnnouncement o a = inr (inl a.past.looks.round.begun)
  open_holds LoadTicket o a = inr (inl a.scanning.past.looks.round.begun)
  open_holds (LoadScript j) o a = inr (inl a.scanning.past.looks.round.begun)
  open_holds (LoadCell x) o a = inr (inl a.scanning.past.looks.round.begun)
  open_holds RaiseOld o a = inr (inl a.past.looks.round.begun)
  open_holds (StoreLog x) o a = inr (inl a.storing.stored.past.looks.round.begun)
  open_holds (RaiseLog x) o a = inr (inl a.storing.stored.past.looks.round.begun)
  open_holds StoreRequest o a = inr (inl a.stored.past.looks.round.begun)
  open_holds RaiseRequest o a = inr (inl a.stored.past.looks.round.begun)
  open_holds ExchangeCurrent o a = inr (inl a.stored.past.looks.round.begun)
  open_holds RaiseCurrent o a = applying 0 a
  open_holds (LoadTarget j) o a = applying j a.applies
  open_holds (ExchangeTarget j f) o a = applying j a.entry.applies
  open_holds (ReloadTarget j) o a = applying j a.entry.applies
  open_holds (RaiseTarget j f) o a = applying j a.entry.applies
  open_holds CloseRequest o a = applying (length m.log) a.applies
  open_holds RaiseClosed o a = applying (length m.log) a.applies

  -- no call of the caller that is newer than its last one was run
  pub upto_at : (p : Place) → HoldsAtPlace S B w.words w.batches i m p → last_ticket_by S B w.batches (committed_seq w.words) i ≤ m.made
  upto_at p a = go (is_idle p) refl
    where
      held : Holds → last_ticket_by S B w.batches (committed_seq w.words) i ≤ m.made
      held (inl f) = omega (arith, f.above)
      held (inr (inl b)) = b.upto
      held (inr (inr o)) = o.0.upto

      go : (b : Bool) → is_idle p ≡ b → last_ticket_by S B w.batches (committed_seq w.words) i ≤ m.made
      go true e = (subst (λ (q : Place). HoldsAtPlace S B w.words w.batches i m q) (idle_is p e) a).upto
      go false e = held (open_holds p e a)

  -- two calls of a caller with one ticket are one
  one_call : (k s y z : ℕ) (d : Call) → B.seq < k → k ≤ committed_seq w.words → B.seq < s → s ≤ committed_seq w.words → y < length (batch_at B w.batches k).calls → z < length (batch_at B w.batches s).calls
      → (get_or (batch_at B w.batches k).calls y d).caller ≡ (get_or (batch_at B w.batches s).calls z no_call).caller → (get_or (batch_at B w.batches k).calls y d).ticket ≡ (get_or (batch_at B w.batches s).calls z no_call).ticket
      → (get_or (batch_at B w.batches k).calls y d).op ≡ (get_or (batch_at B w.batches s).calls z no_call).op
  one_call k s y z d l u f t v x c q = go (cases_order k s)
    where
      count : committed_seq w.words ≡ B.seq + length w.batches
      count = g.shared.counted.count

      apart : k ≡ s → (a b : ℕ) → a < b → b < length (batch_at B w.batches k).calls → (get_or (batch_at B w.batches k).calls a no_call).caller ≡ (get_or (batch_at B w.batches k).calls b no_call).caller → ⊥
      apart e a b r t q = omega (arith, g.shared.stands.ordered k l (omega (arith, count)) a b r t)

      here : k ≡ s → (get_or (batch_at B w.batches k).calls y no_call).caller ≡ (get_or (batch_at B w.batches k).calls y d).caller
      here e = ap (λ (a : Call). a.caller) (get_or_default (batch_at B w.batches k).calls y no_call d v)

      same : k ≡ s → (y ≡ z) ⊎ ((y < z) ⊎ (z < y)) → (get_or (batch_at B w.batches k).calls y d).op ≡ (get_or (batch_at B w.batches s).calls z no_call).op
      same e (inl r) = ap (λ (n : ℕ). (get_or (batch_at B w.batches k).calls n d).op) r ∙ ap (λ (a : Call). a.op) (get_or_default (batch_at B w.batches k).calls z d no_call (rw e x)) ∙ ap (λ (n : ℕ). (get_or (batch_at B w.batches n).calls z no_call).op) e
      same e (inr (inl r)) = absurd (apart e y z r (rw e x) (here e ∙ c ∙ ap (λ (n : ℕ). (get_or (batch_at B w.batches n).calls z no_call).caller) (sym e)))
      same e (inr (inr r)) = absurd (apart e z y r v (ap (λ (n : ℕ). (get_or (batch_at B w.batches n).calls z no_call).caller) e ∙ sym c ∙ sym (here e)))

      go : (k ≡ s) ⊎ ((k < s) ⊎ (s < k)) → (get_or (batch_at B w.batches k).calls y d).op ≡ (get_or (batch_at B w.batches s).calls z no_call).op
      go (inl e) = same e (cases_order y z)
      go (inr (inl e)) = absurd (omega (arith, tickets_rise S Lawful B w.batches g.shared.stands k s l e (omega (arith, count)) y d v z no_call x (sym c)))
      go (inr (inr e)) = absurd (omega (arith, tickets_rise S Lawful B w.batches g.shared.stands s k f e (omega (arith, count)) z no_call x y d v c))

  -- a call in a batch with the ticket of the open one is it
  pub mine_at : (p : Place) → IsOpen p → HoldsAtPlace S B w.words w.batches i m p → HasOneOperation B w.words w.batches i m.made m.op
  mine_at p o a k l u y d v c t = held (open_holds p o a)
    where
      held : Holds → (get_or (batch_at B w.batches k).calls y d).op ≡ m.op
      held (inl f) = absurd (omega (arith, f.above, ticket_upto S Lawful B w.batches g.shared.stands k (committed_seq w.words) l u (omega (arith, g.shared.counted.count)) y d v, ap (last_ticket_by S B w.batches (committed_seq w.words)) c, t))
      held (inr (inl b)) = b.mine k l u y d v c t
      held (inr (inr x)) = let n = x.0.call in one_call k m.seq y n.place d l u x.1 x.2 v n.among (c ∙ sym n.caller) (t ∙ sym n.ticket) ∙ n.same

  -- the machine is its caller's
  pub caller_at : (p : Place) → HoldsAtPlace S B w.words w.batches i m p → m.caller ≡ i
  caller_at p a = go (is_idle p) refl
    where
      held : Holds → m.caller ≡ i
      held (inl f) = f.caller
      held (inr (inl b)) = b.caller
      held (inr (inr o)) = o.0.caller

      go : (b : Bool) → is_idle p ≡ b → m.caller ≡ i
      go true e = (subst (λ (q : Place). HoldsAtPlace S B w.words w.batches i m q) (idle_is p e) a).caller
      go false e = held (open_holds p e a)

  -- the open call is announced
  abbrev Said : Place → Type 0
  Said p = IsOpen p × (announcement_of S w.words i ≡ pack m.made (length m.op)) × (script_words_of S w.words i (length m.op) ≡ m.op) × (length m.op ≤ S.instrs)

  -- the caller announces nothing that is to be run, or it announces its open call
  pub quiet_or_said : (p : Place) → HoldsAtPlace S B w.words w.batches i m p
      → AnnouncesNothingNew S B w.words w.batches i ⊎ Said p
  quiet_or_said p a = go (is_idle p) refl
    where
      held : IsOpen p → Holds → AnnouncesNothingNew S B w.words w.batches i ⊎ Said p
      held o (inl f) = inl f.quieted
      held o (inr (inl b)) = inr (o, b.says, b.script, b.words)
      held o (inr (inr x)) = inl (inl (omega (arith, x.0.says, x.0.reached)))

      go : (b : Bool) → is_idle p ≡ b → AnnouncesNothingNew S B w.words w.batches i ⊎ Said p
      go true e = inl (subst (λ (q : Place). HoldsAtPlace S B w.words w.batches i m q) (idle_is p e) a).quieted
      go false e = held e (open_holds p e a)
