-- A call that a batch has run comes behind all calls that its caller has made before it.
use Rattle.std.proofs.Common.{◌≡◌, ℕ, ◌+◌, ◌<◌, ◌≤◌, ◌⊎◌, inl, inr, List, length, get_or, sym, ◌∙◌, ap, subst, arith, true, false}
use Rattle.std.proofs.lemmas.Bool.{cases_order, cases_lt}
use Rattle.of_mem.specs.declared.work.RawReply.{RawReply}
use Rattle.of_core.specs.declared.place.Outcome.{Outcome}
use Rattle.of_core.specs.declared.place.Outcome.TheVariants.{Answered, Spent, Lost}
use Rattle.of_core.specs.Table.{Setup, durable_seq}
use Rattle.of_core.specs.Machine.{Call, no_call}
use Rattle.of_core.specs.TableMoment.{Moment, TableStart, Read}
use Rattle.of_core.specs.History.{batch_at}
use Rattle.of_core.specs.Order.{no_read}
use Rattle.of_core.specs.Invariant.{MeetsInvariant}
use Rattle.of_core.specs.Calls.{outcome_seq, OutcomeStands}
use Rattle.of_core.proofs.Tickets.{tickets_rise}

module _ (S : Setup) (Lawful : List ℕ → Type 0) (B : TableStart) (v : Moment) (g : MeetsInvariant S Lawful B v) (reach : durable_seq S v.words ≤ B.seq + length v.batches) (i : ℕ) where
  -- the call y of batch k
  abbrev call : ℕ → ℕ → Call
  call k y = get_or (batch_at B v.batches k).calls y no_call

  -- of two calls of one caller the older is in an older batch
  apart : (j k y z : ℕ) → B.seq < j → j ≤ B.seq + length v.batches → B.seq < k → k ≤ B.seq + length v.batches → y < length (batch_at B v.batches j).calls → z < length (batch_at B v.batches k).calls
      → (call j y).caller ≡ i → (call k z).caller ≡ i → (call j y).ticket < (call k z).ticket → j < k
  apart j k y z a b c d m n p q t = go (cases_order j k)
    where
      same : j ≡ k → j < k
      same e = within (cases_order y z)
        where
          r : z < length (batch_at B v.batches j).calls
          r = subst (λ (x : ℕ). z < length (batch_at B v.batches x).calls) (sym e) n

          one : (call j z).caller ≡ i
          one = ap (λ (x : ℕ). (call x z).caller) e ∙ q

          higher : (call j y).ticket < (call j z).ticket
          higher = omega (arith, t, ap (λ (x : ℕ). (call x z).ticket) e)

          within : (y ≡ z) ⊎ ((y < z) ⊎ (z < y)) → j < k
          within (inl l) = absurd (omega (arith, higher, ap (λ (x : ℕ). (call j x).ticket) l))
          within (inr (inl l)) = absurd (omega (arith, g.core.shared.stands.ordered j a b y z l r, p, one))
          within (inr (inr l)) = absurd (omega (arith, g.core.shared.stands.ordered j a b z y l m, p, one))

      go : (j ≡ k) ⊎ ((j < k) ⊎ (k < j)) → j < k
      go (inl e) = same e
      go (inr (inl l)) = l
      go (inr (inr l)) = absurd (omega (arith, tickets_rise S Lawful B v.batches g.core.shared.stands k j c l b z no_call n y no_call m (p ∙ sym q), t))

  -- and an older read is of an older state
  behind_read : (k x y : ℕ) → B.seq < k → k ≤ B.seq + length v.batches → y < length (batch_at B v.batches k).calls → x < length v.reads → (call k y).caller ≡ i → (get_or v.reads x no_read).caller ≡ i → (get_or v.reads x no_read).ticket < (call k y).ticket
      → (get_or v.reads x no_read).seq < k
  behind_read k x y a b m n p q t = go (g.order.ordered.apart k a b y no_call m x no_read n (p ∙ sym q))
    where
      go : (((call k y).ticket < (get_or v.reads x no_read).ticket) × (k ≤ (get_or v.reads x no_read).seq)) ⊎ (((get_or v.reads x no_read).ticket < (call k y).ticket) × ((get_or v.reads x no_read).seq < k)) → (get_or v.reads x no_read).seq < k
      go (inl c) = absurd (omega (arith, c.0, t))
      go (inr c) = c.1

  -- so an announced answer comes behind the outcome of an older call
  pub announced_beyond : (t u s steps : ℕ) (p q : List ℕ) (raw : RawReply) (o : Outcome) → t < u → OutcomeStands S B v i t p o → OutcomeStands S B v i u q (Answered s true raw steps) → outcome_seq o < s
  announced_beyond t u s steps p q raw (Answered z true r n) l h k =
      apart z s h.2.place k.2.place h.0 (omega (arith, h.1, reach)) k.0 (omega (arith, k.1, reach)) h.2.among k.2.among h.2.caller k.2.caller (omega (arith, l, h.2.ticket, k.2.ticket))
  announced_beyond t u s steps p q raw (Answered z false r n) l h k =
      let x : ℕ = h.1.0 in
      let is = h.1.2 in
      let seq_is : (get_or v.reads x no_read).seq ≡ z = ap (λ (a : Read). a.seq) is in
      omega (arith, seq_is, behind_read s x k.2.place k.0 (omega (arith, k.1, reach)) k.2.among h.1.1 k.2.caller (ap (λ (a : Read). a.caller) is) (omega (arith, l, k.2.ticket, ap (λ (a : Read). a.ticket) is)))
  announced_beyond t u s steps p q raw (Spent z) l h k =
      absurd (omega (arith, l, k.2.ticket, h.2 s k.0 (omega (arith, k.1, reach)) k.2.place no_call k.2.among k.2.caller))
  announced_beyond t u s steps p q raw (Lost z) l h k = go (cases_lt z s)
    where
      go : (z < s) ⊎ (s ≤ z) → z < s
      go (inl a) = a
      go (inr a) = absurd (omega (arith, l, k.2.ticket, (h.1 s k.0 (omega (arith, k.1, reach)) k.2.place no_call k.2.among k.2.caller).1 a))
