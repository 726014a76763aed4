-- Each call of a durable batch has one sequence, and so has each read: no two of them are one call.
use Rattle.std.proofs.Common.{◌≡◌, ℕ, ◌<◌, ◌≤◌, ◌⊎◌, inl, inr, length, get_or, refl, sym, ◌∙◌, ap, arith, Bool, true, false}
use Rattle.std.proofs.lemmas.Bool.{cases_lt}
use Rattle.of_core.specs.Table.{Setup, durable_seq}
use Rattle.of_core.specs.Machine.{Call}
use Rattle.of_core.specs.TableMoment.{Moment, TableStart}
use Rattle.of_core.specs.History.{batch_at}
use Rattle.of_core.specs.Order.{no_read}
use Rattle.of_core.specs.Claim.{IsSound}
use Rattle.of_core.proofs.InOrder.{call_of}

module _ (S : Setup) (B : TableStart) (w : Moment) where
  -- the call is in the batch of this sequence, or is a read of the state that the batch leaves
  abbrev pub HasRank : Call → (seq : ℕ) → (announced : Bool) → Type 0
  HasRank c s true = (B.seq < s) × (s ≤ durable_seq S w.words) × (y : ℕ) × (d : Call) × (y < length (batch_at B w.batches s).calls) × (get_or (batch_at B w.batches s).calls y d ≡ c)
  HasRank c s false = (a : ℕ) × (a < length w.reads) × (call_of (get_or w.reads a no_read) ≡ c) × ((get_or w.reads a no_read).seq ≡ s)

  -- the two have one name
  abbrev pub IsSameCall : Call → Call → Type 0
  IsSameCall c d = (d.caller ≡ c.caller) × (d.ticket ≡ c.ticket)

  -- a call of the first rank may stand before one of the second
  abbrev pub RanksBefore : (c d : Call) → (s t : ℕ) → (a b : Bool) → Type 0
  RanksBefore c d s t a b = (s ≤ t) × (s ≡ t → b ≡ true → (a ≡ true) × (c.caller < d.caller))

  -- so it is by all ranks that the two have
  abbrev pub AreInRank : Call → Call → Type 0
  AreInRank c d = (s t : ℕ) (a b : Bool) → HasRank c s a → HasRank d t b → RanksBefore c d s t a b

  module _ (claim : IsSound S B w) where
    -- no call is in two batches
    one_batch : (c d : Call) (s t : ℕ) → IsSameCall c d → HasRank c s true → HasRank d t true → s < t → ⊥
    one_batch c d s t same h k l =
        let rises = claim.tickets s t h.0 l (omega (arith, k.1, claim.reaches)) h.2 h.3 h.4 k.2 k.3 k.4 (ap (λ (x : Call). x.caller) k.5 ∙ same.0 ∙ sym (ap (λ (x : Call). x.caller) h.5)) in
        omega (arith, rises, same.1, ap (λ (x : Call). x.ticket) h.5, ap (λ (x : Call). x.ticket) k.5)

    -- none is read and in a batch
    no_both : (c d : Call) (s t : ℕ) → IsSameCall c d → HasRank c s true → HasRank d t false → ⊥
    no_both c d s t same h k = go (claim.order.apart s h.0 (omega (arith, h.1, claim.reaches)) h.2 h.3 h.4 k.0 no_read k.1 (ap (λ (x : Call). x.caller) h.5 ∙ sym same.0 ∙ sym (ap (λ (x : Call). x.caller) k.2)))
      where
        go : ((get_or (batch_at B w.batches s).calls h.2 h.3).ticket < (get_or w.reads k.0 no_read).ticket) × (s ≤ (get_or w.reads k.0 no_read).seq)
            ⊎ (((get_or w.reads k.0 no_read).ticket < (get_or (batch_at B w.batches s).calls h.2 h.3).ticket) × ((get_or w.reads k.0 no_read).seq < s)) → ⊥
        go (inl e) = omega (arith, e.0, same.1, ap (λ (x : Call). x.ticket) h.5, ap (λ (x : Call). x.ticket) k.2)
        go (inr e) = omega (arith, e.0, same.1, ap (λ (x : Call). x.ticket) h.5, ap (λ (x : Call). x.ticket) k.2)

    -- none is read twice
    one_read : (c d : Call) (s t : ℕ) → IsSameCall c d → (h : HasRank c s false) → (k : HasRank d t false) → h.0 < k.0 → ⊥
    one_read c d s t same h k l =
        let later = claim.order.successive h.0 k.0 l k.1 (ap (λ (x : Call). x.caller) h.2 ∙ sym same.0 ∙ sym (ap (λ (x : Call). x.caller) k.2)) in
        omega (arith, later.0, same.1, ap (λ (x : Call). x.ticket) h.2, ap (λ (x : Call). x.ticket) k.2)

    turned : (c d : Call) → IsSameCall c d → IsSameCall d c
    turned c d same = (sym same.0, sym same.1)

    pub one_rank : (c d : Call) (s t : ℕ) (a b : Bool) → IsSameCall c d → HasRank c s a → HasRank d t b → (s ≡ t) × (a ≡ b)
    one_rank c d s t true true same h k = (go (cases_lt s t) (cases_lt t s), refl)
      where
        go : (s < t) ⊎ (t ≤ s) → (t < s) ⊎ (s ≤ t) → s ≡ t
        go (inl l) q = absurd (one_batch c d s t same h k l)
        go (inr l) (inl u) = absurd (one_batch d c t s (turned c d same) k h u)
        go (inr l) (inr u) = omega (arith, l, u)
    one_rank c d s t true false same h k = absurd (no_both c d s t same h k)
    one_rank c d s t false true same h k = absurd (no_both d c t s (turned c d same) k h)
    one_rank c d s t false false same h k = (go (cases_lt h.0 k.0) (cases_lt k.0 h.0), refl)
      where
        go : (h.0 < k.0) ⊎ (k.0 ≤ h.0) → (k.0 < h.0) ⊎ (h.0 ≤ k.0) → s ≡ t
        go (inl l) q = absurd (one_read c d s t same h k l)
        go (inr l) (inl u) = absurd (one_read d c t s (turned c d same) k h u)
        go (inr l) (inr u) =
            let place : h.0 ≡ k.0 = omega (arith, l, u) in
            sym h.3 ∙ ap (λ (x : ℕ). (get_or w.reads x no_read).seq) place ∙ k.3

    -- it is if it is by one of each
    pub by_rank : (c d : Call) (s t : ℕ) (a b : Bool) → HasRank c s a → HasRank d t b → RanksBefore c d s t a b → AreInRank c d
    by_rank c d s t a b h k so p q x y f g =
        let e = one_rank c c s p a x (refl, refl) h f in
        let o = one_rank d d t q b y (refl, refl) k g in
        (omega (arith, e.0, o.0, so.0), λ z m. let r = so.1 (omega (arith, e.0, o.0, z)) (o.1 ∙ m) in (sym e.1 ∙ r.0, r.1))
