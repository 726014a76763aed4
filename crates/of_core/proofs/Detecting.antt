-- What recovery finds tells a caller whether its last call took effect.
use Rattle.std.proofs.Common.{◌≡◌, ℕ, ◌+◌, ◌-◌, ◌<◌, ◌≤◌, ◌⊎◌, inl, inr, List, [], length, get_or, refl, sym, ◌∙◌, ap, arith}
use Rattle.std.proofs.lemmas.Bool.{cases_lt}
use Rattle.of_core.specs.Table.{Setup, ticket_cell}
use Rattle.of_core.specs.Machine.{Call, no_call}
use Rattle.of_core.specs.TableMoment.{Moment, TableStart}
use Rattle.of_core.specs.Events.{Event, after_events, start_ticket}
use Rattle.of_core.specs.Calls.{operations_begun}
use Rattle.of_core.specs.Linear.{Linearizes, IsRecovered, recovered_number, FindsCall, last_ticket, last_operation, TookEffect, TookNoEffect, IsDetectable}

module _ (S : Setup) (B : TableStart) (w : Moment) (es : List Event) (order : List Call) (l : Linearizes S B w es order) (r : IsRecovered S B (after_events S w es) order) (i : ℕ) (member : i < S.callers) where
  abbrev ticket : ℕ
  ticket = recovered_number S (after_events S w es) (ticket_cell S i)

  abbrev Found : Type 0
  Found = (ticket ≡ start_ticket S B i) ⊎ ((p : ℕ) × (p < length order) × ((get_or order p no_call).caller ≡ i) × FindsCall S (after_events S w es) (get_or order p no_call))

  pub detectable : IsDetectable S B w es order i
  detectable some writes = go (r.own i member).last
    where
      -- of a call of the caller in the order: it was begun, and with these words
      upto : (p : ℕ) (d : Call) → p < length order → (get_or order p d).caller ≡ i → (get_or order p d).ticket ≤ last_ticket S B es i
      upto p d u e = let b = (l.begun p d u).1 refl in omega (arith, b.1, ap (λ (k : ℕ). start_ticket S B k + length (operations_begun es k)) e)

      -- the last call is in the order only if recovery finds it
      not_last : ticket < last_ticket S B es i → (p : ℕ) (d : Call) → p < length order → (get_or order p d).caller ≡ i → (get_or order p d).ticket ≡ last_ticket S B es i → ⊥
      not_last below p d u e t = absurd (omega (arith, (r.own i member).upto p d u e (ap S.meaning.reads_only op_is ∙ writes), t, below))
        where
          c : Call
          c = get_or order p d

          place : c.ticket - start_ticket S B c.caller - 1 ≡ length (operations_begun es i) - 1
          place = omega (arith, t, ap (start_ticket S B) e)

          op_is : c.op ≡ last_operation es i
          op_is = ((l.begun p d u).1 refl).2 ∙ ap (λ (k : ℕ). get_or (operations_begun es k) (c.ticket - start_ticket S B c.caller - 1) []) e ∙ ap (λ (k : ℕ). get_or (operations_begun es i) k []) place

      none : ticket < last_ticket S B es i → TookNoEffect S B w es order i
      none below = record { found = below; older = λ p d u e. older p d u e (cases_lt (get_or order p d).ticket (last_ticket S B es i)) }
        where
          older : (p : ℕ) (d : Call) → p < length order → (get_or order p d).caller ≡ i → ((get_or order p d).ticket < last_ticket S B es i) ⊎ (last_ticket S B es i ≤ (get_or order p d).ticket) → (get_or order p d).ticket < last_ticket S B es i
          older p d u e (inl a) = a
          older p d u e (inr a) = absurd (not_last below p d u e (omega (arith, a, upto p d u e)))

      go : Found → TookEffect S B w es order i ⊎ TookNoEffect S B w es order i
      go (inl e) = inr (none (omega (arith, e, some)))
      go (inr h) = at (cases_lt ticket (last_ticket S B es i))
        where
          same : ticket ≡ (get_or order h.0 no_call).ticket
          same = ap (λ (k : ℕ). recovered_number S (after_events S w es) (ticket_cell S k)) (sym h.2) ∙ h.3.ticket

          at : (ticket < last_ticket S B es i) ⊎ (last_ticket S B es i ≤ ticket) → TookEffect S B w es order i ⊎ TookNoEffect S B w es order i
          at (inl a) = inr (none a)
          at (inr a) =
              let last : ticket ≡ last_ticket S B es i = omega (arith, a, same, upto h.0 no_call h.1 h.2) in
              inl (record { found = last; place = h.0; among = h.1; caller = h.2; ticket = sym same ∙ last; finds = h.3 })
