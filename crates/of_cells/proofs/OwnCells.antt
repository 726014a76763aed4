-- The own cells of a caller that has made no call since a table's start are as they were then.
use Rattle.std.proofs.Common.{◌≡◌, ℕ, ◌+◌, ◌<◌, inl, inr, List, get_or, sym, ap, ◌∙◌, arith}
use Rattle.atomic_table.specs.Table.{State}
use Rattle.of_cell.specs.Words.{payload_of}
use Rattle.of_cell.proofs.Order.{pay_word, pay_small}
use Rattle.of_recover.proofs.Agreeing.{recovered_data-same}
use Rattle.of_core.specs.Table.{Setup, cell_count, words_before_members, durable_at, durable_word, durable_seq, ticket_cell}
use Rattle.of_core.specs.Machine.{Call, no_call}
use Rattle.of_core.specs.TableMoment.{Moment, TableStart}
use Rattle.of_core.specs.History.{data_word_after, last_ticket_by, batch_at, IsCellOfCaller, IsNewestCall}
use Rattle.of_core.specs.Linear.{recovered_number}
use Rattle.of_core.specs.Invariant.{MeetsInvariant}
use Rattle.of_core.specs.Grounds.{GoodGrounds}
use Rattle.of_core.specs.Laws.{StartsMeetInvariant, SchedulesKeepInvariant, InvariantIsSound, FirstStateIsStart}
use Rattle.of_row.specs.Rule.{MeetsRule, done_before}
use Rattle.of_row.specs.Trail.{first_of, moment}
use Rattle.of_row.specs.Views.{View}
use Rattle.of_row.specs.Moments.{StopsLoseNothing, LosesNothing, words_alone}

module _ (S : Setup) (L : List ℕ → Type 0) (start : StartsMeetInvariant S L) (runs : SchedulesKeepInvariant S L) (grounds : GoodGrounds S L) (sound : InvariantIsSound S L) (first : FirstStateIsStart) (stops : StopsLoseNothing L S)
    (B : TableStart) (st : State (Unit {0}) View) (rule : MeetsRule S L B st) where
  abbrev lost : LosesNothing S L B st
  lost = stops B st rule

  -- the moment that has led to the words
  abbrev u : Moment
  u = moment S B lost.events

  good : MeetsInvariant S L B u
  good = runs B (first_of S B) (start B rule.from (words_before_members S + 1) (omega arith)).0 lost.events lost.reached.schedule

  abbrev last_seq : ℕ
  last_seq = durable_seq S u.words

  durable_same : (c : ℕ) → c < cell_count S → durable_word S st.words c ≡ durable_word S u.words c
  durable_same c low = lost.reached.words (durable_at S c) (omega (arith, low))

  -- what recovery finds in a data cell is what the batches have left there
  recovered_at : (a : ℕ) → a < S.cells → recovered_number S (words_alone st.words) a ≡ payload_of (data_word_after B u.batches last_seq a)
  recovered_at a lt =
      ap payload_of (recovered_data-same S.callers S.cells (durable_word S st.words) (durable_word S u.words) durable_same a lt (omega (arith, lt, (grounds B u good).cells)))
      ∙ ap payload_of ((sound B u good).recovers a lt)

  at_start : (a : ℕ) → data_word_after B u.batches B.seq a ≡ get_or B.cells a 0
  at_start a = ap (λ (ws : List ℕ). get_or ws a 0) (first B u.batches)

  module _ (n : ℕ) (low : n < S.callers) (own_in : ticket_cell S n < S.cells) where
    -- a call in the batches has a later ticket than the start
    later_ticket : IsNewestCall S B u.batches last_seq n → done_before S B n < recovered_number S (words_alone st.words) (ticket_cell S n)
    later_ticket q =
        let claim = sound B u good in
        let c : Call = get_or (batch_at B u.batches q.number).calls q.place no_call in
        let held = (good.core.shared.stands.now q.number q.from (omega (arith, q.upto, claim.reaches)) q.place no_call q.among).1 in
        let small : c.ticket < 4294967296 = omega (arith, held, pay_small (data_word_after B u.batches q.number (ticket_cell S c.caller))) in
        let shown : last_ticket_by S B u.batches last_seq c.caller ≡ c.ticket = ap payload_of q.shows.ticket ∙ pay_word q.number c.ticket small in
        let more = (claim.begun q.number q.from (omega (arith, q.upto, claim.reaches)) q.place no_call q.among).1 in
        let now : last_ticket_by S B u.batches last_seq c.caller ≡ recovered_number S (words_alone st.words) (ticket_cell S n) = ap (last_ticket_by S B u.batches last_seq) q.caller ∙ sym (recovered_at (ticket_cell S n) own_in) in
        let before : last_ticket_by S B u.batches B.seq c.caller ≡ done_before S B n = ap (last_ticket_by S B u.batches B.seq) q.caller ∙ ap payload_of (at_start (ticket_cell S n)) in
        omega (arith, shown, more, now, before)

    pub own_stay : recovered_number S (words_alone st.words) (ticket_cell S n) ≡ done_before S B n
        → (a : ℕ) → IsCellOfCaller S n a → a < S.cells → recovered_number S (words_alone st.words) a ≡ payload_of (get_or B.cells a 0)
    own_stay same a own lt = elim ((sound B u good).own n low) [
      | inl q ↦ recovered_at a lt ∙ ap payload_of (q.1 a own ∙ at_start a)
      | inr q ↦ let later = later_ticket q in absurd (omega (arith, later, same))
    ]
