-- A call in a batch that a step commits is the open call of its caller.
use Rattle.std.proofs.Common.{◌≡◌, ℕ, ◌+◌, ◌-◌, ◌<◌, ◌≤◌, ◌⊎◌, inl, inr, List, length, get_or, sym, ◌∙◌, ap, arith}
use Rattle.std.specs.List.{All}
use Rattle.std.proofs.lemmas.List.{get_or_default}
use Rattle.of_cell.specs.Words.{pack, seq_of}
use Rattle.of_cell.proofs.Order.{seq_word, word_inj}
use Rattle.of_mem.specs.Meaning.{IsSoundMeaning}
use Rattle.of_core.specs.Table.{Setup, first_operation_cell, announcement_of, script_words_of, committed_seq}
use Rattle.of_core.specs.Machine.{Call, CallState, IsOpen, no_machine}
use Rattle.of_core.specs.Steps.{want, IsFoundBy}
use Rattle.of_core.specs.TableMoment.{Moment, TableStart, after_step}
use Rattle.of_core.specs.History.{batch_at, last_ticket_by}
use Rattle.of_core.specs.Rounds.{AnnouncesNothingNew}
use Rattle.of_core.specs.Scan.{IsAnnouncedCall}
use Rattle.of_core.specs.Invariant.{MeetsInvariant}
use Rattle.of_core.specs.Guarantees.{Guarantees}
use Rattle.of_core.specs.Events.{machine_in}
use Rattle.of_core.specs.Laws.{IsOpenCall}
use Rattle.of_core.proofs.Tickets.{tickets_grow}
use Rattle.of_core.proofs.Stability.{tick_same}
use Rattle.of_core.proofs.StepKept.{step_kept, step_moves}
use Rattle.of_core.proofs.OpenCalls.{quiet_or_said}

module _ (S : Setup) (Lawful : List ℕ → Type 0) (sound : IsSoundMeaning S.meaning Lawful (first_operation_cell S) S.cells) (B : TableStart) (w : Moment) (g : MeetsInvariant S Lawful B w) (j : ℕ) (m : CallState) (h : j < S.callers) (at : get_or w.machines j m ≡ m) (n : ℕ) (f : IsFoundBy (want S m) w.words n) where
  abbrev v : Moment
  v = after_step S j m n w

  good : MeetsInvariant S Lawful B v
  good = step_kept S Lawful sound B w g j m h at n f

  moves : Guarantees S B j w.words w.batches v.words v.batches
  moves = step_moves S Lawful sound B w g j m h at n f

  last_is : committed_seq w.words ≡ B.seq + length w.batches
  last_is = g.core.shared.counted.count

  last_now : committed_seq v.words ≡ B.seq + length v.batches
  last_now = good.core.shared.counted.count

  own : (i : ℕ) → i < S.callers → get_or w.machines i (machine_in w i) ≡ machine_in w i
  own i l = get_or_default w.machines i (machine_in w i) no_machine (omega (arith, g.core.members))

  pub new_calls : (k : ℕ) → B.seq + length w.batches < k → k ≤ B.seq + length v.batches → All (IsOpenCall w) (batch_at B v.batches k).calls
  new_calls k l u y e z = go (quiet_or_said S Lawful B w g.core i (machine_in w i) member (machine_in w i).place (g.core.each i (machine_in w i) member (own i member)))
    where
      c : Call
      c = get_or (batch_at B v.batches k).calls y e

      i : ℕ
      i = c.caller

      member : i < S.callers
      member = ((good.core.shared.stands.now k (omega (arith, l)) u) y e z).0

      new : IsAnnouncedCall S w.words c × (length c.op ≤ S.instrs)
      new = moves.newer k (omega (arith, l, last_is)) (omega (arith, u, last_now)) y e z

      -- the caller's ticket in the history is older
      older : last_ticket_by S B w.batches (committed_seq w.words) i < c.ticket
      older =
          let p : k - 1 + 1 ≡ k = omega (arith, l) in
          let a : last_ticket_by S B v.batches (k - 1) i < c.ticket = (rw p at (good.core.shared.stands.rises (k - 1) (omega (arith, l)) (omega (arith, l, u)))) y e z in
          let b : last_ticket_by S B v.batches (committed_seq w.words) i ≤ last_ticket_by S B v.batches (k - 1) i =
          tickets_grow S Lawful B v.batches good.core.shared.stands (committed_seq w.words) (k - 1) i (omega (arith, last_is)) (omega (arith, l, last_is)) (omega (arith, l, u)) member in
          let s = tick_same S Lawful B j w.words w.batches v.words v.batches moves g.core.shared (committed_seq w.words) i (omega (arith, last_is)) (omega arith) in
          omega (arith, a, b, s)

      go : AnnouncesNothingNew S B w.words w.batches i ⊎ (IsOpen (machine_in w i).place × (announcement_of S w.words i ≡ pack (machine_in w i).made (length (machine_in w i).op)) × (script_words_of S w.words i (length (machine_in w i).op) ≡ (machine_in w i).op) × (length (machine_in w i).op ≤ S.instrs))
          → IsOpen (machine_in w i).place × (c.ticket ≡ (machine_in w i).made) × (c.op ≡ (machine_in w i).op)
      go (inl (inl r)) = absurd (omega (arith, older, r, ap seq_of new.0.says, seq_word c.ticket (length c.op) (omega (arith, new.1, g.core.shared.narrow))))
      go (inl (inr r)) = absurd (omega (arith, l, u, r, last_is, last_now, moves.limit))
      go (inr s) =
          let p = word_inj (machine_in w i).made (length (machine_in w i).op) c.ticket (length c.op) (omega (arith, s.3, g.core.shared.narrow)) (omega (arith, new.1, g.core.shared.narrow)) (sym s.1 ∙ new.0.says) in
          (s.0, sym p.0, sym new.0.script ∙ ap (script_words_of S w.words i) (sym p.1) ∙ s.2)
