-- The start that recovery finds in a run's durable words is the one behind its life.
use Rattle.std.proofs.Common.{◌≡◌, ℕ, ◌+◌, ◌<◌, ◌≤◌, inl, inr, List, length, sym, ◌∙◌, arith}
use Rattle.std.specs.Prelude.{IsTrue}
use Rattle.std.proofs.Math.Nat.{le-max_left, le-max_right}
use Rattle.std.proofs.lemmas.List.Elements.{recursion_from_All}
use Rattle.std.proofs.lemmas.List.FromFn.{length-map-range_with_len}
use Rattle.of_recover.specs.Recovered.{recovered_words}
use Rattle.of_eval.specs.Record.{plan_data_cells}
use Rattle.of_plan.specs.Plan.{Plan}
use Rattle.of_plan.specs.Report.{Entry, Start, Report, entries_of, finished_of}
use Rattle.of_plan.specs.Legal.{IsLegal}
use Rattle.of_plan.proofs.HistoriesLists.{each_weaker}
use Rattle.of_core.specs.Starts.{IsStartRow}
use Rattle.of_caller.specs.Tables.{plan_setup, IsLawfulFor}
use Rattle.of_mem.specs.Places.{ticket_cell_at}
use Rattle.of_script.specs.declared.instr.TheConstants.{MOST_INSTRS}
use Rattle.of_caller.specs.Starts.{start_number, StartsAtPlan}
use Rattle.of_caller.specs.Restarts.{HoldsLastAnnounced, StartsAfterReport, RunsRestart}
use Rattle.of_lives.specs.Lives.{Life, done_behind, callers_with, start_behind}
use Rattle.of_lives.specs.Restarts.{start_from_row, LeavesRow, LivesRestart}
use Rattle.of_lives.proofs.Indices.{OneByOne, from_first, rise}
use Rattle.of_lives.proofs.Tickets.{done_low, done_high, done_above}
use Rattle.of_lives.proofs.OneLife.{lived}
use Rattle.of_lives.proofs.AllLives.{at_in}

-- the ticket of the last announced one of entries that go up one by one is how many are done
done_is : (m : ℕ → ℕ) (c n : ℕ) (es : List Entry) → OneByOne n es → HoldsLastAnnounced m c n es → m (ticket_cell_at MOST_INSTRS c) ≡ done_behind n es
done_is m c n es counts ticket =
    let t : ℕ = m (ticket_cell_at MOST_INSTRS c) in
    let announced = each_weaker (λ (e : Entry). IsTrue e.announced → e.index < t) (λ (e : Entry). IsTrue e.announced → e.index + 1 ≤ t) (λ e below is. omega (arith, below is)) es
    (recursion_from_All (λ (e : Entry). IsTrue e.announced → e.index < t) es ticket.last) in
    let high : done_behind n es ≤ t = done_high t n es ticket.from announced in
    elim ticket.has [
      | inl none ↦
          let low : n ≤ done_behind n es = done_low n n es (omega arith) (each_weaker (λ (e : Entry). n ≤ e.index) (λ (e : Entry). n ≤ e.index + 1) (λ e low. omega (arith, low)) es (from_first n es counts)) in
          omega (arith, none, high, low)
      | inr found ↦
          let above : found.1.index + 1 ≤ done_behind n es = done_above n es (rise n es counts) found.1 (at_in es found.0 found.1 found.2 found.3) found.4.announced in
          omega (arith, found.4.ticket, high, above)
    ]

module _ (p : Plan) (s : Start) (r : Report) (legal : IsLegal p s r) (each_caller : length s.finished ≡ p.callers) (found : List ℕ) (behind : StartsAfterReport p s r (start_from_row p found)) where
  abbrev l : Life
  l = record { plan = p; report = r }

  as_many : callers_with s l ≡ p.callers
  as_many = omega (arith, each_caller, le-max_left (length s.finished) p.callers, le-max_right (length s.finished) p.callers)

  starts : StartsAtPlan p (start_behind s l) (start_from_row p found)
  starts = record {
    seq = behind.seq;
    size = behind.size;
    stands = behind.stands;
    each_caller = length-map-range_with_len (λ c. done_behind (finished_of s c) (entries_of r c)) 0 (callers_with s l) ∙ as_many;
    tickets = λ c lt.
        done_is (start_number (start_from_row p found)) c (finished_of s c) (entries_of r c) (legal.in_order.one_by_one c lt) (behind.callers c lt)
        ∙ sym ((lived s l legal).tickets c);
  }

  -- a row from which a table may start where the report ends is what the life leaves
  pub leaves : IsStartRow (plan_setup p) (IsLawfulFor p) found → LeavesRow p s r found
  leaves row = record { row = row; start = starts; last_calls = behind.callers }

pub lives_restart : RunsRestart → LivesRestart
lives_restart restart p s B w e run r lawful row durable =
    let found = restart p s B w e run r lawful row durable in
    leaves p s r lawful.legal run.moment.starts.each_caller (recovered_words p.callers (plan_data_cells p) row) found.1 found.0
