-- From what recovery makes of the durable words that a run leaves a table may start, and it starts
-- where the run's report ends.
use Rattle.std.proofs.Common.{◌≡◌, ℕ, ◌+◌, ◌<◌, ◌≤◌, inl, inr, List, length, get_or, sym, ap, subst, ◌∙◌, arith}
use Rattle.std.specs.Prelude.{IsTrue, All}
use Rattle.std.proofs.lemmas.Bool.{cases_lt}
use Rattle.std.proofs.lemmas.List.{get_or_past}
use Rattle.of_cell.specs.Words.{seq_of, payload_of}
use Rattle.of_cell.specs.Cells.{data_cell}
use Rattle.of_cell.proofs.Order.{seq_zero}
use Rattle.of_recover.specs.Recovered.{recovered_words, recovered_data}
use Rattle.of_recover.proofs.Rows.{length-recovered}
use Rattle.of_recover.proofs.Kept.{data_at, others_kept, recovered_twice}
use Rattle.of_recover.proofs.Agreeing.{recovered_data-same}
use Rattle.of_mem.proofs.BucketPlaces.{few_behind}
use Rattle.of_mem.specs.Places.{base_of, ticket_cell_at}
use Rattle.of_script.specs.declared.instr.TheConstants.{MOST_INSTRS}
use Rattle.of_mem.specs.declared.work.RawReply.{RawReply}
use Rattle.of_mem.proofs.Lists.{part_at, part_long}
use Rattle.of_eval.specs.Shapes.{IsHeldBy}
use Rattle.of_eval.specs.Lawful.{DataCellsStandFor}
use Rattle.of_eval.specs.Stored.{cell_store}
use Rattle.of_eval.specs.Record.{plan_data_cells, record_number, IsLawfulRecord}
use Rattle.of_eval.proofs.Overlay.{stands_below}
use Rattle.of_plan.specs.Plan.{Plan}
use Rattle.of_plan.specs.Report.{Entry, Start, Report, entries_of, finished_of}
use Rattle.of_plan.specs.Ended.{Ended}
use Rattle.of_core.specs.Table.{Setup, cell_count, durable_word, durable_seq}
use Rattle.of_core.specs.TableMoment.{Moment, TableStart}
use Rattle.of_core.specs.Starts.{start_from_durable, IsDurable, IsStartRow}
use Rattle.of_core.specs.WordsMatch.{MayStart}
use Rattle.of_caller.specs.Tables.{plan_setup, IsLawfulFor}
use Rattle.of_caller.specs.Starts.{start_number}
use Rattle.of_caller.specs.Runs.{IsRunOfPlan}
use Rattle.of_caller.specs.Restarts.{IsHeldIn, HoldsLastAnnounced, StartsAfterReport, RunsRestart, TeamsRestart}
use Rattle.of_caller.proofs.Teams.{team_run}
use Rattle.of_row.specs.Runs.{RunsAreSchedules}
use Rattle.of_caller.specs.PlanLaws.{KeepsLaws}
use Rattle.of_caller.proofs.StoresReplay.{number_at}
use Rattle.of_caller.proofs.StoresRecovered.{IsOwnCell, same_reply, stand_same}
use Rattle.of_caller.proofs.RecordsLawful.{MomentFacts}
use Rattle.of_caller.proofs.Records.{facts}
use Rattle.of_caller.proofs.LastTickets.{hold_last}

-- own cells that are the same hold the same
module _ (f g : ℕ → ℕ) (c n : ℕ) (es : List Entry) (same : (a : ℕ) → IsOwnCell c a → f a ≡ g a) where
  ticket_same : f (ticket_cell_at MOST_INSTRS c) ≡ g (ticket_cell_at MOST_INSTRS c)
  ticket_same = same (ticket_cell_at MOST_INSTRS c) (omega arith, omega arith)

  held_same : (e : Entry) → IsHeldIn g c e → IsHeldIn f c e
  held_same e h = record {
    announced = h.announced;
    ticket = ticket_same ∙ h.ticket;
    reply = h.reply;
    held = subst (λ (raw : RawReply). IsHeldBy raw h.reply) (same_reply f g c same) h.held;
    response = h.response;
  }

  hold_same : HoldsLastAnnounced g c n es → HoldsLastAnnounced f c n es
  hold_same h = record {
    from = omega (arith, ticket_same, h.from);
    last = subst (λ (t : ℕ). All (λ (e : Entry). IsTrue e.announced → e.index < t) es) (sym ticket_same) h.last;
    has = elim h.has [
      | inl none ↦ inl (ticket_same ∙ none)
      | inr found ↦ inr (found.0, found.1, found.2, found.3, held_same found.1 found.4)
    ];
  }

module _ (p : Plan) (s : Start) (B : TableStart) (w : Moment) (e : Ended) (run : IsRunOfPlan p s B w e) (r : Report) (lawful : IsLawfulRecord p s e r) (row : List ℕ) (durable : IsDurable (plan_setup p) e.words row) where
  abbrev S : Setup
  S = plan_setup p

  abbrev m : MomentFacts p s B w e run.operations run.outcomes
  m = facts p s B w e run

  abbrev found : List ℕ
  found = recovered_words p.callers (plan_data_cells p) row

  abbrev C : TableStart
  C = start_from_durable p.callers (plan_data_cells p) found

  same : (c : ℕ) → c < cell_count S → get_or row c 0 ≡ durable_word S w.words c
  same c l = durable.each c l ∙ ap (λ (ws : List ℕ). durable_word S ws c) run.words

  found_long : length found ≡ cell_count S
  found_long = length-recovered p.callers (plan_data_cells p) row ∙ durable.long

  first_is : get_or found 0 0 ≡ durable_word S w.words 0
  first_is = others_kept p.callers (plan_data_cells p) row durable.long 0 (omega (arith, durable.long)) (inl (omega arith)) (λ q. omega (arith, q)) ∙ same 0 (omega arith)

  cells_long : length C.cells ≡ plan_data_cells p
  cells_long = part_long found (data_cell p.callers 0) (plan_data_cells p) (omega (arith, found_long))

  -- a data word is the recovered one
  few_cells : plan_data_cells p < 4294967296
  few_cells = omega (arith, run.moment.plan.few_callers, run.moment.plan.few_blocks, few_behind p.blocks run.moment.plan.few_blocks)

  word_at : (a : ℕ) → a < plan_data_cells p → get_or C.cells a 0 ≡ recovered_data p.callers (plan_data_cells p) (durable_word S w.words) a
  word_at a l =
      part_at found (data_cell p.callers 0) (plan_data_cells p) a l
      ∙ ap (λ (k : ℕ). get_or found k 0) (let k : data_cell p.callers 0 + a ≡ data_cell p.callers a = omega arith in k)
      ∙ data_at p.callers (plan_data_cells p) row durable.long a l
      ∙ recovered_data-same p.callers (plan_data_cells p) (λ c. get_or row c 0) (durable_word S w.words) same a l (omega (arith, l, few_cells))

  number_is : (a : ℕ) → a < plan_data_cells p → start_number C a ≡ record_number p e a
  number_is a l = number_at C.cells a ∙ ap payload_of (word_at a l) ∙ ap (λ (ws : List ℕ). payload_of (recovered_data p.callers (plan_data_cells p) (durable_word S ws) a)) (sym run.words)

  own_is : (c : ℕ) → c < p.callers → (a : ℕ) → IsOwnCell c a → start_number C a ≡ record_number p e a
  own_is c l a own = number_is a (omega (arith, own.0, own.1, l))

  seq_is : C.seq ≡ durable_seq S w.words
  seq_is = ap seq_of first_is

  stands : DataCellsStandFor p.callers MOST_INSTRS p.blocks (start_number C) r.store
  stands =
      let held = lawful.report.store in
      record {
        own = λ c l. stand_same (start_number C) (record_number p e) c (own_is c l) (held.own c l);
        stored = record {
          state = held.stored.state;
          stands = stands_below (base_of p.callers MOST_INSTRS) p.blocks (record_number p e) (start_number C) (λ a low high. sym (number_is a high)) (cell_store r.store) held.stored.stands;
        };
      }

  old : (a : ℕ) → seq_of (get_or C.cells a 0) ≤ C.seq
  old a = elim (cases_lt a (plan_data_cells p)) [
    | inl l ↦ omega (arith, ap seq_of (word_at a l), m.sound.old a l, seq_is)
    | inr past ↦ omega (arith, ap seq_of (get_or_past C.cells a 0 (omega (arith, past, cells_long))), seq_zero)
  ]

  may_start : MayStart S (IsLawfulFor p) C
  may_start = record {
    start = record { owner_in = omega (arith, ap payload_of first_is, m.sound.owner); size = cells_long; old = old };
    lawful = (r.store, stands.stored);
    limit = omega (arith, seq_is, m.sound.reaches, m.sound.limit);
  }

  restarts : IsStartRow S (IsLawfulFor p) found × StartsAfterReport p s r C
  restarts = (
    record { long = found_long; recovered = recovered_twice p.callers (plan_data_cells p) row durable.long; may_start = may_start },
    record {
      seq = seq_is ∙ sym m.seq ∙ sym lawful.report.seq;
      size = cells_long;
      stands = stands;
      callers = λ c lt. hold_same (start_number C) (record_number p e) c (finished_of s c) (entries_of r c) (own_is c lt) (hold_last p s B w e run r lawful c lt);
    },
  )

-- so it is of every run
pub runs_restart : RunsRestart
runs_restart p s B w e run r lawful row durable = restarts p s B w e run r lawful row durable

-- and of every team, which is a run
pub teams_restart : (p : Plan) → KeepsLaws p → RunsAreSchedules (IsLawfulFor p) (plan_setup p) → TeamsRestart p
teams_restart p laws runs s B e v team r lawful row durable = let run = team_run p laws runs s B e v team in runs_restart p s B run.0 e run.1 r lawful row durable
