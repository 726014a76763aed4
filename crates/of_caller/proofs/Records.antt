-- What a run of a plan leaves is a lawful record.
use Rattle.std.proofs.Common.{ℕ, ◌+◌, ◌<◌, ◌⊎◌, inl, inr, List, [], get_or, length, ap, ◌∙◌, arith}
use Rattle.of_eval.specs.Record.{IsLawfulRecord}
use Rattle.of_plan.specs.Plan.{Plan}
use Rattle.of_plan.specs.Report.{Start, Report, finished_of}
use Rattle.of_plan.specs.Ended.{Ended}
use Rattle.of_core.specs.Least.{least_read}
use Rattle.of_core.specs.TableMoment.{Moment, Read, TableStart}
use Rattle.of_caller.specs.Tables.{plan_setup}
use Rattle.of_caller.specs.Moments.{script_of_ticket}
use Rattle.of_caller.specs.Runs.{IsMomentOf, IsRunOfPlan, RunsAreLawful}
use Rattle.of_caller.proofs.StoresHeld.{held_is}
use Rattle.of_caller.proofs.StoresMoments.{operation_is}
use Rattle.of_caller.proofs.Stores.{announced_held, read_held}
use Rattle.of_caller.proofs.StoresRecovered.{recovered_seq_is, recovered_ticket, stands_for}
use Rattle.of_caller.proofs.StoresLeast.{least_reads}
use Rattle.of_caller.proofs.RecordsFacts.{CallerFacts, HasNone, IsLast}
use Rattle.of_caller.proofs.RecordsLawful.{MomentFacts, report_left, lawful_left}

module _ (p : Plan) (s : Start) (B : TableStart) (w : Moment) (e : Ended) (run : IsRunOfPlan p s B w e) where
  abbrev ops : ℕ → List (List ℕ)
  ops = run.operations

  abbrev moment : IsMomentOf p s B w run.operations run.outcomes
  moment = run.moment

  recovered_is : (c : ℕ) → c < p.callers → HasNone p s B w e c ⊎ IsLast p s B w e c
  recovered_is c lt = elim (recovered_ticket p s B w run.operations run.outcomes moment e run.words c lt) [
    | inl none ↦ inl (record { absent = none.absent; ticket_is = none.ticket_is })
    | inr one ↦ inr (record {
      number = one.number;
      place = one.place;
      there = record { from = one.some; upto = one.upto; among = one.among };
      caller = one.caller;
      absent = one.absent;
      word_is = one.word_is;
      ticket_is = one.ticket_is;
      reply = one.reply.0;
      held = one.reply.1;
      response = one.reply.2;
    })
  ]

  caller_facts : (c : ℕ) → c < p.callers → CallerFacts p s B w e c (run.operations c) (run.outcomes c)
  caller_facts c lt = record {
    calls = moment.calls c lt;
    scripts = moment.scripts c lt;
    tells = run.callers c lt;
    announced = λ x k steps raw among is.
        let at = announced_held p s B w run.operations run.outcomes moment c x k steps raw lt among is in
        record { place = at.place; there = record { from = at.some; upto = at.upto; among = at.among }; caller = at.caller; ticket = at.ticket; reply = λ r held. held_is raw r _ held at.reply };
    read = λ x k steps raw among is.
        let at = read_held p s B w run.operations run.outcomes moment c x k steps raw lt among is in
        record {
          from = at.from;
          upto = at.upto;
          place = at.place;
          among = at.among;
          caller = ap (λ (r : Read). r.caller) at.is;
          ticket = ap (λ (r : Read). r.ticket) at.is;
          seq = ap (λ (r : Read). r.seq) at.is;
          only = at.only;
          reply = λ r held. held_is raw r _ held at.reply;
        };
    least_reads = λ x among only.
        let n : ℕ = finished_of s c in
        let op = operation_is p s B w run.operations run.outcomes moment c (n + x + 1) (get_or (ops c) x []) lt (omega arith) (omega (arith, among)) (ap (λ (i : ℕ). get_or (ops c) i []) (omega arith)) in
        ap (least_read (plan_setup p)) op.words ∙ least_reads p (omega (arith, moment.plan.few_blocks)) (script_of_ticket p c (n + x + 1)) op.script only;
    recovered = recovered_is c lt;
  }

  pub facts : MomentFacts p s B w e run.operations run.outcomes
  facts = record {
    plan = moment.plan;
    seqs = moment.starts.seq;
    sound = moment.sound;
    callers = caller_facts;
    answers = run.answers;
    endings = run.endings;
    words = ap length run.words ∙ run.room;
    seq = recovered_seq_is p s B w run.operations run.outcomes moment e run.words;
    stands_for = stands_for p s B w run.operations run.outcomes moment e run.words;
  }

  run_is_lawful : (r : Report) × IsLawfulRecord p s e r
  run_is_lawful = (report_left p s B w e run.operations run.outcomes facts, lawful_left p s B w e run.operations run.outcomes facts)

pub runs_are_lawful : RunsAreLawful
runs_are_lawful = run_is_lawful
