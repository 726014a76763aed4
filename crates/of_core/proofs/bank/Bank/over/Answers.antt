use Rattle.std.proofs.Common.{◌≡◌, length, arith, ap, subst, ◌∙◌, sym}
use Rattle.of_core.specs.Table.{Setup, setup_of}
use Rattle.of_core.specs.TableMoment.{TableStart}
use Rattle.of_core.specs.Moment.{IsReached, call_states, table_word_count}
use Rattle.of_core.specs.Events.{idle_machines, start_ticket}
use Rattle.of_core.specs.Starts.{first_words, start_from_durable}
use Rattle.of_core.proofs.Starts.{words_long}
use Rattle.of_core.proofs.Benches.{begun_at}
use Rattle.of_core.proofs.bank.Bank.over.Goals as goal

pub idle_machines-requires-clause-row : goal.idle_machines-requires-clause-row
idle_machines-requires-clause-row g c =
    let a = c.args in
    let S : Setup = setup_of a.shape.callers a.shape.cells a.limit (g.W.Work.meaning a.work) in
    let B : TableStart = start_from_durable a.shape.callers a.shape.cells a.words.items in
    let long = ap length c.requires.words ∙ words_long S B c.requires.start.start (table_word_count S) (omega arith) in
    omega (arith, long, ap length c.deref.ensures.value)

pub returns-clause-start : goal.returns-clause-start
returns-clause-start g c = ap (λ v. start_from_durable c.args.shape.callers c.args.shape.cells v.items) c.of.ensures

pub returns-clause-words : goal.returns-clause-words
returns-clause-words g c =
    let a = c.args in
    let S : Setup = setup_of a.shape.callers a.shape.cells a.limit (g.W.Work.meaning a.work) in
    c.requires.words ∙ ap (λ v. first_words a.shape.callers a.shape.cells (start_from_durable a.shape.callers a.shape.cells v.items) (table_word_count S)) (sym c.of.ensures)

pub returns-clause-machines : goal.returns-clause-machines
returns-clause-machines g c =
    let a = c.args in
    let S : Setup = setup_of a.shape.callers a.shape.cells a.limit (g.W.Work.meaning a.work) in
    c.in_ok-machines.ensures.idle
    ∙ ap (λ ws. idle_machines S (start_ticket S (start_from_durable a.shape.callers a.shape.cells ws)) 0 a.shape.callers) c.deref.ensures.value
    ∙ ap (λ v. idle_machines S (start_ticket S (start_from_durable a.shape.callers a.shape.cells v.items)) 0 a.shape.callers) (sym c.of.ensures)

pub invariant_of-result : goal.invariant_of-result
invariant_of-result g c =
    let a = c.args in
    let M = g.W.Work.meaning in
    let L = g.W.Work.lawful a.work in
    let S : Setup = setup_of a.shape.callers a.shape.cells a.limit (M a.work) in
    let B : TableStart = start_from_durable a.shape.callers a.shape.cells a.words.items in
    let machines : call_states c.in_ok-machines.machines.items ≡ idle_machines S (start_ticket S B) 0 a.shape.callers =
    c.in_ok-machines.ensures.idle ∙ ap (λ ws. idle_machines S (start_ticket S (start_from_durable a.shape.callers a.shape.cells ws)) 0 a.shape.callers) c.deref.ensures.value in
    let start : start_from_durable a.shape.callers a.shape.cells c.of.result.value.items ≡ B = ap (λ v. start_from_durable a.shape.callers a.shape.cells v.items) c.of.ensures in
    let begun : IsReached S L B (first_words a.shape.callers a.shape.cells B (table_word_count S)) (idle_machines S (start_ticket S B) 0 a.shape.callers) = begun_at S L B c.requires.start in
    let worded : IsReached S L B a.words.items (idle_machines S (start_ticket S B) 0 a.shape.callers) = subst (λ ws. IsReached S L B ws (idle_machines S (start_ticket S B) 0 a.shape.callers)) (sym c.requires.words) begun in
    let held_so : IsReached S L B a.words.items (call_states c.in_ok-machines.machines.items) = subst (IsReached S L B a.words.items) (sym machines) worded in
    record {
      callers = sym c.requires.callers;
      instrs = c.requires.instrs;
      cells = sym c.requires.cells;
      limit = c.requires.limit;
      room = ap length c.requires.words ∙ words_long S B c.requires.start.start (table_word_count S) (omega arith);
      members = c.in_ok-machines.ensures.each;
      alike = c.in_ok-machines.ensures.alike;
      reached = subst (λ (T : TableStart). IsReached S L T a.words.items (call_states c.in_ok-machines.machines.items)) (sym start) held_so;
    }
