use Rattle.std.proofs.Common.{◌≡◌, ℕ, arith, ap, subst, ◌∙◌, sym}
use Rattle.of_cell.specs.Cells.{table_words as cell_words}
use Rattle.of_core.specs.Table.{Setup, setup_of}
use Rattle.of_core.specs.TableMoment.{TableStart}
use Rattle.of_core.specs.WordsMatch.{MayStart}
use Rattle.of_core.specs.Moment.{bank_setup, table_word_count}
use Rattle.of_core.specs.Events.{idle_machines, start_ticket}
use Rattle.of_core.specs.Starts.{first_words, start_from_durable}
use Rattle.of_core.proofs.Starts.{start_back}
use Rattle.of_core.proofs.bank.Bank.start.Goals as goal

pub first_words-requires-clause-owner : goal.first_words-requires-clause-owner
first_words-requires-clause-owner g c = c.requires.row.may_start.start.owner_in

pub over-requires-clause-start : goal.over-requires-clause-start
over-requires-clause-start g c =
    let a = c.args in
    let S : Setup = setup_of a.shape.callers a.shape.cells a.limit (g.W.Work.meaning a.work) in
    let B : TableStart = start_from_durable a.shape.callers a.shape.cells a.durable.now in
    let words : c.in_ok-words.words.items ≡ first_words a.shape.callers a.shape.cells B (table_word_count S) =
    c.in_ok-words.ensures ∙ ap (λ (k : ℕ). first_words a.shape.callers a.shape.cells B (cell_words a.shape.callers k a.shape.cells)) c.requires.instrs in
    let back : start_from_durable a.shape.callers a.shape.cells c.in_ok-words.words.items ≡ B =
    ap (start_from_durable a.shape.callers a.shape.cells) words ∙ start_back S B c.requires.row.may_start.start (omega (arith, a.shape.few_callers)) (table_word_count S) (omega arith) in
    subst (MayStart S (g.W.Work.lawful a.work)) (sym back) c.requires.row.may_start

pub over-requires-clause-words : goal.over-requires-clause-words
over-requires-clause-words g c =
    let a = c.args in
    let S : Setup = setup_of a.shape.callers a.shape.cells a.limit (g.W.Work.meaning a.work) in
    let B : TableStart = start_from_durable a.shape.callers a.shape.cells a.durable.now in
    let words : c.in_ok-words.words.items ≡ first_words a.shape.callers a.shape.cells B (table_word_count S) =
    c.in_ok-words.ensures ∙ ap (λ (k : ℕ). first_words a.shape.callers a.shape.cells B (cell_words a.shape.callers k a.shape.cells)) c.requires.instrs in
    let back : start_from_durable a.shape.callers a.shape.cells c.in_ok-words.words.items ≡ B =
    ap (start_from_durable a.shape.callers a.shape.cells) words ∙ start_back S B c.requires.row.may_start.start (omega (arith, a.shape.few_callers)) (table_word_count S) (omega arith) in
    words ∙ ap (λ (T : TableStart). first_words a.shape.callers a.shape.cells T (table_word_count S)) (sym back)

pub returns-clause-start : goal.returns-clause-start
returns-clause-start g c =
    let a = c.args in
    let S : Setup = setup_of a.shape.callers a.shape.cells a.limit (g.W.Work.meaning a.work) in
    let B : TableStart = start_from_durable a.shape.callers a.shape.cells a.durable.now in
    let words : c.in_ok-words.words.items ≡ first_words a.shape.callers a.shape.cells B (table_word_count S) =
    c.in_ok-words.ensures ∙ ap (λ (k : ℕ). first_words a.shape.callers a.shape.cells B (cell_words a.shape.callers k a.shape.cells)) c.requires.instrs in
    let back : start_from_durable a.shape.callers a.shape.cells c.in_ok-words.words.items ≡ B =
    ap (start_from_durable a.shape.callers a.shape.cells) words ∙ start_back S B c.requires.row.may_start.start (omega (arith, a.shape.few_callers)) (table_word_count S) (omega arith) in
    let made = c.in_ok-bank.ensures in
    let T : Setup = bank_setup g.W.Work.meaning c.in_ok-bank.bank in
    let start : c.in_ok-bank.bank.start ≡ B = made.start ∙ back in
    start

pub returns-clause-words : goal.returns-clause-words
returns-clause-words g c =
    let a = c.args in
    let S : Setup = setup_of a.shape.callers a.shape.cells a.limit (g.W.Work.meaning a.work) in
    let B : TableStart = start_from_durable a.shape.callers a.shape.cells a.durable.now in
    let words : c.in_ok-words.words.items ≡ first_words a.shape.callers a.shape.cells B (table_word_count S) =
    c.in_ok-words.ensures ∙ ap (λ (k : ℕ). first_words a.shape.callers a.shape.cells B (cell_words a.shape.callers k a.shape.cells)) c.requires.instrs in
    let back : start_from_durable a.shape.callers a.shape.cells c.in_ok-words.words.items ≡ B =
    ap (start_from_durable a.shape.callers a.shape.cells) words ∙ start_back S B c.requires.row.may_start.start (omega (arith, a.shape.few_callers)) (table_word_count S) (omega arith) in
    let made = c.in_ok-bank.ensures in
    let T : Setup = bank_setup g.W.Work.meaning c.in_ok-bank.bank in
    let start : c.in_ok-bank.bank.start ≡ B = made.start ∙ back in
    made.words ∙ ap (λ (X : TableStart). first_words T.callers T.cells X (table_word_count T)) start

pub returns-clause-machines : goal.returns-clause-machines
returns-clause-machines g c =
    let a = c.args in
    let S : Setup = setup_of a.shape.callers a.shape.cells a.limit (g.W.Work.meaning a.work) in
    let B : TableStart = start_from_durable a.shape.callers a.shape.cells a.durable.now in
    let words : c.in_ok-words.words.items ≡ first_words a.shape.callers a.shape.cells B (table_word_count S) =
    c.in_ok-words.ensures ∙ ap (λ (k : ℕ). first_words a.shape.callers a.shape.cells B (cell_words a.shape.callers k a.shape.cells)) c.requires.instrs in
    let back : start_from_durable a.shape.callers a.shape.cells c.in_ok-words.words.items ≡ B =
    ap (start_from_durable a.shape.callers a.shape.cells) words ∙ start_back S B c.requires.row.may_start.start (omega (arith, a.shape.few_callers)) (table_word_count S) (omega arith) in
    let made = c.in_ok-bank.ensures in
    let T : Setup = bank_setup g.W.Work.meaning c.in_ok-bank.bank in
    let start : c.in_ok-bank.bank.start ≡ B = made.start ∙ back in
    made.machines ∙ ap (λ (X : TableStart). idle_machines T (start_ticket T X) 0 T.callers) start
