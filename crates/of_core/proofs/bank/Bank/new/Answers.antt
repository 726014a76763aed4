use Rattle.std.proofs.Common.{◌≡◌, ℕ, replicate, arith, ap, subst, ◌∙◌, sym, refl}
use Rattle.of_mem.specs.Meaning.{IsSoundMeaning}
use Rattle.of_core.specs.Table.{Setup, setup_of, first_operation_cell}
use Rattle.of_core.specs.TableMoment.{TableStart}
use Rattle.of_core.specs.WordsMatch.{MayStart}
use Rattle.of_cell.specs.Cells.{table_words as cell_words}
use Rattle.of_core.specs.Moment.{bank_setup, table_word_count}
use Rattle.of_core.specs.Events.{idle_machines, zero_start, start_ticket}
use Rattle.of_core.specs.Starts.{first_words, start_from_durable}
use Rattle.of_core.proofs.Puts.{sound_at}
use Rattle.of_core.proofs.Starts.{zero_ticket, zero_words, zeros_back, zeros_start}
use Rattle.of_core.proofs.Openings.{idles_same}
use Rattle.of_core.proofs.Benches.{table_is}
use Rattle.of_core.proofs.bank.Bank.new.Goals as goal

pub over-requires-clause-start : goal.over-requires-clause-start
over-requires-clause-start g c =
    let a = c.args in
    let M = g.W.Work.meaning in
    let L = g.W.Work.lawful a.work in
    let S : Setup = setup_of a.shape.callers a.shape.cells a.limit (M a.work) in
    let laws = g.met.W.Work in
    let sound : IsSoundMeaning (M a.work) L (first_operation_cell S) S.cells = sound_at S (M a.work) L _ _ (sym c.requires.callers) (sym c.requires.cells) refl (laws.sound a.work) in
    let size : c.words.result ≡ table_word_count S = c.words.ensures ∙ ap (λ (k : ℕ). cell_words a.shape.callers k a.shape.cells) c.requires.instrs in
    let words : c.in_ok-words.words.items ≡ replicate (table_word_count S) 0 = c.in_ok-words.ensures.items_if_clones_equal (λ y e. e) ∙ ap (λ (k : ℕ). replicate k 0) size in
    subst (MayStart S L) (sym (zeros_back S L sound a.shape.some_callers (omega (arith, a.shape.few_callers)) c.in_ok-words.words.items (table_word_count S) (omega arith) words)) (zeros_start S L sound a.shape.some_callers)

pub over-requires-clause-words : goal.over-requires-clause-words
over-requires-clause-words g c =
    let a = c.args in
    let M = g.W.Work.meaning in
    let L = g.W.Work.lawful a.work in
    let S : Setup = setup_of a.shape.callers a.shape.cells a.limit (M a.work) in
    let laws = g.met.W.Work in
    let sound : IsSoundMeaning (M a.work) L (first_operation_cell S) S.cells = sound_at S (M a.work) L _ _ (sym c.requires.callers) (sym c.requires.cells) refl (laws.sound a.work) in
    let size : c.words.result ≡ table_word_count S = c.words.ensures ∙ ap (λ (k : ℕ). cell_words a.shape.callers k a.shape.cells) c.requires.instrs in
    let words : c.in_ok-words.words.items ≡ replicate (table_word_count S) 0 = c.in_ok-words.ensures.items_if_clones_equal (λ y e. e) ∙ ap (λ (k : ℕ). replicate k 0) size in
    let back : start_from_durable a.shape.callers a.shape.cells c.in_ok-words.words.items ≡ zero_start S = zeros_back S L sound a.shape.some_callers (omega (arith, a.shape.few_callers)) c.in_ok-words.words.items (table_word_count S) (omega arith) words in
    words ∙ sym (zero_words S (table_word_count S) (omega arith)) ∙ ap (λ (B : TableStart). first_words a.shape.callers a.shape.cells B (table_word_count S)) (sym back)

pub returns-clause-start : goal.returns-clause-start
returns-clause-start g c =
    let a = c.args in
    let M = g.W.Work.meaning in
    let L = g.W.Work.lawful a.work in
    let S : Setup = setup_of a.shape.callers a.shape.cells a.limit (M a.work) in
    let laws = g.met.W.Work in
    let sound : IsSoundMeaning (M a.work) L (first_operation_cell S) S.cells = sound_at S (M a.work) L _ _ (sym c.requires.callers) (sym c.requires.cells) refl (laws.sound a.work) in
    let size : c.words.result ≡ table_word_count S = c.words.ensures ∙ ap (λ (k : ℕ). cell_words a.shape.callers k a.shape.cells) c.requires.instrs in
    let words : c.in_ok-words.words.items ≡ replicate (table_word_count S) 0 = c.in_ok-words.ensures.items_if_clones_equal (λ y e. e) ∙ ap (λ (k : ℕ). replicate k 0) size in
    let back : start_from_durable a.shape.callers a.shape.cells c.in_ok-words.words.items ≡ zero_start S = zeros_back S L sound a.shape.some_callers (omega (arith, a.shape.few_callers)) c.in_ok-words.words.items (table_word_count S) (omega arith) words in
    let b = c.in_ok-bank.bank in
    let made = c.in_ok-bank.ensures in
    let T : Setup = bank_setup M b in
    let start : b.start ≡ zero_start T = made.start ∙ back ∙ ap zero_start (table_is M a.work b a.shape.callers a.shape.cells a.limit made.work made.callers made.cells made.limit) in
    start

pub returns-clause-words : goal.returns-clause-words
returns-clause-words g c =
    let a = c.args in
    let M = g.W.Work.meaning in
    let L = g.W.Work.lawful a.work in
    let S : Setup = setup_of a.shape.callers a.shape.cells a.limit (M a.work) in
    let laws = g.met.W.Work in
    let sound : IsSoundMeaning (M a.work) L (first_operation_cell S) S.cells = sound_at S (M a.work) L _ _ (sym c.requires.callers) (sym c.requires.cells) refl (laws.sound a.work) in
    let size : c.words.result ≡ table_word_count S = c.words.ensures ∙ ap (λ (k : ℕ). cell_words a.shape.callers k a.shape.cells) c.requires.instrs in
    let words : c.in_ok-words.words.items ≡ replicate (table_word_count S) 0 = c.in_ok-words.ensures.items_if_clones_equal (λ y e. e) ∙ ap (λ (k : ℕ). replicate k 0) size in
    let back : start_from_durable a.shape.callers a.shape.cells c.in_ok-words.words.items ≡ zero_start S = zeros_back S L sound a.shape.some_callers (omega (arith, a.shape.few_callers)) c.in_ok-words.words.items (table_word_count S) (omega arith) words in
    let b = c.in_ok-bank.bank in
    let made = c.in_ok-bank.ensures in
    let T : Setup = bank_setup M b in
    let start : b.start ≡ zero_start T = made.start ∙ back ∙ ap zero_start (table_is M a.work b a.shape.callers a.shape.cells a.limit made.work made.callers made.cells made.limit) in
    made.words ∙ ap (λ (B : TableStart). first_words T.callers T.cells B (table_word_count T)) start

pub returns-clause-machines : goal.returns-clause-machines
returns-clause-machines g c =
    let a = c.args in
    let M = g.W.Work.meaning in
    let L = g.W.Work.lawful a.work in
    let S : Setup = setup_of a.shape.callers a.shape.cells a.limit (M a.work) in
    let laws = g.met.W.Work in
    let sound : IsSoundMeaning (M a.work) L (first_operation_cell S) S.cells = sound_at S (M a.work) L _ _ (sym c.requires.callers) (sym c.requires.cells) refl (laws.sound a.work) in
    let size : c.words.result ≡ table_word_count S = c.words.ensures ∙ ap (λ (k : ℕ). cell_words a.shape.callers k a.shape.cells) c.requires.instrs in
    let words : c.in_ok-words.words.items ≡ replicate (table_word_count S) 0 = c.in_ok-words.ensures.items_if_clones_equal (λ y e. e) ∙ ap (λ (k : ℕ). replicate k 0) size in
    let back : start_from_durable a.shape.callers a.shape.cells c.in_ok-words.words.items ≡ zero_start S = zeros_back S L sound a.shape.some_callers (omega (arith, a.shape.few_callers)) c.in_ok-words.words.items (table_word_count S) (omega arith) words in
    let b = c.in_ok-bank.bank in
    let made = c.in_ok-bank.ensures in
    let T : Setup = bank_setup M b in
    let start : b.start ≡ zero_start T = made.start ∙ back ∙ ap zero_start (table_is M a.work b a.shape.callers a.shape.cells a.limit made.work made.callers made.cells made.limit) in
    made.machines ∙ ap (λ (B : TableStart). idle_machines T (start_ticket T B) 0 T.callers) start

pub returns-clause-idle : goal.returns-clause-idle
returns-clause-idle g c =
    let a = c.args in
    let M = g.W.Work.meaning in
    let L = g.W.Work.lawful a.work in
    let S : Setup = setup_of a.shape.callers a.shape.cells a.limit (M a.work) in
    let laws = g.met.W.Work in
    let sound : IsSoundMeaning (M a.work) L (first_operation_cell S) S.cells = sound_at S (M a.work) L _ _ (sym c.requires.callers) (sym c.requires.cells) refl (laws.sound a.work) in
    let size : c.words.result ≡ table_word_count S = c.words.ensures ∙ ap (λ (k : ℕ). cell_words a.shape.callers k a.shape.cells) c.requires.instrs in
    let words : c.in_ok-words.words.items ≡ replicate (table_word_count S) 0 = c.in_ok-words.ensures.items_if_clones_equal (λ y e. e) ∙ ap (λ (k : ℕ). replicate k 0) size in
    let back : start_from_durable a.shape.callers a.shape.cells c.in_ok-words.words.items ≡ zero_start S = zeros_back S L sound a.shape.some_callers (omega (arith, a.shape.few_callers)) c.in_ok-words.words.items (table_word_count S) (omega arith) words in
    let b = c.in_ok-bank.bank in
    let made = c.in_ok-bank.ensures in
    let T : Setup = bank_setup M b in
    let start : b.start ≡ zero_start T = made.start ∙ back ∙ ap zero_start (table_is M a.work b a.shape.callers a.shape.cells a.limit made.work made.callers made.cells made.limit) in
    made.machines ∙ ap (λ (B : TableStart). idle_machines T (start_ticket T B) 0 T.callers) start
    ∙ sym (idles_same T (λ i. 0) (start_ticket T (zero_start T)) (λ i. sym (zero_ticket T i)) 0 T.callers)
