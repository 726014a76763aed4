use Rattle.std.proofs.Common.{◌≡◌, ◌<◌, ℕ, List, ◌∙◌, ap, sym, subst, get_or}
use Rattle.of_cell.specs.Cells.{announce_place, durable_place, request_cell, log_count_cell}
use Rattle.of_mem.specs.declared.work.TheConstants.{MOST_INSTRS}
use Rattle.of_core.specs.declared.remains.Remains.{Remains}
use Rattle.of_core.specs.Remains.{MayRevive}
use Rattle.of_core.specs.Table.{script_words_of, script_word_at, durable_at, request_at, log_at}
use Rattle.of_row.specs.Views.{KnownCaller, View, last_caller}
use Rattle.of_row.specs.RowLaws.{RowLaws}
use Rattle.of_row.specs.Rows.{key_of, setup_at, row_start, IsCallerOf}
use Rattle.of_row.specs.Passes.{words_of_past}
use Rattle.of_row.specs.Replacing.{HasLearnt, AreRemains, WasSoBetween, MayNotRevive}
use Rattle.of_row.proofs.Members.{first_is, sole_all}
use Rattle.of_row.proofs.RowLaws.{at_row}
use Rattle.of_row.proofs.Replacing.{learn_first, all_found}
use Rattle.of_row.proofs.row.Row.find_remains.Given.{Over}
use Rattle.of_row.proofs.row.Row.find_remains.Goals as goal

-- what the loads have found
abbrev remains : (g : Over) → goal.After-look_up-request g → Remains
remains g c = record { current = c.look_up-current.result; request = c.look_up-request.result; durable = c.look_up-durable.result; log = c.look_up-log.result; announcement = c.look_up-announcement.result; ticket = 0; script = c.load_script-script.result }

-- what they show
shown : (g : Over) (c : goal.After-look_up-request g)
    → HasLearnt (setup_at g.W.Work.meaning c.args.self.now) (g.W.Work.lawful (key_of c.args.self.now).work) (row_start g.W.Work.meaning c.args.self.now) c.args.seat.now.me.0 c.look_up-request.new.seat.me.0
    × AreRemains (setup_at g.W.Work.meaning c.args.self.now) (words_of_past g.W.Work.meaning c.args.self.now c.look_up-request.new.seat.me.0) c.args.number (remains g c)
    × ((MayRevive (remains g c) c.args.number → ⊥) → WasSoBetween (setup_at g.W.Work.meaning c.args.self.now) (row_start g.W.Work.meaning c.args.self.now) c.args.seat.now.me.0 c.look_up-request.new.seat.me.0 (MayNotRevive (setup_at g.W.Work.meaning c.args.self.now) c.args.number))
shown g c =
    let row = c.args.self.now in
    let key = key_of row in
    let S = setup_at g.W.Work.meaning row in
    let L = g.W.Work.lawful key.work in
    let B = row_start g.W.Work.meaning row in
    let kept : List KnownCaller = c.args.seat.now.me.0.kept in
    let x : KnownCaller = last_caller kept in
    let inside : x.machine.caller < key.callers = sole_all (IsCallerOf row) kept c.requires.sole.0 c.requires.row.3 in
    let laws : RowLaws S L = at_row g.W.Work.meaning g.W.Work.lawful g.W.Work.many g.W.Work.size key.callers key.cells key.limit c.limit-limit.result key.work c.work-work.result c.shape-shape.ensures.work (sym c.limit-limit.ensures.is) (sym c.work-work.ensures) RowLaws c.protocol.ensures in
    let ws : View → List ℕ = words_of_past g.W.Work.meaning row in
    let v0 : View = c.args.seat.now.me.0 in
    let a : View = c.look_up-announcement.new.seat.me.0 in
    let s : View = c.load_script-script.new.seat.me.0 in
    let d : View = c.look_up-durable.new.seat.me.0 in
    let l : View = c.look_up-log.new.seat.me.0 in
    let u : View = c.look_up-current.new.seat.me.0 in
    let w : View = c.look_up-request.new.seat.me.0 in
    let e = c.shape-shape.ensures in
    let same : x.machine.caller ≡ c.args.number = c.requires.sole.1 in
    let at_said : c.announce_word.result ≡ script_word_at S x.machine.caller S.instrs = c.announce_word.ensures.value ∙ λ i. announce_place (e.callers i) (e.instrs i) (e.cells i) (sym same i) in
    let at_request : c.request.result ≡ request_at x.machine.caller = c.request.ensures.value ∙ λ i. request_cell (sym same i) in
    let at_durable : c.durable_word.result ≡ durable_at S (request_at x.machine.caller) = c.durable_word.ensures.value ∙ λ i. durable_place (e.callers i) (e.cells i) (at_request i) in
    let at_log : c.log_count.result ≡ log_at S x.machine.caller 0 = c.log_count.ensures.value ∙ λ i. log_count_cell (e.callers i) (e.cells i) (sym same i) in
    let at_asked : c.request-2.result ≡ request_at x.machine.caller = c.request-2.ensures.value ∙ λ i. request_cell (sym same i) in
    subst (λ (i : ℕ). HasLearnt S L B v0 w × AreRemains S (ws w) i (remains g c) × ((MayRevive (remains g c) i → ⊥) → WasSoBetween S B v0 w (MayNotRevive S i))) same
    (all_found S L B laws x inside v0 a s d l u w (first_is kept c.requires.sole.0)
    (learn_first S L B _ _ v0 a c.look_up-announcement.ensures.learns)
    c.load_script-script.ensures.learnt
    (learn_first S L B _ _ s d c.look_up-durable.ensures.learns)
    (learn_first S L B _ _ d l c.look_up-log.ensures.learns)
    (learn_first S L B _ _ l u c.look_up-current.ensures.learns)
    (learn_first S L B _ _ u w c.look_up-request.ensures.learns)
    (remains g c)
    (c.look_up-announcement.ensures.learns.word ∙ ap (λ (k : ℕ). get_or (ws a) k 0) at_said)
    (c.load_script-script.ensures.script ∙ ap (λ (i : ℕ). script_words_of S (ws s) i MOST_INSTRS) (sym same))
    record {
      durable = c.look_up-durable.ensures.learns.word ∙ ap (λ (k : ℕ). get_or (ws d) k 0) at_durable;
      log = c.look_up-log.ensures.learns.word ∙ ap (λ (k : ℕ). get_or (ws l) k 0) at_log;
      current = c.look_up-current.ensures.learns.word ∙ ap (λ (k : ℕ). get_or (ws u) k 0) c.cur.ensures.value;
      request = c.look_up-request.ensures.learns.word ∙ ap (λ (k : ℕ). get_or (ws w) k 0) at_asked;
    })

pub returns-clause-learnt : goal.returns-clause-learnt
returns-clause-learnt g c = (shown g c).0

pub returns-clause-found : goal.returns-clause-found
returns-clause-found g c = (shown g c).1

pub returns-clause-hindered : goal.returns-clause-hindered
returns-clause-hindered g c = (shown g c).2
