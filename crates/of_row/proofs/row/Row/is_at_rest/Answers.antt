use Rattle.std.proofs.Common.{◌≡◌, inl, inr, ℕ, ◌∙◌, arith, ap, sym}
use Rattle.std.proofs.lemmas.Bool.{ltb-true, ltb-false}
use Rattle.of_cell.specs.Cells.{durable_place}
use Rattle.of_cell.specs.Words.{pack, seq_of, payload_of}
use Rattle.of_core.specs.Table.{durable_at, durable_word, request_at, request_of, committed_seq, committed_owner}
use Rattle.of_row.specs.RowLaws.{RowLaws}
use Rattle.of_row.specs.Rows.{key_of, setup_at, row_start}
use Rattle.of_row.specs.Passes.{words_of_past}
use Rattle.of_row.proofs.RowLaws.{at_row}
use Rattle.of_row.proofs.Replacing.{learn_first, learn_more}
use Rattle.of_row.proofs.Looks.{word_of, durable_owner, shown_at_rest, not_durable, not_closed}
use Rattle.of_row.proofs.row.Row.is_at_rest.Goals as goal

pub returns-then-durable-current-clause-busy : goal.returns-then-durable-current-clause-busy
returns-then-durable-current-clause-busy g c unlike =
    let row = c.args.self.now in
    let key = key_of row in
    let S = setup_at g.W.Work.meaning row in
    let L = g.W.Work.lawful key.work in
    let B = row_start g.W.Work.meaning row in
    let laws : RowLaws S L = at_row g.W.Work.meaning g.W.Work.lawful g.W.Work.many g.W.Work.size key.callers key.cells key.limit c.limit-limit.result key.work c.work-work.result c.shape-shape.ensures.work (sym c.limit-limit.ensures.is) (sym c.work-work.ensures) RowLaws c.protocol.ensures in
    let v = c.args.seat.now.me.0 in
    let w = c.look_up-durable.new.seat.me.0 in
    let at : c.durable_word.result ≡ durable_at S 0 = c.durable_word.ensures.value ∙ λ i. durable_place (c.shape-shape.ensures.callers i) (c.shape-shape.ensures.cells i) 0 in
    let vw = learn_first S L B _ _ v w c.look_up-durable.ensures.learns in
    let found : c.look_up-durable.result ≡ durable_word S (words_of_past g.W.Work.meaning row w) 0 = word_of S L B laws _ _ _ _ _ c.look_up-durable.ensures.learns at in
    not_durable S L B laws v w vw (λ e. c.if-durable-current.true (found ∙ (e ∙ sym c.requires.current)))

pub request-requires : goal.request-requires
request-requires g c =
    let row = c.args.self.now in
    let key = key_of row in
    let S = setup_at g.W.Work.meaning row in
    let L = g.W.Work.lawful key.work in
    let B = row_start g.W.Work.meaning row in
    let laws : RowLaws S L = at_row g.W.Work.meaning g.W.Work.lawful g.W.Work.many g.W.Work.size key.callers key.cells key.limit c.limit-limit.result key.work c.work-work.result c.shape-shape.ensures.work (sym c.limit-limit.ensures.is) (sym c.work-work.ensures) RowLaws c.protocol.ensures in
    let v = c.args.seat.now.me.0 in
    let w = c.look_up-durable.new.seat.me.0 in
    let at : c.durable_word.result ≡ durable_at S 0 = c.durable_word.ensures.value ∙ λ i. durable_place (c.shape-shape.ensures.callers i) (c.shape-shape.ensures.cells i) 0 in
    let vw = learn_first S L B _ _ v w c.look_up-durable.ensures.learns in
    let found : c.look_up-durable.result ≡ durable_word S (words_of_past g.W.Work.meaning row w) 0 = word_of S L B laws _ _ _ _ _ c.look_up-durable.ensures.learns at in
    let owner = durable_owner S L B laws w c.look_up-durable.result vw.own found in
    let same : c.look_up-durable.result ≡ c.args.current = omega (arith, c.if-durable-current.false) in
    omega (arith, owner, c.payload_of.ensures, ap payload_of same, c.shape-shape.ensures.callers)

pub returns-then-seq_of-eq0-clause-learnt : goal.returns-then-seq_of-eq0-clause-learnt
returns-then-seq_of-eq0-clause-learnt g c =
    let row = c.args.self.now in
    let key = key_of row in
    let S = setup_at g.W.Work.meaning row in
    let L = g.W.Work.lawful key.work in
    let B = row_start g.W.Work.meaning row in
    let v = c.args.seat.now.me.0 in
    let w = c.look_up-durable.new.seat.me.0 in
    let u = c.look_up-request.new.seat.me.0 in
    learn_more S L B v w u (learn_first S L B _ _ v w c.look_up-durable.ensures.learns) (learn_first S L B _ _ w u c.look_up-request.ensures.learns)

pub returns-then-seq_of-eq0-clause-closed : goal.returns-then-seq_of-eq0-clause-closed
returns-then-seq_of-eq0-clause-closed g c alike =
    let row = c.args.self.now in
    let key = key_of row in
    let S = setup_at g.W.Work.meaning row in
    let L = g.W.Work.lawful key.work in
    let B = row_start g.W.Work.meaning row in
    let laws : RowLaws S L = at_row g.W.Work.meaning g.W.Work.lawful g.W.Work.many g.W.Work.size key.callers key.cells key.limit c.limit-limit.result key.work c.work-work.result c.shape-shape.ensures.work (sym c.limit-limit.ensures.is) (sym c.work-work.ensures) RowLaws c.protocol.ensures in
    let v = c.args.seat.now.me.0 in
    let w = c.look_up-durable.new.seat.me.0 in
    let at : c.durable_word.result ≡ durable_at S 0 = c.durable_word.ensures.value ∙ λ i. durable_place (c.shape-shape.ensures.callers i) (c.shape-shape.ensures.cells i) 0 in
    let vw = learn_first S L B _ _ v w c.look_up-durable.ensures.learns in
    let found : c.look_up-durable.result ≡ durable_word S (words_of_past g.W.Work.meaning row w) 0 = word_of S L B laws _ _ _ _ _ c.look_up-durable.ensures.learns at in
    let u = c.look_up-request.new.seat.me.0 in
    let wu = learn_first S L B _ _ w u c.look_up-request.ensures.learns in
    let same : c.look_up-durable.result ≡ c.args.current = omega (arith, c.if-durable-current.false) in
    let asked : c.look_up-request.result ≡ request_of (words_of_past g.W.Work.meaning row u) (committed_owner (words_of_past g.W.Work.meaning row v)) =
    word_of S L B laws _ _ _ _ _ c.look_up-request.ensures.learns (c.request.ensures.value ∙ ap request_at (c.payload_of.ensures ∙ ap payload_of c.requires.current)) in
    shown_at_rest S L B laws v w u vw wu (sym found ∙ (same ∙ c.requires.current)) (inl (sym (c.seq_of.ensures ∙ ap seq_of c.requires.current) ∙ c.if-seq_of-eq0.true))

pub returns-else-seq_of-eq0-clause-learnt : goal.returns-else-seq_of-eq0-clause-learnt
returns-else-seq_of-eq0-clause-learnt g c =
    let row = c.args.self.now in
    let key = key_of row in
    let S = setup_at g.W.Work.meaning row in
    let L = g.W.Work.lawful key.work in
    let B = row_start g.W.Work.meaning row in
    let v = c.args.seat.now.me.0 in
    let w = c.look_up-durable.new.seat.me.0 in
    let u = c.look_up-request.new.seat.me.0 in
    learn_more S L B v w u (learn_first S L B _ _ v w c.look_up-durable.ensures.learns) (learn_first S L B _ _ w u c.look_up-request.ensures.learns)

pub returns-else-seq_of-eq0-clause-closed : goal.returns-else-seq_of-eq0-clause-closed
returns-else-seq_of-eq0-clause-closed g c alike =
    let row = c.args.self.now in
    let key = key_of row in
    let S = setup_at g.W.Work.meaning row in
    let L = g.W.Work.lawful key.work in
    let B = row_start g.W.Work.meaning row in
    let laws : RowLaws S L = at_row g.W.Work.meaning g.W.Work.lawful g.W.Work.many g.W.Work.size key.callers key.cells key.limit c.limit-limit.result key.work c.work-work.result c.shape-shape.ensures.work (sym c.limit-limit.ensures.is) (sym c.work-work.ensures) RowLaws c.protocol.ensures in
    let v = c.args.seat.now.me.0 in
    let w = c.look_up-durable.new.seat.me.0 in
    let at : c.durable_word.result ≡ durable_at S 0 = c.durable_word.ensures.value ∙ λ i. durable_place (c.shape-shape.ensures.callers i) (c.shape-shape.ensures.cells i) 0 in
    let vw = learn_first S L B _ _ v w c.look_up-durable.ensures.learns in
    let found : c.look_up-durable.result ≡ durable_word S (words_of_past g.W.Work.meaning row w) 0 = word_of S L B laws _ _ _ _ _ c.look_up-durable.ensures.learns at in
    let u = c.look_up-request.new.seat.me.0 in
    let wu = learn_first S L B _ _ w u c.look_up-request.ensures.learns in
    let same : c.look_up-durable.result ≡ c.args.current = omega (arith, c.if-durable-current.false) in
    let asked : c.look_up-request.result ≡ request_of (words_of_past g.W.Work.meaning row u) (committed_owner (words_of_past g.W.Work.meaning row v)) =
    word_of S L B laws _ _ _ _ _ c.look_up-request.ensures.learns (c.request.ensures.value ∙ ap request_at (c.payload_of.ensures ∙ ap payload_of c.requires.current)) in
    let opens : c.pack.result ≡ pack (committed_seq (words_of_past g.W.Work.meaning row v)) 0 = c.pack.ensures ∙ ap (λ (k : ℕ). pack k 0) (c.seq_of-else-seq_of-eq0.ensures ∙ ap seq_of c.requires.current) in
    shown_at_rest S L B laws v w u vw wu (sym found ∙ (same ∙ c.requires.current)) (inr (let l = ltb-true c.pack.result c.look_up-request.result alike in omega (arith, l, opens, asked)))

pub returns-else-seq_of-eq0-clause-busy : goal.returns-else-seq_of-eq0-clause-busy
returns-else-seq_of-eq0-clause-busy g c unlike =
    let row = c.args.self.now in
    let key = key_of row in
    let S = setup_at g.W.Work.meaning row in
    let L = g.W.Work.lawful key.work in
    let B = row_start g.W.Work.meaning row in
    let laws : RowLaws S L = at_row g.W.Work.meaning g.W.Work.lawful g.W.Work.many g.W.Work.size key.callers key.cells key.limit c.limit-limit.result key.work c.work-work.result c.shape-shape.ensures.work (sym c.limit-limit.ensures.is) (sym c.work-work.ensures) RowLaws c.protocol.ensures in
    let v = c.args.seat.now.me.0 in
    let w = c.look_up-durable.new.seat.me.0 in
    let at : c.durable_word.result ≡ durable_at S 0 = c.durable_word.ensures.value ∙ λ i. durable_place (c.shape-shape.ensures.callers i) (c.shape-shape.ensures.cells i) 0 in
    let vw = learn_first S L B _ _ v w c.look_up-durable.ensures.learns in
    let found : c.look_up-durable.result ≡ durable_word S (words_of_past g.W.Work.meaning row w) 0 = word_of S L B laws _ _ _ _ _ c.look_up-durable.ensures.learns at in
    let u = c.look_up-request.new.seat.me.0 in
    let wu = learn_first S L B _ _ w u c.look_up-request.ensures.learns in
    let same : c.look_up-durable.result ≡ c.args.current = omega (arith, c.if-durable-current.false) in
    let asked : c.look_up-request.result ≡ request_of (words_of_past g.W.Work.meaning row u) (committed_owner (words_of_past g.W.Work.meaning row v)) =
    word_of S L B laws _ _ _ _ _ c.look_up-request.ensures.learns (c.request.ensures.value ∙ ap request_at (c.payload_of.ensures ∙ ap payload_of c.requires.current)) in
    let opens : c.pack.result ≡ pack (committed_seq (words_of_past g.W.Work.meaning row v)) 0 = c.pack.ensures ∙ ap (λ (k : ℕ). pack k 0) (c.seq_of-else-seq_of-eq0.ensures ∙ ap seq_of c.requires.current) in
    not_closed S L B laws v u (learn_more S L B v w u vw wu) (λ z. c.if-seq_of-eq0.false (c.seq_of.ensures ∙ (ap seq_of c.requires.current ∙ z)))
    (let l = ltb-false c.pack.result c.look_up-request.result unlike in omega (arith, l, opens, asked))
