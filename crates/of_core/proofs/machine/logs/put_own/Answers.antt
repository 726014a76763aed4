use Rattle.std.proofs.Common.{◌+◌, ℕ, List, [], ◌∷◌, ◌∙◌, ap, sym}
use Rattle.of_mem.specs.Part.{Part}
use Rattle.of_mem.specs.CellMap.{put_pair}
use Rattle.of_core.specs.Machine.{reply_cell_pairs}
use Rattle.of_core.proofs.Puts.{put_all_append, wrote_script}
use Rattle.of_core.proofs.machine.logs.put_own.Goals as goal

pub returns-clause-script : goal.returns-clause-script
returns-clause-script g c =
    let shape : ℕ × ℕ = (c.args.row + 1, c.args.raw.now.shape) in
    let ticket : ℕ × ℕ = (c.args.row, c.args.ticket) in
    let first = ap (λ (p : Part). p.script) c.write.ensures.writes ∙ wrote_script c.put_reply.new.part (c.args.row + 1) c.args.raw.now.shape in
    let second = ap (λ (p : Part). p.script) c.write-2.ensures.writes ∙ wrote_script c.write.new.self c.args.row c.args.ticket in
    second ∙ ap (λ (es : List (ℕ × ℕ)). put_pair es ticket.0 ticket.1) (first ∙ ap (λ (es : List (ℕ × ℕ)). put_pair es shape.0 shape.1) c.put_reply.ensures.script)
    ∙ sym (put_all_append c.args.part.now.script (reply_cell_pairs c.args.row c.args.count c.args.raw.now) (shape ∷ ticket ∷ []))
