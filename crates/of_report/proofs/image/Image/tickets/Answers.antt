use Rattle.std.proofs.Common.{ℕ, List, [], ◌∷◌, ◌++◌, sym, ap, ◌∙◌, arith}
use Rattle.std.proofs.lemmas.List.FromFn.{map-range_with_len_more}
use Rattle.of_report.specs.Image.{image_ticket}
use Rattle.of_report.proofs.image.Image.tickets.Goals as goal

pub loop-caller-preserved : goal.loop-caller-preserved
loop-caller-preserved c =
    let ticket = image_ticket c.args.self.now in
    c.in_ok-push.ensures.items ∙ ap (λ (t : ℕ). c.loop-caller.tickets.items ++ t ∷ []) c.ticket.ensures
    ∙ ap (λ (l : List ℕ). l ++ ticket c.loop-caller.caller ∷ []) c.loop-caller.invariant
    ∙ sym (map-range_with_len_more ticket 0 c.loop-caller.caller c.loop-caller.caller (omega arith))
