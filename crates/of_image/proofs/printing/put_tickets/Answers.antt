use Rattle.std.proofs.Common.{ℕ, ◌++◌, string_bytes, ap, ◌∙◌}
use Rattle.of_report.specs.Image.{image_ticket}
use Rattle.of_image.specs.RecoveredText.{ticket_line}
use Rattle.of_report.proofs.Lines.{one_more_number}
use Rattle.of_image.proofs.printing.put_tickets.Goals as goal

pub loop-caller-preserved : goal.loop-caller-preserved
loop-caller-preserved c =
    one_more_number (λ k. ticket_line k (image_ticket c.args.image.now k)) c.loop-caller.caller _ _ _ c.loop-caller.invariant
    (c.in_ok-put_ticket.ensures ∙ ap (λ (t : ℕ). string_bytes c.loop-caller.out ++ ticket_line c.loop-caller.caller t) c.ticket.ensures)
