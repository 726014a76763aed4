use Rattle.std.proofs.Common.{◌≡◌, ◌++◌, string_bytes}
use Rattle.std.specs.Prelude.{flat_map}
use Rattle.std.specs.List.{range_with_len}
use Rattle.of_report.specs.Image.{image_ticket}
use Rattle.of_image.specs.RecoveredText.{ticket_line}
use Rattle.of_image.proofs.printing.put_tickets.Given as goal

-- the tickets so far
abbrev pub invariant-loop-caller : goal.invariant-loop-caller
invariant-loop-caller l = string_bytes l.out ≡ string_bytes l.fn.out ++ flat_map (λ c. ticket_line c (image_ticket l.image c)) (range_with_len 0 l.caller)
