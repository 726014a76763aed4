use Rattle.std.proofs.Common.{◌≡◌, map}
use Rattle.std.specs.List.{range_with_len}
use Rattle.of_report.specs.Image.{image_ticket}
use Rattle.of_report.proofs.image.Image.tickets.Given as goal

-- the tickets so far
abbrev pub invariant-loop-caller : goal.invariant-loop-caller
invariant-loop-caller l = l.tickets.items ≡ map (image_ticket l.self) (range_with_len 0 l.caller)
