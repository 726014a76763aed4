use Rattle.std.proofs.Common.{◌≡◌, ℕ, ◌<◌, ◌≤◌, length, get_or}
use Rattle.std.specs.Vec.{vec_capacity}
use Rattle.of_row.specs.Keys.{ticket_in}
use Rattle.of_row.proofs.row.first_tickets.Given as goal

-- the tickets of the callers below this one are taken, and there is room for the others
abbrev pub invariant-loop-caller : goal.invariant-loop-caller
invariant-loop-caller g l = record {
  long : length l.tickets.items ≡ l.caller;
  within : l.caller ≤ l.shape.callers;
  fits : l.shape.callers ≤ vec_capacity l.tickets;
  each : (i : ℕ) → i < l.caller → get_or l.tickets.items i 0 ≡ ticket_in l.shape.callers l.words i;
}
