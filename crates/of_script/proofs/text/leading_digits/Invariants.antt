use Rattle.std.proofs.Common.{◌≡◌, ◌≤◌, ◌+◌, ◌-◌, length}
use Rattle.of_script.specs.Reading.{LeadsWith}
use Rattle.of_script.proofs.text.leading_digits.Given as goal

-- in a group
abbrev pub invariant-loop : goal.invariant-loop
invariant-loop l = record {
  count : l.read ≡ l.initial.read + l.counter;
  within : l.initial.read + 4 ≤ length l.bytes;
  leads : LeadsWith l.bytes l.read l.value;
}

-- between groups
abbrev pub invariant-loop-read : goal.invariant-loop-read
invariant-loop-read l = record {
  within : l.read ≤ length l.bytes;
  leads : LeadsWith l.bytes l.read l.value;
}

abbrev pub decreases-loop-read : goal.decreases-loop-read
decreases-loop-read l = length l.bytes - l.read

-- after the groups
abbrev pub invariant-loop-read-2 : goal.invariant-loop-read-2
invariant-loop-read-2 l = record {
  within : l.read ≤ length l.bytes;
  leads : LeadsWith l.bytes l.read l.value;
}

abbrev pub decreases-loop-read-2 : goal.decreases-loop-read-2
decreases-loop-read-2 l = length l.bytes - l.read
