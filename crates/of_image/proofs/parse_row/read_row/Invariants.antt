use Rattle.std.proofs.Common.{◌+◌, ◌≤◌, length}
use Rattle.of_plan.specs.Lines.{text_lines}
use Rattle.of_image.specs.ImageReading.{row_reading_value}
use Rattle.of_image.proofs.Faults.{IsImageReading}
use Rattle.of_image.proofs.parse_row.read_row.Given as goal

abbrev pub invariant-loop-reading : goal.invariant-loop-reading
invariant-loop-reading l = record {
  read : IsImageReading l.grammar l.text (text_lines l.rest) l.number (row_reading_value l.reading);
  count : l.number + length l.rest ≤ length l.text;
}

abbrev pub decreases-loop-reading : goal.decreases-loop-reading
decreases-loop-reading l = length l.rest
