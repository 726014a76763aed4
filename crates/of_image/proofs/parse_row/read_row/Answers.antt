use Rattle.std.proofs.Common.{◌+◌, [], sym, subst, arith}
use Rattle.of_plan.specs.Lines.{text_lines}
use Rattle.of_plan.proofs.BadLine.{cut_first}
use Rattle.of_image.specs.ImageReading.{row_reading_value, no_row_read, image_language, image_reader}
use Rattle.of_plan.proofs.Readings.{starts, fed_on, stuck_at, bad_at_end}
use Rattle.of_image.proofs.ImageTexts.{IsEnded, is_reader, spelled_at_end, refused}
use Rattle.of_image.proofs.Faults.{IsImageReading, line_here, lead_here, no_end_here, body_row, some_callers_read}
use Rattle.of_image.proofs.parse_row.read_row.Goals as goal

pub loop-reading-init : goal.loop-reading-init
loop-reading-init c =
    let g = c.args.grammar in
    record { read = subst (IsImageReading g c.args.text.now (text_lines c.args.text.now) 0) (sym c.new-reading.ensures) (starts (image_language g) (image_reader g) no_row_read IsEnded (is_reader g) c.args.text.now); count = omega arith }

pub feed-requires-clause-counted : goal.feed-requires-clause-counted
feed-requires-clause-counted c = some_callers_read c.args.grammar c.args.text.now _ _ (row_reading_value c.loop-reading.reading) c.loop-reading.invariant.read

pub feed-requires-clause-row : goal.feed-requires-clause-row
feed-requires-clause-row c = body_row c.args.grammar c.args.text.now _ _ (row_reading_value c.loop-reading.reading) c.loop-reading.invariant.read

pub loop-reading-preserved : goal.loop-reading-preserved
loop-reading-preserved c =
    let g = c.args.grammar in
    record {
      read = fed_on (image_language g) (image_reader g) no_row_read IsEnded (is_reader g) _ _ _ (row_reading_value c.loop-reading.reading) (row_reading_value c.feed.new.self) c.cut.result.0.now (text_lines c.in-Some.more.now) c.loop-reading.invariant.read (rw c.in-Some.is at c.cut.ensures.parts) (rw c.in_default.is at c.in_ok-bad.ensures);
      count = omega (arith, rw c.in-Some.is at c.cut.ensures.shorter);
    }

-- a line that isn't taken
pub in_text-piece-requires : goal.in_text-piece-requires
in_text-piece-requires c =
    let g = c.args.grammar in
    let p = row_reading_value c.loop-reading.reading in
    let cut = cut_first _ _ _ c.cut.ensures.parts in
    let fed = rw c.in-Err.is at c.in_ok-bad.ensures in
    record {
      first = omega arith;
      line = line_here g c.args.text.now _ cut.0 c.loop-reading.number _ p c.cut.result.0.now c.loop-reading.invariant.read cut.1 (omega arith);
      bad = refused g _ _ (stuck_at (image_language g) (image_reader g) no_row_read IsEnded (is_reader g) _ _ _ p c.cut.result.0.now cut.0 c.loop-reading.invariant.read cut.1 fed.0);
      is = (p, lead_here g c.args.text.now _ c.loop-reading.number _ p c.loop-reading.invariant.read (omega arith), fed);
    }

-- the end of the text, after the image's last line
pub returns-in-Ended : goal.returns-in-Ended
returns-in-Ended c =
    let g = c.args.grammar in
    let read = fed_on (image_language g) (image_reader g) no_row_read IsEnded (is_reader g) _ _ _ (row_reading_value c.loop-reading.reading) (row_reading_value c.feed.new.self) c.cut.result.0.now [] c.loop-reading.invariant.read (rw c.in-None.is at c.cut.ensures.parts) (rw c.in_default.is at c.in_ok-bad.ensures) in
    record { ok = spelled_at_end g _ _ (row_reading_value c.feed.new.self) read c.in-Ended.is; err = tt }

-- and before it
pub at_end-piece-requires : goal.at_end-piece-requires
at_end-piece-requires c =
    let g = c.args.grammar in
    let parts = rw c.in-None.is at c.cut.ensures.parts in
    let p = row_reading_value c.feed.new.self in
    let read = fed_on (image_language g) (image_reader g) no_row_read IsEnded (is_reader g) _ _ _ (row_reading_value c.loop-reading.reading) p c.cut.result.0.now [] c.loop-reading.invariant.read parts (rw c.in_default.is at c.in_ok-bad.ensures) in
    record {
      first = omega arith;
      line = line_here g c.args.text.now _ [] c.loop-reading.number _ (row_reading_value c.loop-reading.reading) c.cut.result.0.now c.loop-reading.invariant.read parts (omega arith);
      bad = refused g _ _ (bad_at_end (image_language g) (image_reader g) no_row_read IsEnded (is_reader g) _ _ p read (omega arith) c.in_default-stage.not-Ended);
      none = no_end_here g c.args.text.now (c.loop-reading.number + 1) _ p read (omega arith) c.in_default-stage.not-Ended;
    }
