use Rattle.std.proofs.Common.{sym, ap, ◌∙◌}
use Rattle.of_plan.specs.Reading.{reading_value, after_line}
use Rattle.of_plan.proofs.BadPieces.{ends_on}
use Rattle.of_plan.proofs.Feeding.{place_reason_fed, first_fed, second_fed, extra_fed, numbers_taken}
use Rattle.of_plan.proofs.parser.state.Reading.feed_numbers.Goals as goal

pub returns-then-not-may_come : goal.returns-then-not-may_come
returns-then-not-may_come c =
    place_reason_fed (reading_value c.args.self.now) c.args.form c.args.line.now c.args.rest.now _ _ c.requires.words (sym c.may_come.ensures ∙ c.if-not-may_come.true) c.bad_word.ensures.piece (c.bad_word.ensures.reason ∙ c.place_reason-reason.ensures)

pub returns-in-Err : goal.returns-in-Err
returns-in-Err c = first_fed (reading_value c.args.self.now) c.args.form c.args.line.now c.args.rest.now _ _ c.requires.words c.requires.rest c.in-Err.ensures.err.0 c.in-Err.ensures.err.1

pub returns-in-Err-read_second : goal.returns-in-Err-read_second
returns-in-Err-read_second c =
    second_fed (reading_value c.args.self.now) c.args.form c.args.line.now c.args.rest.now c.in-Ok.read.1.now c.in-Ok.read.0 _ _ c.requires.words (ends_on _ c.args.rest.now _ c.requires.rest c.in-Ok.ensures.rest) c.in-Ok.ensures.ok c.in-Err-read_second.ensures.err.0 c.in-Err-read_second.ensures.err.1

pub returns-in-Some : goal.returns-in-Some
returns-in-Some c =
    extra_fed (reading_value c.args.self.now) c.args.form c.args.line.now c.args.rest.now c.in-Ok.read.1.now c.in-Ok-read_second.read.1.now c.in-Ok.read.0 c.in-Ok-read_second.read.0 _ _ c.requires.words
    (ends_on _ c.args.rest.now _ c.requires.rest (ends_on _ c.in-Ok.read.1.now _ c.in-Ok.ensures.rest c.in-Ok-read_second.ensures.rest)) c.in-Ok.ensures.ok c.in-Ok-read_second.ensures.ok c.args.self.now.few_callers c.in-Ok.ensures.small c.in-Ok-read_second.ensures.small c.in-Ok.ensures.fits c.in-Some.ensures.piece c.in-Some.ensures.none c.in-Some.ensures.reason

pub returns : goal.returns
returns c =
    numbers_taken (reading_value c.args.self.now) (reading_value c.take.new.self) c.args.form c.args.line.now c.args.rest.now c.in-Ok.read.1.now c.in-Ok-read_second.read.1.now c.in-Ok.read.0 c.in-Ok-read_second.read.0 c.requires.words
    c.in-Ok.ensures.ok c.in-Ok-read_second.ensures.ok (rw c.in_default.is at c.extra_word.ensures.none) c.args.self.now.few_callers c.in-Ok.ensures.small c.in-Ok-read_second.ensures.small c.in-Ok.ensures.fits
    (ap (after_line (reading_value c.args.self.now)) (sym c.with_numbers.ensures) ∙ rw c.if-not-branch.false at c.in_ok-take.ensures)
