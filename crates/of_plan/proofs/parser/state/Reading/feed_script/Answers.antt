use Rattle.std.proofs.Common.{sym, refl, ◌∙◌, arith}
use Rattle.of_plan.specs.Reading.{reading_value}
use Rattle.of_plan.specs.declared.parser.state.Stage.TheVariants.{Body as InBody}
use Rattle.of_plan.proofs.BadPieces.{ends_on}
use Rattle.of_plan.proofs.ScriptFeeding.{number_fed, caller_fed, script_fed, script_takes, script_taken}
use Rattle.of_plan.proofs.parser.state.Reading.feed_script.Goals as goal

pub returns-in-Err : goal.returns-in-Err
returns-in-Err c = number_fed (reading_value c.args.self.now) c.args.line.now c.args.rest.now _ _ c.requires.words c.requires.rest c.in-Err.ensures.err c.in-Err.ensures.piece c.in-Err.ensures.reason

pub returns-then-caller-self : goal.returns-then-caller-self
returns-then-caller-self c =
    caller_fed (reading_value c.args.self.now) c.args.line.now c.args.rest.now c.in-Ok.read.1.now c.in-Ok.read.0 _ _ c.requires.words c.requires.rest c.in-Ok.ensures.ok (omega (arith, c.if-caller-self.true)) c.in-Ok.ensures.small
    c.bad_word-then-caller-self.ensures.piece c.bad_word-then-caller-self.ensures.reason

pub returns-then-not-parse_into : goal.returns-then-not-parse_into
returns-then-not-parse_into c =
    let few = c.args.self.now.few_callers in
    script_fed (reading_value c.args.self.now) c.args.line.now c.args.rest.now c.in-Ok.read.1.now c.in-Ok.read.0 _ _ c.requires.words (ends_on _ c.args.rest.now _ c.requires.rest c.in-Ok.ensures.rest) c.in-Ok.ensures.ok (omega (arith, few, c.if-caller-self.false))
    (λ script spells. absurd (let wrong = c.if-not-parse_into.ensures.only script spells in cc)) c.script_fault.ensures

pub unreachable-requires : goal.unreachable-requires
unreachable-requires c =
    script_takes (record (reading_value c.args.self.now) { stage = InBody }) c.in-Ok.read.0 c.parse_into.new.script (omega (arith, c.if-caller-self.false)) (omega (arith, c.if-self-ge-MOST_SCRIPTS.false)) (rw c.if-not-branch.true at c.in_ok-take_script.ensures)

pub returns : goal.returns
returns c =
    let few = c.args.self.now.few_callers in
    script_taken (reading_value c.args.self.now) (reading_value c.take_script.new.self) c.args.line.now c.args.rest.now c.in-Ok.read.1.now c.in-Ok.read.0 c.parse_into.new.script c.requires.words c.in-Ok.ensures.ok (c.if-not-parse_into.ensures.ok refl) (omega (arith, few, c.if-caller-self.false))
    (sym c.is_below_heading.ensures ∙ c.if-not-is_below_heading.false) (rw c.if-not-branch.false at c.in_ok-take_script.ensures)
