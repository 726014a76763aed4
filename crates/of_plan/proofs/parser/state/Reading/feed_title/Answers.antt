use Rattle.std.proofs.Common.{rules}
use Rattle.of_plan.specs.Reading.{reading_value}
use Rattle.of_plan.proofs.ScriptFeeding.{title_fed}
use Rattle.of_plan.proofs.parser.state.Reading.feed_title.Goals as goal

pub returns-in-Some : goal.returns-in-Some
returns-in-Some c = title_fed (reading_value c.args.self.now) c.args.line.now c.args.rest.now _ _ (search rules) c.requires.words c.requires.rest c.in-Some.ensures.0 c.in-Some.ensures.1
