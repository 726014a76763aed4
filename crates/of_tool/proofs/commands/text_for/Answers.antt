use Rattle.of_tool.proofs.Carried.{plain_makes}
use Rattle.of_tool.proofs.commands.text_for.Goals as goal

pub returns-in-Run : goal.returns-in-Run
returns-in-Run g c = rw c.in-Run.is c.run_text.ensures

pub returns-in-Continue : goal.returns-in-Continue
returns-in-Continue g c = rw c.in-Continue.is c.continue_text.ensures

pub returns-in_ok-load_text-in-Load : goal.returns-in_ok-load_text-in-Load
returns-in_ok-load_text-in-Load g c = λ source input. rw c.in-Load.is (c.in_ok-load_text-in-Load.ensures source)

pub returns-in_ok-plain_text-in_default : goal.returns-in_ok-plain_text-in_default
returns-in_ok-plain_text-in_default g c = λ source input. plain_makes _ _ _ _ c.plain_text.ensures.plain (c.in_ok-plain_text-in_default.ensures.made source input)
