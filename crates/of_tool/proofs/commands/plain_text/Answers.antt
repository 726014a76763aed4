use Rattle.std.proofs.Common.{◌∙◌}
use Rattle.of_tool.proofs.commands.plain_text.Goals as goal

pub returns-in-Check-clause-made : goal.returns-in-Check-clause-made
returns-in-Check-clause-made c = rw c.in-Check.is c.check_text.ensures

pub returns-in-CheckLife-clause-made : goal.returns-in-CheckLife-clause-made
returns-in-CheckLife-clause-made c = rw c.in-CheckLife.is c.life_text.ensures

pub returns-in-Part-clause-made : goal.returns-in-Part-clause-made
returns-in-Part-clause-made c = rw c.in-Part.is c.part_text.ensures

pub returns-in-Recover-clause-made : goal.returns-in-Recover-clause-made
returns-in-Recover-clause-made c = rw c.in-Recover.is c.recovered_text.ensures

pub returns-in-Renumber-clause-made : goal.returns-in-Renumber-clause-made
returns-in-Renumber-clause-made c = rw c.in-Renumber.is c.renumbered_text.ensures

pub returns-in-Migrate-clause-made : goal.returns-in-Migrate-clause-made
returns-in-Migrate-clause-made c = rw c.in-Migrate.is c.migrated_text.ensures

pub returns-in_ok-from_slice-in-Help-clause-made : goal.returns-in_ok-from_slice-in-Help-clause-made
returns-in_ok-from_slice-in-Help-clause-made c = λ source input. rw c.in-Help.is (c.in_ok-from_slice-in-Help.ensures.items ∙ c.as_bytes.ensures.value)

pub returns-in_ok-from_slice-in-Version-clause-made : goal.returns-in_ok-from_slice-in-Version-clause-made
returns-in_ok-from_slice-in-Version-clause-made c = λ source input. rw c.in-Version.is (c.in_ok-from_slice-in-Version.ensures.items ∙ c.as_bytes-in-Version.ensures.value)
