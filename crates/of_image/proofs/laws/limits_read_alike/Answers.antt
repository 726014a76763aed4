use Rattle.of_image.proofs.ImageFacts.{plan_in_table, table_in_plan}
use Rattle.of_image.proofs.laws.limits_read_alike.Goals as goal

pub returns : goal.returns
returns c = record { wider = plan_in_table; narrower = table_in_plan }
