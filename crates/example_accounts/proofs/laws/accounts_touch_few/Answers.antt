use Rattle.example_accounts.specs.Sound.{small_programs}
use Rattle.example_accounts.proofs.laws.accounts_touch_few.Goals as goal

pub programs_touch_few-requires : goal.programs_touch_few-requires
programs_touch_few-requires c = small_programs c.args.work
