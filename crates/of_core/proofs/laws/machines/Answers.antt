use Rattle.of_core.proofs.laws.machines.Goals as goal
use Rattle.of_core.proofs.Found.{found_now, turn_is_step}
use Rattle.of_core.proofs.Idle.{idle_or_open, idle_stays, rests_idle, idle_reads}
use Rattle.of_core.proofs.Ordering.{idle_is}

pub returns : goal.returns
returns c = record {
  idle_or_open = idle_or_open;
  idle_is = idle_is;
  idle_stays = idle_stays;
  idle_rests = λ m e. (rests_idle m e, idle_reads m e);
  finds = found_now;
  turns = turn_is_step;
}
