use Rattle.std.proofs.Common.{◌+◌, ◌-◌, ◌*◌, length}
use Rattle.of_caller.proofs.join_tree.+tree.Given as goal

abbrev pub decreases-run_all : goal.decreases-run_all
decreases-run_all g l = 4 * length l.items.now

abbrev pub decreases-run_both : goal.decreases-run_both
decreases-run_both g l = 4 * (length l.front.now + length l.back.now) - 1

abbrev pub decreases-run_both-left : goal.decreases-run_both-left
decreases-run_both-left g l = 4 * length l.front.now + 1

abbrev pub decreases-run_both-right : goal.decreases-run_both-right
decreases-run_both-right g l = 4 * length l.back.now + 1
