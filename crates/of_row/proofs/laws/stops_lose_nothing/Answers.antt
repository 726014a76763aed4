use Rattle.of_row.proofs.Moments.{loses_nothing, closed_holds}
use Rattle.of_row.proofs.laws.stops_lose_nothing.Goals as goal

pub returns-clause-stops : goal.returns-clause-stops
returns-clause-stops g c B s r = loses_nothing _ _ B s r c.protocol.ensures c.every_order.ensures.order c.starts.ensures.restarts

pub returns-clause-closed : goal.returns-clause-closed
returns-clause-closed g c B ws v m live = closed_holds _ _ c.protocol.ensures c.every_order.ensures.order c.starts.ensures.restarts B ws v m live
