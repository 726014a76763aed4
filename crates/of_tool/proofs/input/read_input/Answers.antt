use Rattle.of_tool.proofs.Telling.{fault_is_not_long, fault_refused, long_refused}
use Rattle.of_tool.proofs.input.read_input.Goals as goal

pub returns-in-Err-Fault : goal.returns-in-Err-Fault
returns-in-Err-Fault g c = fault_refused _ _ _ _ _ (c.in-Err-Fault.ensures.fault (cc)) (c.in-Err-Fault.ensures.not_too_long (fault_is_not_long c.in-Err-Fault.field-0 c.in-Err-Fault.field-0-is))

pub returns-in-Err-TooLong : goal.returns-in-Err-TooLong
returns-in-Err-TooLong g c = long_refused _ _ _ (c.in-Err-TooLong.ensures.too_long (cc))
