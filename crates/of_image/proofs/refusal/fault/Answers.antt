use Rattle.of_image.proofs.refusal.fault.Goals as goal
use Rattle.of_image.proofs.refusal.fault.Goals.{in-Ok, in-Err-Memory, in-Err-Fault}

pub returns : goal.returns
returns c = elim c.match-read.branch [
  | in-Ok w ↦ rw w.result-is (_, w.in-Ok.ensures.ok)
  | in-Err-Memory w ↦ rw w.result-is tt
  | in-Err-Fault w ↦ (let h = rw w.in-Err-Fault.field-0-is at w.in-Err-Fault.ensures in rw w.result-is h.bad)
]
