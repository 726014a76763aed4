use Rattle.std.proofs.Common.{◌∙◌}
use Rattle.example_queue.specs.Workers.{OnlyTakes}
use Rattle.example_queue.proofs.Workers.{still_queue, worked_off}
use Rattle.example_queue.proofs.work.Goals as goal

pub returns-clause-works : goal.returns-clause-works
returns-clause-works g c =
    let m = c.args.memory in
    let k = c.at_once.new.self in
    let n = c.at_once-2.new.self in
    let one = c.in_ok-at_once.ensures in
    let two = c.in_ok-at_once-2.ensures in
    let noon = still_queue (λ x h y j. OnlyTakes h j) (λ x y h j takes. takes) m k one.still c.requires.queue _ _ one.worked one.rest (c.memories_stay.ensures m k one.still).callers in
    let evening = still_queue (λ x h y j. OnlyTakes h j) (λ x y h j takes. takes) k n two.still noon _ _ two.worked two.rest (c.memories_stay.ensures k n two.still).callers in
    λ s starts. worked_off n c.in_ok-close.field-0 evening c.in_ok-close.ensures.history s ((c.memories_stay.ensures m n (two.still ∙ one.still)).store s starts)
