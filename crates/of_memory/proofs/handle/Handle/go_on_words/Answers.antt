use Rattle.of_cells.specs.Handles as handles
use Rattle.of_cells.specs.Sequences as sequences
use Rattle.of_cells.specs.Telling as telling
use Rattle.of_cells.specs.Within as within
use Rattle.of_eval.specs.Scripts.{scripts_meaning}
use Rattle.of_memory.specs.Handles.{step_bound_of}
use Rattle.of_memory.proofs.Called.{resumed, made_typed, of_typed, open_typed, unmade_typed}
use Rattle.of_memory.proofs.Replaying.{some_resumed}
use Rattle.of_memory.proofs.handle.Handle.go_on_words.Goals as goal

pub returns-clause-some : goal.returns-clause-some
returns-clause-some c = some_resumed c.args.self.now c.requires c.go_on.result c.go_on.ensures.cause c.go_on.ensures.means

pub returns-clause-handle : goal.returns-clause-handle
returns-clause-handle c =
    resumed c.args.self.now _ c.go_on.result c.go_on.ensures.cause c.requires c.go_on.ensures.handle c.go_on.ensures.same c.go_on.ensures.made c.go_on.ensures.only

pub returns-clause-made : goal.returns-clause-made
returns-clause-made c a told script ms opened made =
    made_typed _ _ _ script opened.is opened.opened.1 c.go_on.result c.go_on.ensures.made a told ms made

pub returns-clause-open_call : goal.returns-clause-open_call
returns-clause-open_call c a told script opened =
    open_typed _ _ script opened.is opened.opened.1 c.go_on.result c.go_on.ensures.open_call a told

pub returns-clause-cause : goal.returns-clause-cause
returns-clause-cause c = of_typed (handles.RefusesToGoOn c.args.self.now.cells) (λ a h. h) c.go_on.result c.go_on.ensures.cause

pub returns-clause-unmade : goal.returns-clause-unmade
returns-clause-unmade c = unmade_typed c.args.self.now _ c.go_on.result c.go_on.ensures.unmade

pub returns-clause-bound : goal.returns-clause-bound
returns-clause-bound c = of_typed (within.EndsWithin (step_bound_of c.args.self.now)) (λ a h. h) c.go_on.result c.go_on.ensures.bound

pub returns-clause-stopped : goal.returns-clause-stopped
returns-clause-stopped c = of_typed within.IsNeverStopped (λ a h. h) c.go_on.result c.go_on.ensures.stopped

pub returns-clause-behind : goal.returns-clause-behind
returns-clause-behind c = of_typed (λ q. telling.ResumesAfterHeard scripts_meaning q c.args.self.now.cells c.go_on.new.self) (λ a h. h) c.go_on.result c.go_on.ensures.behind

pub returns-clause-seq : goal.returns-clause-seq
returns-clause-seq c = of_typed (λ q. sequences.KnowsSeqOf q c.args.self.now.cells c.go_on.new.self) (λ a h. h) c.go_on.result c.go_on.ensures.seq
