use Rattle.std.proofs.Common.{sym}
use Rattle.of_cells.specs.Handles as handles
use Rattle.of_cells.specs.Sequences as sequences
use Rattle.of_cells.specs.Telling as telling
use Rattle.of_cells.specs.Within as within
use Rattle.of_eval.specs.Scripts.{scripts_meaning}
use Rattle.of_memory.specs.Handles.{step_bound_of}
use Rattle.of_memory.proofs.Called.{begun, made_typed, of_typed, open_typed, opens_only, unmade_typed}
use Rattle.of_memory.proofs.Replaying.{some_typed}
use Rattle.of_memory.proofs.handle.Handle.run_words_within.Goals as goal

pub returns-clause-handle : goal.returns-clause-handle
returns-clause-handle c =
    begun c.args.self.now _ c.args.words.now c.run_within.result c.requires.words c.requires.handle c.run_within.ensures.handle c.run_within.ensures.same c.run_within.ensures.made c.run_within.ensures.only

pub returns-clause-some : goal.returns-clause-some
returns-clause-some c = some_typed c.args.self.now c.requires.handle c.args.words.now c.requires.words c.run_within.result c.run_within.ensures.means

pub returns-clause-made : goal.returns-clause-made
returns-clause-made c a told script is words = made_typed _ _ _ script is (sym words) c.run_within.result c.run_within.ensures.made a told

pub returns-clause-open_call : goal.returns-clause-open_call
returns-clause-open_call c a told script is words = open_typed _ _ script is (sym words) c.run_within.result c.run_within.ensures.open_call a told

pub returns-clause-cause : goal.returns-clause-cause
returns-clause-cause c = of_typed (handles.RefusesCall c.args.self.now.cells) (λ a h. h) c.run_within.result c.run_within.ensures.cause

pub returns-clause-unmade : goal.returns-clause-unmade
returns-clause-unmade c = unmade_typed c.args.self.now _ c.run_within.result c.run_within.ensures.unmade

pub returns-clause-bound : goal.returns-clause-bound
returns-clause-bound c = of_typed (within.EndsWithin (step_bound_of c.args.self.now)) (λ a h. h) c.run_within.result c.run_within.ensures.bound

pub returns-clause-within : goal.returns-clause-within
returns-clause-within c = of_typed (within.KeepsWithin 0 c.args.steps (handles.steps_so_far c.run_within.new.self)) (λ a h. h) c.run_within.result c.run_within.ensures.within

pub returns-clause-only : goal.returns-clause-only
returns-clause-only c script is words = opens_only c.args.self.now _ _ script is (sym words) c.run_within.ensures.only

pub returns-clause-behind : goal.returns-clause-behind
returns-clause-behind c = of_typed (λ q. telling.BeginsAfterHeard scripts_meaning q c.args.self.now.cells c.run_within.new.self) (λ a h. h) c.run_within.result c.run_within.ensures.behind

pub returns-clause-seq : goal.returns-clause-seq
returns-clause-seq c = of_typed (λ q. sequences.KnowsSeqOf q c.args.self.now.cells c.run_within.new.self) (λ a h. h) c.run_within.result c.run_within.ensures.seq
