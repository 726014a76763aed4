use Rattle.of_mem.specs.Places.{base_of}
use Rattle.of_eval.proofs.WriteScripts.{may_run_words, has_run_words}
use Rattle.of_eval.proofs.scripts.ScriptsWork.run_from.Goals as goal

pub write_words-requires-clause-may : goal.write_words-requires-clause-may
write_words-requires-clause-may g c = may_run_words c.args.self.now c.args.op.now c.plot.result (λ i. base_of (c.plot.ensures.callers i) (c.plot.ensures.instrs i)) c.plot.ensures.blocks _ c.requires.may

pub returns-clause-ran : goal.returns-clause-ran
returns-clause-ran g c = has_run_words c.args.self.now c.args.op.now c.plot.result (λ i. base_of (c.plot.ensures.callers i) (c.plot.ensures.instrs i)) c.plot.ensures.blocks _ c.requires.may (g.C.Cells.run c.write_words.new.cells) c.write_words.result c.args.out.now c.write_words.new.out c.write_words.ensures.runs c.write_words.ensures.aborted c.write_words.ensures.out
