use Rattle.of_mem.specs.Places.{base_of}
use Rattle.of_eval.proofs.ReadScripts.{words_of, may_read_words, has_read_words}
use Rattle.of_eval.proofs.scripts.ScriptsWork.read_from.Goals as goal

pub read_words-requires-clause-may : goal.read_words-requires-clause-may
read_words-requires-clause-may g c = may_read_words c.args.self.now c.args.op.now c.plot.result (λ i. base_of (c.plot.ensures.callers i) (c.plot.ensures.instrs i)) c.plot.ensures.blocks _ c.requires.may

pub read_words-requires-clause-reads : goal.read_words-requires-clause-reads
read_words-requires-clause-reads g c = words_of c.args.op.now c.requires.reads

pub returns-clause-ran : goal.returns-clause-ran
returns-clause-ran g c = has_read_words c.args.self.now c.args.op.now c.plot.result (λ i. base_of (c.plot.ensures.callers i) (c.plot.ensures.instrs i)) c.plot.ensures.blocks _ c.requires.may (g.C.Cells.run c.read_words.new.cells) c.read_words.result c.args.out.now c.read_words.new.out c.read_words.ensures.part c.read_words.ensures.runs c.read_words.ensures.out
