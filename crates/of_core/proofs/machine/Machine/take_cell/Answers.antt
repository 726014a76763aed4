use Rattle.std.proofs.Common.{◌≡◌, ◌≤◌, ◌∙◌, arith, ap, length, false, length-set}
use Rattle.of_cell.specs.Words.{seq_of}
use Rattle.of_mem.specs.Part.{Part}
use Rattle.of_core.specs.MachineValue.{machine_setup}
use Rattle.of_core.specs.declared.place.Place.TheVariants.{TryCell}
use Rattle.of_core.specs.Fit.{is_scanning}
use Rattle.of_core.proofs.Allows.{cell_words, cell_reads, try_agrees}
use Rattle.of_core.proofs.OwedRuns.{owes_try}
use Rattle.of_core.proofs.machine.Machine.take_cell.Goals as goal

pub returns-clause-owes : goal.returns-clause-owes
returns-clause-owes g c = λ _.
    let now = c.args.self.now in
    let S = machine_setup g.W.Work.meaning now in
    let L = g.W.Work.lawful now.work in
    let here = c.requires.here in
    let old : seq_of c.args.found ≤ now.call.seq = rw (← c.self.view_is) (omega arith) in
    let agrees = try_agrees S L now.call c.args.found c.requires.good c.args.addr here old in
    owes_try g.W.Work.meaning g.W.Work.lawful _ c.args.addr (rw (← c.self.view_is) at here)
    (rw (← c.self.view_is) at (cell_reads S L now.call c.args.found c.requires.good c.args.addr here))
    (rw (← c.self.view_is) at (cell_words S L now.call c.args.found c.requires.good c.args.addr here))
    (ap (λ (p : Part). length p.known) c.learn.ensures ∙ length-set c.self.inside.part.known _ _ ∙ c.self.invariant.fit.known)
    (rw (c.learn.ensures, c.payload_of.ensures) (rw (← c.self.view_is) at agrees))

pub returns-clause-kind : goal.returns-clause-kind
returns-clause-kind g c = λ _. rw (← c.self.view_is) at (ap is_scanning c.requires.here)

pub end_try-requires : goal.end_try-requires
end_try-requires g c =
    let now = c.args.self.now in
    record { some = rw (← c.self.view_is) at (cell_words (machine_setup g.W.Work.meaning now) (g.W.Work.lawful now.work) now.call c.args.found c.requires.good c.args.addr c.requires.here) }
