use Rattle.of_memory.proofs.laws.none_stays_open.Goals as goal

pub returns : goal.returns
returns c m k l h g = c.none_stays_open.ensures m.cells k.cells l.cells h.cells g.cells
