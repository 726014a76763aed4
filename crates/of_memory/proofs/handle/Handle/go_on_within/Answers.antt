use Rattle.of_memory.proofs.handle.Handle.go_on_within.Goals as goal

pub returns-clause-behind : goal.returns-clause-behind
returns-clause-behind c = c.go_on_words_within.ensures.behind c.typed.result c.typed.ensures
