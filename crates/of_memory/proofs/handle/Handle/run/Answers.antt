use Rattle.std.proofs.Common.{sym}
use Rattle.of_memory.proofs.Called.{words_are}
use Rattle.of_memory.proofs.handle.Handle.run.Goals as goal

pub run_words-requires-clause-words : goal.run_words-requires-clause-words
run_words-requires-clause-words c =
    (c.args.script.now, c.len-len.ensures.fits, words_are c.args.script.now c.len-len.result c.len-len.ensures.len c.to_words.new.out _ c.to_words.ensures.words)

pub returns-clause-made : goal.returns-clause-made
returns-clause-made c =
    let words = words_are c.args.script.now c.len-len.result c.len-len.ensures.len c.to_words.new.out _ c.to_words.ensures.words in
    c.run_words.ensures.made c.typed.result c.typed.ensures c.args.script.now c.len-len.ensures.fits (sym words)

pub returns-clause-open_call : goal.returns-clause-open_call
returns-clause-open_call c =
    let words = words_are c.args.script.now c.len-len.result c.len-len.ensures.len c.to_words.new.out _ c.to_words.ensures.words in
    c.run_words.ensures.open_call c.typed.result c.typed.ensures c.args.script.now c.len-len.ensures.fits (sym words)

pub returns-clause-only : goal.returns-clause-only
returns-clause-only c =
    let words = words_are c.args.script.now c.len-len.result c.len-len.ensures.len c.to_words.new.out _ c.to_words.ensures.words in
    c.run_words.ensures.only c.args.script.now c.len-len.ensures.fits (sym words)

pub returns-clause-behind : goal.returns-clause-behind
returns-clause-behind c = c.run_words.ensures.behind c.typed.result c.typed.ensures
