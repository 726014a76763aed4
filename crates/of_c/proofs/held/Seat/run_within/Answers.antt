use Rattle.of_c.proofs.held.Seat.run_within.Goals as goal

pub returns-clause-runs : goal.returns-clause-runs
returns-clause-runs c a typed script is words = record {
  same = c.run_words_within.ensures.same;
  made = c.run_words_within.ensures.made a typed script is words;
  open_call = c.run_words_within.ensures.open_call a typed script is words;
  cause = c.run_words_within.ensures.cause a typed;
  unmade = c.run_words_within.ensures.unmade a typed;
  bound = c.run_words_within.ensures.bound a typed;
  rise = c.run_words_within.ensures.rise;
  within = c.run_words_within.ensures.within a typed;
  given = c.run_words_within.ensures.given;
  only = c.run_words_within.ensures.only script is words;
  behind = c.run_words_within.ensures.behind a typed;
  knows = c.run_words_within.ensures.knows;
  alone = c.run_words_within.ensures.alone;
  seq = c.run_words_within.ensures.seq a typed;
}
