use Rattle.of_c.proofs.held.Seat.run.Goals as goal

pub returns-clause-runs : goal.returns-clause-runs
returns-clause-runs c a typed script is words = record {
  same = c.run_words.ensures.same;
  made = c.run_words.ensures.made a typed script is words;
  open_call = c.run_words.ensures.open_call a typed script is words;
  cause = c.run_words.ensures.cause a typed;
  unmade = c.run_words.ensures.unmade a typed;
  bound = c.run_words.ensures.bound a typed;
  rise = c.run_words.ensures.rise;
  within = c.run_words.ensures.stopped a typed;
  given = tt;
  only = c.run_words.ensures.only script is words;
  behind = c.run_words.ensures.behind a typed;
  knows = c.run_words.ensures.knows;
  alone = c.run_words.ensures.alone;
  seq = c.run_words.ensures.seq a typed;
}
