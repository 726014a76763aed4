use Rattle.std.proofs.Common.{ℕ, Option, sym, subst}
use Rattle.of_c.specs.Calls.{GoesOn}
use Rattle.of_c.proofs.held.Seat.go_on.Goals as goal

pub returns-in-Some-clause-runs : goal.returns-in-Some-clause-runs
returns-in-Some-clause-runs c a typed =
    subst (λ (l : Option ℕ). GoesOn l c.args.self.now.handle a c.go_on_words_within.new.self) (sym c.in-Some.is)
    (record {
      same = c.go_on_words_within.ensures.same;
      made = c.go_on_words_within.ensures.made a typed;
      open_call = c.go_on_words_within.ensures.open_call a typed;
      cause = c.go_on_words_within.ensures.cause a typed;
      unmade = c.go_on_words_within.ensures.unmade a typed;
      bound = c.go_on_words_within.ensures.bound a typed;
      rise = c.go_on_words_within.ensures.rise;
      within = c.go_on_words_within.ensures.within a typed;
      given = c.go_on_words_within.ensures.given;
      only = c.go_on_words_within.ensures.only;
      behind = c.go_on_words_within.ensures.behind a typed;
      knows = c.go_on_words_within.ensures.knows;
      alone = c.go_on_words_within.ensures.alone;
      seq = c.go_on_words_within.ensures.seq a typed;
    })

pub returns-in-None-clause-runs : goal.returns-in-None-clause-runs
returns-in-None-clause-runs c a typed =
    subst (λ (l : Option ℕ). GoesOn l c.args.self.now.handle a c.go_on_words.new.self) (sym c.in-None.is)
    (record {
      same = c.go_on_words.ensures.same;
      made = c.go_on_words.ensures.made a typed;
      open_call = c.go_on_words.ensures.open_call a typed;
      cause = c.go_on_words.ensures.cause a typed;
      unmade = c.go_on_words.ensures.unmade a typed;
      bound = c.go_on_words.ensures.bound a typed;
      rise = c.go_on_words.ensures.rise;
      within = c.go_on_words.ensures.stopped a typed;
      given = tt;
      only = c.go_on_words.ensures.only;
      behind = c.go_on_words.ensures.behind a typed;
      knows = c.go_on_words.ensures.knows;
      alone = c.go_on_words.ensures.alone;
      seq = c.go_on_words.ensures.seq a typed;
    })
