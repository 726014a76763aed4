-- Two worked lives, and four lives that can't be the second one: each differs from the second life
-- in a number or an entry.
use Rattle.std.specs.Prelude.{ℕ, true, false, Option, Some, List, [], ◌∷◌, map}
use Rattle.of_script.specs.declared.instr.Instr.TheVariants.{Load, Store, Add}
use Rattle.of_store.specs.Store.{Reply, Answered, empty_store, with_register}
use Rattle.of_plan.specs.Plan.{Plan}
use Rattle.of_plan.specs.Report.{Entry, Line, done, Start, empty_start}
use Rattle.of_plan.specs.Worked.{two_callers, worked_entry, legal_report}
use Rattle.of_lives.specs.Lives.{Life, start_behind_all, AreLives, AreSpans}
use Rattle.of_lives.specs.OneHistory.{own_in}

-- nothing is stored and nothing is done before the first life
abbrev pub worked_start : Start
worked_start = empty_start two_callers

-- the first life: the first caller stores, and then reads a 6 by a call that wasn't announced; the
-- second caller reads, and then adds
abbrev pub first_life : Life
first_life = record { plan = two_callers; report = legal_report }

-- the plan of the first life, with one more script of the second caller, which adds again
abbrev pub one_more_script : Plan
one_more_script = record two_callers {
  scripts =
      ((Store 0 5 ∷ []) ∷ (Load 0 ∷ []) ∷ [])
      ∷ ((Load 0 ∷ []) ∷ (Add 0 1 ∷ []) ∷ (Add 0 1 ∷ []) ∷ []) ∷ [];
}

-- the line of a caller that is done, with this many calls
abbrev pub done_with : (calls longest : ℕ) → Line
done_with calls longest = record {
  state = done;
  answered = calls;
  entries = calls;
  longest = longest;
}

-- a life in which the second caller adds, by its script `x` at sequence `k`, and answers `v`; then
-- come these reads
abbrev pub adds : (x k v : ℕ) → List Entry → Line → Life
adds x k v reads line = record {
  plan = one_more_script;
  report = record {
    entries = worked_entry k 1 x true (Some v) ∷ reads;
    callers = line ∷ done_with 1 60 ∷ [];
    seq = k;
    store = with_register (empty_store 0) 0 v;
  };
}

-- a life in which the second caller adds, by its script `x` at sequence `k`, and then the first
-- caller makes its read again; both calls are answered `v`
abbrev pub adds_and_reads : (x k v : ℕ) → Life
adds_and_reads x k v = adds x k v (worked_entry k 0 1 false (Some v) ∷ []) (done_with 1 60)

-- The second life goes on after the announced calls of the first: the second caller runs its third
-- script. The first caller makes its unannounced read again.
abbrev pub second_life : Life
second_life = adds_and_reads 2 2 7

-- the first life and then the second
abbrev pub both_lives : List Life
both_lives = first_life ∷ second_life ∷ []

-- the indices of the scripts that a caller's entries run, in both lives, in order
abbrev pub asked_by : (caller : ℕ) → List ℕ
asked_by c = map (λ e. e.index) (own_in both_lives c)

-- the replies of a caller's entries in both lives, in order
abbrev pub replies_to : (caller : ℕ) → List Reply
replies_to c = map (λ e. e.reply) (own_in both_lives c)

-- how many scripts of each caller are done after both lives
abbrev pub done_in_both : List ℕ
done_in_both = (start_behind_all worked_start both_lives).finished

-- the reply to a script of one instruction, if the instruction has answered this number or none
abbrev pub one_number_reply : Option ℕ → Reply
one_number_reply v = Answered (v ∷ [])

-- a life that cannot be the second one: it runs a call again that was announced in the first life
abbrev pub runs_again : Life
runs_again = adds_and_reads 1 2 7

-- a life that cannot be the second one: it begins at sequence 0 again
abbrev pub begins_anew : Life
begins_anew = adds_and_reads 2 1 7

-- a life that cannot be the second one: it begins with an empty store
abbrev pub forgets_store : Life
forgets_store = adds_and_reads 2 2 1

-- a life that cannot be the second one: it does not make the first life's read again, as if this
-- read counted as done
abbrev pub skips_read : Life
skips_read = adds 2 2 7 [] (done_with 0 0)

-- the life may come after the first one
abbrev pub FollowsFirst : Life → Type 0
FollowsFirst l = AreLives worked_start (first_life ∷ l ∷ [])

-- the life may come after the first one, if sequences begin anew between them
abbrev pub FollowsRenumbered : Life → Type 0
FollowsRenumbered l = AreSpans worked_start ((first_life ∷ []) ∷ (l ∷ []) ∷ [])
