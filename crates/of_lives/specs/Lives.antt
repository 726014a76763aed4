-- Lives: runs of plans one after the other, each from the start that the life before it has left.
use Rattle.std.specs.Prelude.{ℕ, ◌+◌, max, List, [], ◌∷◌, length, map, if◌then◌else◌}
use Rattle.std.specs.List.{range_with_len}
use Rattle.of_plan.specs.Plan.{Plan}
use Rattle.of_plan.specs.Report.{Entry, Report, Start, entries_of, finished_of}
use Rattle.of_plan.specs.Legal.{IsLegal}

-- a life: a plan, and the report of its run
pub record Life : Type 0 where
  pub plan : Plan
  pub report : Report

-- How many scripts of a caller are done after these entries of the caller, if `n` were done before:
-- all scripts up to that of the last announced entry. If no entry was announced, `n` scripts are
-- done.
abbrev pub done_behind : (n : ℕ) → List Entry → ℕ
done_behind n [] = n
done_behind n (e ∷ es) = done_behind (if e.announced then e.index + 1 else n) es

-- the number of callers after a life: that of the start or that of the life's plan, whichever is
-- greater
abbrev pub callers_with : Start → Life → ℕ
callers_with s l = max (length s.finished) l.plan.callers

-- how many scripts of each caller are done after a life
abbrev pub finished_behind : Start → Life → List ℕ
finished_behind s l =
    map (λ c. done_behind (finished_of s c) (entries_of l.report c))
    (range_with_len 0 (callers_with s l))

-- the start that a life leaves: the life's last store and sequence, and for each caller how many
-- scripts are done, up to its last announced call
abbrev pub start_behind : Start → Life → Start
start_behind s l = record {
  store = l.report.store;
  seq = l.report.seq;
  finished = finished_behind s l;
}

-- the start after these lives: the first life begins at `s`, and each later one at the start that
-- the life before it leaves
abbrev pub start_behind_all : Start → List Life → Start
start_behind_all s [] = s
start_behind_all s (l ∷ ls) = start_behind_all (start_behind s l) ls

-- `P` holds of each life and of the start that the lives before it leave
abbrev pub EachLife : (Start → Life → Type 0) → Start → List Life → Type 0
EachLife P s [] = Unit {0}
EachLife P s (l ∷ ls) = P s l × EachLife P (start_behind s l) ls

-- the life's report is legal from this start
abbrev pub IsLifeFrom : Start → Life → Type 0
IsLifeFrom s l = IsLegal l.plan s l.report

-- each life has a report that is legal from the start that the life before it leaves; the first
-- life's is legal from `s`
abbrev pub AreLives : Start → List Life → Type 0
AreLives s ls = EachLife IsLifeFrom s ls

-- the start `s` with sequence 0 instead of its own
abbrev pub renumbered_start : Start → Start
renumbered_start s = record s { seq = 0 }

-- The start that these spans leave. A span is a list of lives whose sequences go on from life to
-- life. After each span the sequences begin anew.
abbrev pub start_behind_spans : Start → List (List Life) → Start
start_behind_spans s [] = s
start_behind_spans s (ls ∷ spans) =
    start_behind_spans (renumbered_start (start_behind_all s ls)) spans

-- `P` holds of each span and of the start from which the span begins
abbrev pub EachSpan : (Start → List Life → Type 0) → Start → List (List Life) → Type 0
EachSpan P s [] = Unit {0}
EachSpan P s (ls ∷ spans) =
    P s ls × EachSpan P (renumbered_start (start_behind_all s ls)) spans

-- each life has a legal report from the start that the life before it leaves; between two spans
-- this start gets sequence 0
abbrev pub AreSpans : Start → List (List Life) → Type 0
AreSpans s spans = EachSpan AreLives s spans
