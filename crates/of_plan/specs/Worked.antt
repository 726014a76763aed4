-- A worked legal report, and seven reports that differ from it in one field and are not legal.
use Rattle.std.specs.Prelude.{ℕ, ◌+◌, Bool, true, false, Option, Some, None, [], ◌∷◌}
use Rattle.of_script.specs.declared.instr.Instr.TheVariants.{Load, Store as StoreInstr, Add}
use Rattle.of_store.specs.Store.{Store, Answered, empty_store, with_register}
use Rattle.of_plan.specs.Plan.{Plan, bound_of}
use Rattle.of_plan.specs.Report.{Entry, Line, done, stopped, Report}

-- a plan of two callers: one stores and loads, the other loads and adds
abbrev pub two_callers : Plan
two_callers = record {
  callers = 2;
  blocks = 0;
  limit = 9;
  scripts = ((StoreInstr 0 5 ∷ []) ∷ (Load 0 ∷ []) ∷ [])
      ∷ ((Load 0 ∷ []) ∷ (Add 0 1 ∷ []) ∷ []) ∷ [];
  stops = None ∷ None ∷ [];
  schedule = [];
}

-- an entry of a script with one instruction, which answers a number or none
abbrev pub worked_entry : (seq caller index : ℕ) → Bool → Option ℕ → Entry
worked_entry seq caller index announced value = record {
  seq = seq;
  caller = caller;
  index = index;
  announced = announced;
  reply = Answered (value ∷ []);
}

abbrev pub stores_five : Entry
stores_five = worked_entry 1 0 0 true None

abbrev pub loads_six : Entry
loads_six = worked_entry 1 0 1 false (Some 6)

abbrev pub loads_nothing : Entry
loads_nothing = worked_entry 0 1 0 false (Some 0)

abbrev pub adds_one : Entry
adds_one = worked_entry 1 1 1 true (Some 6)

-- the line of a caller that has answered both its scripts
abbrev pub both_done : Line
both_done = record { state = done; answered = 2; entries = 2; longest = 60 }

-- the store with 6 in its first register
abbrev pub holds_six : Store
holds_six = with_register (empty_store 0) 0 6

-- a report with two fixed entries and then these two, and with this line of the second caller
abbrev pub worked_report : (third fourth : Entry) → (second : Line) → ℕ → Store → Report
worked_report third fourth second seq store = record {
  entries = loads_nothing ∷ stores_five ∷ third ∷ fourth ∷ [];
  callers = both_done ∷ second ∷ [];
  seq = seq;
  store = store;
}

-- the second caller reads before it adds, and the first after it stored
abbrev pub legal_report : Report
legal_report = worked_report adds_one loads_six both_done 1 holds_six

-- a report that is not legal: a script comes a second time
abbrev pub script_twice : Report
script_twice = worked_report (worked_entry 1 1 0 true (Some 6)) loads_six both_done 1 holds_six

-- a report that is not legal: a caller's line counts one entry more than the report has
abbrev pub entry_too_many : Report
entry_too_many = worked_report adds_one loads_six (record both_done { entries = 3 }) 1 holds_six

-- a report that is not legal: no entry was announced at the last sequence
abbrev pub sequence_left_out : Report
sequence_left_out = worked_report adds_one loads_six both_done 2 holds_six

-- a report that is not legal: a read misses what was added before it
abbrev pub stale_read : Report
stale_read = worked_report adds_one (worked_entry 1 0 1 false (Some 5)) both_done 1 holds_six

-- a report that is not legal: what was written isn't in the store
abbrev pub writes_lost : Report
writes_lost = worked_report adds_one loads_six both_done 1 (empty_store 0)

-- a report that is not legal: a caller without a script left is stopped
abbrev pub stopped_at_the_end : Report
stopped_at_the_end =
    worked_report adds_one loads_six (record both_done { state = stopped }) 1 holds_six

-- a report that is not legal: a call made one step more than the step bound
abbrev pub step_too_many : Report
step_too_many =
    worked_report adds_one loads_six
    (record both_done { longest = bound_of two_callers + 1 }) 1 holds_six
