-- The report of a plan whose scripts run one after the other, caller by caller, up to the limit.
use Rattle.std.specs.Prelude.{ℕ, true, List, [], length, map, flat_map, take, count_by, slice_index_or, if◌then◌else◌, ◌==◌}
use Rattle.std.specs.List.{enumerate_from, range_with_len, zip}
use Rattle.of_script.specs.declared.instr.Instr.{Instr}
use Rattle.of_store.specs.Store.{Reply, empty_store, replies_in_order, last_store}
use Rattle.of_plan.specs.Plan.{Plan, scripts_of}
use Rattle.of_plan.specs.Report.{Entry, Line, done, spent, Report}

-- a call: its caller, and the index of its script
abbrev pub CallId : Type 0
CallId = ℕ × ℕ

-- the script of a call
abbrev pub called_script : Plan → CallId → List Instr
called_script p call = slice_index_or (scripts_of p call.0) call.1 []

-- the calls of a caller in the order of its scripts
abbrev pub calls_of : Plan → ℕ → List CallId
calls_of p c = map (λ i. (c, i)) (range_with_len 0 (length (scripts_of p c)))

-- all calls of a plan, caller by caller
abbrev pub all_calls : Plan → List CallId
all_calls p = flat_map (calls_of p) (range_with_len 0 p.callers)

-- the first calls of a plan, as many as there are sequences up to its limit
abbrev pub serial_calls : Plan → List CallId
serial_calls p = take p.limit (all_calls p)

-- the scripts of the calls that have a sequence
abbrev pub serial_scripts : Plan → List (List Instr)
serial_scripts p = map (called_script p) (serial_calls p)

-- the announced entry of a call with this sequence and this reply
abbrev pub serial_entry : ℕ × (CallId × Reply) → Entry
serial_entry (seq, (call, reply)) =
    record { seq = seq; caller = call.0; index = call.1; announced = true; reply = reply }

-- the line of a caller: done if all its scripts are answered, and otherwise spent
abbrev pub serial_line : (answered scripts : ℕ) → Line
serial_line answered scripts = record {
  state = if answered == scripts then done else spent;
  answered = answered;
  entries = answered;
  longest = 0;
}

-- the report of a serial run: its calls have the sequences 1, 2, .., with the replies and the last
-- store of serial replay, and no steps are counted
abbrev pub serial_report : Plan → Report
serial_report p = record {
  entries = map serial_entry (enumerate_from 1
      (zip (serial_calls p) (replies_in_order (empty_store p.blocks) (serial_scripts p))));
  callers = map (λ c. serial_line (count_by (λ call. call.0 == c) (serial_calls p))
      (length (scripts_of p c))) (range_with_len 0 p.callers);
  seq = length (serial_calls p);
  store = last_store (empty_store p.blocks) (serial_scripts p);
}
