-- What contracts see of a machine's fields, and what it keeps of them.
use Rattle.std.specs.Prelude.{◌≡◌, ℕ, map}
use Rattle.std.proofs.Common.{take}
use Rattle.std.specs.Vec.{vec_capacity}
use Rattle.of_cell.specs.Cells.{durable_cells, log_cell}
use Rattle.of_mem.specs.Meaning.{Meaning}
use Rattle.of_mem.specs.declared.work.TheConstants.{MOST_INSTRS}
use Rattle.of_core.specs.declared.call.Call.{Call as RustCall}
use Rattle.of_core.specs.declared.machine.Machine.TheInside.{Inside}
use Rattle.of_core.specs.Machine.{Call}
use Rattle.of_core.specs.MachineValue.{Machine, machine_setup}
use Rattle.of_core.specs.Fit.{FitsSizes, HasRoomInParts}

-- a call that a scan has run, as contracts see it
abbrev pub call_value : RustCall → Call
call_value c = record { caller = c.caller; ticket = c.ticket; op = take c.words c.op; raw = c.raw }

-- a machine as contracts see it: its work, its sizes, its limit and the state of its call
abbrev pub machine_value : {W : Type 0} → Inside W → Machine W
machine_value m = record {
  work = m.work;
  callers = m.shape.callers;
  cells = m.shape.cells;
  limit = m.limit;
  call = record {
    caller = m.caller;
    made = m.made;
    op = m.op.items;
    place = m.place;
    seq = m.seq;
    owner = m.owner;
    known = m.part.known;
    log = m.log.entries;
    copy = m.copy.items;
    helps = m.helps;
    raw = m.raw;
    answer = m.answer;
    kept = m.kept;
    steps = m.steps;
    rounds = m.rounds;
    first = m.first;
    tries = m.tries;
    scan = m.scan;
    heard = m.heard;
    script = m.script.items;
    calls = map call_value m.calls.items;
  };
}

-- What every machine keeps: its sizes fit its work, its next step is a step on the table, and its
-- lists have the room that it needs.
pub record IsFit {W : Type 0} (many size : W → ℕ) (meaning : W → Meaning) (m : Inside W)
    : Type 0 where
  pub instrs : m.shape.instrs ≡ MOST_INSTRS
  pub durable : m.durable ≡ durable_cells m.shape.callers m.shape.cells
  pub own_log : m.own_log ≡ log_cell m.shape.callers m.shape.cells m.caller 0
  pub fit : FitsSizes (many m.work) (size m.work) (machine_setup meaning (machine_value m))
      (machine_value m).call
  pub room : HasRoomInParts (machine_setup meaning (machine_value m)) (machine_value m).call
      m.log.room (vec_capacity m.op) (vec_capacity m.script) (vec_capacity m.copy)
      (vec_capacity m.calls) m.part.batch m.part.script
