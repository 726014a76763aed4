-- The front of a run: the call as it was where its operation began to run.
use Rattle.std.specs.Prelude.{◌≡◌, ℕ, List, Bool, true}
use Rattle.std.specs.Borrow.{MutBor}
use Rattle.of_mem.specs.Meaning.{Meaning}
use Rattle.of_core.specs.OwedRun.{owed_words, run_batch}
use Rattle.of_row.specs.declared.row.Row.{Row}
use Rattle.of_caller.specs.declared.caller.Caller.{Caller}
use Rattle.of_caller.specs.Callers.{caller_call}
use Rattle.of_caller.specs.Going.{true_caller}

-- whether the run is that of a scanned script, the words that run, the writes that the run sees over
-- the known cells, the caller after the run that its machine owes, and the names of the references
-- to the caller, the brake and the count of steps
pub record Front (W B : Type 0) : Type 0 where
  pub row : Row W
  pub in_scan : Bool
  pub words : List ℕ
  pub batch : List (ℕ × ℕ)
  pub caller : Caller W
  pub brake : B
  pub steps : ℕ
  pub caller_name : ℕ
  pub brake_name : ℕ
  pub steps_name : ℕ

-- the front of a run that is lent these references
abbrev pub front_now : {W B : Type 0} → (W → Meaning) → Row W → (in_scan : Bool)
    → MutBor (Caller W) → MutBor B → MutBor ℕ → Front W B
front_now meaning r in_scan c b s = record {
  row = r;
  in_scan = in_scan;
  words = owed_words in_scan (caller_call c.now);
  batch = run_batch in_scan (caller_call c.now);
  caller = true_caller meaning true c.now;
  brake = b.now;
  steps = s.now;
  caller_name = c.ghost_name;
  brake_name = b.ghost_name;
  steps_name = s.ghost_name;
}

-- a run whose front is f is of the same kind, and still has the row and the references of its front
pub record IsLent {W B : Type 0} (f : Front W B) (r : Row W) (in_scan : Bool)
    (caller_name brake_name steps_name : ℕ) : Type 0 where
  pub row : r ≡ f.row
  pub kind : in_scan ≡ f.in_scan
  pub caller : caller_name ≡ f.caller_name
  pub brake : brake_name ≡ f.brake_name
  pub steps : steps_name ≡ f.steps_name
