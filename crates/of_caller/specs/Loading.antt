-- Cells that the steps of a call load while an operation runs: what holds of the call meanwhile.
use Rattle.std.specs.Prelude.{◌≡◌, ℕ, ◌≤◌, List, Option, Some, Bool, true, length, Result, MatchResult}
use Rattle.of_mem.specs.declared.part.Need.{Need}
use Rattle.of_mem.specs.declared.work.RawReply.{RawReply}
use Rattle.of_mem.specs.Meaning.{Meaning, Needs, Gives, KnowsSome}
use Rattle.of_mem.specs.OnDemand.{Running, writes_left}
use Rattle.of_mem.specs.Part.{Part, overlaid}
use Rattle.of_core.specs.Fit.{is_scanning}
use Rattle.of_core.specs.OwedRun.{OwesRun, LacksCell, owed_words, run_batch, run_part, run_end}
use Rattle.of_row.specs.declared.row.Row.{Row}
use Rattle.of_row.specs.Rows.{key_of}
use Rattle.of_caller.specs.declared.caller.Caller.{Caller}
use Rattle.of_caller.specs.declared.caller.loading.Course.{Course}
use Rattle.of_caller.specs.declared.caller.loading.Course.TheVariants.{GoesOn, HasEnded, WasDenied}
use Rattle.of_caller.specs.Callers.{IsCaller, caller_call}
use Rattle.of_caller.specs.Fronts.{Front, IsLent}
use Rattle.of_caller.specs.Going.{LeadsOn, LeadsToDenial, true_caller, steps_left}

-- the cells that a run sees, with its own writes
abbrev pub run_cells : {W : Type 0} → (in_scan : Bool) → Caller W → Part
run_cells in_scan c = record (run_part in_scan (caller_call c)) { script = c.writes.entries }

-- the run that the caller's machine owes has ended so, on the cells that the machine knows; if it
-- gave a reply, `undone` says whether its writes are to be undone
abbrev pub RunEndsAs : {W : Type 0} → (W → Meaning) → Caller W → Result Bool Need → RawReply
    → Type 0
RunEndsAs meaning c result reply =
    MatchResult result
    (λ undone. run_end meaning c.machine ≡ Gives (writes_left undone c.writes.entries) reply)
    (λ need. LacksCell meaning c.machine need.addr)

module _ {W B : Type 0} (meaning : W → Meaning) (lawful : W → List ℕ → Type 0) (denials : B → ℕ)
    (left : B → Option (Option ℕ)) (answers asks : B → Option ℕ) (r : Row W) where
  -- steps have led from the caller at the front f to c, which has no more steps left
  pub record HasLed (f : Front W B) (c : Caller W) (b : B) (s : ℕ) : Type 0 where
    pub caller : IsCaller meaning r c
    pub goes : LeadsOn meaning lawful denials left answers asks r f.caller f.brake f.steps c b s
    pub falls : steps_left meaning c ≤ steps_left meaning f.caller

  -- the machine of the caller c owes the same run; steps have led from the front f to the caller
  -- that c is after this run
  pub record StillOwes (f : Front W B) (c : Caller W) (b : B) (s : ℕ) : Type 0 where
    pub owes : OwesRun meaning lawful c.machine
    pub kind : is_scanning (caller_call c).place ≡ f.in_scan
    pub words : owed_words f.in_scan (caller_call c) ≡ f.words
    pub batch : run_batch f.in_scan (caller_call c) ≡ f.batch
    pub led : HasLed f (true_caller meaning true c) b s

  -- how the call stands, from the front f, where the run began
  abbrev pub Stands : (f : Front W B) → Course → (c : Caller W) (b : B) (s : ℕ) → Type 0
  Stands f GoesOn c b s = StillOwes f c b s
  Stands f HasEnded c b s = HasLed f c b s
  Stands f WasDenied c b s =
      IsCaller meaning r c
      × LeadsToDenial meaning lawful denials left answers asks r f.caller f.brake f.steps c b s

  -- the run from the front f, on the cells that the machine of the caller c knows
  abbrev pub loading : (f : Front W B) → Course → (c : Caller W) (b : B) (s : ℕ) → Running
  loading f course c b s = record {
    part = run_cells f.in_scan c;
    may_know = λ k. Stands f course c b s
        × KnowsSome (lawful (key_of r).work) (key_of r).cells
        (overlaid k (run_batch f.in_scan (caller_call c)))
        × (length k ≡ (key_of r).cells);
    lacks = λ k a. (meaning (key_of r).work).walk (overlaid k f.batch) f.words ≡ Needs a;
  }

  -- these cells may come to be known by a run whose front is told
  pub record KnowsFront (front : Option (Front W B)) (in_scan : Bool)
      (caller_name brake_name steps_name : ℕ) (course : Course) (c : Caller W) (b : B) (s : ℕ)
      (known : List (Option ℕ)) : Type 0 where
    pub first : Front W B
    pub told : front ≡ Some first
    pub lent : IsLent first r in_scan caller_name brake_name steps_name
    pub knows : (loading first course c b s).may_know known

  -- the same run, with its front told
  abbrev pub told : (front : Option (Front W B)) → (in_scan : Bool)
      → (caller_name brake_name steps_name : ℕ) → Course → (c : Caller W) (b : B) (s : ℕ) → Running
  told front in_scan caller_name brake_name steps_name course c b s = record {
    part = run_cells in_scan c;
    may_know = KnowsFront front in_scan caller_name brake_name steps_name course c b s;
    lacks = λ k a. (f : Front W B) → front ≡ Some f → (loading f course c b s).lacks k a;
  }
