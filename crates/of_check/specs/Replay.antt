-- How claimed calls run one after another on the store, and which claim may come next.
use Rattle.std.specs.Prelude.{◌≡◌, ℕ, ◌+◌, ◌≤◌, ◌<◌, ◌⊎◌, Bool, true, false, IsTrue, List, [], ◌∷◌, ◌++◌, length, map, slice_index, slice_index_or, slice_set, All}
use Rattle.of_script.specs.declared.instr.Instr.{Instr}
use Rattle.of_script.specs.Language.{reads_only}
use Rattle.of_store.specs.Store.{Store, run}
use Rattle.of_plan.specs.Plan.{Plan, scripts_of}
use Rattle.of_plan.specs.Report.{Entry, Start, Report}
use Rattle.of_report.specs.Report.{entry_value}
use Rattle.of_check.specs.declared.claims.CallClaim.{CallClaim}
use Rattle.of_check.specs.declared.claims.EndClaim.{EndClaim}
use Rattle.of_check.specs.Endings.{claimed_lines}
use Rattle.of_check.specs.declared.replay.Replay.{Replay as RustReplay}

-- how many calls of each caller have run, the claim of the last call, and the store that it left
pub record Replay : Type 0 where
  pub counts : List ℕ
  pub last : CallClaim
  pub store : Store

-- the replay at a start: the calls that were done before have run, the last call was a read of
-- caller 0 at the start's sequence, and the store is the start's
abbrev pub replay_at_start : Start → Replay
replay_at_start s = record {
  counts = s.finished;
  last = record { seq = s.seq; caller = 0; index = 0; announced = false };
  store = s.store;
}

-- the index of a claimed call: how many calls of its caller have run
abbrev pub index_for : Replay → CallClaim → ℕ
index_for c q = slice_index c.counts q.caller

-- the script of a claimed call: the next one of its caller
abbrev pub script_for : Plan → Replay → CallClaim → List Instr
script_for p c q = slice_index_or (scripts_of p q.caller) (index_for c q) []

-- the entry of a claimed call: its claim, with the reply of the next script of its caller
abbrev pub entry_for : Plan → Replay → CallClaim → Entry
entry_for p c q = record {
  seq = q.seq;
  caller = q.caller;
  index = index_for c q;
  announced = q.announced;
  reply = (run c.store (script_for p c q)).1;
}

-- the replay after a claimed call has run
abbrev pub after_claimed_call : Plan → Replay → CallClaim → Replay
after_claimed_call p c q = record {
  counts = slice_set c.counts q.caller (index_for c q + 1);
  last = q;
  store = (run c.store (script_for p c q)).0;
}

-- the entries of claimed calls that run one after another
abbrev pub entries_from : Plan → Replay → List CallClaim → List Entry
entries_from p c [] = []
entries_from p c (q ∷ qs) = entry_for p c q ∷ entries_from p (after_claimed_call p c q) qs

-- the replay after these claimed calls have run
abbrev pub course_end : Plan → Replay → List CallClaim → Replay
course_end p c [] = c
course_end p c (q ∷ qs) = course_end p (after_claimed_call p c q) qs

-- Which call may come after the last one. An announced call may come at the next sequence; or at
-- the same sequence, if the last call was announced and is of a lower caller. A read may come at
-- the same sequence, if the last call was announced, or was a read of the same or a lower caller.
abbrev pub MayFollowWithin : (last_announced announced : Bool) → (last next : CallClaim) → Type 0
MayFollowWithin true true last q =
    (q.seq ≡ last.seq + 1) ⊎ ((q.seq ≡ last.seq) × (last.caller < q.caller))
MayFollowWithin true false last q = q.seq ≡ last.seq
MayFollowWithin false true last q = q.seq ≡ last.seq + 1
MayFollowWithin false false last q = (q.seq ≡ last.seq) × (last.caller ≤ q.caller)

-- the claimed call may come next: its caller has a script left, the call has the index of that
-- script and a sequence that may come next, and the script of a read only reads
pub record MayFollow (p : Plan) (c : Replay) (q : CallClaim) : Type 0 where
  pub caller : q.caller < p.callers
  pub script : index_for c q < length (scripts_of p q.caller)
  pub turn : q.index ≡ index_for c q
  pub place : MayFollowWithin c.last.announced q.announced c.last q
  pub reads : q.announced ≡ false → All (λ i. IsTrue (reads_only i)) (script_for p c q)

-- each of these claimed calls may come after the ones before it
abbrev pub AllFollow : Plan → Replay → List CallClaim → Type 0
AllFollow p c [] = Unit {0}
AllFollow p c (q ∷ qs) = MayFollow p c q × AllFollow p (after_claimed_call p c q) qs

-- ---- the code's replay

-- a replay in the form that contracts see, for a replay as the code has it
abbrev pub replay_value : RustReplay → Replay
replay_value r = record { counts = r.counts.items; last = r.last; store = r.store }

-- the entries of the calls that the code's replay has run
abbrev pub entries_so_far : RustReplay → List Entry
entries_so_far r = map entry_value r.entries.items

-- one more call has run; before it ran, it was a call that may come next
pub record HasRunCall (p : Plan) (before now : RustReplay) (q : CallClaim) : Type 0 where
  pub follows : MayFollow p (replay_value before) q
  pub course : replay_value now ≡ after_claimed_call p (replay_value before) q
  pub entries : entries_so_far now
      ≡ entries_so_far before ++ entry_for p (replay_value before) q ∷ []

-- all these calls have run from the start, and each was one that might come next
pub record HasRunCalls (p : Plan) (s : Start) (qs : List CallClaim) (r : RustReplay) : Type 0 where
  pub follow : AllFollow p (replay_at_start s) qs
  pub course : replay_value r ≡ course_end p (replay_at_start s) qs
  pub entries : entries_so_far r ≡ entries_from p (replay_at_start s) qs

-- the report of the calls that have run, with the claimed lines of callers
abbrev pub report_so_far : Plan → (done : List ℕ) → RustReplay → List EndClaim → Report
report_so_far p done r ends = record {
  entries = entries_so_far r;
  callers = claimed_lines p done r.counts.items ends;
  seq = r.last.seq;
  store = r.store;
}
