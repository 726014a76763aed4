-- What a call from C answers: a code, and a reply that shows the call's result.
use Rattle.std.specs.Prelude.{◌≡◌, ◌≢◌, ℕ, ◌==◌, if◌then◌else◌, List, map, Option, Some, None, Result, Ok, Err}
use Rattle.of_script.specs.declared.instr.Instr.{Instr}
use Rattle.of_script.specs.Language.{IsScript, instr_word}
use Rattle.of_script.specs.Text.{SpellsScript}
use Rattle.of_plan.specs.declared.answer.Answer.{Answer}
use Rattle.of_memory.specs.declared.handle.Handle.{Handle}
use Rattle.of_memory.specs.Calls.{HoldsOfScript}
use Rattle.of_cells.specs.declared.error.RunError.{RunError}
use Rattle.of_cells.specs.declared.error.RunError.TheVariants.{Stopped, Spent, InCall, NoCall, NoTicket}
use Rattle.of_memory.specs.Called.{LeavesAsItWas}
use Rattle.of_memory.specs.Handles.{IsSame, MakesCall, StaysOpenOnlyIfStopped, RefusesCall, OpensOnly}
use Rattle.of_memory.specs.Handles.{ResumesCall, OpenCallStays, RefusesToGoOn, OpensNone}
use Rattle.of_memory.specs.Handles.{steps_so_far, step_bound_of, MakesAtMost, GoesOnWithin}
use Rattle.of_memory.specs.Handles.{MakesStepsAlone}
use Rattle.of_memory.specs.Telling.{BeginsAfterHeard, ResumesAfterHeard, KeepsKnown}
use Rattle.of_memory.specs.Sequences.{KnowsSeqOf, left_of_handle}
use Rattle.of_memory.specs.Within.{EndsWithin, KeepsToStop}
use Rattle.of_c.specs.declared.codes.TheConstants.{DONE, EMPTY, NO_TICKET, SPENT, STOPPED, CALL_OPEN}
use Rattle.of_c.specs.declared.held.Held.{Held}
use Rattle.of_c.specs.declared.held.Held.TheVariants.{Nothing, Memory, Caller, Lost, Saved}
use Rattle.of_c.specs.declared.reply.CReply.{CReply}
use Rattle.of_c.specs.Replies.{ShowsAnswer}
use Rattle.of_c.specs.Slots.{HasHandle, HoldsHandle}

-- the stop that C gives a call as a number of steps; the greatest number means no stop
abbrev pub step_limit : ℕ → Option ℕ
step_limit steps = if steps == 18446744073709551615 then None else Some steps

-- The code and the reply tell C the result of a call. `open_code` is the code if the call was
-- refused: a new call because one is open already, or a call to go on because none is open.
abbrev pub Tells : (open_code : ℕ) → Result Answer RunError → (code : ℕ) → CReply → Type 0
Tells o (Ok a) code r = (code ≡ DONE) × ShowsAnswer a r
Tells o (Err (Stopped asked)) code r = (code ≡ STOPPED) × (r.steps ≡ asked)
Tells o (Err (Spent seq)) code r = (code ≡ SPENT) × (r.seq ≡ seq)
Tells o (Err InCall) code r = code ≡ o
Tells o (Err NoCall) code r = code ≡ o
Tells o (Err NoTicket) code r = code ≡ NO_TICKET

-- A call that was not answered leaves the reply as it was, apart from the reply's steps if the call
-- was stopped, and apart from the reply's sequence if the call was spent.
pub record LeavesReply (code : ℕ) (before now : CReply) : Type 0 where
  pub stopped : code ≡ STOPPED → now ≡ record before { steps = now.steps }
  pub spent : code ≡ SPENT → now ≡ record before { seq = now.seq }
  pub refused : code ≢ DONE → code ≢ STOPPED → code ≢ SPENT → now ≡ before

-- the reply is as it was, apart from its place
abbrev pub ShowsPlaceAlone : (before now : CReply) → Type 0
ShowsPlaceAlone before now = now ≡ record before { place = now.place }

-- with a stop, the calls of the handle's number have made at most this many steps more
abbrev pub MakesGiven : (stop : Option ℕ) → (before now : Handle) → Type 0
MakesGiven None h k = Unit {0}
MakesGiven (Some steps) h k = MakesAtMost steps h k

-- a call of this script by handle h has had the result a, and has left the handle as k
pub record CallsScript (script : List Instr) (stop : Option ℕ) (h : Handle)
    (a : Result Answer RunError) (k : Handle) : Type 0 where
  pub same : IsSame h k
  pub made : MakesCall script a h k
  pub open_call : StaysOpenOnlyIfStopped script a k
  pub cause : RefusesCall h a
  pub unmade : LeavesAsItWas a h k
  pub bound : EndsWithin (step_bound_of h) a
  pub rise : MakesAtMost (step_bound_of h) h k
  pub within : KeepsToStop 0 stop (steps_so_far k) a
  pub given : MakesGiven stop h k
  pub only : OpensOnly script h k
  pub behind : BeginsAfterHeard a h k
  pub knows : KeepsKnown h k
  pub alone : MakesStepsAlone h k
  pub seq : KnowsSeqOf a h k

-- the open call of handle h has gone on and had the result a, and has left the handle as k
pub record GoesOn (stop : Option ℕ) (h : Handle) (a : Result Answer RunError) (k : Handle)
    : Type 0 where
  pub same : IsSame h k
  pub made : ResumesCall a h k
  pub open_call : OpenCallStays a h k
  pub cause : RefusesToGoOn h a
  pub unmade : LeavesAsItWas a h k
  pub bound : EndsWithin (step_bound_of h) a
  pub rise : GoesOnWithin (step_bound_of h) h k
  pub within : KeepsToStop (steps_so_far h) stop (steps_so_far k) a
  pub given : MakesGiven stop h k
  pub only : OpensNone h k
  pub behind : ResumesAfterHeard a h k
  pub knows : KeepsKnown h k
  pub alone : MakesStepsAlone h k
  pub seq : KnowsSeqOf a h k

-- what may be claimed of a call: of the handle before it, its result, and the handle after it
abbrev pub CallWork : Type 1
CallWork = Handle → Result Answer RunError → Handle → Type 0

-- a caller is still held, with its handle after the call; the code and the reply tell the result
-- of the call
pub record HasCalled (Does : CallWork) (open_code : ℕ) (h : Handle) (now : Held) (reply : CReply)
    (code : ℕ) : Type 0 where
  pub handle : Handle
  pub held : HasHandle now handle
  pub answer : Result Answer RunError
  pub tells : Tells open_code answer code reply
  pub does : Does h answer handle

-- nothing has changed, and the code says that no caller is held
pub record HasNoCaller (before now : Held) (code : ℕ) : Type 0 where
  pub code_is : code ≡ EMPTY
  pub same : now ≡ before

-- if a caller was held, it has made its call; otherwise nothing has changed, and the code says that
-- no caller is held
abbrev pub CallsHeld : CallWork → (open_code : ℕ) → (before now : Held) → CReply → (code : ℕ)
    → Type 0
CallsHeld Does o (Caller s) now reply code = HasCalled Does o s.handle now reply code
CallsHeld Does o Nothing now reply code = HasNoCaller Nothing now code
CallsHeld Does o (Memory m) now reply code = HasNoCaller (Memory m) now code
CallsHeld Does o (Lost v) now reply code = HasNoCaller (Lost v) now code
CallsHeld Does o (Saved d) now reply code = HasNoCaller (Saved d) now code

-- something is still held; if it is a caller, the caller has made its call
pub record CallsSome (Does : CallWork) (open_code : ℕ) (before : Held) (now : Option Held)
    (reply : CReply) (code : ℕ) : Type 0 where
  pub held : Held
  pub is : now ≡ Some held
  pub calls : CallsHeld Does open_code before held reply code

-- if the slot held a caller, the caller has made its call; otherwise nothing has changed, and the
-- code says that no caller is held
abbrev pub CallsSlot : CallWork → (open_code : ℕ) → (before now : Option Held) → CReply
    → (code : ℕ) → Type 0
CallsSlot Does o None now reply code = (code ≡ EMPTY) × (now ≡ None)
CallsSlot Does o (Some before) now reply code = CallsSome Does o before now reply code

-- if these are the words of a script, the caller in the slot, if there is one, has made a call of
-- that script
abbrev pub CallsWords : List ℕ → (stop : Option ℕ) → (before now : Option Held) → CReply
    → (code : ℕ) → Type 0
CallsWords words stop before now reply code =
    HoldsOfScript words
    (λ script. CallsSlot (CallsScript script stop) CALL_OPEN before now reply code)

-- no script has these words
abbrev pub AreNoScript : List ℕ → Type 0
AreNoScript words = (script : List Instr) → IsScript script → map instr_word script ≡ words → ⊥

-- if this text spells a script, the caller in the slot, if there is one, has made a call of that
-- script
abbrev pub CallsText : List ℕ → (stop : Option ℕ) → (before now : Option Held) → CReply
    → (code : ℕ) → Type 0
CallsText text stop before now reply code =
    (script : List Instr) → SpellsScript text script
    → CallsSlot (CallsScript script stop) CALL_OPEN before now reply code

-- this text spells no script
abbrev pub IsNoText : List ℕ → Type 0
IsNoText text = (script : List Instr) → SpellsScript text script → ⊥

-- a caller is held, and `left` sequences up to the limit come after the last one that it knows
pub record HasSequencesLeft (held : Option Held) (left : ℕ) : Type 0 where
  pub handle : Handle
  pub is : HoldsHandle held handle
  pub left_is : left ≡ left_of_handle handle
