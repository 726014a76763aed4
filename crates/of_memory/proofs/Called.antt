-- What a call of a script comes to, as calls of any work and as calls of scripts.
use Rattle.std.proofs.Common.{◌≡◌, ℕ, zero, suc, ◌<◌, ◌⊎◌, inl, inr, List, [], ◌∷◌, ◌++◌, length, get_or, map, take, Result, Ok, Err, refl, sym, ap, subst, ◌∙◌, arith}
use Rattle.std.proofs.Math.Seq.{take-append_seam}
use Rattle.std.proofs.lemmas.List.{length-map}
use Rattle.std.proofs.lemmas.List.Elements.{All-push}
use Rattle.of_script.specs.declared.instr.Instr.{Instr}
use Rattle.of_script.specs.Language.{IsScript, instr_word}
use Rattle.of_script.proofs.WordLaws.{words_injective}
use Rattle.of_eval.specs.Scripts.{scripts_meaning}
use Rattle.of_plan.specs.declared.answer.Answer.{Answer}
use Rattle.of_core.specs.Machine.{CallState, IsOpen}
use Rattle.of_row.specs.Views.{EndedCall, KnownCaller, last_caller, no_ended}
use Rattle.of_cells.specs.declared.answer.RawAnswer.{RawAnswer}
use Rattle.of_cells.specs.declared.error.RunError.{RunError}
use Rattle.of_cells.specs.declared.error.RunError.TheVariants.{Stopped, Spent as NoneLeft, InCall, NoCall, NoTicket}
use Rattle.of_cells.specs.Called.{outcome_of}
use Rattle.of_cells.specs.Called as generic
use Rattle.of_cells.specs.Handles.{IsCellHandle, made_by, last_operation_of}
use Rattle.of_cells.specs.Handles as handles
use Rattle.of_memory.specs.declared.handle.Handle.{Handle}
use Rattle.of_memory.specs.History.{Made, no_made, Spent}
use Rattle.of_memory.specs.Calls.{IsScriptOperation, IsMade, AreMade, AreOfScripts}
use Rattle.of_memory.specs.Rows.{IsScriptsRow}
use Rattle.of_memory.specs.Called.{TellsRaw, HoldsOfTyped, LeavesAsItWas, answered_call, made_with, no_reply, without_reply}
use Rattle.of_memory.specs.Handles.{IsHandle, HasCallOpen, IsSame, OpensOnly, StaysOpenOnlyIfStopped}
use Rattle.of_memory.specs.Telling.{CallsStay}

-- ---- calls that are kept, as calls of scripts

pub made_at : (es : List EndedCall) (ms : List Made) (y : ℕ) → AreMade es ms → y < length ms → (y < length es) × IsMade (get_or es y no_ended) (get_or ms y no_made)
made_at [] [] y h l = absurd (omega arith)
made_at [] (m ∷ ms) y h l = absurd h
made_at (e ∷ es) [] y h l = absurd h
made_at (e ∷ es) (m ∷ ms) zero h l = (omega arith, h.0)
made_at (e ∷ es) (m ∷ ms) (suc y) h l = let r = made_at es ms y h.1 (omega arith) in (omega (arith, r.0), r.1)

pub made_long : (es : List EndedCall) (ms : List Made) → AreMade es ms → length ms ≡ length es
made_long [] [] h = refl
made_long [] (m ∷ ms) h = absurd h
made_long (e ∷ es) [] h = absurd h
made_long (e ∷ es) (m ∷ ms) h = let r : length ms ≡ length es = made_long es ms h.1 in omega (arith, r)

pub made_more : (es : List EndedCall) (ms : List Made) (e : EndedCall) (m : Made) → AreMade es ms → IsMade e m → AreMade (es ++ e ∷ []) (ms ++ m ∷ [])
made_more [] [] e m h k = (k, tt)
made_more [] (n ∷ ms) e m h k = absurd h
made_more (f ∷ es) [] e m h k = absurd h
made_more (f ∷ es) (n ∷ ms) e m h k = (h.0, made_more es ms e m h.1 k)

-- the first words are the script's
pub words_are : (script : List Instr) (count : ℕ) → count ≡ length script → (out rest : List ℕ) → out ≡ map instr_word script ++ rest → take count out ≡ map instr_word script
words_are script count size out rest words =
    ap (take count) words
    ∙ ap (λ (k : ℕ). take k (map instr_word script ++ rest)) (size ∙ sym (length-map script instr_word))
    ∙ take-append_seam (map instr_word script) rest

pub same_script : (s t : List Instr) → IsScript s → IsScript t → map instr_word s ≡ map instr_word t → s ≡ t
same_script s t is it words = words_injective s t is.in_range it.in_range words

-- ---- one call more

module _ (op : List ℕ) (es fs : List EndedCall) where
  -- all calls are of scripts still
  pub of_scripts : (q : Result RawAnswer RunError) → fs ≡ generic.made_with op q es → IsScriptOperation op → AreOfScripts es → AreOfScripts fs
  of_scripts (Ok a) is script all = subst AreOfScripts (sym is) (All-push (λ (e : EndedCall). IsScriptOperation e.op) es (record { op = op; outcome = outcome_of a }) all script)
  of_scripts (Err (Stopped asked)) is script all = subst AreOfScripts (sym is) all
  of_scripts (Err (NoneLeft seq)) is script all = subst AreOfScripts (sym is) (All-push (λ (e : EndedCall). IsScriptOperation e.op) es _ all script)
  of_scripts (Err InCall) is script all = subst AreOfScripts (sym is) all
  of_scripts (Err NoCall) is script all = subst AreOfScripts (sym is) all
  of_scripts (Err NoTicket) is script all = subst AreOfScripts (sym is) all

  module _ (script : List Instr) (is : IsScript script) (words : op ≡ map instr_word script) where
    -- an answer is that of the script
    answered : (raw : RawAnswer) (a : Answer) → TellsRaw raw a → fs ≡ generic.made_with op (Ok raw) es → (ms : List Made) → AreMade es ms → AreMade fs (made_with script (Ok a) ms)
    answered raw a told made ms all =
        subst (λ (xs : List EndedCall). AreMade xs (made_with script (Ok a) ms)) (sym made)
        (made_more es ms (record { op = op; outcome = outcome_of raw }) (answered_call script a) all
        (record { script = is; words = words; ended = ((a.reply, told.reply, refl), sym told.seq, sym told.steps, sym told.announced) }))

    -- and so is an error
    failed : (e : RunError) → fs ≡ generic.made_with op (Err e) es → (ms : List Made) → AreMade es ms → AreMade fs (made_with script (Err e) ms)
    failed (Stopped asked) made ms all = subst (λ (xs : List EndedCall). AreMade xs ms) (sym made) all
    failed (NoneLeft seq) made ms all =
        subst (λ (xs : List EndedCall). AreMade xs (made_with script (Err (NoneLeft seq)) ms)) (sym made)
        (made_more es ms _ (record { script = script; ended = Spent seq }) all (record { script = is; words = words; ended = refl }))
    failed InCall made ms all = subst (λ (xs : List EndedCall). AreMade xs ms) (sym made) all
    failed NoCall made ms all = subst (λ (xs : List EndedCall). AreMade xs ms) (sym made) all
    failed NoTicket made ms all = subst (λ (xs : List EndedCall). AreMade xs ms) (sym made) all

    pub made_typed : (q : Result RawAnswer RunError) → fs ≡ generic.made_with op q es → HoldsOfTyped q (λ a. (ms : List Made) → AreMade es ms → AreMade fs (made_with script a ms))
    made_typed (Ok raw) made (Ok a) told = answered raw a told made
    made_typed (Ok raw) made (Err e) told = absurd told
    made_typed (Err e) made (Ok a) told = absurd told
    made_typed (Err e) made (Err f) same = subst (λ (x : RunError). (ms : List Made) → AreMade es ms → AreMade fs (made_with script (Err x) ms)) same (failed e made)

-- ---- what a raw result says without its reply

abbrev pub bare : RawAnswer → RawAnswer
bare a = record a { raw = no_reply }

-- each result of a script's call says it that says the same as the raw result
pub of_typed : (F : Result RawAnswer RunError → Type 0) → ((a : RawAnswer) → F (Ok a) → F (Ok (bare a))) → (q : Result RawAnswer RunError) → F q → HoldsOfTyped q (λ a. F (without_reply a))
of_typed F spares (Ok raw) f (Ok a) told = subst (λ (x : RawAnswer). F (Ok x)) same (spares raw f)
  where
    same : bare raw ≡ record { seq = a.seq; announced = a.announced; raw = no_reply; steps = a.steps }
    same = λ i. record { seq = sym told.seq i; announced = sym told.announced i; raw = no_reply; steps = sym told.steps i }
of_typed F spares (Ok raw) f (Err e) told = absurd told
of_typed F spares (Err e) f (Ok a) told = absurd told
of_typed F spares (Err e) f (Err g) same = subst (λ (x : RunError). F (Err x)) same f

-- a refused call leaves a handle as it was, if it leaves its cells so
pub unmade_typed : (h k : Handle) (q : Result RawAnswer RunError) → generic.LeavesAsItWas q h.cells k.cells → HoldsOfTyped q (λ a. LeavesAsItWas a h k)
unmade_typed h k q same = of_typed (λ r. generic.LeavesAsItWas r h k) (λ a unsaid. unsaid) q (of_handle q same)
  where
    of_handle : (q : Result RawAnswer RunError) → generic.LeavesAsItWas q h.cells k.cells → generic.LeavesAsItWas q h k
    of_handle (Ok a) same = tt
    of_handle (Err (Stopped asked)) same = tt
    of_handle (Err (NoneLeft seq)) same = tt
    of_handle (Err InCall) same = λ i. record { cells = same i }
    of_handle (Err NoCall) same = λ i. record { cells = same i }
    of_handle (Err NoTicket) same = λ i. record { cells = same i }

-- ---- a handle after a call

module _ (h k : Handle) (is : IsHandle h) (now : IsCellHandle scripts_meaning k.cells) (same : IsSame h k) where
  -- it has run scripts alone, if the call that is open now is a script's, or was open before
  pub still_handle : AreOfScripts (made_by k.cells) → ((o : List ℕ) → handles.HasOpen k.cells o → IsScriptOperation o ⊎ handles.HasOpen h.cells o) → IsHandle k
  still_handle made only = record {
    handle = now;
    row = subst IsScriptsRow (sym same.home) is.row;
    made = made;
    open_call = λ opened. elim (only (last_operation_of k.cells) (opened, refl)) [
      | inl script ↦ script
      | inr before ↦ subst IsScriptOperation before.1 (is.open_call before.0)
    ];
  }

-- a call of a script begins
pub begun : (h k : Handle) (op : List ℕ) (q : Result RawAnswer RunError) → IsScriptOperation op → IsHandle h → IsCellHandle scripts_meaning k.cells → IsSame h k → made_by k.cells ≡ generic.made_with op q (made_by h.cells) → handles.OpensOnly op h.cells k.cells → IsHandle k
begun h k op q script is now same made only =
    still_handle h k is now same (of_scripts op (made_by h.cells) (made_by k.cells) q made script is.made)
    (λ o opened. elim (only o opened) [
      | inl one ↦ inl (subst IsScriptOperation (sym one) script)
      | inr before ↦ inr before
    ])

-- an open call goes on
pub resumed : (h k : Handle) (q : Result RawAnswer RunError) → handles.RefusesToGoOn h.cells q → IsHandle h → IsCellHandle scripts_meaning k.cells → IsSame h k → made_by k.cells ≡ generic.made_with (last_operation_of h.cells) q (made_by h.cells) → handles.OpensNone h.cells k.cells → IsHandle k
resumed h k q opened is now same made none = still_handle h k is now same (more q opened made) (λ o opened. inr (none o opened))
  where
    with_one : (q : Result RawAnswer RunError) → HasCallOpen h → made_by k.cells ≡ generic.made_with (last_operation_of h.cells) q (made_by h.cells) → AreOfScripts (made_by k.cells)
    with_one q opened made = of_scripts (last_operation_of h.cells) (made_by h.cells) (made_by k.cells) q made (is.open_call opened) is.made

    more : (q : Result RawAnswer RunError) → handles.RefusesToGoOn h.cells q → made_by k.cells ≡ generic.made_with (last_operation_of h.cells) q (made_by h.cells) → AreOfScripts (made_by k.cells)
    more (Ok a) opened made = with_one (Ok a) opened made
    more (Err (Stopped asked)) opened made = with_one (Err (Stopped asked)) opened made
    more (Err (NoneLeft seq)) opened made = with_one (Err (NoneLeft seq)) opened.0 made
    more (Err InCall) opened made = absurd opened
    more (Err NoCall) opened made = subst AreOfScripts (sym made) is.made
    more (Err NoTicket) opened made = absurd opened

pub opens_only : (h k : Handle) (op : List ℕ) (script : List Instr) → IsScript script → op ≡ map instr_word script → handles.OpensOnly op h.cells k.cells → OpensOnly script h k
opens_only h k op script is words only s opened = elim (only (map instr_word s) opened.opened) [
  | inl same ↦ inl (same_script s script opened.is is (same ∙ words))
  | inr before ↦ inr (record { is = opened.is; opened = before })
]

-- the call stays open if it was stopped
stays_open : (k : Handle) (op : List ℕ) (script : List Instr) → IsScript script → op ≡ map instr_word script → (e : RunError) → handles.StaysOpenOnlyIfStopped op (Err e) k.cells → StaysOpenOnlyIfStopped script (Err e) k
stays_open k op script is words (Stopped asked) stays = record { is = is; opened = (stays.0, stays.1 ∙ words) }
stays_open k op script is words (NoneLeft seq) stays = stays
stays_open k op script is words InCall stays = tt
stays_open k op script is words NoCall stays = tt
stays_open k op script is words NoTicket stays = tt

pub open_typed : (k : Handle) (op : List ℕ) (script : List Instr) → IsScript script → op ≡ map instr_word script → (q : Result RawAnswer RunError) → handles.StaysOpenOnlyIfStopped op q k.cells → HoldsOfTyped q (λ a. StaysOpenOnlyIfStopped script a k)
open_typed k op script is words (Ok raw) stays (Ok a) told = stays
open_typed k op script is words (Ok raw) stays (Err e) told = absurd told
open_typed k op script is words (Err e) stays (Ok a) told = absurd told
open_typed k op script is words (Err e) stays (Err f) same = subst (λ (x : RunError). StaysOpenOnlyIfStopped script (Err x) k) same (stays_open k op script is words e stays)

-- a handle that has told or heard
pub same_calls : (h k : Handle) → IsHandle h → IsCellHandle scripts_meaning k.cells → IsSame h k → CallsStay h k → IsHandle k
same_calls h k is now same stay =
    still_handle h k is now same
    (subst AreOfScripts (ap (λ (xs : List KnownCaller). (last_caller xs).ended) (sym stay.kept)) is.made)
    (λ o opened. inr (subst (λ (x : CallState). IsOpen x.place × (x.op ≡ o)) stay.call opened))
