-- A serial order of operations that are scripts' is a serial history of these scripts on the store that the cells stand for.
use Rattle.std.proofs.Common.{◌≡◌, ℕ, zero, suc, ◌+◌, ◌≤◌, ◌<◌, inl, inr, Bool, true, false, List, [], ◌∷◌, length, get_or, map, Result, Ok, Err, refl, sym, ap, subst, ◌∙◌, arith}
use Rattle.std.specs.Prelude.{IsTrue}
use Rattle.std.specs.List.{All, AllByRecursion as Each}
use Rattle.std.proofs.lemmas.List.{length-map}
use Rattle.std.proofs.lemmas.List.Elements.{All-from_get_or, All-from_recursion}
use Rattle.of_mem.specs.declared.work.RawReply.{RawReply}
use Rattle.of_mem.specs.Meaning.{Meaning}
use Rattle.of_mem.specs.ProgramWork.{memory_of}
use Rattle.of_script.specs.declared.instr.Instr.{Instr}
use Rattle.of_script.specs.declared.instr.Reply.{Reply as RustReply}
use Rattle.of_script.specs.declared.instr.TheConstants.{MOST_INSTRS}
use Rattle.of_script.specs.Language.{IsScript, instr_word, reads_only}
use Rattle.of_script.proofs.WordLaws.{words_injective}
use Rattle.of_store.specs.Store.{Store, Reply, run}
use Rattle.of_eval.specs.declared.scripts.Scripts.{Scripts}
use Rattle.of_eval.specs.Scripts.{store_at, scripts_data_cells, scripts_meaning, script_reads, LawfulCells}
use Rattle.of_eval.specs.Shapes.{IsHeldBy}
use Rattle.of_eval.specs.Stored.{IsStored}
use Rattle.of_eval.specs.SoundScripts.{scripts_sound}
use Rattle.of_eval.proofs.Meanings.{means_words, words_mean_script}
use Rattle.of_eval.proofs.ReadsOnly.{reads_of}
use Rattle.of_plan.specs.Plan.{Plan}
use Rattle.of_core.specs.declared.place.Outcome.{Outcome}
use Rattle.of_core.specs.declared.place.Outcome.TheVariants.{Answered, Spent as Over, Lost as Gone}
use Rattle.of_core.specs.Table.{Setup}
use Rattle.of_core.specs.Machine.{Call, no_call}
use Rattle.of_core.specs.Linear.{Sequences}
use Rattle.of_core.specs.Linear as linear
use Rattle.of_core.specs.History.{numbers_after_calls, CallsHaveReplies, SameWhereMarked}
use Rattle.of_row.specs.Rows.{key_of}
use Rattle.of_row.specs.Views.{EndedCall, no_ended}
use Rattle.of_caller.specs.Moments.{raw_reply_of}
use Rattle.of_caller.proofs.StoresHeld.{FitsIn, script_fits, held_response, has_reply}
use Rattle.of_cells.specs.declared.answer.RawAnswer.{RawAnswer}
use Rattle.of_cells.specs.declared.error.RunError.{RunError}
use Rattle.of_cells.specs.History as generic
use Rattle.of_cells.specs.Serving.{cells_at_start}
use Rattle.of_cells.specs.Handles.{RepliesAsMeant, RefusesToGoOn, last_operation_of}
use Rattle.of_memory.specs.declared.handle.Handle.{Handle}
use Rattle.of_memory.specs.History.{HistoryEntry, no_history_entry, Made, no_made, End, Replied, Spent, Lost, IsSerial, store_after, StandsInOrder, EntriesRiseBySequence, HasSequenceOfEnd, HaveOwnSequences, HasEntry, ExplainsEnd, ExplainsAll, IsOneOf, HasOnly, ScriptOnlyReads, IsUpTo, ComeInOrder}
use Rattle.of_memory.specs.Calls.{IsScriptOperation, HoldsResponse, EndsAs, AreMade}
use Rattle.of_memory.specs.Called.{HasTyped}
use Rattle.of_memory.specs.Handles.{IsHandle, home_of}
use Rattle.of_memory.specs.Laws.{setup_with}
use Rattle.of_memory.proofs.Called.{made_at, made_long, same_script}

-- a plan of these sizes: what is known of replies on its table is known of these
abbrev sizes : Scripts → Plan
sizes w = record { callers = w.callers; blocks = w.blocks; limit = 1; scripts = []; stops = []; schedule = [] }

-- a script that may write is no operation that only reads
may_write : (op : List ℕ) (script : List Instr) → op ≡ map instr_word script → IsScript script → (ScriptOnlyReads script → ⊥) → script_reads op ≡ false
may_write op script words is writes = go (script_reads op) refl
  where
    go : (b : Bool) → script_reads op ≡ b → script_reads op ≡ false
    go false e = e
    go true e =
        let q = reads_of op e in
        let same : q.0.script ≡ script = words_injective q.0.script script q.0.range is.in_range (q.0.words ∙ words) in
        absurd (writes (subst ScriptOnlyReads same (All-from_recursion (λ (i : Instr). IsTrue (reads_only i)) q.0.script q.0.reads)))

module _ (w : Scripts) where
  abbrev M : Meaning
  M = scripts_meaning w

  -- so many cells, which stand for the store
  pub record Cells (xs : List ℕ) (s : Store) : Type 0 where
    pub size : length xs ≡ scripts_data_cells w
    pub stored : IsStored (store_at w) w.blocks (memory_of xs) s

  -- a script leads to the next store, and has its reply
  pub record Runs (xs op : List ℕ) (s : Store) (script : List Instr) : Type 0 where
    pub cells : Cells (M.cells xs op) (run s script).0
    pub reply : M.reply xs op ≡ raw_reply_of (length op) (run s script).1
    pub some : 1 ≤ length op
    pub few : length op ≤ MOST_INSTRS
    pub fits : FitsIn (length op) (run s script).1

  words_run : (xs : List ℕ) (s : Store) (script : List Instr) → Cells xs s → IsScript script → Runs xs (map instr_word script) s script
  words_run xs s script h k =
      let many = length-map script instr_word in
      let does = means_words w xs (map instr_word script) s h.size (omega (arith, many, k.few)) h.stored in
      let same = words_mean_script s script k in
      record {
        cells = record {
          size = (scripts_sound w).keeps_length xs (map instr_word script) h.size;
          stored = subst (λ (r : Store × Reply). IsStored (store_at w) w.blocks (memory_of (M.cells xs (map instr_word script))) r.0) same does.cells;
        };
        reply = does.reply ∙ ap (λ (r : Store × Reply). raw_reply_of (length (map instr_word script)) r.1) same;
        some = omega (arith, many, k.some);
        few = omega (arith, many, k.few);
        fits = subst (λ (n : ℕ). FitsIn n (run s script).1) (sym many) (script_fits s script h.stored.state k);
      }

  pub runs : (xs op : List ℕ) (s : Store) (script : List Instr) → Cells xs s → op ≡ map instr_word script → IsScript script → Runs xs op s script
  runs xs op s script h e k = subst (λ (ws : List ℕ). Runs xs ws s script) (sym e) (words_run xs s script h k)

  -- cells stay lawful, whatever operations they come from
  lawful_after : (cs : List Call) (xs : List ℕ) → length xs ≡ scripts_data_cells w → LawfulCells w xs → (length (numbers_after_calls M xs cs) ≡ scripts_data_cells w) × LawfulCells w (numbers_after_calls M xs cs)
  lawful_after [] xs size lawful = (size, lawful)
  lawful_after (c ∷ cs) xs size lawful = lawful_after cs (M.cells xs c.op) ((scripts_sound w).keeps_length xs c.op size) ((scripts_sound w).leads xs c.op size lawful)

  -- what a script means on such cells holds a reply
  pub meant_reply : (xs op : List ℕ) → length xs ≡ scripts_data_cells w → LawfulCells w xs → IsScriptOperation op → (raw : RawReply) → generic.IsMeant M xs op raw → (r : RustReply) × IsHeldBy raw r
  meant_reply xs op size lawful script raw meant =
      let ys = numbers_after_calls M xs meant.history in
      let after = lawful_after meant.history xs size lawful in
      let run = runs ys op after.1.0 script.0 (record { size = after.0; stored = after.1.1 }) script.2 script.1 in
      let same : SameWhereMarked (setup_with w 1) raw (M.reply ys op) = (meant.reply.0, λ y l m. meant.reply.1 y l) in
      let held = has_reply (sizes w) raw (length op) _ run.some run.few run.fits (subst (SameWhereMarked (setup_with w 1) raw) run.reply same) in
      (held.0, held.1)

  -- the operation of each call is a script's
  abbrev pub AreScripts : List Call → Type 0
  AreScripts cs = Each (λ (c : Call). IsScriptOperation c.op) cs

  -- the entries of the calls, with the replies that they meet from this store on
  abbrev pub entries : (s : Store) (cs : List Call) → AreScripts cs → List HistoryEntry
  entries s [] k = []
  entries s (c ∷ cs) k = record { caller = c.caller; ticket = c.ticket; script = k.0.0; reply = (run s k.0.0).1 } ∷ entries (run s k.0.0).0 cs k.1

  pub serial : (s : Store) (cs : List Call) (k : AreScripts cs) → IsSerial s (entries s cs k)
  serial s [] k = tt
  serial s (c ∷ cs) k = (refl, serial (run s k.0.0).0 cs k.1)

  pub long : (s : Store) (cs : List Call) (k : AreScripts cs) → length (entries s cs k) ≡ length cs
  long s [] k = refl
  long s (c ∷ cs) k = let h : length (entries (run s k.0.0).0 cs k.1) ≡ length cs = long (run s k.0.0).0 cs k.1 in omega (arith, h)

  -- the cells after the calls stand for the store after the entries
  pub leads : (xs : List ℕ) (s : Store) (cs : List Call) (k : AreScripts cs) → Cells xs s → Cells (numbers_after_calls M xs cs) (store_after s (entries s cs k))
  leads xs s [] k h = h
  leads xs s (c ∷ cs) k h = leads (M.cells xs c.op) (run s k.0.0).0 cs k.1 (runs xs c.op s k.0.0 h k.0.2 k.0.1).cells

  -- the entry is that of the call
  pub record IsEntryOf (c : Call) (e : HistoryEntry) : Type 0 where
    pub caller : e.caller ≡ c.caller
    pub ticket : e.ticket ≡ c.ticket
    pub script : IsScript e.script
    pub words : c.op ≡ map instr_word e.script
    pub raw : c.raw ≡ raw_reply_of (length c.op) e.reply
    pub some : 1 ≤ length c.op
    pub few : length c.op ≤ MOST_INSTRS
    pub fits : FitsIn (length c.op) e.reply

  pub entry_at : (cs : List Call) (y : ℕ) (xs : List ℕ) (s : Store) (k : AreScripts cs) → Cells xs s → CallsHaveReplies M xs cs → y < length cs → IsEntryOf (get_or cs y no_call) (get_or (entries s cs k) y no_history_entry)
  entry_at [] y xs s k h r l = absurd (omega arith)
  entry_at (c ∷ cs) zero xs s k h r l =
      let first = runs xs c.op s k.0.0 h k.0.2 k.0.1 in
      record { caller = refl; ticket = refl; script = k.0.1; words = k.0.2; raw = sym r.0 ∙ first.reply; some = first.some; few = first.few; fits = first.fits }
  entry_at (c ∷ cs) (suc y) xs s k h r l = entry_at cs y (M.cells xs c.op) (run s k.0.0).0 k.1 (runs xs c.op s k.0.0 h k.0.2 k.0.1).cells r.1 (omega arith)

  module _ (cs : List Call) (xs : List ℕ) (s : Store) (k : AreScripts cs) (h : Cells xs s) (r : CallsHaveReplies M xs cs) where
    abbrev S : Setup
    S = setup_with w 1

    abbrev hs : List HistoryEntry
    hs = entries s cs k

    abbrev call : ℕ → Call
    call y = get_or cs y no_call

    abbrev entry : ℕ → HistoryEntry
    entry y = get_or hs y no_history_entry

    among_calls : (y : ℕ) → y < length hs → y < length cs
    among_calls y l = subst (λ (n : ℕ). y < n) (long s cs k) l

    among_entries : (y : ℕ) → y < length cs → y < length hs
    among_entries y l = subst (λ (n : ℕ). y < n) (sym (long s cs k)) l

    at : (y : ℕ) → y < length hs → IsEntryOf (call y) (entry y)
    at y l = entry_at cs y xs s k h r (among_calls y l)

    pub in_order : generic.StandsInOrder cs → StandsInOrder hs
    in_order rising p q lt high same =
        let a = at p (omega (arith, lt, high)) in
        let b = at q high in
        let newer = rising p q lt (among_calls q high) (sym b.caller ∙ same ∙ a.caller) in
        omega (arith, newer, a.ticket, b.ticket)

    pub by_sequence : (q : Sequences) → linear.StandsBySequence cs q → EntriesRiseBySequence hs q
    by_sequence q by = record {
      rising = λ x y lt high. by.rising x y lt (among_calls y high);
      announced_first = λ x y lt high. by.announced_first x y lt (among_calls y high);
      by_caller = λ x y lt high same yes.
          let a = at x (omega (arith, lt, high)) in
          let b = at y high in
          let below = by.by_caller x y lt (among_calls y high) same yes in
          omega (arith, below, a.caller, b.caller);
    }

    own : (q : Sequences) (o : Outcome) (end : End) (i t : ℕ) → EndsAs o end → linear.HasOwnSequence cs q i t o → HasSequenceOfEnd hs q i t end
    own q (Answered seq announced raw steps) (Replied response t n a) i ticket held has = λ p l mine same.
        let e = at p l in
        let one = has p (among_calls p l) (sym e.caller ∙ mine) (sym e.ticket ∙ same) in
        (one.0 ∙ held.1, one.1 ∙ held.3)
    own q (Answered seq announced raw steps) (Spent t) i ticket held has = absurd held
    own q (Answered seq announced raw steps) (Lost t) i ticket held has = absurd held
    own q (Over seq) (Replied response t n a) i ticket held has = absurd held
    own q (Over seq) (Spent t) i ticket held has = tt
    own q (Over seq) (Lost t) i ticket held has = absurd held
    own q (Gone seq) (Replied response t n a) i ticket held has = absurd held
    own q (Gone seq) (Spent t) i ticket held has = absurd held
    own q (Gone seq) (Lost t) i ticket held has = tt

    -- ---- how the calls have ended

    has : (i t : ℕ) (op : List ℕ) (raw : RawReply) (script : List Instr) (response : Reply) → IsScript script → op ≡ map instr_word script → HoldsResponse raw response → generic.HasEntry cs i t op raw
        → HasEntry hs (record { caller = i; ticket = t; script = script; reply = response })
    has i t op raw script response is words held c =
        let l = among_entries c.place c.among in
        let e = at c.place l in
        let one : (entry c.place).script ≡ script = words_injective (entry c.place).script script e.script.in_range is.in_range (sym e.words ∙ c.words ∙ words) in
        let same : SameWhereMarked S raw (call c.place).raw = (c.reply.0, λ y l m. c.reply.1 y l) in
        let answer : (entry c.place).reply ≡ response =
        sym (held_response (sizes w) raw held.0 (length (call c.place).op) (entry c.place).reply e.some e.few e.fits (subst (SameWhereMarked S raw) e.raw same) held.1) ∙ held.2 in
        (c.place, l, λ j. record { caller = (e.caller ∙ c.caller_is) j; ticket = (e.ticket ∙ c.ticket_is) j; script = one j; reply = answer j })

    -- how the calls explain the end of one, the history does
    explains : (o : Outcome) (end : End) (i t : ℕ) (op : List ℕ) (script : List Instr) → IsScript script → op ≡ map instr_word script → EndsAs o end → generic.ExplainsEnd cs i t op o → ExplainsEnd hs i t script end
    explains (Answered seq announced raw steps) (Replied response t n a) i ticket op script is words held c = has i ticket op raw script response is words held.0 c
    explains (Answered seq announced raw steps) (Spent t) i ticket op script is words held c = absurd held
    explains (Answered seq announced raw steps) (Lost t) i ticket op script is words held c = absurd held
    explains (Over seq) (Replied response t n a) i ticket op script is words held c = absurd held
    explains (Over seq) (Lost t) i ticket op script is words held none = absurd held
    explains (Gone seq) (Replied response t n a) i ticket op script is words held none = absurd held
    explains (Gone seq) (Spent t) i ticket op script is words held none = absurd held
    explains (Gone seq) (Lost t) i ticket op script is words held none = tt
    explains (Over seq) (Spent t) i ticket op script is words held none =
        All-from_get_or (λ (e : HistoryEntry). e.caller ≡ i → e.ticket ≡ ticket → ⊥) hs no_history_entry
        (λ y l a b. none y no_call (among_calls y l) (sym (at y l).caller ∙ a) (sym (at y l).ticket ∙ b))

    module _ (i n : ℕ) (es : List EndedCall) (ms : List Made) (made : AreMade es ms) where
      pub explains_all : generic.ExplainsAll cs i n es → ExplainsAll hs i n ms
      explains_all all y l =
          let one = made_at es ms y made l in
          explains (get_or es y no_ended).outcome (get_or ms y no_made).ended i (n + y + 1) (get_or es y no_ended).op (get_or ms y no_made).script one.1.script one.1.words one.1.ended (all y one.0)

      pub own_sequences : (q : Sequences) → generic.HaveOwnSequences cs q i n es → HaveOwnSequences hs q i n ms
      own_sequences q all y l =
          let one = made_at es ms y made l in
          own q (get_or es y no_ended).outcome (get_or ms y no_made).ended i (n + y + 1) one.1.ended (all y one.0)

      -- and it has no others
      pub has_only : (IsOpenOperation : List ℕ → Type 0) (IsOpenScript : List Instr → Type 0) → ((script : List Instr) → IsScript script → IsOpenOperation (map instr_word script) → IsOpenScript script)
          → generic.HasOnly cs i n es IsOpenOperation → HasOnly hs i n ms IsOpenScript
      has_only IsOpenOperation IsOpenScript opens only =
          All-from_get_or (λ (e : HistoryEntry). e.caller ≡ i → IsOneOf n ms IsOpenScript e) hs no_history_entry (λ y l mine.
          let is = at y l in
          let many = made_long es ms made in
          elim (only y no_call (among_calls y l) (sym is.caller ∙ mine)) [
            | inl one ↦
                let m = made_at es ms one.0 made (omega (arith, one.1, many)) in
                inl (one.0, omega (arith, one.1, many), is.ticket ∙ one.2, same_script (entry y).script (get_or ms one.0 no_made).script is.script m.1.script (sym is.words ∙ one.3 ∙ m.1.words))
            | inr last ↦ inr (omega (arith, is.ticket, last.0, many), opens (entry y).script is.script (subst IsOpenOperation is.words last.1))
          ])

    pub below : (n : ℕ) → All (λ (c : Call). c.caller < n) cs → All (λ (e : HistoryEntry). e.caller < n) hs
    below n all = All-from_get_or (λ (e : HistoryEntry). e.caller < n) hs no_history_entry (λ y l.
        subst (λ (i : ℕ). i < n) (sym (at y l).caller) (all y no_call (among_calls y l)))

    pub up_to : (n t : ℕ) → generic.IsUpTo M cs n t → IsUpTo hs n t
    up_to n t upto = All-from_get_or (λ (e : HistoryEntry). e.caller ≡ n → (ScriptOnlyReads e.script → ⊥) → e.ticket ≤ t) hs no_history_entry (λ y l mine writes.
        let is = at y l in
        let few = upto y no_call (among_calls y l) (sym is.caller ∙ mine) (may_write (call y).op (entry y).script is.words is.script writes) in
        omega (arith, few, is.ticket))

    pub in_time : (n t i u : ℕ) → generic.ComeInOrder cs n t i u → ComeInOrder hs n t i u
    in_time n t i u order p q lt high first later =
        let a = at q high in
        let b = at p (omega (arith, lt, high)) in
        order p q lt (among_calls q high) (sym a.caller ∙ first.0, omega (arith, a.ticket, first.1)) (sym b.caller ∙ later.0, omega (arith, b.ticket, later.1))

    -- cells that hold the reply of a call hold that of its entry
    pub last_entry : (y : ℕ) → y < length cs → (n t : ℕ) → (call y).caller ≡ n → (call y).ticket ≡ t → (raw : RawReply) → SameWhereMarked S raw (call y).raw
        → (e : HistoryEntry) × HasEntry hs e × (e.caller ≡ n) × (e.ticket ≡ t) × HoldsResponse raw e.reply
    last_entry y among n t mine ticket raw same =
        let l = among_entries y among in
        let is = at y l in
        (entry y, (y, l, refl), is.caller ∙ mine, is.ticket ∙ ticket, has_reply (sizes w) raw (length (call y).op) (entry y).reply is.some is.few is.fits (subst (SameWhereMarked S raw) is.raw same))

-- an answer to a script holds a reply
pub some_typed : (h : Handle) → IsHandle h → (op : List ℕ) → IsScriptOperation op → (q : Result RawAnswer RunError) → RepliesAsMeant scripts_meaning op h.cells q → HasTyped q
some_typed h is op script (Ok a) meant =
    let r = meant_reply (key_of (home_of h)).work (cells_at_start scripts_meaning (home_of h)) op is.row.size (is.row.store, is.row.stands) script a.raw meant in
    (Ok (record { seq = a.seq; announced = a.announced; reply = r.0; steps = a.steps }), record { seq = refl; announced = refl; steps = refl; reply = r.1 })
some_typed h is op script (Err e) meant = (Err e, refl)

-- and so does the answer of a script that goes on
pub some_resumed : (h : Handle) → IsHandle h → (q : Result RawAnswer RunError) → RefusesToGoOn h.cells q → RepliesAsMeant scripts_meaning (last_operation_of h.cells) h.cells q → HasTyped q
some_resumed h is (Ok a) opened meant = some_typed h is (last_operation_of h.cells) (is.open_call opened) (Ok a) meant
some_resumed h is (Err e) refused meant = (Err e, refl)
