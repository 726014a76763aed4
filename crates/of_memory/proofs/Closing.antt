-- The history of a closed memory of cells is one of scripts on the plain store.
use Rattle.std.proofs.Common.{◌≡◌, ℕ, ◌+◌, ◌≤◌, ◌<◌, inl, inr, List, length, get_or, refl, sym, ap, subst, ◌∙◌, arith}
use Rattle.std.specs.List.{All}
use Rattle.std.proofs.lemmas.List.Elements.{All-from_get_or, recursion_from_All}
use Rattle.of_store.specs.Store.{Store}
use Rattle.of_eval.specs.declared.scripts.Scripts.{Scripts}
use Rattle.of_eval.specs.Scripts.{scripts_data_cells, scripts_meaning, LawfulCells}
use Rattle.of_core.specs.Machine.{Call, no_call}
use Rattle.of_row.specs.Views.{EndedCall, no_ended}
use Rattle.of_cells.specs.Serving.{ended_of}
use Rattle.of_cells.specs.History.{IsOneOf}
use Rattle.of_cells.specs.Saving.{IsSavedCells}
use Rattle.of_cells.specs.Saving as saving
use Rattle.of_cells.specs.Memories as generic
use Rattle.of_memory.specs.declared.memory.Memory.{Memory}
use Rattle.of_memory.specs.declared.saved.Saved.{Saved}
use Rattle.of_memory.specs.History.{HistoryEntry, store_after}
use Rattle.of_memory.specs.Calls.{IsScriptOperation, AreOfScripts}
use Rattle.of_memory.specs.Laws.{HistoryLeads}
use Rattle.of_memory.specs.Rows.{StandFor}
use Rattle.of_memory.specs.Saving.{IsSaved, saved_scripts, saved_cells, saved_callers, saved_limit}
use Rattle.of_memory.specs.Memories.{IsMemory, HasOpenOf, StartsWith, LeadsTo, HasHistory, HasNoHandleOut, scripts_work_of, callers_of, limit_of, cells_before, tickets_before}
use Rattle.of_memory.proofs.Starting.{saved_size}
use Rattle.of_memory.proofs.Replaying.{Cells, AreScripts, entries, explains_all, own_sequences, has_only, in_time}
use Rattle.of_memory.proofs.Leading.{history_leads, own_sound}

module _ (m : Memory) (is : IsMemory m) (here : HasNoHandleOut m) (d : Saved) (work : saved_scripts d ≡ scripts_work_of m) (callers : saved_callers d ≡ callers_of m) (limit : saved_limit d ≡ limit_of m) (saved : IsSavedCells (λ w. w.callers) scripts_data_cells scripts_meaning LawfulCells d.cells)
    (history : generic.HasHistory scripts_meaning m.cells d.cells) (keeps : generic.SavesOwnCells scripts_meaning m.cells d.cells) where
  abbrev w : Scripts
  w = scripts_work_of m

  abbrev h : List Call
  h = history.0

  abbrev led : generic.LeadsTo scripts_meaning m.cells d.cells h
  led = history.1

  -- ---- each call of the history is a script's

  one_is : (n : ℕ) (es : List EndedCall) → AreOfScripts es → (e : Call) → IsOneOf (tickets_before m n) es (generic.HasOpenOf m.cells n) e → IsScriptOperation e.op
  one_is n es all e (inl one) = subst IsScriptOperation (sym one.3) (all one.0 no_ended one.1)
  one_is n es all e (inr last) = is.opened n e.op last.1

  -- a caller that is there, with its calls
  there : (n : ℕ) → n < callers_of m → (es : List EndedCall) × generic.HasMadeOf m.cells n es
  there n low = let c = here n (omega (arith, low, is.memory.each)) in (ended_of c.0, record { caller = c.0; here = c.1; made = refl })

  scripts_all : All (λ (e : Call). IsScriptOperation e.op) h
  scripts_all = All-from_get_or (λ (e : Call). IsScriptOperation e.op) h no_call (λ y l.
      let e : Call = get_or h y no_call in
      let c = there e.caller (led.one.callers y no_call l) in
      one_is e.caller c.0 (is.made e.caller c.0 c.1) e (led.one.only e.caller c.0 c.1 y no_call l refl))

  are_scripts : AreScripts w h
  are_scripts = recursion_from_All (λ (e : Call). IsScriptOperation e.op) h scripts_all

  -- ---- what is saved

  -- a call of a caller that had made so many has a later number
  later_one : (e : Call) (before : ℕ) (es : List EndedCall) (IsOpenCall : List ℕ → Type 0) → IsOneOf before es IsOpenCall e → before < e.ticket
  later_one e before es IsOpenCall (inl one) = omega (arith, one.2)
  later_one e before es IsOpenCall (inr last) = omega (arith, last.0)

  cells_lead : saving.HistoryLeads (scripts_meaning w) (callers_of m) (tickets_before m) (cells_before m) (saved_cells d) h led.one.sequences
  cells_lead = record {
    serial = led.one.serial;
    ends = λ a high lt. led.one.ends a (omega (arith, high, callers)) lt;
    order = led.one.order;
    by_seq = led.one.by_seq;
    callers = led.one.callers;
    later = All-from_get_or (λ (e : Call). tickets_before m e.caller < e.ticket) h no_call (λ y l.
        let e : Call = get_or h y no_call in
        let c = there e.caller (led.one.callers y no_call l) in
        later_one e (tickets_before m e.caller) c.0 (generic.HasOpenOf m.cells e.caller) (led.one.only e.caller c.0 c.1 y no_call l refl));
    last = led.one.last;
    upto = led.one.upto;
  }

  size : length (saved_cells d) ≡ scripts_data_cells w
  size = saved_size d saved ∙ ap scripts_data_cells work

  module _ (s : Store) (starts : StartsWith m s) where
    started : Cells w (cells_before m) s
    started = record { size = is.row.size; stored = starts }

    abbrev hs : List HistoryEntry
    hs = entries w s h are_scripts

    leads_so : HistoryLeads w (callers_of m) (tickets_before m) s (saved_cells d) hs led.one.sequences
    leads_so = history_leads w (callers_of m) is.row.callers (tickets_before m) (cells_before m) (saved_cells d) size h led.one.sequences cells_lead are_scripts s started

    leads_to : LeadsTo m s d hs
    leads_to = record {
      serial = leads_so.serial;
      ends = subst (λ (x : Scripts). StandFor x (saved_cells d) (store_after s hs)) (sym work) leads_so.ends;
      order = leads_so.order;
      sequences = led.one.sequences;
      by_seq = leads_so.by_seq;
      own_seq = λ n ms has. own_sequences w h (cells_before m) s are_scripts started led.one.serial n (tickets_before m n) has.ended ms has.made led.one.sequences (led.one.own_seq n has.ended has.here);
      made = λ n ms has. explains_all w h (cells_before m) s are_scripts started led.one.serial n (tickets_before m n) has.ended ms has.made (led.one.made n has.ended has.here);
      only = λ n ms has. has_only w h (cells_before m) s are_scripts started led.one.serial n (tickets_before m n) has.ended ms has.made (generic.HasOpenOf m.cells n) (HasOpenOf m n) (λ script is opened. record { is = is; opened = opened }) (led.one.only n has.ended has.here);
      callers = leads_so.callers;
      last = leads_so.last;
      upto = leads_so.upto;
      time = λ j n x k y has. in_time w h (cells_before m) s are_scripts started led.one.serial n (tickets_before m n + x) k (tickets_before m k + y) (led.time j n x k y has);
    }

  pub has_history : HasHistory m d
  has_history s starts = (entries w s h are_scripts, leads_to s starts)

  -- ---- the last replies

  pub is_saved : IsSaved d
  is_saved = record {
    saved = saved;
    replies = λ n low.
        let lt : n < callers_of m = omega (arith, low, ap (λ (x : Scripts). x.callers) work, is.row.callers) in
        own_sound w (callers_of m) is.row.callers (tickets_before m) (cells_before m) (saved_cells d) size h led.one.sequences cells_lead are_scripts is.row.store (started is.row.store is.row.stands) n lt
        (keeps n lt) (is.row.replies n (omega (arith, lt, is.row.callers)));
    some_limit = subst (λ (k : ℕ). 1 ≤ k) (sym limit) is.row.some_limit;
  }
