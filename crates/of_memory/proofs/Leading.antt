-- Where a serial history of operations that are scripts' leads from cells to others, one of scripts leads from the store of the first to that of the others.
use Rattle.std.proofs.Common.{◌≡◌, ℕ, ◌≤◌, ◌<◌, inl, inr, Bool, List, length, get_or, sym, ap, ◌∙◌, arith}
use Rattle.std.specs.Prelude.{if◌then◌else◌}
use Rattle.std.proofs.lemmas.Bool.{cases_lt, lt-ltb}
use Rattle.std.proofs.lemmas.List.{get_or_past}
use Rattle.std.proofs.lemmas.List.FromFn.{get_or-map-range_with_len}
use Rattle.of_mem.specs.Meaning.{is_marked}
use Rattle.of_mem.specs.Places.{reply_at}
use Rattle.of_mem.specs.ProgramWork.{memory_of}
use Rattle.of_mem.proofs.Standing.{stands_from}
use Rattle.of_script.specs.declared.instr.TheConstants.{MOST_INSTRS}
use Rattle.of_store.specs.Store.{Store}
use Rattle.of_eval.specs.declared.scripts.Scripts.{Scripts}
use Rattle.of_eval.specs.Scripts.{store_at, scripts_data_cells, scripts_meaning}
use Rattle.of_eval.specs.Stored.{cell_store}
use Rattle.of_eval.specs.Lawful.{reply_in, reply_number, OwnCellsAreSound}
use Rattle.of_core.specs.Linear.{Sequences}
use Rattle.of_core.specs.Machine.{Call, no_call}
use Rattle.of_core.specs.History.{numbers_after_calls, SameWhereMarked}
use Rattle.of_caller.proofs.StoresRecovered.{stand_same}
use Rattle.of_cells.specs.Saving.{HoldReply, OwnCellsStay, own_ticket}
use Rattle.of_cells.specs.Saving as generic
use Rattle.of_memory.specs.History.{HistoryEntry, store_after}
use Rattle.of_memory.specs.Laws.{setup_with, HistoryLeads}
use Rattle.of_memory.specs.Rows.{StandFor}
use Rattle.of_memory.specs.Saving.{TellLast}
use Rattle.of_memory.proofs.Replaying.{Cells, AreScripts, entries, serial, leads, in_order, by_sequence, below, up_to, last_entry}

-- the reply in a caller's own cells is that of the call which they hold
pub holds_same : (w : Scripts) (now : List ℕ) (n : ℕ) (c : Call) → HoldReply now n c.raw → SameWhereMarked (setup_with w 1) (reply_in MOST_INSTRS (memory_of now) n) c.raw
holds_same w now n c holds = (
  holds.shape,
  λ j k mark.
      get_or-map-range_with_len (reply_number MOST_INSTRS (memory_of now) n) 0 MOST_INSTRS j j 0 k (omega arith)
      ∙ ap (λ (b : Bool). if b then memory_of now (reply_at MOST_INSTRS n j) else 0) (lt-ltb j MOST_INSTRS k)
      ∙ holds.numbers j k (ap (λ (x : ℕ). is_marked x j) (sym holds.shape) ∙ mark),
)

module _ (w : Scripts) (caller_count : ℕ) (many : caller_count ≡ w.callers) (made : ℕ → ℕ) (xs now : List ℕ) (size : length now ≡ scripts_data_cells w) (h : List Call) (q : Sequences) (led : generic.HistoryLeads (scripts_meaning w) caller_count made xs now h q)
    (are_scripts : AreScripts w h) (s : Store) (started : Cells w xs s) where
  abbrev hs : List HistoryEntry
  hs = entries w s h are_scripts

  abbrev ys : List ℕ
  ys = numbers_after_calls (scripts_meaning w) xs h

  after : Cells w ys (store_after s hs)
  after = leads w xs s h are_scripts started

  same_cell : (a : ℕ) → store_at w ≤ a → memory_of ys a ≡ memory_of now a
  same_cell a low = elim (cases_lt a (scripts_data_cells w)) [
    | inl lt ↦ sym (led.ends a (omega (arith, low, many)) (omega (arith, lt, size)))
    | inr past ↦ get_or_past ys a 0 (omega (arith, past, after.size)) ∙ sym (get_or_past now a 0 (omega (arith, past, size)))
  ]

  ends : StandFor w now (store_after s hs)
  ends = record {
    state = after.stored.state;
    stands = stands_from (store_at w) w.blocks (memory_of ys) (memory_of now) same_cell (cell_store (store_after s hs)) after.stored.stands;
  }

  last_of : (n : ℕ) → generic.TellLast now h n (made n) → TellLast now hs n (made n)
  last_of n (inl none) = inl none
  last_of n (inr l) = inr (last_entry w h xs s are_scripts started led.serial l.0 l.1 n (own_ticket now n) l.2 l.3 (reply_in MOST_INSTRS (memory_of now) n) (holds_same w now n (get_or h l.0 no_call) l.4))

  pub history_leads : HistoryLeads w caller_count made s now hs q
  history_leads = record {
    serial = serial w s h are_scripts;
    ends = ends;
    order = in_order w h xs s are_scripts started led.serial led.order;
    by_seq = by_sequence w h xs s are_scripts started led.serial q led.by_seq;
    callers = below w h xs s are_scripts started led.serial caller_count led.callers;
    last = λ n low. last_of n (led.last n low);
    upto = λ n low. up_to w h xs s are_scripts started led.serial n (own_ticket now n) (led.upto n low);
  }

  -- ---- the last replies

  module _ (n : ℕ) (low : n < caller_count) (keeps : own_ticket now n ≡ made n → OwnCellsStay xs now n) (before : OwnCellsAreSound MOST_INSTRS (memory_of xs) n) where
    -- the own cells are as they were, or hold the reply to a later call
    sound_so : generic.TellLast now h n (made n) → TellLast now hs n (made n) → OwnCellsAreSound MOST_INSTRS (memory_of now) n
    sound_so (inl same) last = stand_same (memory_of now) (memory_of xs) n (λ a own. keeps same a own.0 own.1) before
    sound_so (inr l) (inl same) = stand_same (memory_of now) (memory_of xs) n (λ a own. keeps same a own.0 own.1) before
    sound_so (inr l) (inr last) =
        let later : made (get_or h l.0 no_call).caller < (get_or h l.0 no_call).ticket = led.later l.0 no_call l.1 in
        record {
          none = λ zero. absurd (omega (arith, later, l.3, zero));
          some = λ not. record { reply = last.4.0; held = last.4.1; few = last.4.1.0.few };
        }

    pub own_sound : OwnCellsAreSound MOST_INSTRS (memory_of now) n
    own_sound = sound_so (led.last n low) (last_of n (led.last n low))
