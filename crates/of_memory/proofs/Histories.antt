-- A row of scripts holds a serial history of scripts at any moment, which recovery finds the end of.
use Rattle.std.proofs.Common.{◌≡◌, ℕ, ◌+◌, ◌<◌, inl, inr, List, [], ◌∷◌, length, get_or, refl, sym, subst, ◌∙◌}
use Rattle.std.specs.List.{AllByRecursion as Every}
use Rattle.std.proofs.lemmas.List.{length-map}
use Rattle.std.proofs.lemmas.List.Elements.{All-from_get_or, recursion_from_All}
use Rattle.atomic_table.specs.Table.{State}
use Rattle.of_cell.specs.Words.{payload_of}
use Rattle.of_store.specs.Store.{Store}
use Rattle.of_eval.specs.declared.scripts.Scripts.{Scripts}
use Rattle.of_eval.specs.Scripts.{scripts_data_cells, LawfulCells}
use Rattle.of_recover.specs.Recovered.{recovered_words}
use Rattle.of_core.specs.Table.{Setup}
use Rattle.of_core.specs.TableMoment.{TableStart}
use Rattle.of_core.specs.Starts.{IsDurable, start_from_durable}
use Rattle.of_core.specs.Machine.{Call, no_call}
use Rattle.of_row.specs.Views.{KnownCaller, View, no_ended}
use Rattle.of_row.specs.Rule.{MeetsRule, done_before}
use Rattle.of_row.specs.Trail.{EachView}
use Rattle.of_cells.specs.Serving.{KeepsSo}
use Rattle.of_cells.specs.Saving.{HasOpenOperation}
use Rattle.of_cells.specs.Saving as saving
use Rattle.of_cells.specs.Moments.{RowsHoldHistory, numbers_found, numbers_of}
use Rattle.of_cells.specs.Moments as generic
use Rattle.of_memory.specs.Calls.{IsScriptOperation, RunsScripts}
use Rattle.of_memory.specs.Rows.{StandsAt, HoldsLastReplies}
use Rattle.of_memory.specs.Laws.{ExplainsKept, HaveKeptSequences, HasOpenScript, HasOnlyKept, HistoryFound, HoldsHistory, setup_with}
use Rattle.of_memory.specs.Moments.{EachRunsScripts, WordsHoldHistory}
use Rattle.of_memory.proofs.Replaying.{Cells, AreScripts, entries, explains_all, own_sequences, has_only, in_time}
use Rattle.of_memory.proofs.Leading.{history_leads, own_sound}

each_of : {P Q : KnownCaller → Type 0} → ((x : KnownCaller) → P x → Q x) → (xs : List KnownCaller) → Every P xs → Every Q xs
each_of f [] h = tt
each_of f (x ∷ xs) h = (f x h.0, each_of f xs h.1)

module _ (w : Scripts) (limit : ℕ) (law : RowsHoldHistory (LawfulCells w) (setup_with w limit)) where
  abbrev S : Setup
  S = setup_with w limit

  -- a call of a caller that a view keeps, which has run scripts alone, is that of a script
  script_of : (B : TableStart) (h : List Call) (n : ℕ) (xs : List KnownCaller) → KeepsSo n RunsScripts xs → Every (saving.HasOnlyKept S B h) xs → (y : ℕ) → y < length h → (get_or h y no_call).caller ≡ n → IsScriptOperation (get_or h y no_call).op
  script_of B h n [] keeps only y l mine = absurd keeps
  script_of B h n (x ∷ xs) (inr k) only y l mine = script_of B h n xs k only.1 y l mine
  script_of B h n (x ∷ xs) (inl k) only y l mine = elim (only.0 y no_call l (mine ∙ sym k.0)) [
    | inl one ↦ subst IsScriptOperation (sym one.3) (k.1.ended one.0 no_ended one.1)
    | inr last ↦ subst IsScriptOperation last.1.1 (k.1.open_call last.1.0)
  ]

  module _ (B : TableStart) (st : State (Unit {0}) View) (r : MeetsRule S (LawfulCells w) B st) (each_runs : EachRunsScripts S st) (words : List ℕ) (durable : IsDurable S st.words words) where
    abbrev got : generic.HoldsHistory S (LawfulCells w) B st words
    got = law B st r words durable

    abbrev h : List Call
    h = got.history

    abbrev now : List ℕ
    now = numbers_found w.callers (scripts_data_cells w) words

    are_scripts : AreScripts w h
    are_scripts = recursion_from_All (λ (c : Call). IsScriptOperation c.op) h (All-from_get_or (λ (c : Call). IsScriptOperation c.op) h no_call (λ y l.
        let n : ℕ = (get_or h y no_call).caller in
        let low = got.leads.callers y no_call l in
        elim (each_runs n low) [
          | inl free ↦ absurd (got.free n low free y no_call l refl)
          | inr k ↦ script_of B h n k.view.kept k.keeps (got.views k.seat k.view k.there k.live).only y l refl
        ]))

    size : length now ≡ scripts_data_cells w
    size = length-map (start_from_durable w.callers (scripts_data_cells w) (recovered_words w.callers (scripts_data_cells w) words)).cells payload_of ∙ got.row.may_start.start.size

    started : (s : Store) → StandsAt w B s → Cells w (numbers_of B) s
    started s stands = record { size = length-map B.cells payload_of ∙ r.from.start.size; stored = stands }

    found : (s : Store) → StandsAt w B s → HistoryFound w limit B s words (λ P. EachView P st.views)
    found s stands =
        let from = started s stands in
        let q = got.sequences in
        let hs = entries w s h are_scripts in
        record {
          history = hs;
          sequences = q;
          leads = history_leads w w.callers refl (done_before S B) (numbers_of B) now size h q got.leads are_scripts s from;
          views = λ j v at live.
              let view = got.views j v at live in
              record {
                calls = each_of {P = saving.ExplainsKept S B h} {Q = ExplainsKept S B hs} (λ x all ms made. explains_all w h (numbers_of B) s are_scripts from got.leads.serial x.machine.caller (done_before S B x.machine.caller) x.ended ms made all) v.kept view.calls;
                own_seq = each_of {P = saving.HaveKeptSequences S B h q} {Q = HaveKeptSequences S B hs q} (λ x all ms made. own_sequences w h (numbers_of B) s are_scripts from got.leads.serial x.machine.caller (done_before S B x.machine.caller) x.ended ms made q all) v.kept view.own_seq;
                only = each_of {P = saving.HasOnlyKept S B h} {Q = HasOnlyKept S B hs} (λ x all ms made. has_only w h (numbers_of B) s are_scripts from got.leads.serial x.machine.caller (done_before S B x.machine.caller) x.ended ms made (HasOpenOperation x) (HasOpenScript x) (λ script is opened. (is, opened)) all) v.kept view.only;
                time = λ n x k y before. in_time w h (numbers_of B) s are_scripts from got.leads.serial n (done_before S B n + x) k (done_before S B k + y) (view.time n x k y before);
              };
        }

    -- the start stands for some store, and so what recovery finds holds the last replies
    replies_held : HoldsLastReplies w B → HoldsLastReplies w (start_from_durable w.callers (scripts_data_cells w) (recovered_words w.callers (scripts_data_cells w) words))
    replies_held before n low =
        own_sound w w.callers refl (done_before S B) (numbers_of B) now size h got.sequences got.leads are_scripts r.from.lawful.0 (started r.from.lawful.0 r.from.lawful.1) n low (got.own n low) (before n low)

  pub words_hold : WordsHoldHistory w limit
  words_hold B st r each_runs before some few words durable = (
    record {
      row = (law B st r words durable).row;
      replies = replies_held B st r each_runs words durable before;
      some_limit = some;
      few_limit = few;
    },
    found B st r each_runs words durable,
  )

  -- a closed row stops at its last moment, when one view keeps each caller
  pub holds_history : HoldsHistory w limit
  holds_history B ws v m awake keeps words durable =
      let each_runs : EachRunsScripts S m.state = (λ n low. inr (record { seat = m.seat; view = v; there = m.view; live = awake; keeps = keeps n low })) in
      let there : IsDurable S m.state.words words = subst (λ (xs : List ℕ). IsDurable S xs words) (sym m.words) durable in (
        (law B m.state m.rule words there).row,
        replies_held B m.state m.rule each_runs words there,
        λ s stands.
            let f = found B m.state m.rule each_runs words there s stands in
            record { history = f.history; sequences = f.sequences; leads = f.leads; views = f.views m.seat v m.view awake },
      )
