-- A handle that gives its machine up, and one that gets a new machine: its calls are calls of scripts.
use Rattle.std.proofs.Common.{◌≡◌, ℕ, ◌⊎◌, inl, inr, List, [], ◌∷◌, ◌++◌, map, refl, sym, subst, ◌∙◌}
use Rattle.std.proofs.lemmas.List.Elements.{All-push}
use Rattle.of_script.specs.declared.instr.Instr.{Instr}
use Rattle.of_script.specs.Language.{IsScript, instr_word}
use Rattle.of_core.specs.declared.place.Place.{Place}
use Rattle.of_core.specs.declared.place.Place.TheVariants.{Idle}
use Rattle.of_core.specs.declared.place.Outcome.TheVariants.{Lost as Gone}
use Rattle.of_core.specs.Machine.{IsOpen}
use Rattle.of_row.specs.Views.{EndedCall}
use Rattle.of_cells.specs.Lost as generic
use Rattle.of_cells.specs.Lost.{CallsGoOn}
use Rattle.of_cells.specs.Handles.{IsCellHandle, made_by, last_operation_of}
use Rattle.of_eval.specs.Scripts.{scripts_meaning}
use Rattle.of_memory.specs.declared.handle.Handle.{Handle}
use Rattle.of_memory.specs.declared.lost.LostHandle.{LostHandle}
use Rattle.of_memory.specs.History.{Made, Lost}
use Rattle.of_memory.specs.Calls.{IsScriptOperation, AreMade, AreOfScripts}
use Rattle.of_memory.specs.Rows.{IsScriptsRow}
use Rattle.of_memory.specs.Handles.{IsHandle, HasCallOpen}
use Rattle.of_memory.specs.Lost.{HasLostCall, IsLostHandle, GivesUp, IsRevived, StaysLost}
use Rattle.of_memory.proofs.Called.{made_more}

open_or_shut : (p : Place) → IsOpen p ⊎ (IsOpen p → ⊥)
open_or_shut Idle = inr (λ z. cc)
open_or_shut p = inl refl

module _ (was now : Type 0) (op new : List ℕ) (es fs : List EndedCall) (c : CallsGoOn was op es now new fs) where
  -- all calls are of scripts still
  of_scripts_still : was ⊎ (was → ⊥) → AreOfScripts es → (was → IsScriptOperation op) → AreOfScripts fs × (now → IsScriptOperation new)
  of_scripts_still (inr shut) all script = let n = c.none shut in (subst AreOfScripts (sym n.1) all, λ o. absurd (n.0 o))
  of_scripts_still (inl o) all script = elim (c.some o) [
    | inl t ↦ (subst AreOfScripts (sym t.2) all, λ z. subst IsScriptOperation (sym t.1) (script o))
    | inr t ↦ (subst AreOfScripts (sym t.1.1) (All-push (λ (e : EndedCall). IsScriptOperation e.op) es (record { op = op; outcome = Gone t.1.0 }) all (script o)), λ z. absurd (t.0 z))
  ]

  -- an open call of a script goes on as one, or is lost as one
  some_script : (script : List Instr) → IsScript script → op ≡ map instr_word script → was
      → (now × (new ≡ map instr_word script) × ((ms : List Made) → AreMade es ms → AreMade fs ms))
      ⊎ ((now → ⊥) × ((s : ℕ) × ((ms : List Made) → AreMade es ms → AreMade fs (ms ++ record { script = script; ended = Lost s } ∷ []))))
  some_script script is words o = elim (c.some o) [
    | inl t ↦ inl (t.0, t.1 ∙ words, λ ms made. subst (λ (xs : List EndedCall). AreMade xs ms) (sym t.2) made)
    | inr t ↦ inr (
      t.0,
      (
        t.1.0,
        λ ms made.
            subst (λ (xs : List EndedCall). AreMade xs (ms ++ record { script = script; ended = Lost t.1.0 } ∷ [])) (sym t.1.1)
            (made_more es ms (record { op = op; outcome = Gone t.1.0 }) (record { script = script; ended = Lost t.1.0 }) made
            (record { script = is; words = words; ended = refl })),
      ),
    )
  ]

-- a handle that has given its machine up
pub given_up : (h : Handle) (g : LostHandle) → IsHandle h → generic.IsLostHandle scripts_meaning g.cells → generic.GivesUp h.cells g.cells → IsLostHandle g
given_up h g is now gives = record {
  lost = now;
  row = subst IsScriptsRow (sym gives.home) is.row;
  made = subst AreOfScripts (sym gives.made) is.made;
  open_call = λ o. let b = gives.only o in subst IsScriptOperation b.1 (is.open_call b.0);
}

pub gives_calls : (h : Handle) (g : LostHandle) → generic.GivesUp h.cells g.cells → GivesUp h g
gives_calls h g gives = record {
  home = gives.home;
  number = gives.number;
  made = λ ms made. subst (λ (xs : List EndedCall). AreMade xs ms) (sym gives.made) made;
  open_call = gives.open_call;
  only = λ script had. let b = gives.only had.opened in record { is = had.is; opened = (b.0, b.1 ∙ had.words) };
  begun = gives.begun;
  seq = gives.seq;
}

module _ (g : LostHandle) (is : IsLostHandle g) where
  -- a handle with a new machine
  pub revived_handle : (h : Handle) → IsCellHandle scripts_meaning h.cells → generic.IsRevived scripts_meaning g.cells h.cells → IsHandle h
  revived_handle h now revived =
      let s = of_scripts_still (HasLostCall g) (HasCallOpen h) (generic.operation_lost g.cells) (last_operation_of h.cells) (generic.made_by_lost g.cells) (made_by h.cells) revived.calls (open_or_shut (generic.kept_by_lost g.cells).machine.place) is.made is.open_call in
      record { handle = now; row = subst IsScriptsRow (sym revived.home) is.row; made = s.0; open_call = s.1 }

  -- one that is still without
  pub still_lost : (k : LostHandle) → generic.IsLostHandle scripts_meaning k.cells → StaysLost g k → IsLostHandle k
  still_lost k now stays =
      let s = of_scripts_still (HasLostCall g) (HasLostCall k) (generic.operation_lost g.cells) (generic.operation_lost k.cells) (generic.made_by_lost g.cells) (generic.made_by_lost k.cells) stays.calls (open_or_shut (generic.kept_by_lost g.cells).machine.place) is.made is.open_call in
      record { lost = now; row = subst IsScriptsRow (sym stays.home) is.row; made = s.0; open_call = s.1 }

pub revived_calls : (g : LostHandle) (h : Handle) → generic.IsRevived scripts_meaning g.cells h.cells → IsRevived g h
revived_calls g h revived = record {
  home = revived.home;
  number = revived.number;
  seq = revived.seq;
  open_if = revived.open_if;
  none = λ shut. let n = revived.calls.none shut in (n.0, λ ms made. subst (λ (xs : List EndedCall). AreMade xs ms) (sym n.1) made);
  some = λ script had. elim (some_script (HasLostCall g) (HasCallOpen h) (generic.operation_lost g.cells) (last_operation_of h.cells) (generic.made_by_lost g.cells) (made_by h.cells) revived.calls script had.is had.words had.opened) [
    | inl t ↦ inl (record { is = had.is; opened = (t.0, t.1) }, t.2)
    | inr t ↦ inr t
  ];
}
