-- Tasks that have worked at once, as tasks of scripts.
use Rattle.std.proofs.Common.{◌≡◌, ℕ, ◌<◌, inl, inr, List, [], ◌∷◌, length, get_or, map, Some, None, refl, sym, ap, subst, ◌∙◌, arith}
use Rattle.std.proofs.lemmas.Bool.{cases_lt}
use Rattle.std.proofs.lemmas.List.{get_or_default}
use Rattle.of_script.specs.Language.{instr_word}
use Rattle.of_row.specs.Views.{EndedCall}
use Rattle.of_eval.specs.declared.scripts.Scripts.{Scripts}
use Rattle.of_eval.specs.Scripts.{scripts_meaning}
use Rattle.of_cells.specs.declared.handle.CellHandle.{CellHandle}
use Rattle.of_cells.specs.Handles.{IsCellHandle, made_by, last_operation_of}
use Rattle.of_cells.specs.Memories as cells
use Rattle.of_cells.specs.Tasks as generic
use Rattle.of_memory.specs.declared.memory.Memory.{Memory}
use Rattle.of_memory.specs.declared.handle.Handle.{Handle}
use Rattle.of_memory.specs.Calls.{AreMade, AreOfScripts, IsScriptOperation}
use Rattle.of_memory.specs.Rows.{IsScriptsRow}
use Rattle.of_memory.specs.Handles.{IsHandle}
use Rattle.of_memory.specs.Memories.{IsMemory, IsStill}
use Rattle.of_cells.specs.declared.memory.CellMemory.{CellMemory}
use Rattle.of_cells.proofs.Handing.{knew_handle}
use Rattle.of_mem.proofs.Lists.{same_some}
use Rattle.of_memory.specs.Tasks.{MayAllWork, KnowsHandle, KnowsSame, KnowsRest, TaskWork, WorksWith, HasWorkedAs, HaveWorked}

pub knows_handle : (m : Memory) (h : Handle) → generic.KnowsHandle m.cells h.cells → KnowsHandle m h
knows_handle m h knows = record {
  made = λ ms made. record { ended = made_by h.cells; here = knows.made; made = made };
  only = λ ms has. subst (λ (es : List EndedCall). AreMade es ms) (sym (knows.only has.ended has.here)) has.made;
  open_call = λ script opened. record { is = opened.is; opened = knows.open_call (map instr_word script) opened.opened };
  only_open = λ script has. record { is = has.is; opened = knows.only_open (map instr_word script) has.opened };
}

knows_same : (n : ℕ) (m k : Memory) → generic.KnowsSame n m.cells k.cells → KnowsSame n m k
knows_same n m k same = record {
  made = λ ms has. record { ended = has.ended; here = same.made has.ended has.here; made = has.made };
  only = λ ms has. record { ended = has.ended; here = same.only has.ended has.here; made = has.made };
  open_call = λ script has. record { is = has.is; opened = same.open_call (map instr_word script) has.opened };
  only_open = λ script has. record { is = has.is; opened = same.only_open (map instr_word script) has.opened };
}

pub knows_rest : (from : ℕ) (m k : Memory) → generic.KnowsRest from m.cells k.cells → KnowsRest from m k
knows_rest from m k rest n high = knows_same n m k (rest n high)

-- a handle that knows what the memory knows has run scripts alone
pub may_begin : (m : Memory) → IsMemory m → (h : CellHandle Scripts) → IsCellHandle scripts_meaning h → cells.IsFrom m.cells h → generic.KnowsHandle m.cells h → IsHandle (record { cells = h })
may_begin m is h handle from knows = record {
  handle = handle;
  row = subst IsScriptsRow (sym from) is.row;
  made = is.made h.number (made_by h) knows.made;
  open_call = λ opened. is.opened h.number (last_operation_of h) (knows.open_call (last_operation_of h) (opened, refl));
}

-- handles that were handed out may work
pub may_all_work : {J : Type 0} (m : Memory) → IsMemory m → (k : CellMemory Scripts) (xs left : List J) (ss slice : List (generic.Slot Scripts J)) → generic.HasHandedOut scripts_meaning m.cells k xs left ss → slice ≡ ss → MayAllWork slice
may_all_work {J} m is k xs left ss slice out same i s lt at p some =
    let low : i < length ss = omega (arith, lt, ap length same) in
    let q = out.pairs i low in
    let here : get_or ss i None ≡ Some p = get_or_default ss i None s low ∙ sym (at ∙ ap (λ (l : List (generic.Slot Scripts J)). get_or l i s) same) ∙ some in
    let o : generic.IsHandedOut scripts_meaning m.cells xs i p = subst (generic.IsHandedOut scripts_meaning m.cells xs i) (same_some q.0 p (get_or ss i None) q.1 here) q.2 in
    may_begin m is p.0 o.handle o.from (knew_handle m.cells p.0 o.was)

module _ {J : Type 0} (Does : TaskWork J) (m k : Memory) (is : IsMemory m) where
  worked_as : (n : ℕ) (x y : J) → generic.HasWorkedAs scripts_meaning (WorksWith Does) n m.cells k.cells x y → HasWorkedAs Does n m k x y
  worked_as n x y w = record {
    begun = record { cells = w.begun };
    number = w.number;
    from = w.from;
    handle = may_begin m is w.begun w.handle w.from w.knew;
    knew = knows_handle m (record { cells = w.begun }) w.knew;
    knew_order = w.knew_order;
    heard = w.heard;
    left = record { cells = w.left };
    worked = w.worked.done;
    knows = knows_handle k (record { cells = w.left }) w.knows;
    order = w.order;
    told = w.told;
  }

  pub have_worked : (xs ys : List J) → generic.HaveWorked scripts_meaning (WorksWith Does) m.cells k.cells xs ys → HaveWorked Does m k xs ys
  have_worked xs ys w = record { count = w.count; each = λ n d low. worked_as n (get_or xs n d) (get_or ys n d) (w.each n d low) }

  -- ---- the memory after it

  module _ (memory : cells.IsCellMemory scripts_meaning k.cells) (still : IsStill m k) where
    row_still : IsScriptsRow (cells.row_of k.cells)
    row_still = subst IsScriptsRow (sym still) is.row

    -- of each number it knows calls of scripts alone
    pub after_same : generic.KnowsRest 0 m.cells k.cells → IsMemory k
    after_same rest = record {
      memory = memory;
      row = row_still;
      made = λ n es has. is.made n es ((rest n (omega arith)).only es has);
      opened = λ n op has. is.opened n op ((rest n (omega arith)).only_open op has);
    }

    module _ (xs ys : List J) (w : generic.HaveWorked scripts_meaning (WorksWith Does) m.cells k.cells xs ys) (rest : generic.KnowsRest (length xs) m.cells k.cells) where
      -- the handle of each task has run scripts alone, and is known with its number
      made_by_task : (n : ℕ) (x y : J) → generic.HasWorkedAs scripts_meaning (WorksWith Does) n m.cells k.cells x y → (es : List EndedCall) → cells.HasMadeOf k.cells n es → AreOfScripts es
      made_by_task n x y one es has =
          let number : one.left.number ≡ n = one.worked.same.number ∙ one.number in
          subst AreOfScripts (one.knows.only es (subst (λ (i : ℕ). cells.HasMadeOf k.cells i es) (sym number) has)) one.worked.done.handle.made

      opened_by_task : (n : ℕ) (x y : J) → generic.HasWorkedAs scripts_meaning (WorksWith Does) n m.cells k.cells x y → (op : List ℕ) → cells.HasOpenOf k.cells n op → IsScriptOperation op
      opened_by_task n x y one op has =
          let number : one.left.number ≡ n = one.worked.same.number ∙ one.number in
          let opened = one.knows.only_open op (subst (λ (i : ℕ). cells.HasOpenOf k.cells i op) (sym number) has) in
          subst IsScriptOperation opened.1 (one.worked.done.handle.open_call opened.0)

      -- a task that is there
      some : (n : ℕ) (xs : List J) → n < length xs → J
      some n [] low = absurd (omega (arith, low))
      some n (x ∷ xs) low = x

      pub after_work : IsMemory k
      after_work = record {
        memory = memory;
        row = row_still;
        made = λ n es has. elim (cases_lt n (length xs)) [
          | inl low ↦ let d = some n xs low in made_by_task n (get_or xs n d) (get_or ys n d) (w.each n d low) es has
          | inr high ↦ is.made n es ((rest n high).only es has)
        ];
        opened = λ n op has. elim (cases_lt n (length xs)) [
          | inl low ↦ let d = some n xs low in opened_by_task n (get_or xs n d) (get_or ys n d) (w.each n d low) op has
          | inr high ↦ is.opened n op ((rest n high).only_open op has)
        ];
      }
