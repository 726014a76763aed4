-- What stays of a memory while handles come and go.
use Rattle.std.proofs.Common.{◌≡◌, ◌≢◌, ℕ, ◌<◌, inl, inr, List, [], ◌∷◌, refl, length, get_or, set, Option, Some, None, sym, ap, subst, ◌∙◌, arith}
use Rattle.std.proofs.lemmas.Bool.{cases_lt}
use Rattle.std.proofs.lemmas.List.{get_or-set_same, get_or-set_other, length-set}
use Rattle.of_mem.specs.Meaning.{Meaning, IsSoundMeaning}
use Rattle.of_mem.proofs.Lists.{same_some}
use Rattle.of_row.specs.declared.row.Row.{Row}
use Rattle.of_row.specs.Rows.{key_of}
use Rattle.of_core.specs.Machine.{CallState, IsOpen}
use Rattle.of_caller.specs.declared.caller.Caller.{Caller}
use Rattle.of_caller.specs.Callers.{caller_call}
use Rattle.of_cells.specs.declared.memory.CellMemory.{CellMemory}
use Rattle.of_cells.specs.declared.handle.CellHandle.{CellHandle}
use Rattle.of_cells.specs.Serving.{made_before, cells_at_start}
use Rattle.of_cells.specs.Handles.{HasCallOpen, IsSame}
use Rattle.of_cells.specs.Memories.{IsStill, HasOpenOf, HasNoneOpen, TakesOut, PutsBack, callers_of}
use Rattle.of_cells.specs.Joining.{CellsStayLawful, HistoriesJoin, MemoriesStay, NoneStaysOpen}
use Rattle.of_cells.proofs.Seats.{is_within}

pub still_callers : {W : Type 0} (m k : CellMemory W) → IsStill m k → callers_of k ≡ callers_of m
still_callers {W} m k still = ap (λ (r : Row W). (key_of r).callers) still

pub memories_stay : {W : Type 0} (meaning : W → Meaning) → MemoriesStay meaning
memories_stay {W} meaning m k still = record {
  work = ap (λ (r : Row W). (key_of r).work) still;
  callers = still_callers m k still;
  cells = ap (cells_at_start meaning) still;
  tickets = λ n. ap (λ (r : Row W). made_before meaning r n) still;
}

module _ {W : Type 0} (m k l : CellMemory W) (h g : CellHandle W) (none : HasNoneOpen m) (out : TakesOut m k h) (same : IsSame h g) (closed : HasCallOpen g → ⊥) (back : PutsBack k l g) (i : ℕ) (op : List ℕ) (opened : HasOpenOf l i op) where
  abbrev Seats : Type 0
  Seats = List (Option (Caller W))

  abbrev there : Seats
  there = k.callers.items

  put : get_or l.callers.items i None ≡ get_or (set there h.number (Some back.caller)) i None
  put = ap (λ (cs : Seats). get_or cs i None) back.now ∙ ap (λ (n : ℕ). get_or (set there n (Some back.caller)) i None) same.number

  elsewhere : i ≢ h.number → ⊥
  elsewhere ne =
      none i op (record {
        caller = opened.caller;
        here =
            sym (get_or-set_other m.callers.items h.number i None None ne)
            ∙ ap (λ (cs : Seats). get_or cs i None) (sym out.now)
            ∙ sym (get_or-set_other there h.number i (Some back.caller) None ne)
            ∙ sym put
            ∙ opened.here;
        opened = opened.opened;
      })

  here : i ≡ h.number → ⊥
  here is =
      let low : h.number < length there = omega (arith, is_within m.callers.items h.number out.caller out.was, ap (λ (cs : Seats). length cs) out.now, length-set m.callers.items h.number None) in
      let at : get_or (set there h.number (Some back.caller)) i None ≡ Some back.caller = ap (λ (n : ℕ). get_or (set there h.number (Some back.caller)) n None) is ∙ get_or-set_same there h.number (Some back.caller) None low in
      let one : opened.caller ≡ back.caller = same_some opened.caller back.caller (get_or l.callers.items i None) opened.here (put ∙ at) in
      closed (subst (λ (d : CallState). IsOpen d.place) (ap caller_call one ∙ back.same.call) opened.opened.0)

  pub stays_closed : ⊥
  stays_closed = elim (cases_lt i h.number) [
    | inl lt ↦ elsewhere (omega (arith, lt))
    | inr le ↦ elim (cases_lt h.number i) [
      | inl lt ↦ elsewhere (omega (arith, lt))
      | inr ge ↦ here (omega (arith, le, ge))
    ]
  ]

pub none_stays_open : (W : Type 0) → NoneStaysOpen W
none_stays_open W m k l h g none out same closed back i op opened = stays_closed m k l h g none out same closed back i op opened

-- ---- histories one after the other

pub histories_join : (M : Meaning) → HistoriesJoin M
histories_join M cells [] k one other = (other, refl)
histories_join M cells (e ∷ h) k one other = let r = histories_join M (M.cells cells e.op) h k one.1 other in ((one.0, r.0), r.1)

-- ---- lawful cells

pub stay_lawful : (M : Meaning) (lawful : List ℕ → Type 0) (base size : ℕ) → IsSoundMeaning M lawful base size → CellsStayLawful M lawful size
stay_lawful M lawful base size sound cells [] long is = (long, is)
stay_lawful M lawful base size sound cells (e ∷ h) long is = stay_lawful M lawful base size sound (M.cells cells e.op) h (sound.keeps_length cells e.op long) (sound.leads cells e.op long is)
