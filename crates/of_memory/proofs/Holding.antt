-- What a memory knows of its callers, as calls of scripts.
use Rattle.std.proofs.Common.{◌≡◌, ◌≢◌, ℕ, ◌<◌, inl, inr, List, [], length, get_or, set, Option, Some, None, refl, sym, ap, subst, ◌∙◌, arith}
use Rattle.std.proofs.lemmas.Bool.{cases_lt}
use Rattle.std.proofs.lemmas.List.{get_or-set_same, get_or-set_other, get_or_past, length-set}
use Rattle.std.proofs.lemmas.List.Elements.{All-from_recursion}
use Rattle.of_mem.proofs.Lists.{same_some}
use Rattle.of_core.specs.Machine.{CallState, IsOpen}
use Rattle.of_row.specs.Views.{EndedCall, KnownCaller, last_caller}
use Rattle.of_caller.specs.declared.caller.Caller.{Caller}
use Rattle.of_eval.specs.declared.scripts.Scripts.{Scripts}
use Rattle.of_eval.specs.Scripts.{scripts_meaning}
use Rattle.of_cells.specs.Called.{IsOpenAt}
use Rattle.of_cells.specs.Serving.{KnowsMore, ended_of}
use Rattle.of_cells.specs.Handles.{IsCellHandle, last_operation_of}
use Rattle.of_cells.specs.Memories as generic
use Rattle.of_memory.specs.declared.memory.Memory.{Memory}
use Rattle.of_memory.specs.declared.handle.Handle.{Handle}
use Rattle.of_memory.specs.Calls.{AreOfScripts, IsScriptOperation}
use Rattle.of_memory.specs.Rows.{IsScriptsRow}
use Rattle.of_memory.specs.Handles.{IsHandle, number_of_handle}
use Rattle.of_memory.specs.Memories.{IsMemory, IsFrom, IsStill, KnowsOthers, OthersStayOpen, TakesOut, TakesNone, PutsBack, row_of}

pub none_of_scripts : AreOfScripts []
none_of_scripts = All-from_recursion (λ (e : EndedCall). IsScriptOperation e.op) [] tt

-- ---- the callers that are in a memory

abbrev Callers : Type 0
Callers = List (Option (Caller Scripts))

pub is_within : (cs : Callers) (n : ℕ) (c : Caller Scripts) → get_or cs n None ≡ Some c → n < length cs
is_within cs n c here = elim (cases_lt n (length cs)) [
  | inl low ↦ low
  | inr high ↦ let none : get_or cs n None ≡ None = get_or_past cs n None high in absurd (cc (none, here))
]

pub same_ended : (c d : Caller Scripts) → KnowsMore c d → ended_of d ≡ ended_of c
same_ended c d same = ap (λ (xs : List KnownCaller). (last_caller xs).ended) same.kept

pub same_open : (c d : Caller Scripts) (op : List ℕ) → KnowsMore c d → IsOpenAt op d → IsOpenAt op c
same_open c d op same opened = subst (λ (x : CallState). IsOpen x.place × (x.op ≡ op)) same.call opened

-- this is so of each caller that is there
abbrev EachIs : (Caller Scripts → Type 0) → Callers → Type 0
EachIs P cs = (n : ℕ) (c : Caller Scripts) → get_or cs n None ≡ Some c → P c

-- it has run scripts alone
pub record RunsScriptsAlone (c : Caller Scripts) : Type 0 where
  pub made : AreOfScripts (ended_of c)
  pub opened : (op : List ℕ) → IsOpenAt op c → IsScriptOperation op

runs_alone : (c d : Caller Scripts) → KnowsMore c d → RunsScriptsAlone c → RunsScriptsAlone d
runs_alone c d same runs = record {
  made = subst AreOfScripts (sym (same_ended c d same)) runs.made;
  opened = λ op opened. runs.opened op (same_open c d op same opened);
}

there : (m : Memory) → IsMemory m → EachIs RunsScriptsAlone m.cells.callers.items
there m is n c here = record {
  made = is.made n (ended_of c) (record { caller = c; here = here; made = refl });
  opened = λ op opened. is.opened n op (record { caller = c; here = here; opened = opened });
}

-- one place is emptied, or a caller that has run scripts alone is put into it
each_set : (cs : Callers) (i : ℕ) (x : Option (Caller Scripts)) → EachIs RunsScriptsAlone cs → ((c : Caller Scripts) → x ≡ Some c → RunsScriptsAlone c) → EachIs RunsScriptsAlone (set cs i x)
each_set cs i x all one n c here = elim (cases_lt n i) [
  | inl low ↦ other (omega (arith, low))
  | inr high ↦ elim (cases_lt i n) [
    | inl low ↦ other (omega (arith, low))
    | inr le ↦
        let same : n ≡ i = omega (arith, high, le) in
        let lt : i < length cs = omega (arith, is_within (set cs i x) n c here, length-set cs i x, same) in
        one c (sym (get_or-set_same cs i x None lt) ∙ ap (λ (k : ℕ). get_or (set cs i x) k None) (sym same) ∙ here)
  ]
]
  where
    other : n ≢ i → RunsScriptsAlone c
    other ne = all n c (sym (get_or-set_other cs i n x None ne) ∙ here)

memory_of_each : (m : Memory) → generic.IsCellMemory scripts_meaning m.cells → IsScriptsRow (row_of m) → EachIs RunsScriptsAlone m.cells.callers.items → IsMemory m
memory_of_each m memory row all = record {
  memory = memory;
  row = row;
  made = λ n es has. subst AreOfScripts has.made (all n has.caller has.here).made;
  opened = λ n op has. (all n has.caller has.here).opened op has.opened;
}

module _ (m k : Memory) (is : IsMemory m) (memory : generic.IsCellMemory scripts_meaning k.cells) (still : IsStill m k) where
  row_still : IsScriptsRow (row_of k)
  row_still = subst IsScriptsRow (sym still) is.row

  -- ---- handles come and go

  pub took_none : TakesNone m k → IsMemory k
  took_none none = memory_of_each k memory row_still (subst (EachIs RunsScriptsAlone) (sym none) (there m is))

  module _ (h : Handle) where
    pub took_out : TakesOut m k h → IsMemory k
    took_out out =
        memory_of_each k memory row_still
        (subst (EachIs RunsScriptsAlone) (sym out.now) (each_set m.cells.callers.items (number_of_handle h) None (there m is) (λ c none. absurd (cc none))))

    pub handle_out : TakesOut m k h → IsCellHandle scripts_meaning h.cells → IsFrom k h → IsHandle h
    handle_out out handle from =
        let runs = runs_alone out.caller h.cells.caller out.same (there m is (number_of_handle h) out.caller out.was) in
        record {
          handle = handle;
          row = subst IsScriptsRow (sym (from ∙ still)) is.row;
          made = runs.made;
          open_call = λ opened. runs.opened (last_operation_of h.cells) (opened, refl);
        }

    pub put_back : PutsBack m k h → IsHandle h → IsMemory k
    put_back back handle =
        let runs : RunsScriptsAlone h.cells.caller = record { made = handle.made; opened = λ op opened. subst IsScriptOperation opened.1 (handle.open_call opened.0) } in
        memory_of_each k memory row_still
        (subst (EachIs RunsScriptsAlone) (sym back.now) (each_set m.cells.callers.items (number_of_handle h) (Some back.caller) (there m is)
        (λ c one. subst RunsScriptsAlone (same_some back.caller c (Some back.caller) refl one) (runs_alone h.cells.caller back.caller back.same runs))))

-- a memory in which no call was made
pub nothing_made : (m : Memory) → generic.IsCellMemory scripts_meaning m.cells → IsScriptsRow (row_of m) → generic.HasMadeNothing m.cells → generic.HasNoneOpen m.cells → IsMemory m
nothing_made m memory row none idle = record {
  memory = memory;
  row = row;
  made = λ n es has.
      let low : n < generic.callers_of m.cells = omega (arith, is_within m.cells.callers.items n has.caller has.here, memory.each) in
      let one = none n low in
      let same : one.caller ≡ has.caller = same_some one.caller has.caller (get_or m.cells.callers.items n None) one.here has.here in
      subst AreOfScripts (sym (sym has.made ∙ ap ended_of (sym same) ∙ one.made)) none_of_scripts;
  opened = λ n op has. absurd (idle n op has);
}

-- ---- typed

pub knows_others : (n : ℕ) (m k : Memory) → generic.KnowsOthers n m.cells k.cells → KnowsOthers n m k
knows_others n m k others i ms ne has = record { ended = has.ended; here = others i has.ended ne has.here; made = has.made }

pub others_open : (n : ℕ) (m k : Memory) → generic.OthersStayOpen n m.cells k.cells → OthersStayOpen n m k
others_open n m k others i script ne has = record { is = has.is; opened = others i _ ne has.opened }
