-- What is done to the store while it is filled.
use Rattle.std.proofs.Common.{◌≡◌, ℕ, zero, suc, ◌+◌, ◌<◌, ◌≤◌, false, leb, inl, inr, List, [], ◌∷◌, ◌++◌, get_or, set, replicate, refl, sym, ◌∙◌, ap, arith, Option, None, Ok}
use Rattle.std.specs.FinMap as fin
use Rattle.std.proofs.lemmas.Bool.{cases_eq}
use Rattle.std.proofs.lemmas.Bool.Decides.{leb_tells}
use Rattle.std.proofs.lemmas.List.{get_or-set_same, get_or-set_other}
use Rattle.of_mem.specs.declared.plot.Plot.{Plot}
use Rattle.of_mem.specs.Places.{register_at}
use Rattle.of_mem.specs.Plots.{base}
use Rattle.of_mem.specs.ProgramWork.{memory_of}
use Rattle.of_script.specs.declared.instr.Instr.{Instr}
use Rattle.of_script.specs.declared.instr.Instr.TheVariants.{Put, Push}
use Rattle.of_script.specs.Language.{IsScript, IsInstrInRange, greatest}
use Rattle.of_store.specs.Store.{Store, InstrEffect, instr_effect, then_outcome, run_result, run, stored_count, queue, with_key, with_queue, with_register, empty_store}
use Rattle.of_store.proofs.Effects.{put_new}
use Rattle.of_store.proofs.Keeps.{register_keeps, empty_is}
use Rattle.of_eval.specs.Walking.{HasRegisters}

-- a script of one instruction
pub one : (i : Instr) → IsInstrInRange i → IsScript (i ∷ [])
one i h = record { some = omega arith; few = omega arith; in_range = (h, tt) }

-- and what it does
pub one_run : (s t : Store) (i : Instr) (v : Option ℕ) → instr_effect s i ≡ Ok (t, v) → (run s (i ∷ [])).0 ≡ t
one_run s t i v e = ap (λ (x : InstrEffect). (run_result s (then_outcome x (λ u. Ok (u, [])))).0) e

pub put_run : (s : Store) (k v : ℕ) → fin.get s.keys k ≡ None → stored_count s < s.room → (run s (Put k v ∷ [])).0 ≡ with_key s k v
put_run s k v absent room = one_run s (with_key s k v) (Put k v) None (put_new s (fin.insert s.keys k v) k v absent room refl)

pub push_run : (s : Store) (q v : ℕ) → stored_count s < s.room → (run s (Push q v ∷ [])).0 ≡ with_queue s q (queue s q ++ v ∷ [])
push_run s q v room =
    let not_full : leb s.room (stored_count s) ≡ false = elim (leb_tells s.room (stored_count s)) [ inl p ↦ absurd (let h = p.1 in omega arith) | inr p ↦ p.0 ] in
    one_run s (with_queue s q (queue s q ++ v ∷ [])) (Push q v) None (rw not_full refl)

nil_at : (n q : ℕ) → get_or {A = List ℕ} (replicate n []) q [] ≡ []
nil_at zero q = refl
nil_at (suc n) zero = refl
nil_at (suc n) (suc q) = nil_at n q

pub registers_none : (p : Plot) (cells : List ℕ) → HasRegisters p cells 0 (empty_store p.blocks)
registers_none p cells = record {
  state = empty_is p.blocks p.few_blocks;
  room = refl;
  registers = λ r l. absurd (omega arith);
  keys = refl;
  queues = λ q. nil_at 4 q;
}

pub registers_more : (p : Plot) (cells : List ℕ) (r v : ℕ) (s : Store) → r < 16 → v ≡ memory_of cells (register_at (base p) r) → v ≤ greatest → HasRegisters p cells r s → HasRegisters p cells (r + 1) (with_register s r v)
registers_more p cells r v s r_in is small h = record {
  state = register_keeps s r v h.state small;
  room = h.room;
  registers = λ q l. elim (cases_eq q r) [
    | inl e ↦ ap (λ x. memory_of cells (register_at (base p) x)) e ∙ sym is ∙ sym (ap (λ x. get_or (set s.registers r v) x 0) e ∙ get_or-set_same s.registers r v 0 (omega (arith, h.state.registers)))
    | inr e ↦ h.registers q (omega (arith, e)) ∙ sym (get_or-set_other s.registers r q v 0 e)
  ];
  keys = h.keys;
  queues = h.queues;
}
