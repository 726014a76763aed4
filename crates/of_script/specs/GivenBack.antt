-- The law that a script's fields follow from its list of instructions. It is in specs/, not in
-- proofs/, since the model of `Script` names it, and may name nothing from its own proofs/.
use Rattle.std.specs.Prelude.{◌≡◌, ℕ, ◌-◌, List, length, ◌++◌, replicate}
use Rattle.std.proofs.Common.{arith, ap, sym, ◌∙◌}
use Rattle.std.proofs.lemmas.List.{take-append-drop, length-take}
use Rattle.of_script.specs.declared.instr.Instr.{Instr}
use Rattle.of_script.specs.declared.script.Script.TheInside.{Inside}
use Rattle.of_script.specs.declared.instr.TheConstants.{MOST_INSTRS}
use Rattle.of_script.specs.Script.{padding_instr, script_value, IsFilled, script_fields}

-- the fields of a script are those that its list of instructions gives
pub filled-listed : (s : Inside) → IsFilled s → script_fields (script_value s) ≡ s
filled-listed s h =
    let len : length (script_value s) ≡ s.len =
    omega (arith, length-take s.len s.instrs, h.room, h.size) in
    let instrs : script_value s ++ replicate (MOST_INSTRS - length (script_value s)) padding_instr
    ≡ s.instrs =
    ap (λ (n : ℕ). script_value s ++ replicate (MOST_INSTRS - n) padding_instr) len
    ∙ ap (λ (r : List Instr). script_value s ++ r) (sym h.rest) ∙ take-append-drop s.len s.instrs in
    λ i. record { len = len i; instrs = instrs i }
