use Rattle.std.proofs.Common.{◌≡◌, ◌<◌, [], ◌∷◌, take, length, sym, ap, subst, ◌∙◌, arith}
use Rattle.std.proofs.lemmas.List.{length-append, length-set}
use Rattle.of_script.specs.Language.{IsInstrInRange, IsScript}
use Rattle.of_script.specs.declared.instr.TheConstants.{MOST_INSTRS}
use Rattle.of_script.proofs.Grown.{all-push, length-front, placed, rest_placed}
use Rattle.of_script.proofs.script.Script.push.Goals as goal

pub invariant_of-self : goal.invariant_of-self
invariant_of-self c =
    let s = c.self.inside in
    let h = c.self.invariant in
    let len : length (take s.len s.instrs) ≡ s.len = length-front MOST_INSTRS s.instrs s.len h.size h.room in
    let lt : s.len < MOST_INSTRS = omega (arith, len, c.requires.room, ap length c.self.view_is) in
    let more = length-append (take s.len s.instrs) (c.args.instr ∷ []) in
    record {
      script = subst IsScript (sym (placed MOST_INSTRS s.instrs s.len c.args.instr h.size lt))
          (record { some = omega (arith, more); few = omega (arith, more, len); in_range = all-push IsInstrInRange (take s.len s.instrs) c.args.instr h.script.in_range c.requires.range });
      room = omega arith;
      size = length-set s.instrs s.len c.args.instr ∙ h.size;
      rest = rest_placed MOST_INSTRS s.instrs s.len c.args.instr _ h.size lt h.rest;
    }
