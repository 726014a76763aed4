use Rattle.std.proofs.Common.{◌≡◌, ◌==◌, ◌%◌, length, true, arith, ap, ◌∙◌, refl}
use Rattle.std.proofs.lemmas.Bool.Decides.{nat_tests}
use Rattle.of_cell.specs.Words.{pack}
use Rattle.of_mem.specs.WriteSet.{WriteSet}
use Rattle.of_core.specs.Machine.{log_of, entries_going_round}
use Rattle.of_mem.proofs.Writes.{put_all_once}
use Rattle.of_core.proofs.Puts.{once_turned, log_of_words}
use Rattle.of_core.proofs.machine.Machine.after_look_again.Goals as goal

pub returns-then-found-pack : goal.returns-then-found-pack
returns-then-found-pack g c =
    let same : c.args.found ≡ pack c.self.inside.seq 0 = cc in
    let test : (c.args.found == pack c.self.inside.seq 0) ≡ true = grind (arith, nat_tests) in
    let e = (rw (← c.self.view_is) at c.requires.copied) same in
    let all : log_of c.self.inside.copy.items ≡ e.0 = ap log_of e.1 ∙ log_of_words e.0 in
    let log : c.put_copy.new.log.entries ≡ entries_going_round (c.self.inside.caller % length (log_of c.self.inside.copy.items)) (log_of c.self.inside.copy.items) =
    ap (λ (p : WriteSet). p.entries) c.put_copy.ensures ∙ rw (c.clear.ensures, c.as_slice.ensures.value, all) (put_all_once (entries_going_round (c.self.inside.caller % length e.0) e.0) (once_turned e.0 (c.self.inside.caller % length e.0) e.2.once))
    in
    rw (← c.self.view_is, test) (rw log refl)
