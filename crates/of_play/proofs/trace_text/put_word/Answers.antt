use Rattle.std.proofs.Common.{List, ℕ, ◌++◌, ◌∙◌, sym, ap}
use Rattle.std.specs.Prelude.{codes, decimal, string_bytes}
use Rattle.std.proofs.lemmas.List.{append_assoc}
use Rattle.std.proofs.lemmas.Result.{on_ok_weaker}
use Rattle.of_play.proofs.trace_text.put_word.Goals as goal

pub returns-in-Script : goal.returns-in-Script
returns-in-Script c =
    let at : List ℕ = decimal c.in-Script.at in
    let caller : List ℕ = decimal c.in-Script.caller in
    rw c.in-Script.is (on_ok_weaker c.write.result (λ e. e ∙ sym (ap (λ (xs : List ℕ). string_bytes c.args.out.now ++ (codes "script word " ++ xs)) (append_assoc at (codes " of ") caller))) c.write.ensures.bytes)
