use Rattle.std.proofs.Common.{◌≡◌, ℕ, ◌<◌, nat_lt, true, if◌then◌else◌, refl, ◌∙◌, ap, arith}
use Rattle.std.proofs.lemmas.Bool.Decides.{nat_tests}
use Rattle.std.proofs.lemmas.List.FromFn.{fill_by_all}
use Rattle.of_mem.specs.Places.{shape_at}
use Rattle.of_script.specs.declared.instr.TheConstants.{MOST_INSTRS}
use Rattle.of_eval.specs.Lawful.{reply_number}
use Rattle.of_report.specs.Found.{number_in}
use Rattle.of_report.proofs.data_cells.reply.Goals as goal

-- a cell of the reply
within : (k n v : ℕ) → k < n → v ≡ (if nat_lt k n then v else 0)
within k n v l = let e : nat_lt k n ≡ true = grind (arith, nat_tests) in rw e refl

pub returns : goal.returns
returns c =
    let words = c.args.words.now in
    let shape : c.number-2.result ≡ number_in words (shape_at MOST_INSTRS c.args.caller) = c.number-2.ensures ∙ ap (number_in words) (c.shape.ensures ∙ ap (λ (n : ℕ). shape_at n c.args.caller) c.requires.instrs) in
    let values = fill_by_all (reply_number MOST_INSTRS (number_in words) c.args.caller) c.loop-place.values MOST_INSTRS 0 c.loop-place.invariant.long
    (λ k l. c.loop-place.invariant.each k (omega arith) ∙ within k MOST_INSTRS _ l) in
    λ i. record { shape = shape i; values = values i }
