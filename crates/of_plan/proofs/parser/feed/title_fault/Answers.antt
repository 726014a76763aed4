use Rattle.std.proofs.Common.{ap, ◌∙◌, List, ℕ, ◌∷◌, []}
use Rattle.of_plan.proofs.BadPieces.{ends_on}
use Rattle.of_plan.proofs.TitleFaults.{title_more, title_other}
use Rattle.of_plan.proofs.parser.feed.title_fault.Goals as goal

pub returns-in-Ok-read_word : goal.returns-in-Ok-read_word
returns-in-Ok-read_word c =
    title_more c.extra_word.result c.args.rest.now c.in-Ok-read_word.after.now (ends_on _ c.in-Ok.after.now _ c.in-Ok.ensures.rest c.in-Ok-read_word.ensures.rest)
    (rw c.as_slice.ensures at c.in-Ok.ensures.ok ∙ ap (λ (v : List (List ℕ)). (112 ∷ 108 ∷ 97 ∷ 110 ∷ []) ∷ v) (rw c.as_slice-2.ensures at c.in-Ok-read_word.ensures.ok))
    c.extra_word.ensures.none c.extra_word.ensures.piece c.extra_word.ensures.reason

pub returns-in-Err-read_word : goal.returns-in-Err-read_word
returns-in-Err-read_word c =
    title_other c.args.rest.now c.in-Ok.after.now _ c.in-Ok.ensures.rest (rw c.as_slice.ensures at c.in-Ok.ensures.ok) c.in-Err-read_word.ensures.piece (rw c.as_slice-2.ensures at c.in-Err-read_word.ensures.err)
