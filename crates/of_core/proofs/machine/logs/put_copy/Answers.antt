use Rattle.std.proofs.Common.{◌≡◌, ℕ, ◌%◌, List, length, get_or, ap, ◌∙◌, refl}
use Rattle.of_core.specs.Machine.{log_of}
use Rattle.of_core.proofs.Puts.{log_of_words, put_round}
use Rattle.of_core.proofs.machine.logs.put_copy.Goals as goal

pub returns-then-count-gt0 : goal.returns-then-count-gt0
returns-then-count-gt0 c =
    let es : List (ℕ × ℕ) = c.requires.0 in
    let count : get_or c.args.copy.now 0 0 ≡ length es = ap (λ (ws : List ℕ). get_or ws 0 0) c.requires.1 in
    let all : log_of c.args.copy.now ≡ es = ap log_of c.requires.1 ∙ log_of_words es in
    rw (c.put_entries-then-count-gt0.ensures, c.put_entries.ensures, all, count) (ap (λ (ds : List (ℕ × ℕ)). record c.args.log.now { entries = ds }) (put_round c.args.log.now.entries es (c.args.helper % length es) (length es) refl))
