use Rattle.of_script.proofs.WordLaws.{instr_at_takes, instr_at_again}
use Rattle.of_script.proofs.laws.words_are_instructions.Goals as goal

pub returns-clause-read : goal.returns-clause-read
returns-clause-read c w i e = let u = instr_at_takes w i e in (u.range, u.word)

pub returns-clause-again : goal.returns-clause-again
returns-clause-again c = instr_at_again
