use Rattle.std.proofs.Common.{sym, ap, ◌∙◌}
use Rattle.of_script.specs.Reading.{front_and_rest}
use Rattle.of_script.proofs.Words.{ends_behind}
use Rattle.of_plan.proofs.BadPieces.{ends_on}
use Rattle.of_plan.proofs.InstrFaults.{front_read, first_missing, second_missing}
use Rattle.of_plan.proofs.parser.feed.read_instr.Goals as goal

pub returns-in-Err-clause-err : goal.returns-in-Err-clause-err
returns-in-Err-clause-err c =
    first_missing c.args.bytes.now c.in-Some.numbers.now c.in-Some.name.now c.in-Some-instr_named.form _ _ c.in-Some.ensures.words (ends_behind _ _ _ c.in-Some.ensures.parts) (sym c.in-Some-instr_named.ensures) c.in-Err.ensures.piece
    (rw c.first_most.ensures at c.in-Err.ensures.reason)

pub returns-in-Err-read_number-clause-err : goal.returns-in-Err-read_number-clause-err
returns-in-Err-read_number-clause-err c =
    second_missing c.args.bytes.now c.in-Some.numbers.now c.in-Ok.read.1.now c.in-Some.name.now c.in-Some-instr_named.form c.in-Ok.read.0 _ _ c.in-Some.ensures.words (ends_behind _ _ _ c.in-Some.ensures.parts) (sym c.in-Some-instr_named.ensures)
    (rw c.first_most.ensures at c.in-Ok.ensures.ok) c.in-Ok.ensures.rest c.in-Err-read_number.ensures.piece (rw c.second_most.ensures at c.in-Err-read_number.ensures.reason)

pub returns-clause-ok : goal.returns-clause-ok
returns-clause-ok c =
    ap front_and_rest c.in-Some.ensures.words
    ∙ rw c.with_numbers.ensures (front_read c.in-Some.name.now _ _ _ c.in-Some-instr_named.form c.in-Ok.read.0 c.in-Ok-read_number.read.0 (sym c.in-Some-instr_named.ensures) (rw c.first_most.ensures at c.in-Ok.ensures.ok) (rw c.second_most.ensures at c.in-Ok-read_number.ensures.ok))

pub returns-clause-rest : goal.returns-clause-rest
returns-clause-rest c =
    ends_on c.args.bytes.now c.in-Some.numbers.now _ (ends_behind _ _ _ c.in-Some.ensures.parts) (ends_on c.in-Some.numbers.now c.in-Ok.read.1.now _ c.in-Ok.ensures.rest c.in-Ok-read_number.ensures.rest)
