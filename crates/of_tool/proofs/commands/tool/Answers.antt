use Rattle.std.proofs.Common.{refl, subst, arith}
use Rattle.std.specs.Io.KnownBytes.{Appends}
use Rattle.of_io.specs.Faults.{AppendsFront}
use Rattle.of_tool.specs.Statuses.{WriteFault, OutOfMemory}
use Rattle.of_tool.proofs.Carried.{written, unwritten}
use Rattle.of_tool.proofs.commands.tool.Goals as goal

pub returns-in-Err-clause-answers : goal.returns-in-Err-clause-answers
returns-in-Err-clause-answers g c =
    unwritten _ (λ done. omega (arith, done)) c.requires.none (OutOfMemory (record { is = refl; untouched = record { bytes = refl; finished = refl; faults = refl } }))

pub returns-in-Ok-write_all-clause-answers : goal.returns-in-Ok-write_all-clause-answers
returns-in-Ok-write_all-clause-answers g c = written _
    (record {
      text = c.in-Ok.answer.text.items;
      answer = c.in-Ok.ensures.answered;
      written = record { bytes = subst (Appends _ _) c.deref.ensures.value c.in-Ok-write_all.ensures.ok; finished = c.in-Ok-write_all.ensures.finished };
      no_fault = c.in-Ok-write_all.ensures.cause.same;
    })
    c.in-Ok.ensures.carries

pub returns-in-Err-write_all-clause-answers : goal.returns-in-Err-write_all-clause-answers
returns-in-Err-write_all-clause-answers g c = unwritten _ (λ done. omega (arith, done)) c.requires.none
    (WriteFault (record {
      is = refl;
      fault = c.in-Err-write_all.ensures.cause.failed;
      text = c.in-Ok.answer.text.items;
      meant = c.in-Ok.answer.status;
      answer = c.in-Ok.ensures.answered;
      written = subst (AppendsFront _ _) c.deref.ensures.value c.in-Err-write_all.ensures.err;
    }))
