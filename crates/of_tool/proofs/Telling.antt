-- What the answer to a command tells: with status 0 what the command did, and with 8 and 9 what is
-- wrong with its input.
use Rattle.std.proofs.Common.{◌≡◌, ℕ, List, Option, Some, Result, Ok, Err, sym, ap, subst, ◌∙◌, arith}
use Rattle.of_io.specs.Faults.{HasRisen, TakesMoreThan, TakesAtMost}
use Rattle.of_io.specs.declared.source.ReadErr.{ReadErr}
use Rattle.of_io.specs.declared.source.ReadErr.TheVariants.{Fault, TooLong as Long}
use Rattle.of_tool.specs.declared.command.Command.{Command}
use Rattle.of_tool.specs.declared.status.TheConstants.{DONE, ILLEGAL, DOES_NOT_FIT}
use Rattle.of_tool.specs.Commands.{AreWordsOf}
use Rattle.of_tool.specs.Seen.{Change}
use Rattle.of_tool.specs.Inputs.{Input, input_of, most_of}
use Rattle.of_tool.specs.declared.refusal.Refusal.{Refusal}
use Rattle.of_tool.specs.declared.refusal.Refusal.TheVariants.{ReadFault, TooLong, BadPlan, BadImage, UnlawfulImage, DoesNotFit, Illegal}
use Rattle.of_tool.specs.Refusals.{status_of, ReadFails, IsRefused, IsRefusal, IsIllegal, HasMisfit, FindsWrong}
use Rattle.of_tool.specs.Makes.{Makes}
use Rattle.of_tool.specs.Statuses.{IsAnswerTo, Done, Refused, IsAnswer, To, NoCommand, Told, WriteFault, OutOfMemory, DoneIsMade, FoundIsWrong}
use Rattle.of_tool.proofs.CommandLemmas.{same_command}

-- an answer to the words is one to their command
pub answer_to : (words : List (List ℕ)) (c : Command) (source : Change) (status : ℕ) (text : List ℕ) → AreWordsOf words c → IsAnswer words source status text → IsAnswerTo c source status text
answer_to words c source status text is (To d are answer) = let P : Command → Type 0 = λ k. IsAnswerTo k source status text in subst P (same_command words d c are is) answer
answer_to words c source status text is (NoCommand none status_is text_is) = absurd (none c is)

-- a refusal is not done
pub not_done : (why : Refusal) → status_of why ≡ DONE → ⊥
not_done ReadFault e = omega arith
not_done TooLong e = omega arith
not_done (BadPlan line) e = omega arith
not_done (BadImage line) e = omega arith
not_done (UnlawfulImage cell) e = omega arith
not_done DoesNotFit e = omega arith
not_done Illegal e = omega arith

pub refusal_undone : (c : Command) (source : Change) (status : ℕ) (text : List ℕ) → IsRefusal c source status text → status ≡ DONE → ⊥
refusal_undone c source status text h done = not_done h.why (sym h.status_is ∙ done)

-- a fault is not that the input is too long
pub fault_is_not_long : {T : Type 0} (e : ReadErr) → e ≡ Fault → ◌≡◌ {A = Result T ReadErr} (Err e) (Err Long) → ⊥
fault_is_not_long e fault long = absurd (let same : ◌≡◌ {A = ReadErr} Fault Long = sym fault ∙ ap err_of long in cc)
  where
    err_of : {T : Type 0} → Result T ReadErr → ReadErr
    err_of (Ok x) = Fault
    err_of (Err e) = e

-- an input of at most so many bytes that could not be read, or that is longer
pub fault_refused : (most : ℕ) (before after : Option (List ℕ)) (faults now : ℕ) → HasRisen faults now → TakesAtMost most before after → (input : Input) → most ≡ most_of input
    → ReadFails (most_of input) (record { before = before; after = after; faults = faults; faults_after = now })
fault_refused most before after faults now rose few input is = record { fault = rose; few = subst (λ (n : ℕ). TakesAtMost n before after) is few }

pub long_refused : (most : ℕ) (before after : Option (List ℕ)) → TakesMoreThan most before after → (input : Input) → most ≡ most_of input → TakesMoreThan (most_of input) before after
long_refused most before after more input is = subst (λ (n : ℕ). TakesMoreThan n before after) is more

-- what a command that is done has made
pub made_of : (c : Command) (source : Change) (status : ℕ) (text : List ℕ) → status ≡ DONE → IsAnswerTo c source status text → Makes c source text
made_of c source status text done (Done is makes) = makes
made_of c source status text done (Refused refusal) = absurd (not_done refusal.why (sym refusal.status_is ∙ done))

-- what it did, once that is written
pub done_is_made : DoneIsMade
done_is_made seen c (Told a) is = record { text = a.text; makes = made_of c seen.source seen.status a.text is.done (answer_to seen.words c seen.source seen.status a.text is.asked a.answer); written = a.written }
done_is_made seen c (WriteFault a) is = absurd (omega (arith, a.is, is.done))
done_is_made seen c (OutOfMemory a) is = absurd (omega (arith, a.is, is.done))

illegal_of : (input : Input) (source : Change) (why : Refusal) → IsRefused input source why → status_of why ≡ ILLEGAL → IsIllegal input source
illegal_of input source ReadFault h e = absurd (omega arith)
illegal_of input source TooLong h e = absurd (omega arith)
illegal_of input source (BadPlan line) h e = absurd (omega arith)
illegal_of input source (BadImage line) h e = absurd (omega arith)
illegal_of input source (UnlawfulImage cell) h e = absurd (omega arith)
illegal_of input source DoesNotFit h e = absurd (omega arith)
illegal_of input source Illegal h e = h

misfit_of : (input : Input) (source : Change) (why : Refusal) → IsRefused input source why → status_of why ≡ DOES_NOT_FIT → HasMisfit input source
misfit_of input source ReadFault h e = absurd (omega arith)
misfit_of input source TooLong h e = absurd (omega arith)
misfit_of input source (BadPlan line) h e = absurd (omega arith)
misfit_of input source (BadImage line) h e = absurd (omega arith)
misfit_of input source (UnlawfulImage cell) h e = absurd (omega arith)
misfit_of input source DoesNotFit h e = h
misfit_of input source Illegal h e = absurd (omega arith)

-- what statuses 8 and 9 say
judged_to : (c : Command) (source : Change) (status : ℕ) (text : List ℕ) → IsAnswerTo c source status text → FindsWrong (input_of c) source status
judged_to c source status text (Done is makes) input reads = ((λ e. absurd (omega (arith, is, e))), (λ e. absurd (omega (arith, is, e))))
judged_to c source status text (Refused refusal) input reads =
    let same : refusal.refused.input ≡ input = (let e : ◌≡◌ {A = Option Input} (Some refusal.refused.input) (Some input) = sym refusal.refused.reads ∙ reads in cc) in
    let P : Input → Type 0 = λ i. IsRefused i source refusal.why in
    let cause = subst P same refusal.refused.cause in
    ((λ e. illegal_of input source refusal.why cause (sym refusal.status_is ∙ e)), (λ e. misfit_of input source refusal.why cause (sym refusal.status_is ∙ e)))

pub found_is_wrong : FoundIsWrong
found_is_wrong seen c (Told a) is = judged_to c seen.source seen.status a.text (answer_to seen.words c seen.source seen.status a.text is a.answer)
found_is_wrong seen c (WriteFault a) is = λ input reads. ((λ e. absurd (omega (arith, a.is, e))), (λ e. absurd (omega (arith, a.is, e))))
found_is_wrong seen c (OutOfMemory a) is = λ input reads. ((λ e. absurd (omega (arith, a.is, e))), (λ e. absurd (omega (arith, a.is, e))))
