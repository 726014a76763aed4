-- A piece that is no number, where a number comes next.
use Rattle.std.proofs.Common.{◌≡◌, ℕ, ◌≤◌, List, ◌++◌, Some, None, sym, subst, arith}
use Rattle.of_script.specs.Reading.{slot_and_rest, parsed_number}
use Rattle.of_script.proofs.Forms.{slot_words}
use Rattle.of_script.proofs.Instrs.{slot_takes}
use Rattle.of_plan.specs.declared.reason.Reason.{Reason}
use Rattle.of_plan.specs.declared.reason.Reason.TheVariants.{Flawed, TitleExpected, CallersExpected, BlocksExpected, AfterEnd, UnknownLine, UnknownInstruction, NoCaller, NoCell, InstructionMissing, TooManyInstructions, TooManyScripts, TooManyTurns, StopTwice, SecondStop, HeadingOver, EndMissing}
use Rattle.of_plan.specs.declared.flaw.Flaw.{Flaw}
use Rattle.of_plan.specs.declared.flaw.Flaw.TheVariants.{ByteOrderMark, CarriageReturn, Tab, NumberMissing, NoNumber, TooGreat, Zero, WordTooMany}
use Rattle.of_plan.specs.Reading.{Reading}
use Rattle.of_plan.specs.Flaws.{IsNumberFlaw, HasFlaw}
use Rattle.of_plan.specs.Reasons.{IsAfterInstr, WantsNumber, IsPlaceOf, IsTrueOf}
use Rattle.of_plan.specs.Fed.{IsNumberFault, IsInstrFault}

-- of an instruction
pub of_instr : (r : Reason) (before : List (List ℕ)) (piece : List ℕ) (most : ℕ) → IsAfterInstr before most → IsNumberFault r most piece → IsInstrFault r before piece
of_instr (Flawed flaw) before piece most after h = (most, after, h)
of_instr TitleExpected before piece most after h = absurd h
of_instr CallersExpected before piece most after h = absurd h
of_instr BlocksExpected before piece most after h = absurd h
of_instr AfterEnd before piece most after h = absurd h
of_instr UnknownLine before piece most after h = absurd h
of_instr UnknownInstruction before piece most after h = absurd h
of_instr (NoCaller a b) before piece most after h = absurd h
of_instr (NoCell a b) before piece most after h = absurd h
of_instr InstructionMissing before piece most after h = absurd h
of_instr TooManyInstructions before piece most after h = absurd h
of_instr TooManyScripts before piece most after h = absurd h
of_instr TooManyTurns before piece most after h = absurd h
of_instr (StopTwice a) before piece most after h = absurd h
of_instr (SecondStop a) before piece most after h = absurd h
of_instr HeadingOver before piece most after h = absurd h
of_instr EndMissing before piece most after h = absurd h

-- of a line
flaw_true : (flaw : Flaw) (before : List (List ℕ)) (piece : List ℕ) (most : ℕ) → WantsNumber before most → IsNumberFlaw flaw most piece → HasFlaw flaw piece × IsPlaceOf flaw before piece
flaw_true NumberMissing before piece most wants h = (h, (most, wants))
flaw_true NoNumber before piece most wants h = (h, (most, wants))
flaw_true (TooGreat n) before piece most wants h =
    let same : most ≡ n = sym h.0 in
    ((h.1, subst (λ (m : ℕ). parsed_number m piece ≡ None) same h.2), subst (WantsNumber before) same wants)
flaw_true ByteOrderMark before piece most wants h = absurd h
flaw_true CarriageReturn before piece most wants h = absurd h
flaw_true Tab before piece most wants h = absurd h
flaw_true Zero before piece most wants h = absurd h
flaw_true WordTooMany before piece most wants h = absurd h

pub of_line : (r : Reason) (p : Reading) (before : List (List ℕ)) (piece : List ℕ) (most : ℕ) → WantsNumber before most → IsNumberFault r most piece → IsTrueOf r p before piece
of_line (Flawed flaw) p before piece most wants h = flaw_true flaw before piece most wants h
of_line TitleExpected p before piece most wants h = absurd h
of_line CallersExpected p before piece most wants h = absurd h
of_line BlocksExpected p before piece most wants h = absurd h
of_line AfterEnd p before piece most wants h = absurd h
of_line UnknownLine p before piece most wants h = absurd h
of_line UnknownInstruction p before piece most wants h = absurd h
of_line (NoCaller a b) p before piece most wants h = absurd h
of_line (NoCell a b) p before piece most wants h = absurd h
of_line InstructionMissing p before piece most wants h = absurd h
of_line TooManyInstructions p before piece most wants h = absurd h
of_line TooManyScripts p before piece most wants h = absurd h
of_line TooManyTurns p before piece most wants h = absurd h
of_line (StopTwice a) p before piece most wants h = absurd h
of_line (SecondStop a) p before piece most wants h = absurd h
of_line HeadingOver p before piece most wants h = absurd h
of_line EndMissing p before piece most wants h = absurd h

-- the words of a number that was read
pub slot_read : (most : ℕ) (ws : List (List ℕ)) (x : ℕ) (rest : List (List ℕ)) → most ≤ 4294967295 → slot_and_rest most ws ≡ Some (x, rest) → ws ≡ slot_words most x ++ rest
slot_read most ws x rest small e = (slot_takes most ws (x, rest) (omega (arith, small)) e).0
