-- The laws of the protocol from which the laws of a row are proved, at one setup: those of
-- `of_core::laws`.
use Rattle.std.specs.Prelude.{ℕ, List}
use Rattle.of_core.specs.Table.{Setup}
use Rattle.of_core.specs.Laws.{StartsMeetInvariant, FirstWordsHoldStart, FirstMachinesAreIdle, SchedulesKeepInvariant, StepsGuarantee, OpenStepsAreSteps, StepBlind, StepsKeepDurables, BeginsKeepInvariant, InvariantIsSound, EveryCallStands, CallsEndInTime}
use Rattle.of_core.specs.Laws.{IdleRestsOnNothing, StepsFindTheirWord, TurnsAreSteps, NextBatchIsNumberedNext, LongerKeepsBatches, LongerKeepsStates}
use Rattle.of_core.specs.Written.{OwnersTakePart}
use Rattle.of_core.specs.Grounds.{GoodGrounds}
use Rattle.of_core.specs.Touched.{ByTouch}
use Rattle.of_core.specs.Revived.{StepsLeaveRevivable, StepsKeepRequest, RevivalsCountOn, RevivedRestOnNothing}

-- laws of histories: how batches are numbered, and what stays the same if a history gets longer
pub record HistoryLaws : Type 0 where
  pub next : NextBatchIsNumberedNext
  pub batches : LongerKeepsBatches
  pub states : LongerKeepsStates

pub record RowLaws (S : Setup) (Lawful : List ℕ → Type 0) : Type 0 where
  -- laws of a start, and of all schedules from it
  pub start : StartsMeetInvariant S Lawful
  pub words : FirstWordsHoldStart S
  pub machines : FirstMachinesAreIdle S
  pub runs : SchedulesKeepInvariant S Lawful
  pub calls : EveryCallStands S Lawful
  pub owners : OwnersTakePart S Lawful
  pub touched : ByTouch S Lawful
  pub sound : InvariantIsSound S Lawful
  pub grounds : GoodGrounds S Lawful
  -- laws of one step, and of the begin of a call
  pub taken : OpenStepsAreSteps S Lawful
  pub durables : StepsKeepDurables S Lawful
  pub blind : StepBlind S Lawful
  pub begins : BeginsKeepInvariant S Lawful
  pub in_time : CallsEndInTime S Lawful
  -- laws of what others' steps leave of a caller, and of a machine that takes a lost one's place
  pub guarantees : StepsGuarantee S Lawful
  pub leave : StepsLeaveRevivable S Lawful
  pub request : StepsKeepRequest S Lawful
  pub counted : RevivalsCountOn S Lawful
  pub rests : RevivedRestOnNothing S
  -- laws of a machine by itself
  pub idle : IdleRestsOnNothing
  pub finds : StepsFindTheirWord
  pub turn_is : TurnsAreSteps
  pub histories : HistoryLaws
