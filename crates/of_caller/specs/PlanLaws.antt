-- The laws of the protocol at the table of a plan.
use Rattle.std.specs.Prelude.{ℕ, List}
use Rattle.of_plan.specs.Plan.{Plan}
use Rattle.of_core.specs.Table.{Setup}
use Rattle.of_core.specs.Laws.{OpenStepsAreSteps, StepsFindTheirWord, InvariantIsSound, WordsBehindAreFree, WordsBehindKeepCalls, StartsMeetInvariant, EventsKeepInvariant, SchedulesKeepInvariant, EveryMomentIsSound, EveryCallStands, TurnsCountSteps, EventsLeadCalls, FirstWordsHoldStart, ZerosMayStart}
use Rattle.of_caller.specs.Tables.{plan_setup, IsLawfulFor}
use Rattle.of_caller.specs.LastOutcomes.{EventsLeadLast, MachinesHoldLast}

-- what the laws say of a table with this setup; `Lawful` says which data cells are lawful
pub record HasTableLaws (S : Setup) (Lawful : List ℕ → Type 0) : Type 0 where
  -- a start meets the invariant, events and schedules keep it, and a moment that meets it is sound
  pub starts : StartsMeetInvariant S Lawful
  pub events : EventsKeepInvariant S Lawful
  pub schedules : SchedulesKeepInvariant S Lawful
  pub sound : InvariantIsSound S Lawful
  -- the words that come after the table's own words may be anything
  pub beside : WordsBehindAreFree S Lawful
  pub beside_calls : WordsBehindKeepCalls S Lawful
  -- a step of an open call finds the word that is there, and is a step of the protocol
  pub finds : StepsFindTheirWord
  pub steps : OpenStepsAreSteps S Lawful
  -- every schedule leaves a sound moment, and the calls and turns of each caller are those of the
  -- schedule's events
  pub moments : EveryMomentIsSound S Lawful
  pub calls : EveryCallStands S Lawful
  pub more_calls : EventsLeadCalls S Lawful
  pub turns : TurnsCountSteps S Lawful
  -- as long as no machine is replaced, an idle one holds its caller's last outcome
  pub more_last : EventsLeadLast S Lawful
  pub last : MachinesHoldLast S Lawful
  -- the first words of a table hold its start, and a table may start with zeros
  pub words : FirstWordsHoldStart S
  pub zero_start : ZerosMayStart S Lawful

-- the laws hold for the table of the plan
abbrev pub KeepsLaws : Plan → Type 0
KeepsLaws p = HasTableLaws (plan_setup p) (IsLawfulFor p)
