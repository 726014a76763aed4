-- What a call of `tool` saw of its source and its sink, and what it did to them.
use Rattle.std.specs.Prelude.{◌≡◌, ℕ, ◌-◌, ◌^◌, ◌<◌, ◌≤◌, Bool, IsTrue, List, length, Option, Some, None}
use Rattle.std.specs.Io.KnownBytes.{Appends, Consumes, IsAtEnd}
use Rattle.of_plan.specs.Ended.{Ended}
use Rattle.of_row.specs.Views.{View}
use Rattle.of_row.specs.declared.member.Pass.{Pass}

-- a source or a sink before and after a call: the bytes that a source has left or a sink has
-- written, if it shows them, and how often it has failed
pub record Change : Type 0 where
  pub before : Option (List ℕ)
  pub after : Option (List ℕ)
  pub faults : ℕ
  pub faults_after : ℕ

-- what a brake tells of the steps that it has left: nothing, or how many, or that there is no end
abbrev pub StepsLeft : Type 0
StepsLeft = Option (Option ℕ)

-- what a call of `tool` was given, what it did, and what it answered
pub record Seen : Type 0 where
  pub words : List (List ℕ)
  -- what the brake of each caller tells, in order
  pub brakes : List StepsLeft
  pub source : Change
  pub sink : Change
  -- whether the sink was finished before the call, and whether it is after the call
  pub was_finished : Bool
  pub finished : Bool
  pub status : ℕ
  -- what callers that ran at once have left, if they did
  pub ran : Option (Ended × Pass)

-- the change of a source or a sink, by functions that give its bytes and count its faults
abbrev pub bytes_change : {S : Type 0} → (S → Option (List ℕ)) → (S → ℕ) → S → S → Change
bytes_change bytes faults old new = record {
  before = bytes old;
  after = bytes new;
  faults = faults old;
  faults_after = faults new;
}

-- the source was read to its end without a fault, and these were the bytes, at most `most`
pub record ReadsAll (most : ℕ) (source : Change) (bytes : List ℕ) : Type 0 where
  pub taken : Consumes source.before source.after bytes
  pub ended : IsAtEnd source.after
  pub few : length bytes ≤ most
  pub no_fault : source.faults_after ≡ source.faults

-- the whole text was written to the sink, and finished
pub record IsWritten (seen : Seen) (text : List ℕ) : Type 0 where
  pub bytes : Appends seen.sink.before seen.sink.after text
  pub finished : IsTrue seen.finished

-- the sink is as it was before the call
pub record IsUntouched (seen : Seen) : Type 0 where
  pub bytes : seen.sink.after ≡ seen.sink.before
  pub finished : seen.finished ≡ seen.was_finished
  pub faults : seen.sink.faults_after ≡ seen.sink.faults

-- the count of faults is below its greatest value, so it can still rise
abbrev pub CanRise : ℕ → Type 0
CanRise faults = faults < 2 ^ 64 - 1

-- before the call the source showed its bytes, the counts of faults could rise, and the sink was
-- not finished: so the causes of the statuses can be told apart
pub record IsFresh (seen : Seen) : Type 0 where
  pub bytes : List ℕ
  pub known : seen.source.before ≡ Some bytes
  pub source : CanRise seen.source.faults
  pub sink : CanRise seen.sink.faults
  pub unfinished : IsTrue seen.was_finished → ⊥

-- ---- what a run hands out beside its status

-- what a pass has seen
abbrev pub view_of : Pass → View
view_of pass = pass.seat.me.0

-- a run has left a record and a pass, and `Is` holds of the record and of what the pass has seen
abbrev pub RecordHolds : Option (Ended × Pass) → (Ended → View → Type 0) → Type 0
RecordHolds None Is = ⊥
RecordHolds (Some ran) Is = Is ran.0 (view_of ran.1)
