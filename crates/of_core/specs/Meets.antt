-- When a machine may take a word: at some moment that meets the invariant, the machine's next step
-- finds this word.
use Rattle.std.specs.Prelude.{◌≡◌, ℕ, ◌<◌, List}
use Rattle.std.proofs.Common.{get_or}
use Rattle.of_core.specs.Table.{Setup}
use Rattle.of_core.specs.Machine.{CallState}
use Rattle.of_core.specs.Steps.{want, IsFoundBy}
use Rattle.of_core.specs.TableMoment.{Moment, TableStart}
use Rattle.of_core.specs.Invariant.{MeetsInvariant}

-- at some moment that meets the invariant, m is the machine of a caller, and its next step finds
-- the word `found`
pub record MayTake (S : Setup) (Lawful : List ℕ → Type 0) (m : CallState) (found : ℕ) : Type 0 where
  pub start : TableStart
  pub world : Moment
  pub good : MeetsInvariant S Lawful start world
  pub caller : ℕ
  pub in_range : caller < S.callers
  pub here : get_or world.machines caller m ≡ m
  pub finds : IsFoundBy (want S m) world.words found
