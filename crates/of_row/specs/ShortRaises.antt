-- The raises of a run are short. While something is about to raise a durable word, no event puts a
-- lower word there. So the loop that makes the raise, of a load and an exchange, fails at most
-- once.
use Rattle.std.specs.Prelude.{◌≡◌, ◌≢◌, ℕ, ◌≤◌, ◌<◌, List, length}
use Rattle.std.proofs.Common.{get_or, take, drop}
use Rattle.atomic_table.specs.Table.{State}
use Rattle.of_core.specs.declared.place.Op.TheVariants.{Raise}
use Rattle.of_core.specs.Table.{Setup, cell_count, durable_at, durable_word}
use Rattle.of_core.specs.Steps.{want}
use Rattle.of_core.specs.TableMoment.{Moment, TableStart}
use Rattle.of_core.specs.Events.{Event, machine_in, AllReplaceNone}
use Rattle.of_core.specs.Raised.{lower_changes}
use Rattle.of_row.specs.Views.{View}
use Rattle.of_row.specs.Rule.{MeetsRule}
use Rattle.of_row.specs.Trail.{moment}
use Rattle.of_row.specs.Runs.{HasRun}
use Rattle.of_row.specs.Moments.{IsReachedBy}

-- the moment after the first k events
abbrev pub moment_at : Setup → TableStart → List Event → ℕ → Moment
moment_at S B es k = moment S B (take k es)

-- the durable word of the cell c after the first k events
abbrev pub durable_after : Setup → TableStart → List Event → (k c : ℕ) → ℕ
durable_after S B es k c = durable_word S (moment_at S B es k).words c

-- from the moment after the first k events on, the loop that raises the durable word of the cell c
-- to v is short: its exchange fails at most once
pub record IsShort (S : Setup) (B : TableStart) (es : List Event) (k c v : ℕ) : Type 0 where
  -- no later event changes that word to one that is still below v
  pub undisturbed : lower_changes S (moment_at S B es k) (drop k es) c v ≡ 0
  -- if an exchange fails, since it finds another word than was loaded, each later load finds at
  -- least v, which ends the loop
  pub once : (load exchange again : ℕ) → k ≤ load → load ≤ exchange → exchange ≤ again
      → durable_after S B es exchange c ≢ durable_after S B es load c
      → v ≤ durable_after S B es again c

-- each raise in these events is short (`IsShort`), from each moment on at which the raise is still
-- to come
pub record HasShortRaises (S : Setup) (B : TableStart) (es : List Event) : Type 0 where
  -- the raises of callers: a caller's next step is to raise the durable word of the cell c to v
  pub calls : (k i c v : ℕ) → i < S.callers → c < cell_count S
      → want S (machine_in (moment_at S B es k) i) ≡ Raise (durable_at S c) v
      → IsShort S B es k c v
  -- the raises of evictions that have loaded their cell: to the word that was loaded
  pub evictions : (k n : ℕ) → n < length (moment_at S B es k).loaded →
      let e : ℕ × ℕ = get_or (moment_at S B es k).loaded n (0, 0) in IsShort S B es k e.0 e.1
  -- the raises of evictions that load and raise in one step: to the word that the cell holds
  pub at_once : (k c : ℕ) → c < cell_count S
      → IsShort S B es k c (get_or (moment_at S B es k).words c 0)

-- in each schedule that leads to a moment that meets the row's rule and replaces no machine, the
-- raises are short
abbrev pub MomentsHaveShortRaises : (List ℕ → Type 0) → Setup → Type 0
MomentsHaveShortRaises Lawful S =
    (B : TableStart) (s : State (Unit {0}) View) → MeetsRule S Lawful B s
    → (es : List Event) → IsReachedBy S B s es → AllReplaceNone es → HasShortRaises S B es

-- the raises of the run of a closed row are short
abbrev pub RunsHaveShortRaises : (List ℕ → Type 0) → Setup → Type 0
RunsHaveShortRaises Lawful S =
    (B : TableStart) (ws : List ℕ) (v : View) (es : List Event) → HasRun S Lawful B ws v es
    → HasShortRaises S B es
