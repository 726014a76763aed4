-- How many steps a call makes at most, by what it touches: the longest log that it writes, copies
-- or applies, and the most data cells that one of its tries or rounds loads.
use Rattle.std.specs.Prelude.{ℕ, ◌+◌, ◌*◌, List, [], ◌∷◌, length, Option, Some, None, false, ◌≡◌, ◌≤◌, ◌<◌}
use Rattle.std.proofs.Common.{get_or, suc}
use Rattle.of_core.specs.declared.machine.trying.TheConstants.{MOST_TRIES}
use Rattle.of_core.specs.declared.place.Place.{Place}
use Rattle.of_core.specs.declared.place.Place.TheVariants.{TryCell, LoadOwnTicket, LoadTicket, LoadCell}
use Rattle.of_core.specs.Table.{Setup}
use Rattle.of_core.specs.Machine.{CallState}
use Rattle.of_core.specs.TableMoment.{Moment, TableStart}
use Rattle.of_core.specs.Invariant.{MeetsInvariant}
use Rattle.of_core.specs.Events.{Event, Begins, after_event, MayHappen, after_events, turn_count, IsSchedule, StaysOpen, machine_in}

-- how many cells are known
abbrev pub knowns : List (Option ℕ) → ℕ
knowns [] = 0
knowns (None ∷ ks) = knowns ks
knowns (Some v ∷ ks) = suc (knowns ks)

-- 1 if the next step loads a data cell that the try or the round is to know, and 0 otherwise. The
-- loads of the shape and the numbers of one's own reply do not count: they come in place of a scan,
-- and are no more than the words that a scan loads of one caller.
abbrev pub next_load : Place → ℕ
next_load (TryCell a) = 1
next_load LoadOwnTicket = 1
next_load LoadTicket = 1
next_load (LoadCell a) = 1
next_load p = 0

-- no log that the machine writes, copies or applies has more than `longest` entries, and its try or
-- round has loaded no more than `most` data cells
pub record Touches (m : CallState) (longest most : ℕ) : Type 0 where
  -- the machine's write-set, or the log that it applies
  pub log : length m.log ≤ longest
  -- the log that the machine copies: its first word is the number of entries
  pub copy : get_or m.copy 0 0 ≤ longest
  -- the cells that are known, and the one that is loaded next
  pub cells : knowns m.known + next_load m.place ≤ most

-- now and after each of the events, caller i's machine touches no more than `longest` and `most`
-- allow (`Touches`)
abbrev pub TouchesOnly : Setup → Moment → List Event → (i longest most : ℕ) → Type 0
TouchesOnly S w [] i longest most = Touches (machine_in w i) longest most
TouchesOnly S w (e ∷ es) i longest most =
    Touches (machine_in w i) longest most × TouchesOnly S (after_event S w e) es i longest most

-- The steps of each part of a call.

-- the most steps to apply a log: raise the current-transaction word, load, exchange, load again and
-- raise the cell of each entry, and exchange and raise the request
abbrev pub apply_steps : (longest : ℕ) → ℕ
apply_steps longest = 1 + 4 * longest + 2

-- the most steps of a help: copy the count and the two words of each entry, look at the request
-- again, and apply
abbrev pub help_steps : (longest : ℕ) → ℕ
help_steps longest = 1 + 2 * longest + 1 + apply_steps longest

-- the most steps to store a log and try to commit it: raise the old request, store and raise the
-- count and the two words of each entry, store and raise the new request, and exchange the
-- current-transaction word
abbrev pub store_steps : (longest : ℕ) → ℕ
store_steps longest = 1 + 2 * (1 + 2 * longest) + 2 + 1

-- the most steps of a try: load the current-transaction word and the request, help, and load the
-- data cells
abbrev pub try_steps : (longest most : ℕ) → ℕ
try_steps longest most = 2 + help_steps longest + most

-- the most steps of a round: load the current-transaction word and the request, help, load the data
-- cells and each caller's announcement and script words, and store the log. A round that finds its
-- call in the history loads its reply in place of the scan
abbrev pub round_steps : Setup → (longest most : ℕ) → ℕ
round_steps S longest most =
    2 + help_steps longest + most + S.callers * (S.instrs + 1) + store_steps longest

-- the most steps of a call with these words that has begun these tries and rounds: those of the
-- tries and rounds, of the announcement, and of applying its own log
abbrev pub footprint : Setup → List ℕ → (longest most tries rounds : ℕ) → ℕ
footprint S op longest most tries rounds =
    tries * try_steps longest most + (length op + 1)
    + (rounds * round_steps S longest most + apply_steps longest)

-- The open call of the machine m has made this many steps. They are fewer than the bound for the
-- logs and the cells that the call touches. The call has begun at most four tries and three rounds;
-- a call that may write has begun no try.
pub record HasFootprint (S : Setup) (longest most : ℕ) (m : CallState) (steps : ℕ) : Type 0 where
  pub within : steps < footprint S m.op longest most m.tries m.rounds
  pub tries : m.tries ≤ MOST_TRIES
  pub rounds : m.rounds ≤ 3
  pub untried : S.meaning.reads_only m.op ≡ false → m.tries ≡ 0

-- a call that has begun and stays open has made fewer steps than the bound for the logs and the
-- cells that it touches, whatever the size of the memory; so its last step comes in time
abbrev pub ByFootprint : Setup → (List ℕ → Type 0) → Type 0
ByFootprint S Lawful =
    (B : TableStart) (w : Moment) → MeetsInvariant S Lawful B w
    → (i : ℕ) (op : List ℕ) → MayHappen S w (Begins i op) →
    let v : Moment = after_event S w (Begins i op) in
    (es : List Event) → IsSchedule S v es → StaysOpen S v es i
    → (longest most : ℕ) → TouchesOnly S v es i longest most
    → HasFootprint S longest most (machine_in (after_events S v es) i) (turn_count i es)
