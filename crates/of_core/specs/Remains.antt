-- What a table's words say about a caller whose machine is lost: when a new machine may take its
-- place, and how the new machine begins.
use Rattle.std.specs.Prelude.{ℕ, ◌+◌, max, nat_lt, List, Bool, true, false, ◌≡◌, ◌≤◌, ◌<◌}
use Rattle.std.proofs.Common.{set, take}
use Rattle.of_cell.specs.Words.{pack, seq_of, payload_of}
use Rattle.of_core.specs.declared.place.Place.TheVariants.{LoadCurrent}
use Rattle.of_core.specs.declared.remains.Remains.{Remains}
use Rattle.of_core.specs.Table.{Setup, ticket_cell, current_word, request_of, durable_request, log_word_of, data_word, announcement_of, script_words_of}
use Rattle.of_core.specs.Machine.{CallState, IsOpen, idle_machine}
use Rattle.of_core.specs.TableMoment.{Moment}

-- the words from which a new machine for caller i is made
abbrev pub remains_of : Setup → List ℕ → ℕ → Remains
remains_of S ws i = record {
  current = current_word ws;
  request = request_of ws i;
  durable = durable_request S ws i;
  log = log_word_of S ws i 0;
  announcement = announcement_of S ws i;
  ticket = data_word S ws (ticket_cell S i);
  script = script_words_of S ws i S.instrs;
}

-- the current transaction is caller i's, and it is open
abbrev pub IsOwnOpen : Remains → ℕ → Type 0
IsOwnOpen r i = (payload_of r.current ≡ i) × (0 < seq_of r.current)
    × (r.request ≡ pack (seq_of r.current) 0)

-- a new machine may take the place of caller i's lost one
pub record MayRevive (r : Remains) (i : ℕ) : Type 0 where
  -- the caller's log is of no transaction after the last committed one
  pub log : seq_of r.log ≤ seq_of r.current
  -- the caller's request is of no transaction after the last committed one
  pub request : seq_of r.request ≤ seq_of r.current
  -- the caller has no open transaction
  pub closed : IsOwnOpen r i → ⊥
  -- the caller's request is durable
  pub durable : r.durable ≡ r.request

-- whether the announced call is newer than the call in the ticket cell; if it is, it may not have
-- run yet
abbrev pub announces_open_call : Remains → Bool
announces_open_call r = nat_lt (payload_of r.ticket) (seq_of r.announcement)

-- The new machine of caller i. If the announced call is open, the machine goes on with it: it is
-- about to begin the first round, and has made a step for each script word and one for the
-- announcement. Otherwise it is idle, and has begun `made` calls, or as many as the ticket cell
-- says if that is more.
abbrev pub revived_if : Setup → Remains → (i made : ℕ) → (announced : Bool) → CallState
revived_if S r i made true = record (idle_machine S i (seq_of r.announcement)) {
  op = take (payload_of r.announcement) r.script;
  place = LoadCurrent;
  steps = payload_of r.announcement + 1;
}
revived_if S r i made false = idle_machine S i (max made (payload_of r.ticket))

-- the new machine of caller i, made from the words of the table that `Remains` has
abbrev pub revived_machine : Setup → Remains → (i made : ℕ) → CallState
revived_machine S r i made = revived_if S r i made (announces_open_call r)

-- the new machine has begun as many calls as the lost one, and has an open call only if the lost
-- one had an open call
abbrev pub CountsOn : (lost now : CallState) → Type 0
CountsOn m d = (d.made ≡ m.made) × (IsOpen d.place → IsOpen m.place)

-- the moment after a new machine has taken the place of caller i's machine
abbrev pub after_revival : Setup → (i made : ℕ) → Moment → Moment
after_revival S i made w = record w {
  machines = set w.machines i (revived_machine S (remains_of S w.words i) i made);
}
