-- The order of steps: which step a machine makes at each place, and how it goes on with the word
-- that the step found.
use Rattle.std.specs.Prelude.{◌≡◌, ◌<◌, ℕ, ◌+◌, ◌*◌, ◌==◌, nat_lt, max, ◌-◌, List, [], ◌∷◌, ◌++◌, length, Option, Some, None, Bool, true, false, if◌then◌else◌, ◌&&◌}
use Rattle.std.proofs.Common.{get_or, set, replicate, zero, suc}
use Rattle.of_core.specs.declared.machine.trying.TheConstants.{MOST_TRIES}
use Rattle.of_cell.specs.Words.{pack, seq_of, payload_of}
use Rattle.of_mem.specs.declared.work.RawReply.{RawReply}
use Rattle.of_mem.specs.Meaning.{WalkEnd, Needs, Gives, is_marked}
use Rattle.of_mem.specs.CellMap.{put_all}
use Rattle.of_mem.specs.Part.{overlaid}
use Rattle.of_core.specs.declared.place.Place.{Place}
use Rattle.of_core.specs.declared.place.Place.TheVariants.{Idle, TryCurrent, TryRequest, TryCell, StoreScript, StoreAnnouncement, LoadCurrent, LoadRequest, CopyLog, LookAgain, LoadOwnTicket, LoadShape, LoadReply, LoadAnnouncement, LoadTicket, LoadScript, LoadCell, RaiseOld, StoreLog, RaiseLog, StoreRequest, RaiseRequest, ExchangeCurrent, RaiseCurrent, LoadTarget, ExchangeTarget, ReloadTarget, RaiseTarget, CloseRequest, RaiseClosed}
use Rattle.of_core.specs.declared.place.Op.{Op}
use Rattle.of_core.specs.declared.place.Op.TheVariants.{Load, Store, Exchange, Raise}
use Rattle.of_core.specs.declared.place.Outcome.TheVariants.{Answered, Spent}
use Rattle.of_core.specs.Table.{Setup, words_before_members, request_at, data_at, log_at, durable_at, script_word_at, ticket_cell, shape_cell, reply_cell}
use Rattle.of_core.specs.Machine.{Call, CallState, log_entry, log_words, log_of, entries_going_round, no_cell_known, with_cell_known, own_cells}

-- the step that the machine m makes next if it is at this place
abbrev pub want_at : Setup → CallState → Place → Op
want_at S m Idle = Load 0
want_at S m TryCurrent = Load 0
want_at S m TryRequest = Load (request_at m.owner)
want_at S m (TryCell a) = Load (data_at S a)
want_at S m (StoreScript j) = Store (script_word_at S m.caller j) (get_or m.op j 0)
want_at S m StoreAnnouncement =
    Store (script_word_at S m.caller S.instrs) (pack m.made (length m.op))
want_at S m LoadCurrent = Load 0
want_at S m LoadRequest = Load (request_at m.owner)
want_at S m (CopyLog x) = Load (log_at S m.owner x)
want_at S m LookAgain = Load (request_at m.owner)
want_at S m LoadOwnTicket = Load (data_at S (ticket_cell S m.caller))
want_at S m LoadShape = Load (data_at S (shape_cell S m.caller))
want_at S m (LoadReply j) = Load (data_at S (reply_cell S m.caller j))
want_at S m LoadAnnouncement = Load (script_word_at S m.scan S.instrs)
want_at S m LoadTicket = Load (data_at S (ticket_cell S m.scan))
want_at S m (LoadScript j) = Load (script_word_at S m.scan j)
want_at S m (LoadCell a) = Load (data_at S a)
want_at S m RaiseOld = Raise (durable_at S (request_at m.caller)) m.kept
want_at S m (StoreLog x) =
    Store (log_at S m.caller x) (pack (m.seq + 1) (get_or (log_words m.log) x 0))
want_at S m (RaiseLog x) =
    Raise (durable_at S (log_at S m.caller x)) (pack (m.seq + 1) (get_or (log_words m.log) x 0))
want_at S m StoreRequest = Store (request_at m.caller) (pack (m.seq + 1) 0)
want_at S m RaiseRequest = Raise (durable_at S (request_at m.caller)) (pack (m.seq + 1) 0)
want_at S m ExchangeCurrent = Exchange 0 (pack m.seq m.owner) (pack (m.seq + 1) m.caller)
want_at S m RaiseCurrent = Raise (durable_at S 0) (pack m.seq m.owner)
want_at S m (LoadTarget j) = Load (data_at S (log_entry m j).0)
want_at S m (ExchangeTarget j found) =
    Exchange (data_at S (log_entry m j).0) found (pack m.seq (log_entry m j).1)
want_at S m (ReloadTarget j) = Load (data_at S (log_entry m j).0)
want_at S m (RaiseTarget j found) = Raise (durable_at S (data_at S (log_entry m j).0)) found
want_at S m CloseRequest = Exchange (request_at m.owner) (pack m.seq 0) (pack m.seq 1)
want_at S m RaiseClosed = Raise (durable_at S (request_at m.owner)) (pack m.seq 1)

-- the step that the machine makes next
unfoldable pub want : Setup → CallState → Op
want S m = want_at S m m.place

-- the word of the table that a step is on
abbrev pub word_of : Op → ℕ
word_of (Load c) = c
word_of (Store c v) = c
word_of (Exchange c old new) = c
word_of (Raise c v) = c

-- the step is on a word of the table
abbrev pub IsOnTable : Setup → Op → Type 0
IsOnTable S o = word_of o < words_before_members S

-- the number that a step leaves in its word, if it found `found` there
abbrev pub word_left : Op → ℕ → ℕ
word_left (Load c) found = found
word_left (Store c v) found = v
word_left (Exchange c old new) found = if found == old then new else found
word_left (Raise c v) found = max found v

-- the words of the table after the step
abbrev pub words_after : Op → List ℕ → List ℕ
words_after o ws = set ws (word_of o) (word_left o (get_or ws (word_of o) 0))

-- the number is what the step finds in these words; a store may find any number
abbrev pub IsFoundBy : Op → List ℕ → ℕ → Type 0
IsFoundBy (Load c) ws n = n ≡ get_or ws c 0
IsFoundBy (Store c v) ws n = Unit {0}
IsFoundBy (Exchange c old new) ws n = n ≡ get_or ws c 0
IsFoundBy (Raise c v) ws n = n ≡ get_or ws c 0

-- the word of the table that the machine's next step is on, as the step finds it
abbrev pub word_found : Setup → List ℕ → CallState → ℕ
word_found S ws m = get_or ws (word_of (want S m)) 0

-- Announcing. After the store of a script word comes the store of the next script word, or, after
-- the last one, the store of the announcement.
abbrev pub after_store_script : CallState → ℕ → (more : Bool) → CallState
after_store_script m j true = record m { place = StoreScript (j + 1) }
after_store_script m j false = record m { place = StoreAnnouncement }

-- Trying a read. After a run on the known cells, the machine loads the cell that the run needs, or
-- the call is answered with the run's reply.
abbrev pub after_read_run : CallState → WalkEnd → CallState
after_read_run m (Needs a) = record m { place = TryCell a }
after_read_run m (Gives es r) =
    record m { place = Idle; answer = Some (Answered m.seq false r m.steps); steps = 0 }

abbrev pub read_on : Setup → CallState → CallState
read_on S m = after_read_run m (S.meaning.walk m.known m.op)

-- the machine at the beginning of a try's run, after the load of the owner's request or after the
-- help
abbrev pub begin_reading : Setup → CallState → CallState
begin_reading S m = read_on S (record m { known = no_cell_known S; helps = false })

-- the machine after a try that has met a newer cell: it begins the next try if `more` is true, and
-- otherwise it begins to announce the call
abbrev pub end_try : CallState → (more : Bool) → CallState
end_try m true = record m { place = TryCurrent }
end_try m false = record m { place = StoreScript 0 }

abbrev pub after_try_cell : Setup → CallState → (a found : ℕ) → (newer : Bool) → CallState
after_try_cell S m a found true = end_try m (nat_lt m.tries MOST_TRIES)
after_try_cell S m a found false = read_on S (record m { known = with_cell_known S m a found })

-- whether the request `found` says that the transaction s is open
abbrev pub is_request_open : (s found : ℕ) → Bool
is_request_open s found = nat_lt 0 s && (found == pack s 0)

abbrev pub after_try_request : Setup → CallState → (opened : Bool) → CallState
after_try_request S m true = record m { place = CopyLog 0; copy = []; helps = true }
after_try_request S m false = begin_reading S m

-- A round. Each round begins at the load of the current-transaction word.
abbrev pub next_round : CallState → CallState
next_round m = record m { place = LoadCurrent }

-- the sequence at which the call's first round began: s, if the round at s is the first
abbrev pub first_round_seq : CallState → ℕ → (none_yet : Bool) → ℕ
first_round_seq m s true = s
first_round_seq m s false = m.first

-- the machine in a round, after the load of the owner's request or after the help: it goes on with
-- the load of the caller's own ticket cell
abbrev pub enter : Setup → CallState → CallState
enter S m = record m {
  place = LoadOwnTicket;
  known = no_cell_known S;
  helps = false;
  log = [];
  calls = [];
  scan = 0;
}

abbrev pub resume : Setup → CallState → (in_try : Bool) → CallState
resume S m true = begin_reading S m
resume S m false = enter S m

abbrev pub after_load_request : Setup → CallState → (opened : Bool) → CallState
after_load_request S m true = record m { place = CopyLog 0; copy = []; helps = true }
after_load_request S m false = enter S m

-- Helping. The log words copied so far, and after them the payload of the log word that was found.
abbrev pub with_log_word_copied : CallState → ℕ → List ℕ
with_log_word_copied m found = m.copy ++ payload_of found ∷ []

abbrev pub after_copy_log : CallState → (x found : ℕ) → (more : Bool) → CallState
after_copy_log m x found true =
    record m { place = CopyLog (x + 1); copy = with_log_word_copied m found }
after_copy_log m x found false = record m { place = LookAgain; copy = with_log_word_copied m found }

abbrev pub after_look_again : Setup → CallState → (opened in_try : Bool) → CallState
after_look_again S m true in_try = record m {
  place = RaiseCurrent;
  log = entries_going_round (S.begins m.caller (length (log_of m.copy))) (log_of m.copy);
}
after_look_again S m false in_try = resume S m in_try

-- The caller's own ticket. If the ticket cell doesn't have the call's ticket, and the limit is
-- reached, the call ends as spent.
abbrev pub end_spent : CallState → CallState
end_spent m = record m { place = Idle; answer = Some (Spent m.seq); steps = 0 }

abbrev pub end_from_own_cells : CallState → CallState
end_from_own_cells m = record m {
  place = Idle;
  answer = Some (Answered (seq_of m.heard) true m.raw m.steps);
  steps = 0;
}

abbrev pub after_own_ticket_absent : Setup → CallState → ℕ → (at_limit : Bool) → CallState
after_own_ticket_absent S m found true = end_spent m
after_own_ticket_absent S m found false = record m {
  place = LoadAnnouncement;
  known = with_cell_known S m (ticket_cell S m.caller) found;
}

abbrev pub after_own_ticket_found : Setup → CallState → ℕ → (there at_limit : Bool) → CallState
after_own_ticket_found S m found true at_limit = record m { place = LoadShape; heard = found }
after_own_ticket_found S m found false at_limit = after_own_ticket_absent S m found at_limit

abbrev pub after_own_ticket : Setup → CallState → ℕ → (newer there at_limit : Bool) → CallState
after_own_ticket S m found true there at_limit = next_round m
after_own_ticket S m found false there at_limit = after_own_ticket_found S m found there at_limit

-- the first number that the shape marks, among the n numbers from number j on
abbrev pub first_marked_place : (shape j n : ℕ) → Option ℕ
first_marked_place shape j zero = None
first_marked_place shape j (suc n) =
    if is_marked shape j then Some j else first_marked_place shape (j + 1) n

abbrev pub next_reply_place : CallState → Option ℕ → CallState
next_reply_place m None = end_from_own_cells m
next_reply_place m (Some j) = record m { place = LoadReply j }

abbrev pub with_shape : Setup → CallState → ℕ → CallState
with_shape S m found =
    record m { raw = record { shape = payload_of found; values = replicate S.instrs 0 } }

abbrev pub after_load_shape : Setup → CallState → ℕ → (newer : Bool) → CallState
after_load_shape S m found true = next_round m
after_load_shape S m found false =
    next_reply_place (with_shape S m found) (first_marked_place (payload_of found) 0 S.instrs)

abbrev pub with_reply : CallState → (j found : ℕ) → CallState
with_reply m j found = record m {
  raw = record { shape = m.raw.shape; values = set m.raw.values j (payload_of found) };
}

abbrev pub after_load_reply : Setup → CallState → (j found : ℕ) → (newer : Bool) → CallState
after_load_reply S m j found true = next_round m
after_load_reply S m j found false =
    next_reply_place (with_reply m j found)
    (first_marked_place m.raw.shape (j + 1) (S.instrs - j - 1))

-- The scan. After a caller comes the load of the next caller's announcement, or, after the last
-- caller, the raise of the old request, which comes before the stores of the log.
abbrev pub place_behind : (more : Bool) → Place
place_behind true = LoadAnnouncement
place_behind false = RaiseOld

abbrev pub next_scanned_caller : CallState → (more : Bool) → CallState
next_scanned_caller m more = record m { place = place_behind more; scan = m.scan + 1 }

abbrev pub weigh : Setup → CallState → (new : Bool) → CallState
weigh S m true = record m { place = LoadScript 0; script = [] }
weigh S m false = next_scanned_caller m (nat_lt (m.scan + 1) S.callers)

abbrev pub after_announcement : Setup → CallState → ℕ → (ticket : Option ℕ) → CallState
after_announcement S m found None = record m { place = LoadTicket; heard = found }
after_announcement S m found (Some v) =
    weigh S (record m { heard = found }) (nat_lt v (seq_of found))

abbrev pub after_load_ticket : Setup → CallState → ℕ → (newer : Bool) → CallState
after_load_ticket S m found true = next_round m
after_load_ticket S m found false =
    weigh S (record m { known = with_cell_known S m (ticket_cell S m.scan) found })
    (nat_lt (payload_of found) (seq_of m.heard))

-- the call that the scan has run for the caller that it has come to, with its reply
abbrev pub call_as_run : CallState → RawReply → Call
call_as_run m r = record { caller = m.scan; ticket = seq_of m.heard; op = m.script; raw = r }

-- the reply of the machine's own call: if the call that was just run is its own, the reply of this
-- run, and otherwise the reply that it had
abbrev pub own_reply_or : (new old : RawReply) → (own : Bool) → RawReply
own_reply_or new old true = new
own_reply_or new old false = old

abbrev pub with_call_run : Setup → CallState → List (ℕ × ℕ) → RawReply → CallState
with_call_run S m es r = record m {
  log = put_all m.log (es ++ own_cells (ticket_cell S m.scan) (seq_of m.heard) (length m.script) r);
  calls = m.calls ++ call_as_run m r ∷ [];
  raw = own_reply_or r m.raw (m.scan == m.caller);
}

-- after a run of the scanned call, the machine loads the cell that the run needs, or the scan goes
-- on to the next caller
abbrev pub after_script_run : Setup → CallState → WalkEnd → CallState
after_script_run S m (Needs a) = record m { place = LoadCell a }
after_script_run S m (Gives es r) =
    next_scanned_caller (with_call_run S m es r) (nat_lt (m.scan + 1) S.callers)

abbrev pub run_script : Setup → CallState → CallState
run_script S m = after_script_run S m (S.meaning.walk (overlaid m.known m.log) m.script)

abbrev pub with_script_word : CallState → ℕ → List ℕ
with_script_word m found = m.script ++ found ∷ []

abbrev pub after_load_script : Setup → CallState → (j found : ℕ) → (more : Bool) → CallState
after_load_script S m j found true =
    record m { place = LoadScript (j + 1); script = with_script_word m found }
after_load_script S m j found false = run_script S (record m { script = with_script_word m found })

abbrev pub after_load_cell : Setup → CallState → (a found : ℕ) → (newer : Bool) → CallState
after_load_cell S m a found true = next_round m
after_load_cell S m a found false = run_script S (record m { known = with_cell_known S m a found })

-- The log. After the raise of a log word comes the store of the next log word, or, after the last
-- one, the store of the request.
abbrev pub after_raise_log : CallState → ℕ → (more : Bool) → CallState
after_raise_log m x true = record m { place = StoreLog (x + 1) }
after_raise_log m x false = record m { place = StoreRequest }

abbrev pub after_commit_exchange : CallState → (won : Bool) → CallState
after_commit_exchange m true =
    record m { place = RaiseCurrent; helps = false; seq = m.seq + 1; owner = m.caller }
after_commit_exchange m false = next_round m

-- Applying. After the raise of the current-transaction word comes the first entry of the log, or
-- the close of the request if the log is empty.
abbrev pub after_raise_current : CallState → (some : Bool) → CallState
after_raise_current m true = record m { place = LoadTarget 0 }
after_raise_current m false = record m { place = CloseRequest }

abbrev pub after_load_target : CallState → (j found : ℕ) → (older : Bool) → CallState
after_load_target m j found true = record m { place = ExchangeTarget j found }
after_load_target m j found false = record m { place = RaiseTarget j found }

abbrev pub next_entry : CallState → ℕ → (more : Bool) → CallState
next_entry m j true = record m { place = LoadTarget (j + 1) }
next_entry m j false = record m { place = CloseRequest }

-- after the raise of the closed request, a helper goes on with its round or try, and an owner's
-- call is answered
abbrev pub after_raise_closed : Setup → CallState → (helps in_try : Bool) → CallState
after_raise_closed S m true in_try = resume S m in_try
after_raise_closed S m false in_try = record m {
  place = Idle;
  answer = Some (Answered m.seq true m.raw m.steps);
  kept = pack m.seq 1;
  steps = 0;
}

-- the machine after its step from this place, which has found this number; the step is counted
-- already
abbrev pub take_word_at : Setup → CallState → (found : ℕ) → Place → CallState
take_word_at S m found Idle = m
take_word_at S m found TryCurrent = record m {
  place = TryRequest;
  seq = seq_of found;
  owner = payload_of found;
  tries = m.tries + 1;
}
take_word_at S m found TryRequest = after_try_request S m (is_request_open m.seq found)
take_word_at S m found (TryCell a) = after_try_cell S m a found (nat_lt m.seq (seq_of found))
take_word_at S m found (StoreScript j) = after_store_script m j (nat_lt (j + 1) (length m.op))
take_word_at S m found StoreAnnouncement = record m { place = LoadCurrent }
take_word_at S m found LoadCurrent = record m {
  place = LoadRequest;
  seq = seq_of found;
  owner = payload_of found;
  rounds = m.rounds + 1;
  first = first_round_seq m (seq_of found) (m.rounds == 0);
}
take_word_at S m found LoadRequest = after_load_request S m (is_request_open m.seq found)
take_word_at S m found (CopyLog x) =
    after_copy_log m x found (nat_lt (x + 1) (2 * get_or (with_log_word_copied m found) 0 0 + 1))
take_word_at S m found LookAgain = after_look_again S m (found == pack m.seq 0) (m.rounds == 0)
take_word_at S m found LoadOwnTicket =
    after_own_ticket S m found (nat_lt m.seq (seq_of found))
    (payload_of found == m.made) (m.seq == S.limit)
take_word_at S m found LoadShape = after_load_shape S m found (nat_lt m.seq (seq_of found))
take_word_at S m found (LoadReply j) = after_load_reply S m j found (nat_lt m.seq (seq_of found))
take_word_at S m found LoadAnnouncement =
    after_announcement S m found (get_or m.known (ticket_cell S m.scan) None)
take_word_at S m found LoadTicket = after_load_ticket S m found (nat_lt m.seq (seq_of found))
take_word_at S m found (LoadScript j) =
    after_load_script S m j found (nat_lt (j + 1) (payload_of m.heard))
take_word_at S m found (LoadCell a) = after_load_cell S m a found (nat_lt m.seq (seq_of found))
take_word_at S m found RaiseOld = record m { place = StoreLog 0 }
take_word_at S m found (StoreLog x) = record m { place = RaiseLog x }
take_word_at S m found (RaiseLog x) =
    after_raise_log m x (nat_lt (x + 1) (length (log_words m.log)))
take_word_at S m found StoreRequest = record m { place = RaiseRequest }
take_word_at S m found RaiseRequest =
    record m { place = ExchangeCurrent; kept = pack (m.seq + 1) 0 }
take_word_at S m found ExchangeCurrent = after_commit_exchange m (found == pack m.seq m.owner)
take_word_at S m found RaiseCurrent = after_raise_current m (nat_lt 0 (length m.log))
take_word_at S m found (LoadTarget j) = after_load_target m j found (nat_lt (seq_of found) m.seq)
take_word_at S m found (ExchangeTarget j f) = record m { place = ReloadTarget j }
take_word_at S m found (ReloadTarget j) = record m { place = RaiseTarget j found }
take_word_at S m found (RaiseTarget j f) = next_entry m j (nat_lt (j + 1) (length m.log))
take_word_at S m found CloseRequest = record m { place = RaiseClosed }
take_word_at S m found RaiseClosed = after_raise_closed S m m.helps (m.rounds == 0)

-- the machine after its step from this place was counted; a step counts only if a call is open
abbrev pub with_step_counted : Place → CallState → CallState
with_step_counted Idle m = m
with_step_counted p m = record m { steps = m.steps + 1 }

-- the machine after its next step, which has found this number
unfoldable pub take_word : Setup → CallState → (found : ℕ) → CallState
take_word S m found = take_word_at S (with_step_counted m.place m) found m.place
