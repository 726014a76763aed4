-- What the invariant says of a call that is announced, tried or in a round. The words are ws, the
-- history is bs, from the start B, and m is the machine of caller i.
use Rattle.std.specs.Prelude.{ℕ, ◌+◌, ◌-◌, ◌*◌, List, length, Option, true, false, ◌≡◌, ◌≤◌, ◌<◌, ◌⊎◌}
use Rattle.std.proofs.Common.{get_or}
use Rattle.of_cell.specs.declared.word.TheConstants.{PAYLOADS}
use Rattle.of_core.specs.declared.machine.trying.TheConstants.{MOST_TRIES}
use Rattle.of_cell.specs.Words.{pack, seq_of, payload_of}
use Rattle.of_mem.specs.Meaning.{is_marked, Agrees}
use Rattle.std.specs.List.{All}
use Rattle.of_core.specs.Table.{most_entries, Setup, ticket_cell, shape_cell, reply_cell, request_of, data_word, log_word_of, durable_request, announcement_of, script_words_of, committed_seq, committed_owner}
use Rattle.of_core.specs.Machine.{Call, CallState}
use Rattle.of_core.specs.TableMoment.{Batch, TableStart}
use Rattle.of_core.specs.History.{batch_at, numbers_after, last_ticket_by}
use Rattle.of_core.specs.WordsMatch.{IsRequest, IsLastOpen}

-- the word v, to which a machine of caller i may raise the durable word of the caller's request, is
-- at most the request, and is a word that the request may have held
pub record KnowsOwnRequest (B : TableStart) (ws : List ℕ) (bs : List Batch) (i v : ℕ) : Type 0 where
  pub low : v ≤ request_of ws i
  pub held : IsRequest B ws bs i v

-- all calls of caller i with the ticket t in the batches have this operation
abbrev pub HasOneOperation : TableStart → List ℕ → List Batch → ℕ → ℕ → List ℕ → Type 0
HasOneOperation B ws bs i t op =
    (k : ℕ) → B.seq < k → k ≤ committed_seq ws
    → All (λ (c : Call). c.caller ≡ i → c.ticket ≡ t → c.op ≡ op) (batch_at B bs k).calls

-- m is before its first round or between two rounds. It has begun at most two rounds, and since the
-- first one began, at least as many batches were committed as rounds were begun
pub record IsBetweenRounds (ws : List ℕ) (m : CallState) : Type 0 where
  pub few : m.rounds ≤ 2
  pub later : 1 ≤ m.rounds → m.first + m.rounds ≤ committed_seq ws

-- m has loaded the ticket cell of caller i as it is in the state st, and this cell has the ticket
-- of m's call
pub record FindsOwnTicket (S : Setup) (st : List ℕ) (i : ℕ) (m : CallState) : Type 0 where
  pub heard : m.heard ≡ get_or st (ticket_cell S i) 0
  pub there : payload_of m.heard ≡ m.made

-- m has loaded the shape of its reply and the numbers below j that the shape marks, as they are in
-- the own cells of caller i in the state st
pub record HasReadReplyUpTo (S : Setup) (st : List ℕ) (i : ℕ) (m : CallState) (j : ℕ) : Type 0 where
  pub shape : m.raw.shape ≡ payload_of (get_or st (shape_cell S i) 0)
  pub replies : (y : ℕ) → y < j → is_marked m.raw.shape y ≡ true
      → get_or m.raw.values y 0 ≡ payload_of (get_or st (reply_cell S i y) 0)
  pub rest : (y : ℕ) → y < S.instrs → is_marked m.raw.shape y ≡ false
      → get_or m.raw.values y 0 ≡ 0
  pub many : length m.raw.values ≡ S.instrs

module _ (S : Setup) (B : TableStart) (ws : List ℕ) (bs : List Batch) where
  -- the call that caller i announces was run, or the limit is reached
  abbrev pub AnnouncesNothingNew : ℕ → Type 0
  AnnouncesNothingNew i =
      (seq_of (announcement_of S ws i) ≤ last_ticket_by S B bs (committed_seq ws) i)
      ⊎ (committed_seq ws ≡ S.limit)

  -- if the last transaction is open, it has no call of caller i, or the caller's ticket cell
  -- already shows that call
  abbrev pub HasSettledCells : ℕ → Type 0
  HasSettledCells i = IsLastOpen B ws
      → (last_ticket_by S B bs (committed_seq ws) i
      ≤ last_ticket_by S B bs (committed_seq ws - 1) i)
      ⊎ (committed_seq ws ≤ seq_of (data_word S ws (ticket_cell S i)))

  -- m has an open call that isn't announced yet
  pub record IsUnannounced (i : ℕ) (m : CallState) : Type 0 where
    pub caller : m.caller ≡ i
    pub ticket : m.made < PAYLOADS
    pub words : length m.op ≤ S.instrs
    pub some : 1 ≤ length m.op
    pub kept : KnowsOwnRequest B ws bs i m.kept
    -- no batch has run the call: its ticket is above the ticket of its caller's last call that was
    -- run
    pub above : last_ticket_by S B bs (committed_seq ws) i < m.made
    -- the call that the caller announces was run, or the limit is reached
    pub quieted : AnnouncesNothingNew i
    -- the caller's ticket cell shows its last call that was run
    pub settled : HasSettledCells i
    -- the call that the caller announces is older than the open call
    pub newer : seq_of (announcement_of S ws i) < m.made
    pub rounds : m.rounds ≡ 0

  -- m has an open call that is announced
  pub record IsAnnounced (i : ℕ) (m : CallState) : Type 0 where
    pub caller : m.caller ≡ i
    pub ticket : m.made < PAYLOADS
    pub words : length m.op ≤ S.instrs
    pub some : 1 ≤ length m.op
    pub kept : KnowsOwnRequest B ws bs i m.kept
    -- the announcement is of this call
    pub says : announcement_of S ws i ≡ pack m.made (length m.op)
    -- the script words are those of this call
    pub script : script_words_of S ws i (length m.op) ≡ m.op
    -- no later call of the caller was run
    pub upto : last_ticket_by S B bs (committed_seq ws) i ≤ m.made
    -- the call was not run before the start
    pub beyond : last_ticket_by S B bs B.seq i < m.made
    -- if the call is in a batch, it has the same operation there
    pub mine : HasOneOperation B ws bs i m.made m.op
    -- the call was announced before its first round, so its announcement was there when each later
    -- batch was committed
    pub known : 1 ≤ m.rounds
        → (B.seq ≤ m.first)
        × ((k : ℕ) → m.first < k → k ≤ committed_seq ws
        → (batch_at B bs k).announcements i ≡ announcement_of S ws i)

  -- the current-transaction word was (s, o) at some moment
  pub record WasCurrent (s o : ℕ) : Type 0 where
    -- s is the sequence of the start or of a batch
    pub from : B.seq ≤ s
    pub upto : s ≤ committed_seq ws
    -- if s is still the last sequence, o is the last owner
    pub same : s ≡ committed_seq ws → o ≡ committed_owner ws
    pub owner_in : o < S.callers
    -- o is the owner of batch s, or of the start
    pub committed : B.seq < s → (batch_at B bs s).owner ≡ o
    pub first : s ≡ B.seq → o ≡ B.owner

  -- m is in a round at the sequence m.seq
  pub record IsInRound (i : ℕ) (m : CallState) : Type 0 where
    -- the call is announced
    pub begun : IsAnnounced i m
    -- m.seq and m.owner are what the round has loaded of the current-transaction word
    pub current_word : WasCurrent m.seq m.owner
    -- caller i has committed no batch after m.seq
    pub unowned : (k : ℕ) → m.seq < k → k ≤ committed_seq ws → (batch_at B bs k).owner ≡ i → ⊥
    -- each round of the call is at a later sequence than the round before
    pub later : m.first + m.rounds ≤ m.seq + 1
    pub begun_one : 1 ≤ m.rounds
    pub few : m.rounds ≤ 3

  -- m is in one of the tries of a call that only reads and isn't announced (`IsUnannounced`)
  pub record IsInTry (i : ℕ) (m : CallState) : Type 0 where
    pub fresh : IsUnannounced i m
    pub reads : S.meaning.reads_only m.op ≡ true
    pub few : m.tries ≤ MOST_TRIES

  -- m may help: it is in a round or in a try
  abbrev pub MayHelp : ℕ → CallState → Type 0
  MayHelp i m = IsInRound i m ⊎ IsInTry i m

  -- the transaction s isn't open, and `known` has some cells of its state
  pub record KnowsClosedState (s : ℕ) (known : List (Option ℕ)) : Type 0 where
    -- the transaction s is closed, or a later one is committed
    pub quiet : s ≡ committed_seq ws → B.seq < s → pack s 0 < request_of ws (committed_owner ws)
    -- the known cells are those of the state after s
    pub agrees : Agrees known (numbers_after B bs s)
    pub all : length known ≡ S.cells

  -- m is in a round, and has found that the transaction m.seq isn't open
  pub record IsPastRequest (i : ℕ) (m : CallState) : Type 0 where
    pub round : IsInRound i m
    pub state : KnowsClosedState m.seq m.known

  -- m is in a round, and has looked at its own ticket cell: no batch up to m.seq has its call, and
  -- m.seq is below the limit
  pub record IsPastOwnTicket (i : ℕ) (m : CallState) : Type 0 where
    pub looks : IsPastRequest i m
    -- a batch may still be committed
    pub under : m.seq < S.limit
    -- no batch up to m.seq has run the call
    pub left : last_ticket_by S B bs m.seq i < m.made

  -- caller i's request and its log words are no newer than n, its request is durable, and its
  -- batches are closed
  pub record HasNothingUnderWay (i n : ℕ) : Type 0 where
    -- the caller's request is no newer than n
    pub own : seq_of (request_of ws i) ≤ n
    -- the caller's request is durable
    pub level : durable_request S ws i ≡ request_of ws i
    -- the caller's request closes each of the caller's batches
    pub shut : (k : ℕ) → B.seq < k → k ≤ committed_seq ws → (batch_at B bs k).owner ≡ i
        → pack k 0 < request_of ws i
    -- the caller's log words are no newer than n
    pub logs : (y : ℕ) → y < 2 * most_entries S + 1 → seq_of (log_word_of S ws i y) ≤ n
