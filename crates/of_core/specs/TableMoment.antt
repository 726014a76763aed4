-- Words, machines and history, and what a step does to them.
use Rattle.std.specs.Prelude.{ℕ, ◌==◌, List, [], ◌∷◌, ◌++◌, Bool, true, false, Option, Some, None}
use Rattle.std.proofs.Common.{get_or, set}
use Rattle.of_cell.specs.Words.{pack}
use Rattle.of_core.specs.declared.place.Place.{Place}
use Rattle.of_core.specs.declared.place.Place.TheVariants.{ExchangeCurrent}
use Rattle.of_mem.specs.declared.work.RawReply.{RawReply}
use Rattle.of_core.specs.declared.place.Outcome.{Outcome}
use Rattle.of_core.specs.declared.place.Outcome.TheVariants.{Answered, Spent, Lost}
use Rattle.of_core.specs.Table.{Setup, announcement_of}
use Rattle.of_core.specs.Machine.{Call, CallState, is_idle}
use Rattle.of_core.specs.Steps.{want, take_word, words_after, want_at, word_of, word_left, take_word_at, with_step_counted}

-- what one exchange of the current-transaction word commits
pub record Batch : Type 0 where
  pub owner : ℕ
  -- the write-set, in order of first writing
  pub log : List (ℕ × ℕ)
  -- the calls that the batch runs, by caller
  pub calls : List Call
  -- the announcements at the moment when the batch was committed
  pub announcements : ℕ → ℕ

-- a call that was answered without being announced: it read the state at this sequence
pub record Read : Type 0 where
  pub caller : ℕ
  pub ticket : ℕ
  pub op : List ℕ
  pub raw : RawReply
  pub seq : ℕ

-- the words, each caller's machine, and the history: the batches in order, and the reads in the
-- order of their answers
pub record Moment : Type 0 where
  pub words : List ℕ
  pub machines : List CallState
  pub batches : List Batch
  pub reads : List Read
  -- the cells that were loaded for evictions, with the words found
  pub loaded : List (ℕ × ℕ)

-- where a table starts: the last sequence, its owner, and the data words
pub record TableStart : Type 0 where
  pub seq : ℕ
  pub owner : ℕ
  pub cells : List ℕ

-- the batch that the machine's exchange of the current-transaction word commits, if it wins
abbrev pub one_batch : Setup → List ℕ → CallState → Bool → List Batch
one_batch S ws m true = record {
  owner = m.caller;
  log = m.log;
  calls = m.calls;
  announcements = λ c. announcement_of S ws c;
} ∷ []
one_batch S ws m false = []

-- the batches that a step from this place commits: an exchange of the current-transaction word that
-- wins commits one, and any other step none
abbrev pub step_batches_at : Setup → List ℕ → CallState → ℕ → Place → List Batch
step_batches_at S ws m found ExchangeCurrent = one_batch S ws m (found == pack m.seq m.owner)
step_batches_at S ws m found p = []

-- the read that the history gets by this outcome, if it is an unannounced answer
abbrev pub read_of : CallState → Option Outcome → List Read
read_of d None = []
read_of d (Some (Answered s false raw n)) =
    record { caller = d.caller; ticket = d.made; op = d.op; raw = raw; seq = s } ∷ []
read_of d (Some (Answered s true raw n)) = []
read_of d (Some (Spent s)) = []
read_of d (Some (Lost s)) = []

-- the read that a step has answered, if the step has led to the machine d, as a list of at most one
-- read; only a call's last step may answer a read
abbrev pub step_reads_if : CallState → (was_idle now_idle : Bool) → List Read
step_reads_if d true now_idle = []
step_reads_if d false true = read_of d d.answer
step_reads_if d false false = []

-- the reads that the step from the place p has answered, if the machine is d after it
abbrev pub step_reads_at : CallState → Place → List Read
step_reads_at d p = step_reads_if d (is_idle p) (is_idle d.place)

-- the batches that the machine's next step commits if it finds `found`, as a list of at most one
-- batch
unfoldable pub step_batches : Setup → List ℕ → CallState → ℕ → List Batch
step_batches S ws m found = step_batches_at S ws m found m.place

-- the reads that the machine's step from m to d has answered
unfoldable pub step_reads : CallState → CallState → List Read
step_reads m d = step_reads_at d m.place

-- the moment after the next step of caller i's machine m, which finds n
abbrev pub after_step : Setup → ℕ → CallState → ℕ → Moment → Moment
after_step S i m n w = record {
  words = words_after (want S m) w.words;
  machines = set w.machines i (take_word S m n);
  batches = w.batches ++ step_batches S w.words m n;
  reads = w.reads ++ step_reads m (take_word S m n);
  loaded = w.loaded;
}

-- the moment after the step of caller i's machine m from the place p, which finds the word that is
-- there
abbrev pub after_step_at : Setup → ℕ → CallState → Place → Moment → Moment
after_step_at S i m p w =
    let c = word_of (want_at S m p) in
    let found = get_or w.words c 0 in
    record {
      words = set w.words c (word_left (want_at S m p) found);
      machines = set w.machines i (take_word_at S (with_step_counted p m) found p);
      batches = w.batches ++ step_batches_at S w.words m found p;
      reads = w.reads ++ step_reads_at (take_word_at S (with_step_counted p m) found p) p;
      loaded = w.loaded;
    }

-- the moment after the step of caller i's machine m from the place p, if m has counted this step
-- already
abbrev pub after_counted_step : Setup → ℕ → CallState → Place → Moment → Moment
after_counted_step S i m p w =
    let c = word_of (want_at S m p) in
    let found = get_or w.words c 0 in
    record {
      words = set w.words c (word_left (want_at S m p) found);
      machines = set w.machines i (take_word_at S m found p);
      batches = w.batches ++ step_batches_at S w.words m found p;
      reads = w.reads ++ step_reads_at (take_word_at S m found p) p;
      loaded = w.loaded;
    }
