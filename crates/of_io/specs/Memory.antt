-- A source and a sink in memory, and what a read and a write do to them.
use Rattle.std.specs.Prelude.{◌≡◌, ℕ, ◌-◌, ◌<◌, ◌⊎◌, min, Bool, false, List, [], ◌++◌, length, take, drop, Contains, Result, Ok, Err}
use Rattle.of_io.specs.Faults.{saturating_next}
use Rattle.of_io.specs.declared.source.Failed.{Failed}

-- A source in memory: the bytes left, the most bytes that one read gives, the numbers of the reads
-- that fail, and how many reads were made and how many failed.
pub record MemSource : Type 0 where
  pub left : List ℕ
  pub piece : ℕ
  pub fails : List ℕ
  pub reads : ℕ
  pub faults : ℕ

-- a source with these bytes, of which none has been read
abbrev pub source_of_bytes : List ℕ → (piece : ℕ) → (fails : List ℕ) → MemSource
source_of_bytes bytes piece fails =
    record { left = bytes; piece = piece; fails = fails; reads = 0; faults = 0 }

-- how many bytes a read gives into a buffer of length `len`, if it doesn't fail
abbrev pub read_count : MemSource → ℕ → ℕ
read_count s len = min (min (length s.left) s.piece) len

-- the source after a read with this result
abbrev pub after_read : MemSource → Result ℕ Failed → MemSource
after_read s (Ok n) = record s { left = drop n s.left; reads = saturating_next s.reads }
after_read s (Err e) =
    record s { reads = saturating_next s.reads; faults = saturating_next s.faults }

-- A sink in memory: the bytes written, the most bytes for which there is room, the most bytes that
-- one write takes, the numbers of the writes that fail, how many writes were made and how many
-- failed, and whether what was written is finished.
pub record MemSink : Type 0 where
  pub bytes : List ℕ
  pub room : ℕ
  pub piece : ℕ
  pub fails : List ℕ
  pub writes : ℕ
  pub faults : ℕ
  pub finished : Bool

-- a sink to which nothing has been written
abbrev pub empty_sink : (room piece : ℕ) → (fails : List ℕ) → MemSink
empty_sink room piece fails = record {
  bytes = [];
  room = room;
  piece = piece;
  fails = fails;
  writes = 0;
  faults = 0;
  finished = false;
}

-- the next write of this text fails: its number is in the list, or the text isn't empty and no room
-- is left
abbrev pub FailsToWrite : MemSink → List ℕ → Type 0
FailsToWrite s text = Contains s.fails s.writes ⊎ ((s.room ≡ length s.bytes) × (0 < length text))

-- how many bytes a write takes of a text of this length, if it doesn't fail
abbrev pub write_count : MemSink → ℕ → ℕ
write_count s len = min (min (s.room - length s.bytes) s.piece) len

-- the sink after a write of this text with this result
abbrev pub after_write : MemSink → List ℕ → Result ℕ Failed → MemSink
after_write s text (Ok n) = record s {
  bytes = s.bytes ++ take n text;
  writes = saturating_next s.writes;
  finished = false;
}
after_write s text (Err e) = record s {
  writes = saturating_next s.writes;
  faults = saturating_next s.faults;
  finished = false;
}
