-- Cells on demand: a run asks for one cell after the other, and at each of its reads one more cell
-- may come to be known.
use Rattle.std.specs.Prelude.{◌≡◌, ℕ, List, [], length, Bool, true, false, Option, Result, MatchResult}
use Rattle.of_mem.specs.declared.part.Need.{Need}
use Rattle.of_mem.specs.declared.work.RawReply.{RawReply}
use Rattle.of_mem.specs.Meaning.{Meaning, Needs, Gives, KnowsSome, RunsAsWalked}
use Rattle.of_mem.specs.Part.{Part, Extends, overlaid, with_known}
use Rattle.of_mem.specs.Programs.{Program, Done, Read, Write, RunsAs, NeedsAt}

-- the program that reads one cell and answers its number
abbrev pub read_cell : ℕ → Program ℕ
read_cell a = Read a Done

-- the program that writes one cell
abbrev pub write_cell : ℕ → ℕ → Program (Unit {0})
write_cell a v = Write a v (Done tt)

-- A run of an operation on its way: its partial memory, which known cells it may come to have, and
-- which cell the operation as a whole lacks if these cells are known.
pub record Running : Type 1 where
  pub part : Part
  pub may_know : List (Option ℕ) → Type 0
  pub lacks : List (Option ℕ) → ℕ → Type 0

-- the same run later: it knows as much or more
pub record RunGoesOn (before after : Running) : Type 0 where
  pub more : Extends after.part.known before.part.known
  pub knows : after.may_know after.part.known
  pub may_know : (k : List (Option ℕ)) → after.may_know k → before.may_know k
  pub lacks : (k : List (Option ℕ)) (a : ℕ) → before.lacks k a → after.lacks k a

-- whatever comes to be known, this is so of the partial memory
abbrev pub Always : (Part → Type 0) → Running → Type 0
Always R c =
    (more : List (Option ℕ)) → Extends more c.part.known → c.may_know more
    → R (with_known more c.part)

-- whatever comes to be known, the cell that this program lacks is the one that the operation lacks
abbrev pub ServesRun : {A : Type 0} → Program A → Running → Type 0
ServesRun f c =
    (more : List (Option ℕ)) → Extends more c.part.known → c.may_know more
    → (a : ℕ) → NeedsAt f (with_known more c.part) a → c.lacks more a

-- a call may run as this program, on partial memories of which this is so
pub record MayRun {A : Type 0} (f : Program A) (R : Part → Type 0) (c : Running) : Type 0 where
  pub knows : c.may_know c.part.known
  pub always : Always R c
  pub serves : ServesRun f c

-- the call ran as this program does if what is known in the end is known from the start
pub record RunsOn {A : Type 0} (f : Program A) (before after : Running) (result : Result A Need)
    : Type 0 where
  pub walk : MatchResult result
      (λ r. RunsAs f (with_known after.part.known before.part) r after.part)
      (λ need. NeedsAt f (with_known after.part.known before.part) need.addr)
  pub batch : after.part.batch ≡ before.part.batch
  pub goes : RunGoesOn before after

-- nothing was written
abbrev pub HasOnlyRead : Part → Part → Type 0
HasOnlyRead before after = after ≡ with_known after.known before

-- a partial memory alone: nothing more comes to be known, and any cell may be lacked
abbrev pub resting : Part → Running
resting p = record { part = p; may_know = λ k. k ≡ p.known; lacks = λ _ _. Unit {0} }

-- An operation may be run on cells that it asks for. Nothing is written yet. Whatever comes to be
-- known is known of some lawful list of `size` cells, and the cell that the operation lacks is the
-- one that the run may ask for.
pub record MayReadFrom (M : Meaning) (lawful : List ℕ → Type 0) (size : ℕ) (op : List ℕ)
    (c : Running) : Type 0 where
  pub knows : c.may_know c.part.known
  pub batch : c.part.batch ≡ []
  pub script : c.part.script ≡ []
  pub state : (more : List (Option ℕ)) → Extends more c.part.known → c.may_know more
      → KnowsSome lawful size more × (length more ≡ size)
  pub lacks : (more : List (Option ℕ)) → Extends more c.part.known → c.may_know more
      → (a : ℕ) → M.walk more op ≡ Needs a → c.lacks more a

-- An operation was run on cells that it asked for. It ended as a run ends that knows from the start
-- what is known in the end, and it wrote nothing.
pub record HasReadFrom (M : Meaning) (op : List ℕ) (before after : Running)
    (result : Result (Unit {0}) Need) (old new : RawReply) : Type 0 where
  pub part : HasOnlyRead before.part after.part
  pub goes : RunGoesOn before after
  pub walk : RunsAsWalked M after.part.known op result [] old new

-- An operation may be run on cells that it asks for, and writes to them. It has written nothing yet.
-- Whatever comes to be known is, under the writes of the batch, known of some lawful list of `size`
-- cells, and the cell that the operation lacks is the one that the run may ask for.
pub record MayRunFrom (M : Meaning) (lawful : List ℕ → Type 0) (size : ℕ) (op : List ℕ)
    (c : Running) : Type 0 where
  pub knows : c.may_know c.part.known
  pub script : c.part.script ≡ []
  pub state : (more : List (Option ℕ)) → Extends more c.part.known → c.may_know more
      → KnowsSome lawful size (overlaid more c.part.batch) × (length more ≡ size)
  pub lacks : (more : List (Option ℕ)) → Extends more c.part.known → c.may_know more
      → (a : ℕ) → M.walk (overlaid more c.part.batch) op ≡ Needs a → c.lacks more a

-- the writes that an operation leaves: those that it made, or none if they are to be undone
abbrev pub writes_left : (undone : Bool) → List (ℕ × ℕ) → List (ℕ × ℕ)
writes_left true _ = []
writes_left false es = es

-- An operation was run on cells that it asked for. It ended as a run ends that knows from the start
-- what is known in the end. The answer says whether its writes are to be undone.
pub record HasRunFrom (M : Meaning) (op : List ℕ) (before after : Running)
    (result : Result Bool Need) (old new : RawReply) : Type 0 where
  pub batch : after.part.batch ≡ before.part.batch
  pub goes : RunGoesOn before after
  pub walk : MatchResult result
      (λ undone. M.walk (overlaid after.part.known after.part.batch) op
      ≡ Gives (writes_left undone after.part.script) new)
      (λ need. (M.walk (overlaid after.part.known after.part.batch) op ≡ Needs need.addr)
      × (new ≡ old))
