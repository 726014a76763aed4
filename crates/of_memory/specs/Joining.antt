-- Laws of serial histories and of memories, for programs that reason about what is saved.
use Rattle.std.specs.Prelude.{◌≡◌, ◌≢◌, ◌++◌, ℕ, ◌<◌, Bool, true, List, [], map}
use Rattle.std.specs.List.{All}
use Rattle.of_script.specs.declared.instr.Instr.{Instr}
use Rattle.of_store.specs.Store.{Store, run, last_store}
use Rattle.of_memory.specs.declared.memory.Memory.{Memory}
use Rattle.of_memory.specs.declared.handle.Handle.{Handle}
use Rattle.of_memory.specs.declared.saved.Saved.{Saved}
use Rattle.of_memory.specs.History.{HistoryEntry, Made, End, Replied, Spent, Lost, IsSerial, store_after}
use Rattle.of_memory.specs.Handles.{IsSame, HasCallOpen}
use Rattle.of_memory.specs.Memories.{IsStill, StartsWith, HasMadeOf, HasNoneOpen, HasHistory, TakesOut, PutsBack, callers_of, tickets_before}
use Rattle.of_memory.specs.Saving.{SavedHolds}

-- a serial history, followed by one that starts from the store which the first one leaves, is one
-- serial history
abbrev pub HistoriesJoin : Type 0
HistoriesJoin =
    (s : Store) (h k : List HistoryEntry) → IsSerial s h → IsSerial (store_after s h) k
    → IsSerial s (h ++ k) × (store_after s (h ++ k) ≡ store_after (store_after s h) k)

-- if every script of a kind keeps a property of the store, a history of such scripts keeps it too
abbrev pub InvariantsHold : Type 0
InvariantsHold =
    (holds : Store → Bool) (kind : List Instr → Bool)
    → ((s : Store) (script : List Instr) → holds s ≡ true → kind script ≡ true
    → holds (run s script).0 ≡ true)
    → (s : Store) (h : List HistoryEntry) → holds s ≡ true
    → All (λ (e : HistoryEntry). kind e.script ≡ true) h
    → holds (store_after s h) ≡ true

-- the memory has as many callers as before, and the same tickets that it was opened with; if it was
-- opened with a store before, it was opened with this store now
pub record StaysAsOpened (before now : Memory) : Type 0 where
  pub callers : callers_of now ≡ callers_of before
  pub store : (s : Store) → StartsWith before s → StartsWith now s
  pub tickets : (n : ℕ) → tickets_before now n ≡ tickets_before before n

-- one memory at two times has the same number of callers, and the same store and tickets that it
-- was opened with
abbrev pub MemoriesStay : Type 0
MemoriesStay = (m k : Memory) → IsStill m k → StaysAsOpened m k

-- if no call of a memory is open, and a handle comes, makes its calls and leaves with none open,
-- then no call of the memory is open
abbrev pub NoneStaysOpen : Type 0
NoneStaysOpen =
    (m k l : Memory) (h g : Handle) → HasNoneOpen m → TakesOut m k h → IsSame h g
    → (HasCallOpen g → ⊥) → PutsBack k l g → HasNoneOpen l

-- the call was answered
abbrev pub EndsWithReply : End → Type 0
EndsWithReply (Replied r seq steps announced) = Unit {0}
EndsWithReply (Spent seq) = ⊥
EndsWithReply (Lost seq) = ⊥

-- caller n has made these calls, and each was answered; no other caller has made a call, and no
-- call is open
pub record HasMadeAlone (m : Memory) (n : ℕ) (ms : List Made) : Type 0 where
  pub made : HasMadeOf m n ms
  pub replied : All (λ (x : Made). EndsWithReply x.ended) ms
  pub others : (i : ℕ) → i < callers_of m → i ≢ n → HasMadeOf m i []
  pub none_open : HasNoneOpen m

-- if one caller has made all calls, and each was answered, what is saved is the store after their
-- scripts, one after the other
abbrev pub LoneCallsAreSaved : Type 0
LoneCallsAreSaved =
    (m : Memory) (n : ℕ) (ms : List Made) (d : Saved) → HasMadeAlone m n ms → HasHistory m d
    → (s : Store) → StartsWith m s → SavedHolds d (last_store s (map (λ (x : Made). x.script) ms))
