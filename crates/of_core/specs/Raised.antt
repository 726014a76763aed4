-- How often the loop that makes a raise can go round again. A raise to v loads the durable word. It
-- is done if that word is at least v, and otherwise it exchanges the loaded word for v.
use Rattle.std.specs.Prelude.{ℕ, ◌+◌, ◌==◌, ◌&&◌, nat_lt, List, [], ◌∷◌, length, Bool, false, if◌then◌else◌, ◌≡◌, ◌≤◌, ◌<◌, ◌⊎◌}
use Rattle.std.proofs.Common.{get_or}
use Rattle.of_core.specs.declared.place.Op.TheVariants.{Raise}
use Rattle.of_core.specs.Table.{Setup, cell_count, durable_at, durable_word}
use Rattle.of_core.specs.Steps.{want}
use Rattle.of_core.specs.TableMoment.{Moment, TableStart}
use Rattle.of_core.specs.Invariant.{MeetsInvariant, IsLoaded}
use Rattle.of_core.specs.Events.{Event, after_event, MayHappen, after_events, opening_moment, one_if, machine_in, IsSchedule, AllReplaceNone}
use Rattle.of_core.specs.Laws.{EachSchedule}

-- whether a raise to v goes round again: the word was x when it was loaded, and has become another
-- word y that is still below v
abbrev pub goes_round : (x y v : ℕ) → Bool
goes_round x y v = if x == y then false else nat_lt y v

-- how many of the events change the durable word of the cell c to another word that is still below
-- v
abbrev pub lower_changes : Setup → Moment → List Event → (c v : ℕ) → ℕ
lower_changes S w [] c v = 0
lower_changes S w (e ∷ es) c v =
    one_if (goes_round (durable_word S w.words c) (durable_word S (after_event S w e).words c) v)
    + lower_changes S (after_event S w e) es c v

-- whether the cell and word e, which were loaded for an eviction, can still change the durable word
-- x of the cell c to one below v
abbrev pub is_pending : (x c v : ℕ) → ℕ × ℕ → Bool
is_pending x c v e = (e.0 == c) && (nat_lt x e.1 && nat_lt e.1 v)

-- how many of these loaded words can still change the durable word x of the cell c to one below v
abbrev pub pending_among : (x c v : ℕ) → List (ℕ × ℕ) → ℕ
pending_among x c v [] = 0
pending_among x c v (e ∷ es) = one_if (is_pending x c v e) + pending_among x c v es

-- how many of the words that were loaded for evictions can still raise the durable word of the cell
-- c to a word below v
abbrev pub pending : Setup → Moment → (c v : ℕ) → ℕ
pending S w c v = pending_among (durable_word S w.words c) c v w.loaded

-- While a caller is about to raise a durable word to v, no call changes the durable word to another
-- one below v. Only evictions may, at most once for each word that they have loaded before.
abbrev pub RaisesAreShort : Setup → (List ℕ → Type 0) → Type 0
RaisesAreShort S Lawful =
    (B : TableStart) (w : Moment) → MeetsInvariant S Lawful B w
    → (i c v : ℕ) → i < S.callers → c < cell_count S
    → want S (machine_in w i) ≡ Raise (durable_at S c) v
    → (es : List Event) → IsSchedule S w es → lower_changes S w es c v ≤ pending S w c v

-- While an eviction is about to raise a durable word to the word e.1, no call changes the durable
-- word to another one below e.1. Only other evictions may, at most once for each word that they
-- have loaded before.
abbrev pub EvictionsAreShort : Setup → (List ℕ → Type 0) → Type 0
EvictionsAreShort S Lawful =
    (B : TableStart) (w : Moment) → MeetsInvariant S Lawful B w
    → (e : ℕ × ℕ) → IsLoaded S B w.words w.batches e
    → (es : List Event) → IsSchedule S w es → lower_changes S w es e.0 e.1 ≤ pending S w e.0 e.1

-- a caller that is about to raise a durable word raises it to no more than its cell holds
abbrev pub RaisesHeld : Setup → (List ℕ → Type 0) → Type 0
RaisesHeld S Lawful =
    (B : TableStart) (w : Moment) → MeetsInvariant S Lawful B w
    → (i c v : ℕ) → i < S.callers → c < cell_count S
    → want S (machine_in w i) ≡ Raise (durable_at S c) v
    → v ≤ get_or w.words c 0

-- In schedules from a start, as long as no machine is replaced, a cell changes only if its durable
-- word is at least the word that the cell holds. So of all the words that a cell has held, only the
-- present one may not be durable. A machine that was lost may leave a log word that is not durable.
abbrev pub CellsLevel : Setup → (List ℕ → Type 0) → Type 0
CellsLevel S Lawful = EachSchedule S Lawful (λ B n es. AllReplaceNone es →
    let w : Moment = after_events S (opening_moment S B n) es in
    (e : Event) → MayHappen S w e → (c : ℕ) → c < cell_count S
    → (get_or (after_event S w e).words c 0 ≡ get_or w.words c 0)
    ⊎ (get_or w.words c 0 ≤ durable_word S w.words c))

-- In schedules from a start, as long as no machine is replaced, nothing changes a durable word to
-- one below the word that a caller is about to raise it to.
abbrev pub RaisesUndisturbed : Setup → (List ℕ → Type 0) → Type 0
RaisesUndisturbed S Lawful = EachSchedule S Lawful (λ B n es. AllReplaceNone es →
    let w : Moment = after_events S (opening_moment S B n) es in
    (i c v : ℕ) → i < S.callers → c < cell_count S
    → want S (machine_in w i) ≡ Raise (durable_at S c) v
    → (ds : List Event) → IsSchedule S w ds → lower_changes S w ds c v ≡ 0)

-- In schedules from a start, as long as no machine is replaced, nothing changes a durable word to
-- one below a word that was loaded from its cell for an eviction.
abbrev pub EvictionsUndisturbed : Setup → (List ℕ → Type 0) → Type 0
EvictionsUndisturbed S Lawful = EachSchedule S Lawful (λ B n es. AllReplaceNone es →
    let w : Moment = after_events S (opening_moment S B n) es in
    (k : ℕ) → k < length w.loaded
    → (ds : List Event) → IsSchedule S w ds
    → lower_changes S w ds (get_or w.loaded k (0, 0)).0 (get_or w.loaded k (0, 0)).1 ≡ 0)

-- In schedules from a start, as long as no machine is replaced, a durable word that a caller is
-- about to raise to v stays as it is until it is at least v. If the exchange of the loop has
-- failed, the next load ends the loop.
abbrev pub RaisesStand : Setup → (List ℕ → Type 0) → Type 0
RaisesStand S Lawful = EachSchedule S Lawful (λ B n es. AllReplaceNone es →
    let w : Moment = after_events S (opening_moment S B n) es in
    (i c v : ℕ) → i < S.callers → c < cell_count S
    → want S (machine_in w i) ≡ Raise (durable_at S c) v
    → (ds : List Event) → IsSchedule S w ds
    → (durable_word S (after_events S w ds).words c ≡ durable_word S w.words c)
    ⊎ (v ≤ durable_word S (after_events S w ds).words c))
