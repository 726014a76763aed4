-- A door, and the hands on it.
use Rattle.std.specs.Prelude.{◌≡◌, ◌≢◌, ◌≤◌, ℕ, List, [], ◌∷◌, ◌++◌}
use Rattle.of_mem.specs.Meaning.{Meaning}
use Rattle.of_row.specs.declared.member.Member.{Member}
use Rattle.of_row.specs.declared.row.Row.{Row}
use Rattle.of_row.specs.Views.{seen_seq, seen_history}
use Rattle.of_row.specs.Rule.{EachCallBetween}
use Rattle.of_row.specs.Rows.{row_start, view_of_member, number_of_member, calls_of_member}
use Rattle.of_door.specs.declared.door.Door.{Door}
use Rattle.of_door.specs.declared.door.Hand.{Hand}

-- the row that the door is on
abbrev pub row_of_door : {W : Type 0} → Door W → Row W
row_of_door d = d.table.shared.key.row.value

abbrev pub number_of_door : {W : Type 0} → Door W → ℕ
number_of_door d = d.table.shared.key.number

-- the hand is on this door
abbrev pub IsHandOf : {W : Type 0} → Door W → Hand → Type 0
IsHandOf d h = h.seat.table_id ≡ d.table.shared.table_id

-- the words that the hand's exchanges found, in order
abbrev pub found_by : Hand → List ℕ
found_by h = h.seat.me.0.found

abbrev pub stored_by : Hand → List ℕ
stored_by h = h.seat.me.0.stored

-- from `before` to `now` the hand has made one exchange, which found the word w, and has then
-- stored n
abbrev pub WentThrough : (w n : ℕ) → (before now : Hand) → Type 0
WentThrough w n before now =
    (found_by now ≡ found_by before ++ w ∷ []) × (stored_by now ≡ stored_by before ++ n ∷ [])

-- from `before` to `now` the hand has made one exchange, which found the word n and not w, and has
-- stored nothing
abbrev pub WasRefused : (w n : ℕ) → (before now : Hand) → Type 0
WasRefused w n before now =
    (n ≢ w) × (found_by now ≡ found_by before ++ n ∷ []) × (stored_by now ≡ stored_by before)

-- In the batches that the member has seen, the ticket of each call of the member's caller is at
-- most the number of calls that the member counts as begun.
abbrev pub TicketsUpTo : {W : Type 0} → (W → Meaning) → Row W → Member → Type 0
TicketsUpTo meaning r m =
    let B = row_start meaning r in
    let seen = (view_of_member m).seen in
    EachCallBetween B (seen_history seen) B.seq (seen_seq B seen)
    (λ c. c.caller ≡ number_of_member m → c.ticket ≤ calls_of_member m)
