-- In a plan's schedule, or with any other in its place, a spent call is the last of its caller's.
use Rattle.std.proofs.Common.{◌≡◌, ℕ, zero, suc, Bool, true, false, cond, List, [], ◌∷◌, ◌++◌, length, replicate, refl, ap, ◌∙◌}
use Rattle.std.specs.Prelude.{◌&&◌, not, nat_lt, flat_map, slice_index_or}
use Rattle.std.specs.List.{AllByRecursion as Each}
use Rattle.of_plan.specs.declared.plan.Item.{Item}
use Rattle.of_plan.specs.declared.plan.Item.TheVariants.{Turns as Turns_of, Evict}
use Rattle.of_plan.specs.Plan.{Plan, scripts_of}
use Rattle.of_plan.proofs.HistoriesLists.{each_append}
use Rattle.of_core.specs.TableMoment.{Moment}
use Rattle.of_core.specs.Machine.{is_idle}
use Rattle.of_core.specs.Events.{Event, Begins, Turns, Loads, Evicts, Raises, Revives, machine_in, after_event, after_events, IsSchedule, AllReplaceNone}
use Rattle.of_caller.specs.Tables.{plan_setup, opening_for, operation_of}
use Rattle.of_caller.specs.Ends.{is_spent}
use Rattle.of_play.specs.Play.{item_events, begins_call, next_begin, with_begin, events_from, play_events}
use Rattle.of_play.proofs.PlaysMoments.{IsPlayable}
use Rattle.of_play.proofs.PlaysEvents.{events_of}
use Rattle.of_play.proofs.PlaysUnspent.{NoneAfterSpent, IsSpentLast, spent_last}

-- ---- the schedule of a plan

-- an event of an item
abbrev IsMove : Event → Type 0
IsMove (Begins j op) = ⊥
IsMove (Turns j) = Unit {0}
IsMove (Loads c) = ⊥
IsMove (Evicts k) = ⊥
IsMove (Revives i made) = ⊥
IsMove (Raises c) = Unit {0}

only_turns : (n c : ℕ) → Each IsMove (replicate n (Turns c))
only_turns zero c = tt
only_turns (suc n) c = (tt, only_turns n c)

item_moves : (x : Item) → Each IsMove (item_events x)
item_moves (Turns_of c n) = only_turns n c
item_moves (Evict a) = (tt, tt)

all_moves : (xs : List Item) → Each IsMove (flat_map item_events xs)
all_moves [] = tt
all_moves (x ∷ xs) = each_append IsMove (item_events x) (flat_map item_events xs) (item_moves x) (all_moves xs)

-- what begins a call has found that the last one wasn't spent
found_unspent : (idle spent left : Bool) → (idle && (not spent && left)) ≡ true → spent ≡ false
found_unspent true false left is = refl
found_unspent true true left is = absurd (cc)
found_unspent false spent left is = absurd (cc)

-- ---- no machine is replaced

append_stay : (xs ys : List Event) → AllReplaceNone xs → AllReplaceNone ys → AllReplaceNone (xs ++ ys)
append_stay [] ys first second = second
append_stay (x ∷ xs) ys first second = (first.0, append_stay xs ys first.1 second)

move_stays : (p : Plan) (w : Moment) (e : Event) → IsMove e → AllReplaceNone (with_begin p w e)
move_stays p w (Begins j op) move = absurd move
move_stays p w (Turns j) move = go (begins_call (machine_in w j) (length (scripts_of p j)))
  where
    go : (b : Bool) → AllReplaceNone (cond b (Begins j (operation_of (slice_index_or (scripts_of p j) (machine_in w j).made [])) ∷ []) [] ++ Turns j ∷ [])
    go true = (tt, (tt, tt))
    go false = (tt, tt)
move_stays p w (Loads x) move = absurd move
move_stays p w (Evicts k) move = absurd move
move_stays p w (Raises x) move = (tt, tt)
move_stays p w (Revives j made) move = absurd move

moves_stay : (p : Plan) (es : List Event) (w : Moment) → Each IsMove es → AllReplaceNone (events_from p w es)
moves_stay p [] w moves = tt
moves_stay p (e ∷ es) w moves =
    let v = after_events (plan_setup p) w (with_begin p w e) in
    append_stay (with_begin p w e) (events_from p v es) (move_stays p w e moves.0) (moves_stay p es v moves.1)

-- in a schedule of turns and evictions
pub items_stay : (p : Plan) (xs : List Item) → AllReplaceNone (events_of p xs)
items_stay p xs = moves_stay p (flat_map item_events xs) (opening_for p) (all_moves xs)

-- and in the plan's own
pub play_stays : (p : Plan) → AllReplaceNone (play_events p)
play_stays p = items_stay p p.schedule

-- ---- nor does a spent caller begin a call

module _ (p : Plan) (c : ℕ) where
  append_unspent : (xs : List Event) (w : Moment) (ys : List Event) → NoneAfterSpent (plan_setup p) w xs c → NoneAfterSpent (plan_setup p) (after_events (plan_setup p) w xs) ys c → NoneAfterSpent (plan_setup p) w (xs ++ ys) c
  append_unspent [] w ys first second = second
  append_unspent (x ∷ xs) w ys first second = (first.0, append_unspent xs (after_event (plan_setup p) w x) ys first.1 second)

  turn_unspent : (w : Moment) (d : ℕ) → NoneAfterSpent (plan_setup p) w (next_begin p d (machine_in w d) ++ Turns d ∷ []) c
  turn_unspent w d = go (begins_call (machine_in w d) (length (scripts_of p d))) refl
    where
      go : (b : Bool) → begins_call (machine_in w d) (length (scripts_of p d)) ≡ b
          → NoneAfterSpent (plan_setup p) w (cond b (Begins d (operation_of (slice_index_or (scripts_of p d) (machine_in w d).made [])) ∷ []) [] ++ Turns d ∷ []) c
      go true is =
          ((λ same. ap (λ (k : ℕ). is_spent (machine_in w k).answer) same ∙ found_unspent (is_idle (machine_in w d).place) (is_spent (machine_in w d).answer) (nat_lt (machine_in w d).made (length (scripts_of p d))) is), (tt, tt))
      go false is = (tt, tt)

  move_unspent : (w : Moment) (e : Event) → IsMove e → NoneAfterSpent (plan_setup p) w (with_begin p w e) c
  move_unspent w (Begins j op) move = absurd move
  move_unspent w (Turns j) move = turn_unspent w j
  move_unspent w (Loads x) move = absurd move
  move_unspent w (Evicts k) move = absurd move
  move_unspent w (Revives j made) move = absurd move
  move_unspent w (Raises x) move = (tt, tt)

  moves_unspent : (es : List Event) (w : Moment) → Each IsMove es → NoneAfterSpent (plan_setup p) w (events_from p w es) c
  moves_unspent [] w moves = tt
  moves_unspent (e ∷ es) w moves =
      append_unspent (with_begin p w e) w (events_from p (after_events (plan_setup p) w (with_begin p w e)) es) (move_unspent w e moves.0) (moves_unspent es (after_events (plan_setup p) w (with_begin p w e)) moves.1)

  -- in a schedule a spent caller begins no call
  pub items_unspent : (xs : List Item) → NoneAfterSpent (plan_setup p) (opening_for p) (events_of p xs) c
  items_unspent xs = moves_unspent (flat_map item_events xs) (opening_for p) (all_moves xs)

-- so a spent call is the last of its caller's there
pub items_spent_last : (p : Plan) → IsPlayable p → (xs : List Item) → IsSchedule (plan_setup p) (opening_for p) (events_of p xs) → IsSpentLast p (events_of p xs)
items_spent_last p play xs schedule = spent_last p play (events_of p xs) schedule (λ c lt. items_unspent p c xs)

pub play_spent_last : (p : Plan) → IsPlayable p → IsSchedule (plan_setup p) (opening_for p) (play_events p) → IsSpentLast p (play_events p)
play_spent_last p play schedule = items_spent_last p play p.schedule schedule
