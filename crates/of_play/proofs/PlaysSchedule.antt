-- The schedule of a plan, or any other turns and evictions in its place: its moves may happen, begin the plan's scripts in order, and
-- make the schedule's turns.
use Rattle.std.proofs.Common.{◌≡◌, ℕ, zero, suc, ◌<◌, ◌==◌, List, [], ◌∷◌, ◌++◌, length, replicate, refl, sym, ◌∙◌, ap, subst, arith, Bool, true, false, if◌then◌else◌}
use Rattle.std.specs.List.{AllByRecursion as Each, flat_map, sum_by}
use Rattle.std.proofs.lemmas.Bool.Decides.{nat_tests}
use Rattle.std.proofs.lemmas.List.{append_assoc, append-nil}
use Rattle.std.proofs.lemmas.List.Sums.{sum_by-cons}
use Rattle.of_plan.specs.declared.plan.Item.{Item}
use Rattle.of_plan.specs.declared.plan.Item.TheVariants.{Turns as Turns_of, Evict}
use Rattle.of_plan.specs.Plan.{Plan, IsScheduleItem, scripts_of}
use Rattle.of_plan.specs.Allowance.{turns_in, turns_for}
use Rattle.of_plan.proofs.HistoriesLists.{each_append}
use Rattle.of_core.specs.TableMoment.{Moment}
use Rattle.of_core.specs.Events.{Event, Begins, Turns, Loads, Evicts, Raises, Revives, machine_in, after_events, turn_count, one_if, IsSchedule}
use Rattle.of_caller.specs.Tables.{plan_setup, opening_for}
use Rattle.of_caller.specs.Left.{IsOfPlan, moment_after}
use Rattle.of_play.specs.Play.{item_events, begins_call, next_begin, with_begin, events_from, play_events}
use Rattle.of_play.specs.ScheduleRun.{EventsMayFollow}
use Rattle.of_play.proofs.PlaysMoments.{IsPlayable}
use Rattle.of_play.proofs.PlaysEvents.{run_append, turns_append, events_of}
use Rattle.of_play.proofs.PlaysFollow.{IsMove, begin_follows, turn_follows, raise_follows}
use Rattle.of_play.proofs.PlaysStand.{next_none, next_one}
use Rattle.of_play.proofs.PlaysReplies.{of_plan}
use Rattle.of_play.proofs.PlaysEnds.{starts}

-- ---- the moves of a plan

turns_are : (p : Plan) (c n : ℕ) → c < p.callers → Each (IsMove p) (replicate n (Turns c))
turns_are p c zero h = tt
turns_are p c (suc n) h = (h, turns_are p c n h)

item_moves : (p : Plan) (x : Item) → IsScheduleItem p x → Each (IsMove p) (item_events x)
item_moves p (Turns_of c n) h = turns_are p c n h.0
item_moves p (Evict a) h = (h, tt)

all_moves : (p : Plan) (xs : List Item) → Each (IsScheduleItem p) xs → Each (IsMove p) (flat_map item_events xs)
all_moves p [] h = tt
all_moves p (x ∷ xs) h = each_append (IsMove p) (item_events x) (flat_map item_events xs) (item_moves p x h.0) (all_moves p xs h.1)

module _ (p : Plan) (plan : IsPlayable p) where
  next_follows : (es : List Event) → EventsMayFollow p es → (c : ℕ) → c < p.callers → EventsMayFollow p (es ++ next_begin p c (machine_in (moment_after p es) c))
  next_follows es f c h = go (begins_call (machine_in (moment_after p es) c) (length (scripts_of p c))) refl
    where
      go : (b : Bool) → begins_call (machine_in (moment_after p es) c) (length (scripts_of p c)) ≡ b → EventsMayFollow p (es ++ next_begin p c (machine_in (moment_after p es) c))
      go true e = subst (λ (fs : List Event). EventsMayFollow p (es ++ fs)) (sym (next_one p c (machine_in (moment_after p es) c) e)) (begin_follows p plan es f c h e)
      go false e = subst (λ (fs : List Event). EventsMayFollow p (es ++ fs)) (sym (next_none p c (machine_in (moment_after p es) c) e)) (subst (EventsMayFollow p) (sym (append-nil es)) f)

  -- a move with its begin may happen, and so on
  pub move_follows : (es : List Event) → EventsMayFollow p es → (m : Event) → IsMove p m → EventsMayFollow p (es ++ with_begin p (moment_after p es) m)
  move_follows es f (Begins c op) h = absurd h
  move_follows es f (Loads a) h = absurd h
  move_follows es f (Evicts k) h = absurd h
  move_follows es f (Revives i made) h = absurd h
  move_follows es f (Raises a) h = raise_follows p plan es f a h
  move_follows es f (Turns c) h =
      let fs = next_begin p c (machine_in (moment_after p es) c) in
      subst (EventsMayFollow p) (append_assoc es fs (Turns c ∷ [])) (turn_follows p plan (es ++ fs) (next_follows es f c h) c h)

  -- what holds of the events so far and stays so with each move holds at the end
  module _ (P : List Event → Type 0) (step : (es : List Event) → EventsMayFollow p es → P es → (m : Event) → IsMove p m → P (es ++ with_begin p (moment_after p es) m)) where
    pub by_moves : (ms : List Event) (es : List Event) → Each (IsMove p) ms → EventsMayFollow p es → P es → P (es ++ events_from p (moment_after p es) ms)
    by_moves [] es moves f h = subst P (sym (append-nil es)) h
    by_moves (m ∷ ms) es moves f h =
        let fs = with_begin p (moment_after p es) m in
        subst P (append_assoc es fs _ ∙ ap (λ (w : Moment). es ++ (fs ++ events_from p w ms)) (run_append (plan_setup p) (opening_for p) es fs))
        (by_moves ms (es ++ fs) moves.1 (move_follows es f m moves.0) (step es f h m moves.0))

    pub by_items : (xs : List Item) → Each (IsScheduleItem p) xs → P [] → P (events_of p xs)
    by_items xs items h = by_moves (flat_map item_events xs) [] (all_moves p xs items) (starts p) h

  items_follow : (xs : List Item) → Each (IsScheduleItem p) xs → EventsMayFollow p (events_of p xs)
  items_follow xs items = by_items (EventsMayFollow p) (λ es f h m is. move_follows es f m is) xs items (starts p)

-- the events of such a schedule may happen
pub items_are_schedule : (p : Plan) → IsPlayable p → (xs : List Item) → Each (IsScheduleItem p) xs → IsSchedule (plan_setup p) (opening_for p) (events_of p xs)
items_are_schedule p plan xs items = (items_follow p plan xs items).schedule

-- and each caller begins its first scripts
pub items_of_plan : (p : Plan) → IsPlayable p → (xs : List Item) → Each (IsScheduleItem p) xs → IsOfPlan p (events_of p xs)
items_of_plan p plan xs items = of_plan p (events_of p xs) (items_follow p plan xs items)

-- so it is with the plan's own
pub play_is_schedule : (p : Plan) → IsPlayable p → IsSchedule (plan_setup p) (opening_for p) (play_events p)
play_is_schedule p plan = items_are_schedule p plan p.schedule plan.plan.each_item

pub play_of_plan : (p : Plan) → IsPlayable p → IsOfPlan p (play_events p)
play_of_plan p plan = items_of_plan p plan p.schedule plan.plan.each_item

-- ---- the turns of a caller

next_turns : (p : Plan) (i c : ℕ) (w : Moment) → turn_count i (next_begin p c (machine_in w c)) ≡ 0
next_turns p i c w = go (begins_call (machine_in w c) (length (scripts_of p c))) refl
  where
    go : (b : Bool) → begins_call (machine_in w c) (length (scripts_of p c)) ≡ b → turn_count i (next_begin p c (machine_in w c)) ≡ 0
    go true e = ap (turn_count i) (next_one p c (machine_in w c) e)
    go false e = ap (turn_count i) (next_none p c (machine_in w c) e)

move_turns : (p : Plan) (i : ℕ) (w : Moment) (m : Event) → turn_count i (with_begin p w m) ≡ turn_count i (m ∷ [])
move_turns p i w (Begins c op) = refl
move_turns p i w (Loads a) = refl
move_turns p i w (Evicts k) = refl
move_turns p i w (Revives j made) = refl
move_turns p i w (Raises a) = refl
move_turns p i w (Turns c) = omega (arith, turns_append i (next_begin p c (machine_in w c)) (Turns c ∷ []), next_turns p i c w)

events_turns : (p : Plan) (i : ℕ) (w : Moment) (ms : List Event) → turn_count i (events_from p w ms) ≡ turn_count i ms
events_turns p i w [] = refl
events_turns p i w (m ∷ ms) =
    let v = after_events (plan_setup p) w (with_begin p w m) in
    omega (arith, turns_append i (with_begin p w m) (events_from p v ms), move_turns p i w m, turns_append i (m ∷ []) ms, events_turns p i v ms)

count_turns : (i c n : ℕ) → turn_count i (replicate n (Turns c)) ≡ (if c == i then n else 0)
count_turns i c n = go (c == i) refl
  where
    none : (k : ℕ) → one_if (i == c) ≡ 0 → turn_count i (replicate k (Turns c)) ≡ 0
    none zero e = refl
    none (suc k) e = omega (arith, e, none k e)

    each : (k : ℕ) → one_if (i == c) ≡ 1 → turn_count i (replicate k (Turns c)) ≡ k
    each zero e = refl
    each (suc k) e = omega (arith, e, each k e)

    one : (b : Bool) → (i == c) ≡ b → c ≡ i → one_if b ≡ 1
    one true e q = refl
    one false e q = let z : i ≡ c → ⊥ = grind (arith, nat_tests) in absurd (z (sym q))

    not_one : (b : Bool) → (i == c) ≡ b → (c ≡ i → ⊥) → one_if b ≡ 0
    not_one false e q = refl
    not_one true e q = let z : i ≡ c = grind (arith, nat_tests) in absurd (q (sym z))

    go : (b : Bool) → (c == i) ≡ b → turn_count i (replicate n (Turns c)) ≡ (if b then n else 0)
    go true e = let z : c ≡ i = grind (arith, nat_tests) in each n (one (i == c) refl z)
    go false e = let z : c ≡ i → ⊥ = grind (arith, nat_tests) in none n (not_one (i == c) refl z)

item_turns : (i : ℕ) (x : Item) → turn_count i (item_events x) ≡ turns_in i x
item_turns i (Turns_of c n) = count_turns i c n
item_turns i (Evict a) = refl

items_turns : (i : ℕ) (xs : List Item) → turn_count i (flat_map item_events xs) ≡ sum_by (turns_in i) xs
items_turns i [] = refl
items_turns i (x ∷ xs) = omega (arith, turns_append i (item_events x) (flat_map item_events xs), item_turns i x, items_turns i xs, sum_by-cons (turns_in i) x xs)

-- the turns of a caller among the events are those of the schedule
pub items_are_turns : (p : Plan) (xs : List Item) (c : ℕ) → turn_count c (events_of p xs) ≡ sum_by (turns_in c) xs
items_are_turns p xs c = events_turns p c (opening_for p) (flat_map item_events xs) ∙ items_turns c xs

pub play_turns : (p : Plan) (c : ℕ) → turn_count c (play_events p) ≡ turns_for p c
play_turns p c = items_are_turns p p.schedule c
