-- Which events a trace has lines of, and in which worlds; and the replies that it prints.
use Rattle.std.proofs.Common.{◌≡◌, ℕ, zero, suc, ◌+◌, ◌<◌, ◌≤◌, ◌^◌, ◌/◌, ◌%◌, Bool, true, false, nat_lt, List, [], ◌∷◌, length, take, get_or, replicate, Option, Some, None, refl, sym, ◌∙◌, ap, arith}
use Rattle.std.specs.List.{AllByRecursion as Each, flat_map}
use Rattle.std.proofs.lemmas.Bool.Decides.{nat_tests}
use Rattle.of_script.specs.declared.instr.Reply.{Reply as RustReply}
use Rattle.of_script.specs.declared.instr.Cause.{Cause}
use Rattle.of_script.specs.declared.instr.Cause.TheVariants.{Overflow, Short, NoRoom, Differs, BadOp}
use Rattle.of_script.specs.declared.instr.TheConstants.{MOST_INSTRS}
use Rattle.of_store.specs.Store.{Reply, Answered}
use Rattle.of_store.specs.Replies.{reply_value_of}
use Rattle.of_mem.specs.declared.work.RawReply.{RawReply}
use Rattle.of_eval.specs.Shapes.{IsHeldBy, code_of}
use Rattle.of_eval.proofs.Unpacked.{answered_is, aborted_is, abort_of}
use Rattle.of_plan.specs.declared.plan.Item.{Item}
use Rattle.of_plan.specs.declared.plan.Item.TheVariants.{Turns as Turns_of, Evict}
use Rattle.of_plan.specs.Plan.{Plan}
use Rattle.of_plan.proofs.HistoriesLists.{each_append}
use Rattle.of_core.specs.TableMoment.{Moment}
use Rattle.of_core.specs.Events.{Event, Turns, after_events}
use Rattle.of_caller.specs.Tables.{plan_setup, opening_for}
use Rattle.of_caller.specs.Left.{moment_after}
use Rattle.of_play.specs.Play.{item_events, plan_events, with_begin, events_from, play_events}
use Rattle.of_play.specs.Trace.{event_line_at, lines_from}
use Rattle.of_play.specs.TraceLaws.{IsShown, world_after}
use Rattle.of_play.specs.TraceParts.{shown_reply, cause_at}
use Rattle.of_play.proofs.PlaysEvents.{run_append}

-- ---- the events of a schedule

turns_shown : (c n : ℕ) → Each IsShown (replicate n (Turns c))
turns_shown c zero = tt
turns_shown c (suc n) = (tt, turns_shown c n)

item_shown : (m : Item) → Each IsShown (item_events m)
item_shown (Turns_of c n) = turns_shown c n
item_shown (Evict a) = (tt, tt)

items_shown : (ms : List Item) → Each IsShown (flat_map item_events ms)
items_shown [] = tt
items_shown (m ∷ ms) = each_append IsShown (item_events m) (flat_map item_events ms) (item_shown m) (items_shown ms)

pub all_shown : (p : Plan) → Each IsShown (plan_events p)
all_shown p = items_shown p.schedule

-- ---- the worlds in which they happen

world_is : (p : Plan) (w : Moment) (ms : List Event) → world_after p w ms ≡ after_events (plan_setup p) w (events_from p w ms)
world_is p w [] = refl
world_is p w (m ∷ ms) =
    let v = after_events (plan_setup p) w (with_begin p w m) in
    world_is p v ms ∙ sym (run_append (plan_setup p) w (with_begin p w m) (events_from p v ms))

pub ends_as_play : (p : Plan) → world_after p (opening_for p) (plan_events p) ≡ moment_after p (play_events p)
ends_as_play p = world_is p (opening_for p) (plan_events p)

line_is : (p : Plan) (j k : ℕ) (w : Moment) (ms : List Event) (e : Event) → k < length ms
    → get_or (lines_from (event_line_at p) p j w ms) k [] ≡ event_line_at p (j + k) (world_after p w (take k ms)) (get_or ms k e)
line_is p j k w [] e l = absurd (omega (arith, l))
line_is p j zero w (m ∷ ms) e l = ap (λ (n : ℕ). event_line_at p n w m) (omega arith)
line_is p j (suc k) w (m ∷ ms) e l =
    let v = after_events (plan_setup p) w (with_begin p w m) in
    line_is p (j + 1) k v ms e (omega (arith, l))
    ∙ ap (λ (n : ℕ). event_line_at p n (world_after p v (take k ms)) (get_or ms k e)) (omega arith)

pub lines_are : (p : Plan) (k : ℕ) (e : Event) → k < length (plan_events p)
    → get_or (lines_from (event_line_at p) p 0 (opening_for p) (plan_events p)) k [] ≡ event_line_at p k (world_after p (opening_for p) (take k (plan_events p))) (get_or (plan_events p) k e)
lines_are p k e l =
    line_is p 0 k (opening_for p) (plan_events p) e l
    ∙ ap (λ (n : ℕ). event_line_at p n (world_after p (opening_for p) (take k (plan_events p))) (get_or (plan_events p) k e)) (omega arith)

-- ---- replies

cause_again : (c : Cause) → cause_at (code_of c) ≡ c
cause_again Overflow = refl
cause_again Short = refl
cause_again NoRoom = refl
cause_again Differs = refl
cause_again BadOp = refl

abbrev responded : Option RustReply → Reply
responded None = Answered []
responded (Some r) = reply_value_of r

pub reply_read : (raw : RawReply) (r : RustReply) → length raw.values ≡ MOST_INSTRS → IsHeldBy raw r → shown_reply raw ≡ reply_value_of r
reply_read raw r wide h = go (nat_lt raw.shape (2 ^ 21)) refl
  where
    go : (b : Bool) → nat_lt raw.shape (2 ^ 21) ≡ b → shown_reply raw ≡ reply_value_of r
    go true e =
        let small : raw.shape < 2 ^ 21 = grind (arith, nat_tests) in
        rw e (ap responded (answered_is raw r h wide small _ refl _ refl))
    go false e =
        let large : 2 ^ 21 ≤ raw.shape = grind (arith, nat_tests) in
        let a = abort_of raw r h large in
        let cause : cause_at (raw.shape / 2 ^ 26) ≡ a.0.cause = ap cause_at a.2.code ∙ cause_again a.0.cause in
        rw e (ap responded (aborted_is raw r h large _ (record { place = raw.shape / 2 ^ 21 % 32; cause = cause_at (raw.shape / 2 ^ 26) }) refl (refl, ap code_of cause ∙ sym a.2.code)))
