-- The lines of more events, and which of them are shown.
use Rattle.std.proofs.Common.{◌≡◌, ℕ, suc, ◌+◌, ◌<◌, ◌≤◌, List, [], ◌∷◌, ◌++◌, length, take, drop, refl, sym, ◌∙◌, ap, arith, length-append}
use Rattle.std.specs.List.{flat_map}
use Rattle.std.proofs.lemmas.Grind.{flat_map-append}
use Rattle.std.proofs.lemmas.List.{append-nil, drop-append-le, drop_all, take-append-le, take_all, length-drop}
use Rattle.of_plan.specs.Plan.{Plan}
use Rattle.of_core.specs.TableMoment.{Moment}
use Rattle.of_core.specs.Events.{Event, after_events}
use Rattle.of_caller.specs.Tables.{plan_setup}
use Rattle.of_play.specs.Play.{with_begin, events_from}
use Rattle.of_play.specs.Trace.{lines_from}
use Rattle.of_play.specs.TraceRun.{shown_lines}
use Rattle.of_play.proofs.PlaysEvents.{run_append}

pub lines_length : (l : ℕ → Moment → Event → List ℕ) (p : Plan) (k : ℕ) (w : Moment) (ms : List Event) → length (lines_from l p k w ms) ≡ length ms
lines_length l p k w [] = refl
lines_length l p k w (m ∷ ms) = ap suc (lines_length l p (k + 1) (after_events (plan_setup p) w (with_begin p w m)) ms)

-- one event more
pub lines_more : (l : ℕ → Moment → Event → List ℕ) (p : Plan) (k : ℕ) (w : Moment) (ms : List Event) (e : Event)
    → lines_from l p k w (ms ++ e ∷ []) ≡ lines_from l p k w ms ++ l (k + length ms) (after_events (plan_setup p) w (events_from p w ms)) e ∷ []
lines_more l p k w [] e = ap (λ (n : ℕ). l n w e ∷ []) (omega arith)
lines_more l p k w (m ∷ ms) e =
    let v = after_events (plan_setup p) w (with_begin p w m) in
    let number : k + 1 + length ms ≡ k + suc (length ms) = omega arith in
    let world = sym (run_append (plan_setup p) w (with_begin p w m) (events_from p v ms)) in
    ap (λ (ls : List (List ℕ)). l k w m ∷ ls) (lines_more l p (k + 1) v ms e
    ∙ (λ i. lines_from l p (k + 1) v ms ++ l (number i) (world i) e ∷ []))

-- no line is shown before the first,
pub shown_none : (f c : ℕ) (xs ys : List (List ℕ)) → length xs ≤ f → length ys ≤ f → shown_lines f c xs ≡ shown_lines f c ys
shown_none f c xs ys h l = ap (λ (ls : List (List ℕ)). flat_map (λ line. line) (take c ls)) (drop_all f xs h ∙ sym (drop_all f ys l))

-- then each one is,
pub shown_more : (f c : ℕ) (xs : List (List ℕ)) (x : List ℕ) → f ≤ length xs → length xs < f + c → shown_lines f c (xs ++ x ∷ []) ≡ shown_lines f c xs ++ x
shown_more f c xs x h l =
    let ys = drop f xs in
    let few : length ys + 1 ≤ c = omega (arith, length-drop f xs) in
    let all : take c (drop f (xs ++ x ∷ [])) ≡ take c ys ++ x ∷ [] =
    ap (take c) (drop-append-le f xs (x ∷ []) h)
    ∙ take_all c (ys ++ x ∷ []) (omega (arith, few, length-append ys (x ∷ [])))
    ∙ ap (λ (ls : List (List ℕ)). ls ++ x ∷ []) (sym (take_all c ys (omega (arith, few)))) in
    ap (flat_map (λ line. line)) all ∙ flat_map-append (λ line. line) (take c ys) (x ∷ [])
    ∙ ap (λ (zs : List ℕ). flat_map (λ line. line) (take c ys) ++ zs) (append-nil x)

-- and none behind the last
pub shown_over : (f c : ℕ) (xs ys : List (List ℕ)) → f + c ≤ length xs → shown_lines f c (xs ++ ys) ≡ shown_lines f c xs
shown_over f c xs ys h =
    ap (λ (ls : List (List ℕ)). flat_map (λ line. line) (take c ls)) (drop-append-le f xs ys (omega arith))
    ∙ ap (flat_map (λ line. line)) (take-append-le c (drop f xs) ys (omega (arith, length-drop f xs)))

-- of no lines none
pub shown_nothing : (f c : ℕ) → shown_lines f c [] ≡ []
shown_nothing f c = ap (λ (ls : List (List ℕ)). flat_map (λ line. line) (take c ls)) (drop_all f [] (omega arith)) ∙ ap (flat_map (λ line. line)) (take_all c [] (omega arith))
