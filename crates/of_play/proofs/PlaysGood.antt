-- Each moment of a plan meets the core's invariant, and what a turn leaves of its caller's machine
-- there.
use Rattle.std.proofs.Common.{◌≡◌, ℕ, ◌+◌, ◌<◌, List, length, get_or, refl, sym, ◌∙◌, ap, subst, arith, Bool, true, false, Option, Some, None}
use Rattle.std.proofs.lemmas.List.{get_or-set_same, get_or_default}
use Rattle.of_mem.proofs.BucketPlaces.{few_behind}
use Rattle.of_plan.specs.Plan.{Plan}
use Rattle.of_core.specs.declared.bank.Turn.{Turn}
use Rattle.of_core.specs.declared.bank.Turn.TheVariants.{Idle as NoCall, Ended}
use Rattle.of_core.specs.declared.place.Outcome.{Outcome}
use Rattle.of_core.specs.declared.place.Outcome.TheVariants.{Lost}
use Rattle.of_core.specs.declared.place.Place.{Place}
use Rattle.of_core.specs.declared.place.Place.TheVariants.{Idle}
use Rattle.of_core.specs.Table.{Setup}
use Rattle.of_core.specs.Machine.{CallState, IsOpen, is_idle, no_machine}
use Rattle.of_core.specs.Steps.{take_word, take_word_at, with_step_counted, word_found}
use Rattle.of_core.specs.TableMoment.{Moment, step_batches}
use Rattle.of_core.specs.Facts.{IsStep, TellsOutcome}
use Rattle.of_core.specs.Invariant.{MeetsInvariant}
use Rattle.of_core.specs.Claim.{IsSound}
use Rattle.of_core.specs.MachineValue.{ended_outcome, ended_outcome_at}
use Rattle.of_core.specs.Turn.{turn_of_outcome, turn_at, turn_of}
use Rattle.of_core.specs.Events.{Event, Turns, machine_in, after_event, IsSchedule, zero_start}
use Rattle.of_caller.specs.Tables.{plan_setup, IsLawfulFor, opening_for}
use Rattle.of_caller.specs.Left.{moment_after}
use Rattle.of_play.proofs.PlaysMoments.{IsPlayable, idle_is, good_moment}

-- what a turn says of a machine that wasn't idle
pub turn_open : (p : Place) (d : CallState) → is_idle p ≡ false → turn_at p d ≡ turn_of_outcome (ended_outcome d)
turn_open Idle d e = cc
turn_open p d e = refl

-- a turn that has ended a call leaves its machine idle, with the outcome
ended_so : (a : Option Outcome) (o : Outcome) → turn_of_outcome a ≡ Ended o → a ≡ Some o
ended_so None o is = cc
ended_so (Some x) o is = cc

ended_idle : (p : Place) (d : CallState) (o : Outcome) → ended_outcome_at p d ≡ Some o → (p ≡ Idle) × (d.answer ≡ Some o)
ended_idle Idle d o is = (refl, is)
ended_idle p d o is = cc

module _ (p : Plan) (play : IsPlayable p) where
  abbrev S : Setup
  S = plan_setup p

  abbrev pub IsGood : Moment → Type 0
  IsGood w = MeetsInvariant S (IsLawfulFor p) (zero_start S) w

  pub good_at : (es : List Event) → IsSchedule S (opening_for p) es → IsGood (moment_after p es)
  good_at es s = good_moment p play es s

  -- and is sound
  pub sound_at : (w : Moment) → IsGood w → IsSound (plan_setup p) (zero_start (plan_setup p)) w
  sound_at w g = play.laws.sound (zero_start S) w g

  module _ (w : Moment) (g : IsGood w) (c : ℕ) (h : c < p.callers) where
    pub here : c < length w.machines
    here = omega (arith, h, (sound_at w g).members)

    pub own : get_or w.machines c (machine_in w c) ≡ machine_in w c
    own = get_or_default w.machines c (machine_in w c) no_machine here

    pub few_steps : (machine_in w c).steps + 1 < 18446744073709551616
    few_steps = omega (arith, (sound_at w g).within c h, play.plan.few_callers, play.plan.few_blocks, few_behind p.blocks play.plan.few_blocks)

  module _ (w : Moment) (g : IsGood w) (c : ℕ) (h : c < p.callers) where
    abbrev m : CallState
    m = machine_in w c

    abbrev d : CallState
    d = take_word S m (word_found S w.words m)

    abbrev v : Moment
    v = after_event S w (Turns c)

    pub turned : machine_in v c ≡ d
    turned = get_or-set_same w.machines c d no_machine (here w g c h)

    pub rests : m.place ≡ Idle → d ≡ m
    unfolding take_word
    rests e = ap (λ (q : Place). take_word_at S (with_step_counted q m) (word_found S w.words m) q) e

    taken : IsOpen m.place → IsStep S (zero_start S) w m (word_found S w.words m) d (step_batches S w.words m (word_found S w.words m))
    taken e = play.laws.steps (zero_start S) w g c m h (own w g c h) e (word_found S w.words m) (play.laws.finds S w.words m)

    -- no turn ends a call as a lost one
    pub never_lost : (q : ℕ) → turn_of m (machine_in v c) ≡ Ended (Lost q) → ⊥
    never_lost q says = go (is_idle m.place) refl
      where
        go : (b : Bool) → is_idle m.place ≡ b → ⊥
        go true e = let z : NoCall ≡ Ended (Lost q) = ap (λ (p : Place). turn_at p (machine_in v c)) (sym (idle_is m.place e)) ∙ says in cc
        go false e =
            let told : ended_outcome d ≡ Some (Lost q) = ended_so (ended_outcome d) (Lost q) (ap (λ (x : CallState). turn_of_outcome (ended_outcome x)) (sym turned) ∙ (sym (turn_open m.place (machine_in v c) e) ∙ says)) in
            let idle = ended_idle d.place d (Lost q) told in
            let ends = (taken e).ends idle.0 in
            let same : ends.0 ≡ Lost q = let z : Some ends.0 ≡ Some (Lost q) = sym ends.1 ∙ idle.1 in cc in
            subst (λ (o : Outcome). TellsOutcome S m d o) same ends.2

    pub turned_good : IsGood v
    turned_good = play.laws.events (zero_start S) w g (Turns c) h

    pub made_turned : (machine_in v c).made ≡ m.made
    made_turned = ap (λ (x : CallState). x.made) turned ∙ go (is_idle m.place) refl
      where
        go : (b : Bool) → is_idle m.place ≡ b → d.made ≡ m.made
        go true e = ap (λ (x : CallState). x.made) (rests (idle_is m.place e))
        go false e = (taken e).made
