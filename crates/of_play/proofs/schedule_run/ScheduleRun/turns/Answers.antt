use Rattle.std.proofs.Common.{◌≡◌, ℕ, ◌+◌, ◌-◌, ◌≤◌, arith, subst, refl}
use Rattle.of_play.specs.Play.{turns_by}
use Rattle.of_play.specs.ScheduleRun.{MakesMoves}
use Rattle.of_play.proofs.PlaysResting.{rests_on}
use Rattle.of_play.proofs.PlaysMoves.{goes_nowhere, more_turns, one_turn_more, plays_on}
use Rattle.of_play.proofs.schedule_run.ScheduleRun.turns.Goals as goal

pub loop-left-init : goal.loop-left-init
loop-left-init c =
    let none : 0 ≡ c.args.count - c.args.count = omega arith in
    record {
      few = omega arith;
      moves = subst (λ (n : ℕ). MakesMoves c.args.plan.now (turns_by c.args.caller n) c.args.self.now c.args.self.now) none (goes_nowhere c.args.plan.now c.args.self.now);
    }

pub turns_while_open-requires-clause-playing : goal.turns_while_open-requires-clause-playing
turns_while_open-requires-clause-playing c = plays_on c.args.plan.now _ c.args.self.now c.loop-left.self c.requires.playing c.loop-left.invariant.moves

pub returns-then-rests : goal.returns-then-rests
returns-then-rests c =
    let p = c.args.plan.now in
    let made : ℕ = c.in_ok-left.field-0 in
    let before : ℕ = c.args.count - c.loop-left.left in
    let few : before + made ≤ c.args.count = omega (arith, c.in_ok-left.ensures.few, c.loop-left.invariant.few) in
    let moves = more_turns p c.args.caller before made c.args.self.now c.loop-left.self c.turns_while_open.new.self c.loop-left.invariant.moves c.in_ok-left.ensures.moves in
    rests_on p c.args.caller (before + made) c.args.count c.args.self.now c.turns_while_open.new.self few moves (c.if-rests.ensures refl)

pub loop-left-preserved-then-left-gt0 : goal.loop-left-preserved-then-left-gt0
loop-left-preserved-then-left-gt0 c =
    let p = c.args.plan.now in
    let made : ℕ = c.in_ok-left.field-0 in
    let before : ℕ = c.args.count - c.loop-left.left in
    let all : before + made + 1 ≡ c.args.count - (c.loop-left.left - made - 1) = omega (arith, c.in_ok-left.ensures.few, c.loop-left.invariant.few, c.if-left-gt0.true) in
    let moves = more_turns p c.args.caller before made c.args.self.now c.loop-left.self c.turns_while_open.new.self c.loop-left.invariant.moves c.in_ok-left.ensures.moves in
    record {
      few = omega (arith, c.loop-left.invariant.few);
      moves = subst (λ (n : ℕ). MakesMoves p (turns_by c.args.caller n) c.args.self.now c.turn.new.self) all
          (one_turn_more p c.args.caller (before + made) c.args.self.now c.turns_while_open.new.self c.turn.new.self moves c.in_ok-turn.ensures);
    }

pub loop-left-preserved : goal.loop-left-preserved
loop-left-preserved c =
    let p = c.args.plan.now in
    let made : ℕ = c.in_ok-left.field-0 in
    let before : ℕ = c.args.count - c.loop-left.left in
    let all : before + made ≡ c.args.count - (c.loop-left.left - made) = omega (arith, c.in_ok-left.ensures.few, c.loop-left.invariant.few) in
    record {
      few = omega (arith, c.loop-left.invariant.few);
      moves = subst (λ (n : ℕ). MakesMoves p (turns_by c.args.caller n) c.args.self.now c.turns_while_open.new.self) all
          (more_turns p c.args.caller before made c.args.self.now c.loop-left.self c.turns_while_open.new.self c.loop-left.invariant.moves c.in_ok-left.ensures.moves);
    }

pub returns : goal.returns
returns c =
    let all : c.args.count - c.loop-left.left ≡ c.args.count = omega (arith, c.loop-left-test.false) in
    subst (λ (n : ℕ). MakesMoves c.args.plan.now (turns_by c.args.caller n) c.args.self.now c.loop-left.self) all c.loop-left.invariant.moves
