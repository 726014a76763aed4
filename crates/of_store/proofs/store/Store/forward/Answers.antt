use Rattle.std.proofs.Common.{◌≡◌, ◌+◌, ◌<◌, ℕ, List, Option, take, length, refl, sym, ap, subst, ◌∙◌, arith}
use Rattle.std.proofs.lemmas.List.{take_more_set, length-set}
use Rattle.of_store.specs.Store.{ScriptOutcome, Answered, run_result}
use Rattle.of_store.specs.Replies.{IsSmall}
use Rattle.of_store.specs.Changes.{ChangesLead, change_of, change_after}
use Rattle.of_store.proofs.Keeps.{effect_keeps}
use Rattle.of_store.proofs.Runs.{GoesOn, goes_on, ends, aborts}
use Rattle.of_store.proofs.Values.{effect_small, value_of, small_values, none_left}
use Rattle.of_store.specs.declared.change.Change.{Change}
use Rattle.of_store.proofs.Changes.{TakesBack, takes_back, aborts_may_fail, none_taken, leads_on, change_told}
use Rattle.of_store.proofs.store.Store.forward.Goals as goal

pub returns-in-Err-clause-reply : goal.returns-in-Err-clause-reply
returns-in-Err-clause-reply c =
    let aborted = (rw c.in-Err.is at c.in_ok-value.ensures).effect in
    sym (ap (λ (o : ScriptOutcome). (run_result c.args.self.now o).1) (aborts _ _ _ _ _ c.at-instr.result c.in-Err.cause c.loop-i.invariant.whole c.at-instr.ensures.value aborted))

pub returns-in-Err-clause-back : goal.returns-in-Err-clause-back
returns-in-Err-clause-back c = λ fails failed.
    let told = rw c.in-Err.is at c.in_ok-value.ensures in
    let may = aborts_may_fail c.loop-i.self c.at-instr.result c.in-Err.cause told.effect in
    let none = none_taken c.args.script.now c.loop-i.i c.at-instr.result fails c.at-instr.ensures.value may in
    subst (λ (n : ℕ). ChangesLead c.loop-i.changes.list n c.args.self.now c.step.new.self) (sym c.loop-i.invariant.count)
    (subst (ChangesLead c.loop-i.changes.list c.loop-i.i c.args.self.now) (sym told.aborted) (c.loop-i.invariant.leads none))

pub returns-in_err-value-clause-back : goal.returns-in_err-value-clause-back
returns-in_err-value-clause-back c = λ fails failed.
    let told = c.in_err-value.ensures in
    let none = none_taken c.args.script.now c.loop-i.i c.at-instr.result fails c.at-instr.ensures.value told.err.1 in
    subst (λ (n : ℕ). ChangesLead c.loop-i.changes.list n c.args.self.now c.step.new.self) (sym c.loop-i.invariant.count)
    (subst (ChangesLead c.loop-i.changes.list c.loop-i.i c.args.self.now) (sym told.err.0) (c.loop-i.invariant.leads none))

pub loop-i-preserved : goal.loop-i-preserved
loop-i-preserved c =
    let few : c.loop-i.i < length c.loop-i.values = omega (arith, c.len-len.ensures.few, c.loop-i.invariant.room) in
    let place : c.loop-i.i < length c.loop-i.changes.list = omega (arith, c.len-len.ensures.few, c.loop-i.invariant.places) in
    let done = (rw c.in-Ok.is at c.in_ok-value.ensures).effect in
    let told : c.change_after.result ≡ change_of c.loop-i.self c.at-instr.result =
    c.change_after.ensures ∙ ap (λ (n : ℕ). change_after c.at-instr.result n c.in-Ok.value) c.written_register-before.ensures
    ∙ change_told c.loop-i.self c.step.new.self c.at-instr.result c.in-Ok.value done in
    let small = subst IsSmall (ap value_of done) (effect_small c.loop-i.self c.at-instr.result c.loop-i.invariant.state c.at-instr.ensures.in_range) in
    record {
      whole = subst (λ (vs : List (Option ℕ)). GoesOn c.args.self.now c.args.script.now (c.loop-i.i + 1) vs c.step.new.self)
          (sym (take_more_set c.loop-i.values c.loop-i.i c.in-Ok.value few))
          (goes_on _ _ _ _ _ _ c.at-instr.result c.in-Ok.value c.loop-i.invariant.whole c.at-instr.ensures.value done);
      state = effect_keeps c.loop-i.self c.at-instr.result c.step.new.self c.in-Ok.value c.loop-i.invariant.state c.at-instr.ensures.in_range done;
      room = length-set c.loop-i.values c.loop-i.i c.in-Ok.value ∙ c.loop-i.invariant.room;
      small = small_values c.loop-i.values c.loop-i.i c.in-Ok.value c.loop-i.invariant.small small;
      rest = none_left c.loop-i.values c.loop-i.i c.in-Ok.value c.loop-i.invariant.rest;
      places = length-set c.loop-i.changes.list c.loop-i.i c.change_after.result ∙ c.loop-i.invariant.places;
      count = refl;
      leads = λ none. leads_on c.loop-i.changes.list c.loop-i.i c.change_after.result c.args.self.now c.loop-i.self c.step.new.self place
          (subst (λ (d : Change). TakesBack d c.loop-i.self c.step.new.self) (sym told)
          (takes_back c.loop-i.self c.step.new.self c.at-instr.result c.in-Ok.value c.loop-i.invariant.state c.at-instr.ensures.in_range (none c.loop-i.i c.at-instr.result (omega arith) c.at-instr.ensures.value) done))
          (c.loop-i.invariant.leads (λ j a lt is. none j a (omega arith) is));
    }

pub returns-clause-store : goal.returns-clause-store
returns-clause-store c = λ none. sym (ap (λ (o : ScriptOutcome). (run_result c.args.self.now o).0) (ends _ _ _ _ _ c.loop-i.invariant.whole (omega (arith, c.len-len.ensures.len))))

pub returns-clause-reply : goal.returns-clause-reply
returns-clause-reply c =
    let at : c.loop-i.i ≡ c.len-len.result = omega arith in
    ap (λ (n : ℕ). Answered (take n c.loop-i.values)) (sym at)
    ∙ sym (ap (λ (o : ScriptOutcome). (run_result c.args.self.now o).1) (ends _ _ _ _ _ c.loop-i.invariant.whole (omega (arith, c.len-len.ensures.len))))
