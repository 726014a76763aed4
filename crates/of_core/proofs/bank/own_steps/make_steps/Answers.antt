use Rattle.std.proofs.Common.{◌≡◌, ℕ, suc, ◌+◌, ◌<◌, ◌⊎◌, inl, inr, List, length, get_or, refl, sym, ◌∙◌, ap, subst, arith, length-set, add-one}
use Rattle.std.proofs.lemmas.Bool.{cases_eq}
use Rattle.std.proofs.lemmas.List.{with_items_is}
use Rattle.of_core.specs.declared.place.Place.{Place}
use Rattle.of_core.specs.declared.place.Op.{Op}
use Rattle.of_core.specs.Table.{Setup}
use Rattle.of_core.specs.Machine.{CallState}
use Rattle.of_core.specs.Steps.{want, want_at, take_word, take_word_at, with_step_counted, word_of, word_found, words_after}
use Rattle.of_core.specs.MachineValue.{Machine, machine_setup}
use Rattle.of_core.specs.Turn.{IsIdle}
use Rattle.of_core.specs.OwnSteps.{CallOnTable, IsOpenBefore, after_own_steps, call_on}
use Rattle.of_core.proofs.Benches.{asks_here, goes_on}
use Rattle.of_core.proofs.bank.own_steps.make_steps.Goals as goal

pub take_at-requires-clause-good : goal.take_at-requires-clause-good
take_at-requires-clause-good g c =
    let M = g.W.Work.meaning in
    let first = c.args.machine.now in
    let S : Setup = machine_setup M first in
    let y : CallOnTable = after_own_steps S c.loop-made.made (call_on first c.args.words.now.items) in
    let s = c.loop-made.machine in
    let is = c.loop-made.invariant.machine in
    let same : machine_setup M s ≡ S = ap (machine_setup M) is in
    let work : s.work ≡ first.work = ap (λ (x : Machine _). x.work) is in
    let call : s.call ≡ y.call = ap (λ (x : Machine _). x.call) is in
    let p : Place = c.place-place.result in
    let op : want_at (machine_setup M s) s.call p ≡ want S s.call = rw same (asks_here S s.call p c.place-place.ensures) in
    let found : c.perform-found.result ≡ word_found S y.words y.call = c.perform-found.ensures.made.0
    ∙ ap (λ (o : Op). get_or c.loop-made.words.items (word_of o) 0) (op ∙ ap (want S) call)
    ∙ ap (λ (ws : List ℕ). word_found S ws y.call) c.loop-made.invariant.words in
    rw (same, work, call, found) (c.requires.good c.loop-made.made)

pub loop-made-preserved : goal.loop-made-preserved
loop-made-preserved g c =
    let M = g.W.Work.meaning in
    let first = c.args.machine.now in
    let S : Setup = machine_setup M first in
    let k : ℕ = c.loop-made.made in
    let x : CallOnTable = call_on first c.args.words.now.items in
    let y : CallOnTable = after_own_steps S k x in
    let s = c.loop-made.machine in
    let is = c.loop-made.invariant.machine in
    let same : machine_setup M s ≡ S = ap (machine_setup M) is in
    let call : s.call ≡ y.call = ap (λ (m : Machine _). m.call) is in
    let p : Place = c.place-place.result in
    let n : ℕ = c.perform-found.result in
    let vs : List ℕ = c.loop-made.words.items in
    let op : want_at (machine_setup M s) s.call p ≡ want S y.call = rw same (asks_here S s.call p c.place-place.ensures) ∙ ap (want S) call in
    let found : n ≡ word_found S y.words y.call = c.perform-found.ensures.made.0
    ∙ ap (λ (o : Op). get_or vs (word_of o) 0) op ∙ ap (λ (ws : List ℕ). word_found S ws y.call) c.loop-made.invariant.words in
    let count : length (words_after (want_at (machine_setup M s) s.call p) vs) ≡ c.loop-made.words.len = length-set vs _ _ ∙ sym c.loop-made.words.ok.0 in
    let left : c.perform-found.new.hand.items ≡ words_after (want_at (machine_setup M s) s.call p) vs = rw c.perform-found.ensures.made.1 (with_items_is c.loop-made.words (words_after (want_at (machine_setup M s) s.call p) vs) count) in
    let table : c.perform-found.new.hand.items ≡ words_after (want S y.call) y.words = left
    ∙ ap (λ (o : Op). words_after o vs) op ∙ ap (words_after (want S y.call)) c.loop-made.invariant.words in
    let d : CallState = take_word S y.call (word_found S y.words y.call) in
    let went : take_word_at (machine_setup M s) (with_step_counted p s.call) n p ≡ d = rw (same, goes_on S s.call n p c.place-place.ensures) (rw (call, found) refl) in
    let put : c.take_at.new.self ≡ record first { call = d } = c.take_at.ensures ∙ ap (λ (e : CallState). record s { call = e }) went ∙ ap (λ (m : Machine _). record m { call = d }) is in
    let more : k + 1 ≡ suc k = add-one k in
    record {
      machine = put ∙ ap (λ (j : ℕ). record first { call = (after_own_steps S j x).call }) (sym more);
      words = table ∙ ap (λ (j : ℕ). (after_own_steps S j x).words) (sym more);
      room = let as_long : length c.perform-found.new.hand.items ≡ length vs = ap length left ∙ length-set vs _ _ in omega (arith, c.loop-made.invariant.room, as_long);
      stays_open = λ j few idle.
          let here : (j ≡ k) ⊎ (j ≡ k → ⊥) → ⊥ = λ which. elim which [
            | inl e ↦ let now = c.is_idle.ensures.1 (ap (λ (m : CallState). m.place) call ∙ subst (λ (i : ℕ). IsIdle (after_own_steps S i x).call) e idle) in cc
            | inr other ↦ c.loop-made.invariant.stays_open j (let lt : j < k = omega (arith, few) in lt) idle
          ] in here (cases_eq j k);
    }

pub returns-clause-machine : goal.returns-clause-machine
returns-clause-machine g c =
    let all : c.loop-made.made ≡ c.args.most = omega (arith, c.loop-made-test.false, c.loop-made.auto.made-end) in
    subst (λ (n : ℕ). c.loop-made.machine ≡ record c.args.machine.now { call = (after_own_steps (machine_setup g.W.Work.meaning c.args.machine.now) n (call_on c.args.machine.now c.args.words.now.items)).call }) all c.loop-made.invariant.machine

pub returns-clause-stays_open : goal.returns-clause-stays_open
returns-clause-stays_open g c =
    let all : c.loop-made.made ≡ c.args.most = omega (arith, c.loop-made-test.false, c.loop-made.auto.made-end) in
    subst (λ (n : ℕ). IsOpenBefore (machine_setup g.W.Work.meaning c.args.machine.now) n (call_on c.args.machine.now c.args.words.now.items)) all c.loop-made.invariant.stays_open
