use Rattle.std.proofs.Common.{◌≡◌, ℕ, ◌<◌, ◌≤◌, List, [], ◌∷◌, length, get_or, set, arith, ap, subst, ◌∙◌, sym, refl, length-set}
use Rattle.of_core.specs.Table.{Setup, setup_of, first_operation_cell, words_before_members}
use Rattle.of_core.specs.MachineValue.{Machine, machine_setup}
use Rattle.of_core.specs.Machine.{CallState}
use Rattle.of_core.specs.Bank.{bank_value}
use Rattle.of_core.specs.Moment.{Bank, call_states}
use Rattle.of_core.specs.Events.{Turns}
use Rattle.of_core.specs.declared.place.Op.{Op}
use Rattle.of_core.specs.declared.place.Place.{Place}
use Rattle.of_core.specs.declared.place.Place.TheVariants.{Idle}
use Rattle.std.proofs.lemmas.List.{with_items_is}
use Rattle.of_mem.specs.Meaning.{IsSoundMeaning}
use Rattle.of_core.specs.Steps.{want, want_at, take_word, take_word_at, with_step_counted, word_of, words_after, word_found}
use Rattle.of_core.proofs.Puts.{sound_at}
use Rattle.of_core.proofs.Benches.{turns, meets, seen_at, alike_set, alike_call, held_put, held_now, held_length, rests_after, turned_after, turn_is, asks_here, goes_on, carry}
use Rattle.of_core.proofs.bank.Bank.turn.Goals as goal

pub returns-then-is_idle-clause-after : goal.returns-then-is_idle-clause-after
returns-then-is_idle-clause-after g c =
    let M = g.W.Work.meaning in
    let i : ℕ = c.args.caller in
    rests_after M c.args.self.now i _ refl (c.if-is_idle.ensures.0 refl)

pub returns-then-is_idle-clause-turn : goal.returns-then-is_idle-clause-turn
returns-then-is_idle-clause-turn g c = rw (c.if-is_idle.ensures.0 refl) refl

pub perform-found-requires-clause-takes : goal.perform-found-requires-clause-takes
perform-found-requires-clause-takes g c =
    let b = c.self.inside in
    let inv = c.self.invariant in
    let M = g.W.Work.meaning in
    let S : Setup = setup_of b.shape.callers b.shape.cells b.limit (M b.work) in
    let i : ℕ = c.args.caller in
    let inside : i < b.shape.callers = rw (← c.self.view_is) at c.requires in
    let here : i < length b.machines.items = omega (arith, inv.members) in
    let s = c.index_mut-machine.result.now in
    let seen = seen_at b.work b.shape.callers b.shape.cells b.limit b.machines.items i s inv.alike here c.index_mut-machine.ensures.value in
    let same : machine_setup M s ≡ S = ap (machine_setup M) seen.0 in
    λ op is small. let range : word_of op < words_before_members S = subst (λ (T : Setup). word_of op < words_before_members T) same small in omega (arith, range, inv.room)

pub take_at-requires-clause-open : goal.take_at-requires-clause-open
take_at-requires-clause-open g c =
    let b = c.self.inside in
    let inv = c.self.invariant in
    let M = g.W.Work.meaning in
    let S : Setup = setup_of b.shape.callers b.shape.cells b.limit (M b.work) in
    let i : ℕ = c.args.caller in
    let inside : i < b.shape.callers = rw (← c.self.view_is) at c.requires in
    let here : i < length b.machines.items = omega (arith, inv.members) in
    let s = c.index_mut-machine.result.now in
    let seen = seen_at b.work b.shape.callers b.shape.cells b.limit b.machines.items i s inv.alike here c.index_mut-machine.ensures.value in
    let same : machine_setup M s ≡ S = ap (machine_setup M) seen.0 in
    λ q. let e = c.if-is_idle.ensures.1 (rw (← c.self.view_is, seen.1) (sym c.place-place.ensures ∙ q)) in cc

pub take_at-requires-clause-good : goal.take_at-requires-clause-good
take_at-requires-clause-good g c =
    let b = c.self.inside in
    let inv = c.self.invariant in
    let M = g.W.Work.meaning in
    let S : Setup = setup_of b.shape.callers b.shape.cells b.limit (M b.work) in
    let i : ℕ = c.args.caller in
    let inside : i < b.shape.callers = rw (← c.self.view_is) at c.requires in
    let here : i < length b.machines.items = omega (arith, inv.members) in
    let s = c.index_mut-machine.result.now in
    let seen = seen_at b.work b.shape.callers b.shape.cells b.limit b.machines.items i s inv.alike here c.index_mut-machine.ensures.value in
    let same : machine_setup M s ≡ S = ap (machine_setup M) seen.0 in
    let p : Place = c.place-place.result in
    let at : p ≡ s.call.place = c.place-place.ensures in
    let ws : List ℕ = b.words.items in
    let n : ℕ = c.perform-found.result in
    let op : want_at (machine_setup M s) s.call p ≡ want S s.call = rw same (asks_here S s.call p at) in
    let found : n ≡ word_found S ws s.call = c.perform-found.ensures.made.0 ∙ ap (λ (o : Op). get_or ws (word_of o) 0) op in
    let laws = g.met.W.Work in
    let fits = laws.fits b.work in
    let sound : IsSoundMeaning (M b.work) (g.W.Work.lawful b.work) (first_operation_cell S) S.cells = sound_at S (M b.work) (g.W.Work.lawful b.work) _ _ inv.callers inv.cells refl (laws.sound b.work) in
    let own : first_operation_cell S ≤ S.cells = omega (arith, fits.own, inv.callers, inv.cells) in
    let work : s.work ≡ b.work = ap (λ (x : Machine _). x.work) seen.0 in
    let member : i < length (call_states b.machines.items) = omega (arith, held_length b.work b.shape.callers b.shape.cells b.limit b.machines.items) in
    rw (same, work, found) (meets S (g.W.Work.lawful b.work) sound b.shape.some_callers (omega (arith, b.shape.few_callers)) own (omega arith) (omega (arith, b.shape.few_cells)) _ _ _ inv.reached i s.call inside member seen.1)

pub invariant_of-self : goal.invariant_of-self
invariant_of-self g c =
    let b = c.self.inside in
    let inv = c.self.invariant in
    let M = g.W.Work.meaning in
    let S : Setup = setup_of b.shape.callers b.shape.cells b.limit (M b.work) in
    let i : ℕ = c.args.caller in
    let inside : i < b.shape.callers = rw (← c.self.view_is) at c.requires in
    let here : i < length b.machines.items = omega (arith, inv.members) in
    let s = c.index_mut-machine.result.now in
    let seen = seen_at b.work b.shape.callers b.shape.cells b.limit b.machines.items i s inv.alike here c.index_mut-machine.ensures.value in
    let same : machine_setup M s ≡ S = ap (machine_setup M) seen.0 in
    let p : Place = c.place-place.result in
    let at : p ≡ s.call.place = c.place-place.ensures in
    let ws : List ℕ = b.words.items in
    let n : ℕ = c.perform-found.result in
    let op : want_at (machine_setup M s) s.call p ≡ want S s.call = rw same (asks_here S s.call p at) in
    let found : n ≡ word_found S ws s.call = c.perform-found.ensures.made.0 ∙ ap (λ (o : Op). get_or ws (word_of o) 0) op in
    let count : length (words_after (want_at (machine_setup M s) s.call p) ws) ≡ b.words.len = length-set ws _ _ ∙ sym b.words.ok.0 in
    let table : c.perform-found.new.hand.items ≡ words_after (want S s.call) ws = rw c.perform-found.ensures.made.1 (with_items_is b.words (words_after (want_at (machine_setup M s) s.call p) ws) count ∙ ap (λ (o : Op). words_after o ws) op) in
    let t = c.take_at.new.self in
    let d : CallState = take_word S s.call (word_found S ws s.call) in
    let went : take_word_at (machine_setup M s) (with_step_counted p s.call) n p ≡ d = rw (same, goes_on S s.call n p at) (ap (take_word S s.call) found) in
    let put : t ≡ record s { call = d } = c.take_at.ensures ∙ ap (λ (x : CallState). record s { call = x }) went in
    let machines : call_states (set b.machines.items i t) ≡ set (call_states b.machines.items) i d = held_put b.work b.shape.callers b.shape.cells b.limit b.machines.items i t d (ap (λ (x : Machine _). x.call) put) in
    record {
      callers = inv.callers;
      instrs = inv.instrs;
      cells = inv.cells;
      limit = inv.limit;
      room = ap length table ∙ length-set ws _ _ ∙ inv.room;
      members = length-set b.machines.items i t ∙ inv.members;
      alike = alike_set b.work b.shape.callers b.shape.cells b.limit b.machines.items i t inv.alike (alike_call b.work b.shape.callers b.shape.cells b.limit s t d seen.0 put);
      reached = rw (table, machines) (turns S _ _ _ _ inv.reached i s.call seen.1 inside);
    }

pub returns-clause-after : goal.returns-clause-after
returns-clause-after g c =
    let b = c.self.inside in
    let inv = c.self.invariant in
    let M = g.W.Work.meaning in
    let S : Setup = setup_of b.shape.callers b.shape.cells b.limit (M b.work) in
    let i : ℕ = c.args.caller in
    let inside : i < b.shape.callers = rw (← c.self.view_is) at c.requires in
    let here : i < length b.machines.items = omega (arith, inv.members) in
    let s = c.index_mut-machine.result.now in
    let seen = seen_at b.work b.shape.callers b.shape.cells b.limit b.machines.items i s inv.alike here c.index_mut-machine.ensures.value in
    let same : machine_setup M s ≡ S = ap (machine_setup M) seen.0 in
    let p : Place = c.place-place.result in
    let at : p ≡ s.call.place = c.place-place.ensures in
    let ws : List ℕ = b.words.items in
    let n : ℕ = c.perform-found.result in
    let op : want_at (machine_setup M s) s.call p ≡ want S s.call = rw same (asks_here S s.call p at) in
    let found : n ≡ word_found S ws s.call = c.perform-found.ensures.made.0 ∙ ap (λ (o : Op). get_or ws (word_of o) 0) op in
    let count : length (words_after (want_at (machine_setup M s) s.call p) ws) ≡ b.words.len = length-set ws _ _ ∙ sym b.words.ok.0 in
    let table : c.perform-found.new.hand.items ≡ words_after (want S s.call) ws = rw c.perform-found.ensures.made.1 (with_items_is b.words (words_after (want_at (machine_setup M s) s.call p) ws) count ∙ ap (λ (o : Op). words_after o ws) op) in
    let t = c.take_at.new.self in
    let d : CallState = take_word S s.call (word_found S ws s.call) in
    let went : take_word_at (machine_setup M s) (with_step_counted p s.call) n p ≡ d = rw (same, goes_on S s.call n p at) (ap (take_word S s.call) found) in
    let put : t ≡ record s { call = d } = c.take_at.ensures ∙ ap (λ (x : CallState). record s { call = x }) went in
    let machines : call_states (set b.machines.items i t) ≡ set (call_states b.machines.items) i d = held_put b.work b.shape.callers b.shape.cells b.limit b.machines.items i t d (ap (λ (x : Machine _). x.call) put) in
    let old : Bank _ = bank_value b in
    carry M _ old _ (Turns i ∷ []) c.self.view_is (turned_after M old i s.call seen.1 _ _ table machines)

pub returns-clause-turn : goal.returns-clause-turn
returns-clause-turn g c =
    let b = c.self.inside in
    let inv = c.self.invariant in
    let M = g.W.Work.meaning in
    let S : Setup = setup_of b.shape.callers b.shape.cells b.limit (M b.work) in
    let i : ℕ = c.args.caller in
    let inside : i < b.shape.callers = rw (← c.self.view_is) at c.requires in
    let here : i < length b.machines.items = omega (arith, inv.members) in
    let s = c.index_mut-machine.result.now in
    let seen = seen_at b.work b.shape.callers b.shape.cells b.limit b.machines.items i s inv.alike here c.index_mut-machine.ensures.value in
    let same : machine_setup M s ≡ S = ap (machine_setup M) seen.0 in
    let p : Place = c.place-place.result in
    let at : p ≡ s.call.place = c.place-place.ensures in
    let t = c.take_at.new.self in
    let now = held_now b.work b.shape.callers b.shape.cells b.limit b.machines.items i t here in
    let was_open : s.call.place ≡ Idle → ⊥ = λ q. let e = c.if-is_idle.ensures.1 (rw (← c.self.view_is, seen.1) q) in cc in
    rw (← c.self.view_is, seen.1, now) (turn_is s.call.place t.call c.answer.result c.turn_of_answer.result was_open c.turn_of_answer.ensures c.answer.ensures)
