use Rattle.std.proofs.Common.{◌≡◌, ℕ, ◌<◌, ◌≤◌, length, get_or, set, refl, sym, ◌∙◌, ap, subst, arith, length-set}
use Rattle.of_mem.specs.Meaning.{IsSoundMeaning}
use Rattle.of_core.specs.Table.{Setup, setup_of, first_operation_cell, words_before_members}
use Rattle.of_core.specs.Machine.{CallState, no_machine}
use Rattle.of_core.specs.MachineValue.{Machine, machine_setup}
use Rattle.of_core.specs.Moment.{Bank, call_states}
use Rattle.of_core.specs.Bank.{bank_value}
use Rattle.of_core.specs.OwnSteps.{CallOnTable, MayGoOn, after_own_steps}
use Rattle.of_core.specs.Turn.{MakesTurns}
use Rattle.of_core.proofs.Puts.{sound_at}
use Rattle.of_core.proofs.Benches.{seen_at, alike_set, alike_call, held_now, held_put, held_length}
use Rattle.of_core.proofs.TurnsInRow.{may_go_on, stays_reached, stay_long, turned, turned_call}
use Rattle.of_core.proofs.bank.Bank.turns.Goals as goal

pub make_steps-requires-clause-room : goal.make_steps-requires-clause-room
make_steps-requires-clause-room g c =
    let b = c.self.inside in
    let inv = c.self.invariant in
    let M = g.W.Work.meaning in
    let i : ℕ = c.args.caller in
    let inside : i < b.shape.callers = rw (← c.self.view_is) at c.requires in
    let here : i < length b.machines.items = omega (arith, inv.members) in
    let s = c.index_mut-machine.result.now in
    let seen = seen_at b.work b.shape.callers b.shape.cells b.limit b.machines.items i s inv.alike here c.index_mut-machine.ensures.value in
    let S : Setup = setup_of b.shape.callers b.shape.cells b.limit (M b.work) in
    let same : machine_setup M s ≡ S = ap (machine_setup M) seen.0 in
    subst (λ (T : Setup). words_before_members T ≤ length b.words.items) (sym same) (omega (arith, inv.room))

pub make_steps-requires-clause-good : goal.make_steps-requires-clause-good
make_steps-requires-clause-good g c =
    let b = c.self.inside in
    let inv = c.self.invariant in
    let M = g.W.Work.meaning in
    let S : Setup = setup_of b.shape.callers b.shape.cells b.limit (M b.work) in
    let i : ℕ = c.args.caller in
    let inside : i < b.shape.callers = rw (← c.self.view_is) at c.requires in
    let here : i < length b.machines.items = omega (arith, inv.members) in
    let s = c.index_mut-machine.result.now in
    let seen = seen_at b.work b.shape.callers b.shape.cells b.limit b.machines.items i s inv.alike here c.index_mut-machine.ensures.value in
    let same : machine_setup M s ≡ S = ap (machine_setup M) seen.0 in
    let laws = g.met.W.Work in
    let fits = laws.fits b.work in
    let sound : IsSoundMeaning (M b.work) (g.W.Work.lawful b.work) (first_operation_cell S) S.cells = sound_at S (M b.work) (g.W.Work.lawful b.work) _ _ inv.callers inv.cells refl (laws.sound b.work) in
    let own : first_operation_cell S ≤ S.cells = omega (arith, fits.own, inv.callers, inv.cells) in
    let member : i < length (call_states b.machines.items) = omega (arith, held_length b.work b.shape.callers b.shape.cells b.limit b.machines.items) in
    let goes : MayGoOn S (g.W.Work.lawful b.work) (record { call = get_or (call_states b.machines.items) i no_machine; words = b.words.items }) =
    may_go_on S i b.words.items (call_states b.machines.items) member (g.W.Work.lawful b.work) _ inside inv.reached sound b.shape.some_callers (omega (arith, b.shape.few_callers)) own (omega arith) (omega (arith, b.shape.few_cells)) in
    subst (λ (d : CallState). MayGoOn (machine_setup M s) (g.W.Work.lawful s.work) (record { call = d; words = b.words.items })) seen.1
    (subst (λ (x : Machine _). MayGoOn (machine_setup M x) (g.W.Work.lawful x.work) (record { call = get_or (call_states b.machines.items) i no_machine; words = b.words.items })) (sym seen.0) goes)

pub invariant_of-self : goal.invariant_of-self
invariant_of-self g c =
    let b = c.self.inside in
    let inv = c.self.invariant in
    let M = g.W.Work.meaning in
    let S : Setup = setup_of b.shape.callers b.shape.cells b.limit (M b.work) in
    let i : ℕ = c.args.caller in
    let inside : i < b.shape.callers = rw (← c.self.view_is) at c.requires in
    let here : i < length b.machines.items = omega (arith, inv.members) in
    let s = c.index_mut-machine.result.now in
    let seen = seen_at b.work b.shape.callers b.shape.cells b.limit b.machines.items i s inv.alike here c.index_mut-machine.ensures.value in
    let same : machine_setup M s ≡ S = ap (machine_setup M) seen.0 in
    let member : i < length (call_states b.machines.items) = omega (arith, held_length b.work b.shape.callers b.shape.cells b.limit b.machines.items) in
    let n : ℕ = c.make_steps.result in
    let t = c.make_steps.new.machine in
    let first : CallOnTable = record { call = get_or (call_states b.machines.items) i no_machine; words = b.words.items } in
    let x : CallOnTable = after_own_steps S n first in
    let from : after_own_steps (machine_setup M s) n (record { call = s.call; words = b.words.items }) ≡ x =
    ap (λ (T : Setup). after_own_steps T n (record { call = s.call; words = b.words.items })) same
    ∙ ap (λ (d : CallState). after_own_steps S n (record { call = d; words = b.words.items })) (sym seen.1) in
    let table : c.make_steps.new.words.items ≡ x.words = c.make_steps.ensures.words ∙ ap (λ (y : CallOnTable). y.words) from in
    let put : t ≡ record s { call = x.call } = c.make_steps.ensures.machine ∙ ap (λ (y : CallOnTable). record s { call = y.call }) from in
    let machines : call_states (set b.machines.items i t) ≡ set (call_states b.machines.items) i x.call = held_put b.work b.shape.callers b.shape.cells b.limit b.machines.items i t x.call (ap (λ (m : Machine _). m.call) put) in
    let reached = stays_reached S i b.words.items (call_states b.machines.items) member (g.W.Work.lawful b.work) _ inside inv.reached n in
    record {
      callers = inv.callers;
      instrs = inv.instrs;
      cells = inv.cells;
      limit = inv.limit;
      room = ap length table ∙ stay_long S n first ∙ inv.room;
      members = length-set b.machines.items i t ∙ inv.members;
      alike = alike_set b.work b.shape.callers b.shape.cells b.limit b.machines.items i t inv.alike (alike_call b.work b.shape.callers b.shape.cells b.limit s t x.call seen.0 put);
      reached = rw (table, machines) reached;
    }

pub returns-clause-turns : goal.returns-clause-turns
returns-clause-turns g c =
    let b = c.self.inside in
    let inv = c.self.invariant in
    let M = g.W.Work.meaning in
    let S : Setup = setup_of b.shape.callers b.shape.cells b.limit (M b.work) in
    let i : ℕ = c.args.caller in
    let inside : i < b.shape.callers = rw (← c.self.view_is) at c.requires in
    let here : i < length b.machines.items = omega (arith, inv.members) in
    let s = c.index_mut-machine.result.now in
    let seen = seen_at b.work b.shape.callers b.shape.cells b.limit b.machines.items i s inv.alike here c.index_mut-machine.ensures.value in
    let same : machine_setup M s ≡ S = ap (machine_setup M) seen.0 in
    let member : i < length (call_states b.machines.items) = omega (arith, held_length b.work b.shape.callers b.shape.cells b.limit b.machines.items) in
    let n : ℕ = c.make_steps.result in
    let t = c.make_steps.new.machine in
    let old : Bank _ = bank_value b in
    let first : CallOnTable = record { call = get_or (call_states b.machines.items) i no_machine; words = b.words.items } in
    let x : CallOnTable = after_own_steps S n first in
    let from : (k : ℕ) → after_own_steps (machine_setup M s) k (record { call = s.call; words = b.words.items }) ≡ after_own_steps S k first = λ k.
    ap (λ (T : Setup). after_own_steps T k (record { call = s.call; words = b.words.items })) same
    ∙ ap (λ (d : CallState). after_own_steps S k (record { call = d; words = b.words.items })) (sym seen.1) in
    let table : c.make_steps.new.words.items ≡ x.words = c.make_steps.ensures.words ∙ ap (λ (y : CallOnTable). y.words) (from n) in
    let call : t.call ≡ x.call = ap (λ (m : Machine _). m.call) c.make_steps.ensures.machine ∙ ap (λ (y : CallOnTable). y.call) (from n) in
    let machines : call_states (set b.machines.items i t) ≡ set (call_states b.machines.items) i x.call = held_put b.work b.shape.callers b.shape.cells b.limit b.machines.items i t x.call call in
    let made : MakesTurns M i n old (record old { words = c.make_steps.new.words.items; machines = call_states (set b.machines.items i t) }) = record {
      after = rw (table, machines) (turned M old i member n);
      stays_open = λ k few idle. c.make_steps.ensures.stays_open k few (ap (λ (y : CallOnTable). y.call.place) (from k) ∙ ap (λ (d : CallState). d.place) (sym (turned_call M old i member k)) ∙ idle);
    } in
    subst (λ (x : Bank _). MakesTurns M i n x (record old { words = c.make_steps.new.words.items; machines = call_states (set b.machines.items i t) })) c.self.view_is made

pub returns-clause-ended : goal.returns-clause-ended
returns-clause-ended g c =
    let b = c.self.inside in
    let inv = c.self.invariant in
    let i : ℕ = c.args.caller in
    let inside : i < b.shape.callers = rw (← c.self.view_is) at c.requires in
    let here : i < length b.machines.items = omega (arith, inv.members) in
    λ fewer. ap (λ (d : CallState). d.place) (held_now b.work b.shape.callers b.shape.cells b.limit b.machines.items i c.make_steps.new.machine here) ∙ c.make_steps.ensures.ended fewer
