use Rattle.std.proofs.Common.{◌≡◌, ℕ, ◌+◌, ◌<◌, [], ◌∷◌, length, set, arith, ap, ◌∙◌, length-set}
use Rattle.of_cell.specs.declared.word.TheConstants.{PAYLOADS}
use Rattle.of_core.specs.Table.{Setup, setup_of}
use Rattle.of_core.specs.MachineValue.{Machine, machine_setup}
use Rattle.of_core.specs.Machine.{CallState, begin_call}
use Rattle.of_core.specs.Bank.{bank_value}
use Rattle.of_core.specs.Moment.{Bank, call_states}
use Rattle.of_core.specs.Events.{Begins}
use Rattle.of_core.specs.declared.place.Place.TheVariants.{Idle}
use Rattle.of_core.proofs.Benches.{begins, seen_at, alike_set, alike_call, held_put, begun_after, carry}
use Rattle.of_core.proofs.bank.Bank.begin.Goals as goal

pub invariant_of-self : goal.invariant_of-self
invariant_of-self g c =
    let b = c.self.inside in
    let inv = c.self.invariant in
    let M = g.W.Work.meaning in
    let S : Setup = setup_of b.shape.callers b.shape.cells b.limit (M b.work) in
    let i : ℕ = c.args.caller in
    let inside : i < b.shape.callers = rw (← c.self.view_is) at c.requires.caller in
    let here : i < length b.machines.items = omega (arith, inv.members) in
    let s = c.index_mut-machine.result.now in
    let seen = seen_at b.work b.shape.callers b.shape.cells b.limit b.machines.items i s inv.alike here c.index_mut-machine.ensures.value in
    let same : machine_setup M s ≡ S = ap (machine_setup M) seen.0 in
    let t = c.begin.new.self in
    let d : CallState = begin_call S s.call c.args.op.now in
    let put : t ≡ record s { call = d } = c.begin.ensures ∙ ap (λ (T : Setup). record s { call = begin_call T s.call c.args.op.now }) same in
    let machines : call_states (set b.machines.items i t) ≡ set (call_states b.machines.items) i d = held_put b.work b.shape.callers b.shape.cells b.limit b.machines.items i t d (ap (λ (x : Machine _). x.call) put) in
    let is_idle : s.call.place ≡ Idle = rw (← seen.1) (rw (← c.self.view_is) at c.requires.idle) in
    let made : s.call.made + 1 < PAYLOADS = rw (← seen.1) (rw (← c.self.view_is) at c.requires.made) in
    record {
      callers = inv.callers;
      instrs = inv.instrs;
      cells = inv.cells;
      limit = inv.limit;
      room = inv.room;
      members = length-set b.machines.items i t ∙ inv.members;
      alike = alike_set b.work b.shape.callers b.shape.cells b.limit b.machines.items i t inv.alike (alike_call b.work b.shape.callers b.shape.cells b.limit s t d seen.0 put);
      reached = rw machines (begins S _ _ _ _ inv.reached i c.args.op.now s.call seen.1 inside is_idle c.requires.some c.requires.few made);
    }

pub returns : goal.returns
returns g c =
    let b = c.self.inside in
    let inv = c.self.invariant in
    let M = g.W.Work.meaning in
    let S : Setup = setup_of b.shape.callers b.shape.cells b.limit (M b.work) in
    let i : ℕ = c.args.caller in
    let inside : i < b.shape.callers = rw (← c.self.view_is) at c.requires.caller in
    let here : i < length b.machines.items = omega (arith, inv.members) in
    let s = c.index_mut-machine.result.now in
    let seen = seen_at b.work b.shape.callers b.shape.cells b.limit b.machines.items i s inv.alike here c.index_mut-machine.ensures.value in
    let same : machine_setup M s ≡ S = ap (machine_setup M) seen.0 in
    let t = c.begin.new.self in
    let d : CallState = begin_call S s.call c.args.op.now in
    let put : t ≡ record s { call = d } = c.begin.ensures ∙ ap (λ (T : Setup). record s { call = begin_call T s.call c.args.op.now }) same in
    let machines : call_states (set b.machines.items i t) ≡ set (call_states b.machines.items) i d = held_put b.work b.shape.callers b.shape.cells b.limit b.machines.items i t d (ap (λ (x : Machine _). x.call) put) in
    let old : Bank _ = bank_value b in
    carry M _ old _ (Begins i c.args.op.now ∷ []) c.self.view_is (begun_after M old i s.call seen.1 c.args.op.now _ machines)

pub begin-requires-clause-idle : goal.begin-requires-clause-idle
begin-requires-clause-idle g c =
    let b = c.self.inside in
    let inv = c.self.invariant in
    let i : ℕ = c.args.caller in
    let inside : i < b.shape.callers = rw (← c.self.view_is) at c.requires.caller in
    let here : i < length b.machines.items = omega (arith, inv.members) in
    let s = c.index_mut-machine.result.now in
    let seen = seen_at b.work b.shape.callers b.shape.cells b.limit b.machines.items i s inv.alike here c.index_mut-machine.ensures.value in
    rw (← seen.1) (rw (← c.self.view_is) at c.requires.idle)

pub begin-requires-clause-made : goal.begin-requires-clause-made
begin-requires-clause-made g c =
    let b = c.self.inside in
    let inv = c.self.invariant in
    let i : ℕ = c.args.caller in
    let inside : i < b.shape.callers = rw (← c.self.view_is) at c.requires.caller in
    let here : i < length b.machines.items = omega (arith, inv.members) in
    let s = c.index_mut-machine.result.now in
    let seen = seen_at b.work b.shape.callers b.shape.cells b.limit b.machines.items i s inv.alike here c.index_mut-machine.ensures.value in
    rw (← seen.1) (rw (← c.self.view_is) at c.requires.made)
