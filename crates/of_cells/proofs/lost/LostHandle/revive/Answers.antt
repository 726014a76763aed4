use Rattle.std.proofs.Common.{ℕ, refl, sym, subst, ◌∙◌, ◌↔◌}
use Rattle.of_core.specs.Machine.{CallState, IsOpen}
use Rattle.of_row.specs.declared.row.Row.{Row}
use Rattle.of_row.specs.Rows.{key_of, setup_at, row_start}
use Rattle.of_row.specs.Replacing.{WasSoBetween}
use Rattle.of_row.specs.Views.{last_caller}
use Rattle.of_cells.specs.Lost.{AnnouncesOpenCall, CallsGoOn}
use Rattle.of_cells.proofs.LostCalls.{refused_calls, gets_calls, gets_if_announced}
use Rattle.of_cells.proofs.lost.LostHandle.revive.Goals as goal

pub returns-in-Ok-clause-revived : goal.returns-in-Ok-clause-revived
returns-in-Ok-clause-revived g c =
    let meaning = g.W.Work.meaning in
    let row = c.deref.result.now in
    let e = c.in-Ok.ensures in
    let S = setup_at meaning row in
    let B = row_start meaning row in
    let L = g.W.Work.lawful (key_of row).work in
    let v = c.args.self.member.seat.me.0 in
    let u = c.in-Ok.caller.member.seat.me.0 in
    let x = last_caller v.kept in
    let y = last_caller u.kept in
    let is_open = IsOpen c.in-Ok.caller.machine.call.place in
    record {
      home = refl;
      number = refl;
      seq = refl;
      open_if =
          subst (λ (r : Row g.row.W.Denot). WasSoBetween (setup_at meaning r) (row_start meaning r) v u (λ ws. is_open ↔ AnnouncesOpenCall (setup_at meaning r) c.args.self.number ws)) c.deref.ensures
          (subst (λ (n : ℕ). WasSoBetween S B v u (λ ws. is_open ↔ AnnouncesOpenCall S n ws)) (c.args.self.member.keeps.1 ∙ c.requires.lost.number)
          (subst (λ (m : CallState). WasSoBetween S B v u (λ ws. IsOpen m.place ↔ AnnouncesOpenCall S x.machine.caller ws)) (sym e.machine)
          (gets_if_announced S L B v x u y e.revived)));
      calls = subst (λ (m : CallState). CallsGoOn (IsOpen x.machine.place) x.machine.op x.ended (IsOpen m.place) m.op y.ended) (sym e.machine) (gets_calls S L B v x u y e.revived);
      past = e.revived.past;
    }

pub returns-in-Err-clause-stays : goal.returns-in-Err-clause-stays
returns-in-Err-clause-stays g c =
    let row = c.deref.result.now in
    let e = c.in-Err.ensures in
    let k = refused_calls (setup_at g.W.Work.meaning row) (g.W.Work.lawful (key_of row).work) (row_start g.W.Work.meaning row) c.args.self.member.seat.me.0 c.in-Err.member.seat.me.0 c.in-Err.error e.refused in
    record { home = refl; number = refl; begun = e.same.1; seq = refl; calls = k.0; past = k.1 }
