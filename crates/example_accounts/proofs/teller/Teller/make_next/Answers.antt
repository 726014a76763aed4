use Rattle.std.proofs.Common.{◌≡◌, ◌++◌, ◌∷◌, [], length, Err, refl, sym, ◌∙◌, ap, arith}
use Rattle.of_core.specs.declared.place.Outcome.{Outcome}
use Rattle.of_cells.specs.Called.{made_with}
use Rattle.of_cells.specs.Handles.{made_by}
use Rattle.example_accounts.specs.Days.{HasWorked}
use Rattle.example_accounts.proofs.Tellers.{answers_more}
use Rattle.example_accounts.proofs.teller.Teller.make_next.Goals.{in-Ok, in-Err-Spent}
use Rattle.example_accounts.proofs.teller.Teller.make_next.Goals as goal

pub returns : goal.returns
returns c =
    let t = c.args.self.now in
    let e = c.run_within.ensures in
    let o : Outcome = c.match-run_within.outcome in
    let told : made_by c.run_within.new.self ≡ made_by t.handle ++ record { op = c.as_slice.result.now; outcome = o } ∷ [] = elim c.match-run_within.branch [
      | in-Ok w ↦ e.made ∙ ap (λ r. made_with c.as_slice.result.now r (made_by t.handle)) w.in-Ok.is ∙ ap (λ (x : Outcome). made_by t.handle ++ record { op = c.as_slice.result.now; outcome = x } ∷ []) (sym (w.outcome-is ∙ w.outcome-outcome.ensures))
      | in-Err-Spent w ↦ e.made ∙ ap (λ r. made_with c.as_slice.result.now r (made_by t.handle)) (w.in-Err-Spent.is ∙ ap (λ e. Err e) w.in-Err-Spent.field-0-is) ∙ ap (λ (x : Outcome). made_by t.handle ++ record { op = c.as_slice.result.now; outcome = x } ∷ []) (sym w.outcome-is)
    ] in
    let more = answers_more t.handle c.run_within.new.self t.answers.items c.put.new.answers.items t.job.items c.index.result.now c.as_slice.result.now o
    c.requires.answers c.requires.follows (omega (arith, c.len-next.ensures, c.len.ensures, c.if-next-len.false)) (grind (arith, c.index.ensures, c.len-next.ensures)) (grind (arith, c.as_slice.ensures, c.words-words.ensures)) told c.put.ensures in
    record {
      serves = record { handle = e.handle; answers = more.0; follows = more.1 };
      same = record { handle = e.same; job = refl };
    }
