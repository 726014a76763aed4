-- A text has at most one plan.
use Rattle.std.proofs.Common.{◌≡◌, ℕ, List, sym, ap, ◌∙◌}
use Rattle.of_plan.specs.Plan.{Plan}
use Rattle.of_plan.specs.Grammar.{SpellsPlan}
use Rattle.of_plan.specs.LineReading.{plan_language}
use Rattle.of_plan.specs.Reading.{plan_read, nothing_read, plan_reader}
use Rattle.of_plan.proofs.Readings.{one_last}
use Rattle.of_plan.proofs.Following.{IsEnded, read}
use Rattle.of_plan.proofs.BadLine.{is_reader}

pub one_plan : (text : List ℕ) (p q : Plan) → SpellsPlan text p → SpellsPlan text q → p ≡ q
one_plan text p q s t =
    let a = read text p s in
    let b = read text q t in
    a.1 ∙ ap plan_read (one_last plan_language plan_reader nothing_read IsEnded is_reader text a.0 b.0) ∙ sym b.1
