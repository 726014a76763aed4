-- When two replies say the same, and what a caller's own cells hold.
use Rattle.std.proofs.Common.{◌≡◌, ℕ, Bool, eqb, List, take, Option, Some, None, Decides, refl, sym, ap, ◌∙◌}
use Rattle.std.specs.Prelude.{IsTrue, ◌↔◌}
use Rattle.std.specs.Option.{option_eq}
use lib.Pointwise.{pointwise}
use Rattle.std.proofs.lemmas.Bool.Decides.{Decides-eqb}
use Rattle.std.proofs.lemmas.Slice.Eq.{slice_eq-Decides}
use Rattle.of_script.specs.declared.instr.Reply.{Reply as TheReply}
use Rattle.of_store.specs.Store.{Answered}
use Rattle.of_store.specs.Replies.{reply_value_of, response_with}
use Rattle.of_plan.specs.Plan.{Plan}
use Rattle.of_plan.specs.Report.{Report, Start}
use Rattle.of_report.specs.Image.{Image}
use Rattle.of_check.specs.declared.ends.LeftRule.{LeftRule}
use Rattle.of_check.specs.declared.ends.LeftRule.TheVariants.{Callers, Blocks, Sequence, Ticket, Reply as ReplyRule, Store}
use Rattle.of_check.specs.Ends.{HasSizes, BreaksCalls, BreaksLeft}

unsome : (x y : ℕ) → ◌≡◌ {A = Option ℕ} (Some x) (Some y) → x ≡ y
unsome x y same = cc

value_decides : (a b : Option ℕ) → Decides (option_eq eqb a b) (a ≡ b)
value_decides None None = (λ e. refl, λ e. refl)
value_decides None (Some y) = (λ e. absurd cc, λ e. absurd cc)
value_decides (Some x) None = (λ e. absurd cc, λ e. absurd cc)
value_decides (Some x) (Some y) = (λ e. ap (λ (n : ℕ). Some n) ((Decides-eqb x y).0 e), λ e. (Decides-eqb x y).1 (unsome x y e))

answers : (xs ys : List (Option ℕ)) → Answered xs ≡ Answered ys → xs ≡ ys
answers xs ys same = cc

pub answered_same : (a b : TheReply) (xs ys : List (Option ℕ)) (r : Bool) → a.abort ≡ None → b.abort ≡ None → xs ≡ take a.len a.values → ys ≡ take b.len b.values → r ≡ pointwise (option_eq eqb) xs ys → IsTrue r ↔ (reply_value_of a ≡ reply_value_of b)
answered_same a b xs ys r one other first second is =
    let decides = slice_eq-Decides value_decides xs ys r is in
    let left : reply_value_of a ≡ Answered xs = ap (response_with a) one ∙ ap Answered (sym first) in
    let right : reply_value_of b ≡ Answered ys = ap (response_with b) other ∙ ap Answered (sym second) in
    (λ so. left ∙ ap Answered (decides.0 so) ∙ sym right, λ same. decides.1 (answers xs ys (sym left ∙ same ∙ right)))

-- what is wrong with a caller's cells is wrong with the image
pub calls_left : (p : Plan) (s : Start) (r : Report) (i : Image) (rule : LeftRule) → HasSizes p r i → BreaksCalls p s r i rule → BreaksLeft p s r i rule
calls_left p s r i Callers sizes breaks = absurd breaks
calls_left p s r i Blocks sizes breaks = absurd breaks
calls_left p s r i Sequence sizes breaks = absurd breaks
calls_left p s r i (Ticket c) sizes breaks = (sizes, breaks)
calls_left p s r i (ReplyRule c) sizes breaks = (sizes, breaks)
calls_left p s r i Store sizes breaks = absurd breaks
