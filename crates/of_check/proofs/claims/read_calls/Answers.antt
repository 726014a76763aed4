use Rattle.std.proofs.Common.{◌≡◌, [], ◌∷◌, ◌++◌, drop, length, sym, ap, ◌∙◌, List, ℕ}
use Rattle.std.proofs.lemmas.List.{length-append}
use Rattle.of_plan.proofs.LinesAt.{after_next}
use Rattle.of_check.specs.declared.claims.CallClaim.{CallClaim}
use Rattle.of_check.specs.Claims.{call_of_line, read_lines, lines_of}
use Rattle.of_check.proofs.Lines.{lines_cut, read_next}
use Rattle.of_check.proofs.claims.read_calls.Goals as goal

pub loop-rest-preserved : goal.loop-rest-preserved
loop-rest-preserved c =
    let ls = lines_of c.args.lines in
    let line = c.cut.result.0.now in
    let before = c.loop-rest.calls.items in
    let call = c.in-Some-call_of_line.call in
    let items : c.push.new.self.items ≡ before ++ call ∷ [] = c.in_ok-push-in-Some-call_of_line.ensures.items in
    let here : lines_of c.loop-rest.rest ≡ line ∷ lines_of c.cut.result.1 = ap lines_of c.in-Some.is ∙ lines_cut c.cut.result.1 _ line c.cut.ensures.parts in
    record {
      found =
          ap (λ (qs : List CallClaim). qs ++ read_lines call_of_line (lines_of c.cut.result.1)) items
          ∙ read_next call_of_line before (lines_of c.loop-rest.rest) line (lines_of c.cut.result.1) call here (sym c.call_of_line.ensures ∙ c.in-Some-call_of_line.is)
          ∙ c.loop-rest.invariant.found;
      left = sym (ap (λ (n : ℕ). drop n ls) (ap length items ∙ length-append before (call ∷ [])) ∙ after_next ls (length before) line (lines_of c.cut.result.1) (sym c.loop-rest.invariant.left ∙ here));
    }
