use Rattle.std.proofs.Common.{◌≡◌, ℕ, List, [], true, false, Some, None, refl, sym, ap, subst, ◌∙◌, arith}
use Rattle.std.proofs.lemmas.List.{nil_from_length}
use Rattle.std.proofs.lemmas.Slice.Eq.{bytes_eq-Decides}
use Rattle.of_plan.specs.LineTable.{form_name, line_form_named}
use Rattle.of_plan.proofs.LineLaws.{name_is, none_named}
use Rattle.of_plan.proofs.parser.line.form_named.Goals as goal

pub returns-then-is_empty : goal.returns-then-is_empty
unfolding line_form_named
returns-then-is_empty c =
    let none : c.args.name.now ≡ [] = nil_from_length _ (grind arith) in
    subst (λ (name : List ℕ). None ≡ line_form_named name) (sym none) refl

pub returns-in_err-form : goal.returns-in_err-form
returns-in_err-form c =
    c.from_residual.ensures ∙ none_named c.args.name.now (λ f e is. (let wrong : Some f ≡ None = sym e ∙ sym c.form_between.ensures ∙ c.in_err-form.was in absurd cc))

pub returns-then-eq : goal.returns-then-eq
returns-then-eq c =
    let is = (bytes_eq-Decides c.args.name.now c.form_name.result.now).0 (sym c.eq.ensures ∙ c.if-eq.true) ∙ c.form_name.ensures in
    sym (name_is c.args.name.now c.in_ok-form.form is)

pub returns : goal.returns
returns c =
    none_named c.args.name.now (λ f e is.
    let same : f ≡ c.in_ok-form.form = (let both : Some f ≡ Some c.in_ok-form.form = sym e ∙ sym c.form_between.ensures ∙ c.in_ok-form.was in cc) in
    let eq = (bytes_eq-Decides c.args.name.now c.form_name.result.now).1 (is ∙ ap form_name same ∙ sym c.form_name.ensures) in
    let wrong : true ≡ false = sym eq ∙ sym c.eq.ensures ∙ c.if-eq.false in absurd cc)
