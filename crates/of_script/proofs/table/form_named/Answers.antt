use Rattle.std.proofs.Common.{◌≡◌, ℕ, List, [], true, false, Some, None, refl, sym, ap, subst, ◌∙◌, arith}
use Rattle.std.proofs.lemmas.List.{nil_from_length}
use Rattle.std.proofs.lemmas.Slice.Eq.{bytes_eq-Decides}
use Rattle.of_script.specs.Table.{instr_name, form_named}
use Rattle.of_script.proofs.Between.{between_named, none_named}
use Rattle.of_script.proofs.table.form_named.Goals as goal

pub returns-then-is_empty : goal.returns-then-is_empty
unfolding form_named
returns-then-is_empty c =
    let none : c.args.name.now ≡ [] = nil_from_length _ (grind arith) in
    subst (λ (name : List ℕ). None ≡ form_named name) (sym none) refl

pub returns-in_err-form : goal.returns-in_err-form
returns-in_err-form c =
    c.from_residual.ensures ∙ none_named c.args.name.now (λ f e is. (let wrong : Some f ≡ None = sym e ∙ sym c.form_between.ensures ∙ c.in_err-form.was in absurd cc))

pub returns-then-is_named : goal.returns-then-is_named
returns-then-is_named c =
    let is = (bytes_eq-Decides c.args.name.now (instr_name c.in_ok-form.form)).0 (sym c.is_named.ensures ∙ c.if-is_named.true) in
    sym (ap form_named is ∙ between_named _ _ c.in_ok-form.form (sym c.form_between.ensures ∙ c.in_ok-form.was))

pub returns : goal.returns
returns c =
    none_named c.args.name.now (λ f e is.
    let same : f ≡ c.in_ok-form.form = (let both : Some f ≡ Some c.in_ok-form.form = sym e ∙ sym c.form_between.ensures ∙ c.in_ok-form.was in cc) in
    let eq = (bytes_eq-Decides c.args.name.now (instr_name c.in_ok-form.form)).1 (is ∙ ap instr_name same) in
    let wrong : true ≡ false = sym eq ∙ sym c.is_named.ensures ∙ c.if-is_named.false in absurd cc)
