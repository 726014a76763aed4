use Rattle.std.proofs.Common.{sym, ap, ◌∙◌}
use Rattle.of_store.specs.Store.{Store, least_from}
use Rattle.of_store.proofs.Ordered.{least_first, least_none}
use Rattle.of_store.proofs.store.Store.least_from.Goals as goal

pub returns-in_err-key : goal.returns-in_err-key
returns-in_err-key c =
    c.from_residual.ensures ∙ sym (least_none c.args.low c.self.inside.keys.entries c.range.ensures.ordered (sym (c.range.ensures.between _) ∙ c.in_err-key.ensures.steps.0))
    ∙ ap (λ (s : Store). least_from s.keys c.args.low) c.self.view_is

pub returns : goal.returns
returns c =
    sym (least_first c.args.low c.self.inside.keys.entries c.in_ok-key.key.now c.in_ok-key.field-0-1.now _ c.range.ensures.ordered (sym (c.range.ensures.between _) ∙ c.in_ok-key.ensures.steps))
    ∙ ap (λ (s : Store). least_from s.keys c.args.low) c.self.view_is
