use Rattle.std.proofs.Common.{◌∙◌, refl, sym, subst}
use Rattle.of_c.specs.declared.held.Held.{Held}
use Rattle.of_c.specs.Slots.{HasSaved}
use Rattle.of_c.proofs.Stores.{store_with}
use Rattle.of_c.proofs.states.item_held.Goals as goal

pub returns-in-Saved-clause-read : goal.returns-in-Saved-clause-read
returns-in-Saved-clause-read c done =
    store_with c.in-Saved.kept.saved _ (subst (λ (h : Held). HasSaved h c.in-Saved.kept.saved) (sym c.in-Saved.is) refl) c.surely.ensures
    (λ s h. sym (c.item.ensures s h) ∙ c.tell.ensures.some done)

pub returns-in-Saved-clause-absent : goal.returns-in-Saved-clause-absent
returns-in-Saved-clause-absent c done =
    store_with c.in-Saved.kept.saved _ (subst (λ (h : Held). HasSaved h c.in-Saved.kept.saved) (sym c.in-Saved.is) refl) c.surely.ensures
    (λ s h. sym (c.item.ensures s h) ∙ c.tell.ensures.none done)
