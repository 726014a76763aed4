-- What is so of each store that is saved is so of one, since one is saved; what is so of a text is
-- so of the one that is held.
use Rattle.std.proofs.Common.{◌≡◌, ℕ, List, sym, subst}
use Rattle.std.specs.Prelude.{Option}
use Rattle.of_store.specs.Store.{Store}
use Rattle.of_memory.specs.declared.saved.Saved.{Saved}
use Rattle.of_memory.specs.Saving.{IsSaved, SavedHolds}
use Rattle.of_c.specs.declared.held.Held.{Held}
use Rattle.of_c.specs.Slots.{HoldsSaved}
use Rattle.of_c.specs.Images.{HasText}
use Rattle.of_c.specs.States.{HoldsStore}

pub store_with : {held : Option Held} (d : Saved) (P : Store → Type 0) → HoldsSaved held d → IsSaved d → ((s : Store) → SavedHolds d s → P s) → HoldsStore held P
store_with d P is saved so =
    let lawful = saved.saved.row.may_start.lawful in
    record { left = d; is = is; store = lawful.0; holds = lawful.1; so = so lawful.0 lawful.1 }

pub text_with : {held : Option Held} {text : List ℕ} (P : List ℕ → Type 0) → HasText held (λ t. t ≡ text) → P text → HasText held P
text_with P h p = record { left = h.left; is = h.is; text = h.text; printed = h.printed; holds = h.holds; so = subst P (sym h.so) p }
