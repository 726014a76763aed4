-- Whom a seat keeps are callers of its row, after each step.
use Rattle.std.proofs.Common.{ℕ, ◌<◌, List, ◌∙◌, sym, subst}
use Rattle.std.specs.List.{AllByRecursion as Each}
use Rattle.of_core.specs.Table.{Setup}
use Rattle.of_core.specs.Machine.{CallState}
use Rattle.of_core.specs.TableMoment.{TableStart}
use Rattle.of_row.specs.Views.{KnownCaller, View}
use Rattle.of_row.specs.Turned.{IsMember, MakesStep}
use Rattle.of_row.proofs.Members.{caller_is}

module _ (n : ℕ) where
  abbrev pub IsBelow : KnownCaller → Type 0
  IsBelow x = x.machine.caller < n

  -- a machine has made a step
  pub turned_in : (S : Setup) (L : List ℕ → Type 0) (B : TableStart) (d : CallState) (v w : View) (found : ℕ) → IsMember S v d → MakesStep S L B d v found w → Each IsBelow v.kept → Each IsBelow w.kept
  turned_in S L B d v w found h t all =
      let x : KnownCaller = h.0 in
      let low : IsBelow x = (subst (Each IsBelow) h.1 all).0 in
      subst (Each IsBelow) (sym (t.kept x h.1)) (subst (λ (k : ℕ). k < n) (sym (caller_is S x d h.2) ∙ sym t.caller) low, tt)
