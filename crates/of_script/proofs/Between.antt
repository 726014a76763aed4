-- A form is told by the first and the last byte of its name.
use Rattle.std.proofs.Common.{◌≡◌, ℕ, ◌-◌, Bool, true, false, cond, List, [], ◌∷◌, length, Option, Some, None, refl, ap, subst, ◌∙◌, arith}
use Rattle.std.specs.Prelude.{find, slice_index}
use Rattle.std.specs.List.{AllByRecursion}
use Rattle.std.specs.Str.{bytes_eq}
use Rattle.of_script.specs.declared.instr.Instr.{Instr}
use Rattle.of_script.specs.declared.instr.Instr.TheVariants.{Load, Store, Add, Sub, Get, Put, Del, Need, Push, Pop, Len, Count, First, Next, DropBelow}
use Rattle.of_script.specs.Table.{instr_name, instr_forms, is_between, form_between, form_named}
use Rattle.of_script.proofs.Forms.{form, fits, is_form, named_is}

-- what is found is one of those that were looked through
found_all : (P : Instr → Type 0) (p : Instr → Bool) (fs : List Instr) (f : Instr) → AllByRecursion P fs → find p fs ≡ Some f → P f
found_all P p [] f h e = absurd cc
found_all P p (g ∷ fs) f h e = elim (p g) as (λ b. cond b (Some g) (find p fs) ≡ Some f → P f) [
  | true ↦ λ k. (let same : g ≡ f = cc in subst P same h.0)
  | false ↦ λ k. found_all P p fs f h.1 k
] e

-- a form has no numbers
abbrev IsForm : Instr → Type 0
IsForm f = form f ≡ f

forms_are : AllByRecursion IsForm instr_forms
forms_are = (refl, (refl, (refl, (refl, (refl, (refl, (refl, (refl, (refl, (refl, (refl, (refl, (refl, (refl, (refl, tt)))))))))))))))

-- the ends of its name tell it
abbrev between_ends : List ℕ → Option Instr
between_ends name = form_between (slice_index name 0) (slice_index name (length name - 1))

told : (i : Instr) → between_ends (instr_name i) ≡ Some (form i)
unfolding form_between
told (Load r) = refl
told (Store r v) = refl
told (Add r v) = refl
told (Sub r v) = refl
told (Get k) = refl
told (Put k v) = refl
told (Del k) = refl
told (Need k v) = refl
told (Push q v) = refl
told (Pop q) = refl
told (Len q) = refl
told Count = refl
told First = refl
told (Next k) = refl
told (DropBelow k) = refl

named_form : (name : List ℕ) (f : Instr) → form_named name ≡ Some f → form f ≡ f
unfolding form_named
named_form name f e = found_all IsForm (λ g. bytes_eq name (instr_name g)) instr_forms f forms_are e

between_form : (first last : ℕ) (f : Instr) → form_between first last ≡ Some f → form f ≡ f
unfolding form_between
between_form first last f e = found_all IsForm (λ g. is_between first last (instr_name g)) instr_forms f forms_are e

-- the form with a name is the one between its ends
pub named_between : (name : List ℕ) (f : Instr) → form_named name ≡ Some f → between_ends name ≡ Some f
named_between name f e = ap between_ends (named_is name f e) ∙ told f ∙ ap Some (named_form name f e)

-- a form has its own name
pub between_named : (first last : ℕ) (f : Instr) → form_between first last ≡ Some f → form_named (instr_name f) ≡ Some f
between_named first last f e =
    let own = between_form first last f e in
    let again = (is_form (form f) (fits f 0 0 (omega arith) (omega arith)).range).named in
    subst (λ (i : Instr). form_named (instr_name i) ≡ Some i) (ap form own ∙ own) again

-- no form has a name where the one between its ends has another
pub none_named : (name : List ℕ) → ((f : Instr) → between_ends name ≡ Some f → name ≡ instr_name f → ⊥) → None ≡ form_named name
none_named name wrong = elim (form_named name) as (λ o. form_named name ≡ o → None ≡ o) [
  | None ↦ λ e. refl
  | Some f ↦ λ e. absurd (wrong f (named_between name f e) (named_is name f e))
] refl
