-- Lines that begin with no line's name.
use Rattle.std.proofs.Common.{◌≡◌, ◌≢◌, inl, ℕ, Bool, true, false, get_or, List, [], ◌∷◌, None, refl, sym, ap, subst, ◌∙◌}
use Rattle.std.specs.Prelude.{codes}
use Rattle.std.specs.Str.{bytes_eq}
use Rattle.std.proofs.lemmas.Slice.Eq.{bytes_eq-Decides}
use Rattle.of_script.specs.Text.{text_words}
use Rattle.of_plan.specs.declared.parser.line.BodyLine.TheVariants.{Script, Stop, Turns, Evict}
use Rattle.of_plan.specs.declared.parser.line.PlanLine.{PlanLine}
use Rattle.of_plan.specs.declared.parser.line.PlanLine.TheVariants.{Title, Callers, Blocks, Limit, Body, End}
use Rattle.of_plan.specs.declared.parser.line.LineForm.TheVariants.{Callers as FCallers, Blocks as FBlocks}
use Rattle.of_plan.specs.declared.parser.state.Stage.{Stage}
use Rattle.of_plan.specs.declared.parser.state.Stage.TheVariants.{Start, Named, Counted, Sized, Body as InBody, Ended}
use Rattle.of_plan.specs.declared.pieces.Piece.{Piece}
use Rattle.of_plan.specs.declared.reason.Reason.{Reason}
use Rattle.of_plan.specs.declared.reason.Reason.TheVariants.{UnknownLine}
use Rattle.of_plan.specs.Lines.{line_words}
use Rattle.of_plan.specs.LineReading.{plan_language}
use Rattle.of_plan.specs.LineTable.{line_form_named}
use Rattle.of_plan.specs.Reader.{RefusesLine}
use Rattle.of_plan.specs.Reading.{Reading, plan_reader}
use Rattle.of_plan.specs.Checks.{place_reason}
use Rattle.of_plan.specs.Pieces.{first_word, IsBad, IsNextWord}
use Rattle.of_plan.specs.Reasons.{IsTrueOf}
use Rattle.of_plan.proofs.LineLaws.{name_is, not_skipped}
use Rattle.of_plan.proofs.BadPieces.{lift_first}
use Rattle.of_plan.proofs.FormLaws.{form_of, head_form}

pub differs : (same : Bool) (a b c : List ℕ) → b ≡ c → same ≡ bytes_eq a b → same ≡ false → a ≡ c → ⊥
differs same a b c is tells other e =
    let t = (bytes_eq-Decides a b).1 (e ∙ sym is) in
    let k : true ≡ false = sym t ∙ sym tells ∙ other in cc

unknown_refused : (name : List ℕ) (ws : List (List ℕ)) (p : Reading) → get_or name 0 0 ≢ 35 → line_form_named name ≡ None → (name ≡ codes "script" → ⊥) → (name ≡ codes "onefile" → ⊥) → RefusesLine plan_language plan_reader (name ∷ ws) p
unknown_refused name ws p first none no_script no_title = record {
  kept = not_skipped name ws first;
  none = λ l range e. absurd (go l (ap first_word e) (sym none ∙ ap (λ (v : List (List ℕ)). line_form_named (first_word v)) e ∙ head_form l));
}
  where
    go : (l : PlanLine) → name ≡ first_word (line_words l) → None ≡ form_of l → ⊥
    go Title e k = no_title e
    go (Body (Script c s)) e k = no_script e
    go (Callers n) e k = cc
    go (Blocks n) e k = cc
    go (Limit x) e k = cc
    go (Body (Stop c x)) e k = cc
    go (Body (Turns c x)) e k = cc
    go (Body (Evict a)) e k = cc
    go End e k = cc

unknown_true : (stage : Stage) (p : Reading) (name : List ℕ) → p.stage ≡ stage → line_form_named name ≡ None → (name ≡ codes "script" → ⊥) → (name ≡ codes "onefile" → ⊥) → IsTrueOf (place_reason stage UnknownLine) p [] name
unknown_true Start p name at none no_script no_title = (at, inl (refl, no_title))
unknown_true Named p name at none no_script no_title = (at, refl, λ e. (let k = sym none ∙ name_is name FCallers e in cc))
unknown_true Counted p name at none no_script no_title = (at, refl, λ e. (let k = sym none ∙ name_is name FBlocks e in cc))
unknown_true Sized p name at none no_script no_title = (refl, none, no_script, no_title)
unknown_true InBody p name at none no_script no_title = (refl, none, no_script, no_title)
unknown_true Ended p name at none no_script no_title = (at, refl)

pub unknown_fed : (p : Reading) (line name : List ℕ) (ws : List (List ℕ)) (b : Piece) (r : Reason) → text_words line ≡ name ∷ ws → get_or name 0 0 ≢ 35 → line_form_named name ≡ None → (name ≡ codes "script" → ⊥) → (name ≡ codes "onefile" → ⊥) → IsNextWord line b → r ≡ place_reason p.stage UnknownLine → RefusesLine plan_language plan_reader (text_words line) p × IsBad line b (IsTrueOf r p)
unknown_fed p line name ws b r words first none no_script no_title next reason = (
  subst (λ (v : List (List ℕ)). RefusesLine plan_language plan_reader v p) (sym words) (unknown_refused name ws p first none no_script no_title),
  lift_first line b (IsTrueOf r p) name ws next words (subst (λ (q : Reason). IsTrueOf q p [] name) (sym reason) (unknown_true p.stage p name refl none no_script no_title)),
)
