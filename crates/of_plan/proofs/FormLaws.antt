-- Lines with numbers alone: what their words tell, and where they may not come next.
use Rattle.std.proofs.Common.{◌≡◌, ℕ, ◌≤◌, false, List, [], ◌∷◌, ◌++◌, Option, Some, None, refl, sym, ap, subst, ◌∙◌, arith, lit≤}
use Rattle.std.specs.Prelude.{codes}
use Rattle.std.proofs.lemmas.List.{append-nil}
use Rattle.of_script.specs.Reading.{slot_and_rest}
use Rattle.of_script.proofs.Forms.{slot_words}
use Rattle.of_script.proofs.Instrs.{some_is, slot_again}
use Rattle.of_plan.specs.declared.parser.line.BodyLine.TheVariants.{Script, Stop, Turns, Evict}
use Rattle.of_plan.specs.declared.parser.line.PlanLine.{PlanLine}
use Rattle.of_plan.specs.declared.parser.line.PlanLine.TheVariants.{Title, Callers, Blocks, Limit, Body, End}
use Rattle.of_plan.specs.declared.parser.line.LineForm.{LineForm}
use Rattle.of_plan.specs.declared.parser.line.LineForm.TheVariants.{Callers as FCallers, Blocks as FBlocks, Limit as FLimit, Stop as FStop, Turns as FTurns, Evict as FEvict, End as FEnd}
use Rattle.of_plan.specs.declared.parser.state.Stage.{Stage}
use Rattle.of_plan.specs.declared.parser.state.Stage.TheVariants.{Start, Named, Counted, Sized, Body as InBody, Ended}
use Rattle.of_plan.specs.Lines.{line_words, is_skipped}
use Rattle.of_plan.specs.LineReading.{IsLineInRange, plan_language}
use Rattle.of_plan.specs.LineTable.{form_name, line_first_most, line_second_most, line_with_numbers, line_form_named}
use Rattle.of_plan.specs.Reader.{RefusesLine}
use Rattle.of_plan.specs.Reading.{Reading, at_stage, after_line, plan_reader}
use Rattle.of_plan.specs.Checks.{may_come, first_read}
use Rattle.of_plan.specs.Pieces.{first_word}
use Rattle.of_plan.proofs.LineLaws.{fits, mosts, named_again}

-- ---- what the first word of a line tells

abbrev pub form_of : PlanLine → Option LineForm
form_of Title = None
form_of (Callers n) = Some FCallers
form_of (Blocks n) = Some FBlocks
form_of (Limit x) = Some FLimit
form_of (Body (Script c s)) = None
form_of (Body (Stop c x)) = Some FStop
form_of (Body (Turns c x)) = Some FTurns
form_of (Body (Evict a)) = Some FEvict
form_of End = Some FEnd

pub head_form : (l : PlanLine) → line_form_named (first_word (line_words l)) ≡ form_of l
unfolding line_form_named
head_form Title = refl
head_form (Callers n) = refl
head_form (Blocks n) = refl
head_form (Limit x) = refl
head_form (Body (Script c s)) = refl
head_form (Body (Stop c x)) = refl
head_form (Body (Turns c x)) = refl
head_form (Body (Evict a)) = refl
head_form End = refl

pub form_is : (f : LineForm) (ws : List (List ℕ)) (l : PlanLine) → form_name f ∷ ws ≡ line_words l → Some f ≡ form_of l
form_is f ws l e = sym (named_again f) ∙ ap (λ (v : List (List ℕ)). line_form_named (first_word v)) e ∙ head_form l

pub same_form : (f g : LineForm) → form_name f ≡ form_name g → f ≡ g
same_form f g e = some_is f g (sym (named_again f) ∙ ap line_form_named e ∙ named_again g)

pub no_title : (f : LineForm) → form_name f ≡ codes "onefile" → ⊥
unfolding line_form_named
no_title f e = let k : Some f ≡ None = sym (named_again f) ∙ ap line_form_named e in cc

pub kept_form : (f : LineForm) (ws : List (List ℕ)) → is_skipped (form_name f ∷ ws) ≡ false
kept_form FCallers ws = refl
kept_form FBlocks ws = refl
kept_form FLimit ws = refl
kept_form FStop ws = refl
kept_form FTurns ws = refl
kept_form FEvict ws = refl
kept_form FEnd ws = refl

-- the numbers of a line of a form
pub record Numbers (f : LineForm) (ws : List (List ℕ)) (l : PlanLine) : Type 0 where
  pub first : ℕ
  pub second : ℕ
  pub is : l ≡ line_with_numbers f first second
  pub words : ws ≡ slot_words (line_first_most f) first ++ slot_words (line_second_most f) second
  pub low : first ≤ line_first_most f
  pub high : second ≤ line_second_most f

heads : {A : Type 0} (x y : A) (xs ys : List A) → x ∷ xs ≡ y ∷ ys → (x ≡ y) × (xs ≡ ys)
heads x y xs ys e = (cc, cc)

numbers_at : (f : LineForm) (ws : List (List ℕ)) (x y : ℕ) → x ≤ line_first_most f → y ≤ line_second_most f → form_name f ∷ ws ≡ line_words (line_with_numbers f x y) → Numbers f ws (line_with_numbers f x y)
numbers_at f ws x y low high e = record {
  first = x;
  second = y;
  is = refl;
  words = (heads (form_name f) (form_name f) ws (slot_words (line_first_most f) x ++ slot_words (line_second_most f) y) (e ∙ (fits f x y low high).words)).1;
  low = low;
  high = high;
}

numbers_as : (f g : LineForm) (ws : List (List ℕ)) (x y : ℕ) → Some f ≡ Some g → x ≤ line_first_most g → y ≤ line_second_most g → form_name f ∷ ws ≡ line_words (line_with_numbers g x y) → Numbers f ws (line_with_numbers g x y)
numbers_as f g ws x y same low high e =
    let is : g ≡ f = sym (some_is f g same) in
    subst (λ (h : LineForm). h ≡ g → Numbers h ws (line_with_numbers g x y)) (sym (sym is)) (λ k. numbers_at g ws x y low high (subst (λ (h : LineForm). form_name h ∷ ws ≡ line_words (line_with_numbers g x y)) (sym is) e)) (sym is)

pub numbers_of : (f : LineForm) (ws : List (List ℕ)) (l : PlanLine) → IsLineInRange l → form_name f ∷ ws ≡ line_words l → Numbers f ws l
numbers_of f ws l range e = go l range e (form_is f ws l e)
  where
    go : (l : PlanLine) → IsLineInRange l → form_name f ∷ ws ≡ line_words l → Some f ≡ form_of l → Numbers f ws l
    go Title r e k = absurd cc
    go (Callers n) r e k = numbers_as f FCallers ws n 0 k r (omega arith) e
    go (Blocks n) r e k = numbers_as f FBlocks ws n 0 k r (omega arith) e
    go (Limit x) r e k = numbers_as f FLimit ws x 0 k r (omega arith) e
    go (Body (Script c s)) r e k = absurd cc
    go (Body (Stop c x)) r e k = numbers_as f FStop ws c x k r.0 r.1 e
    go (Body (Turns c x)) r e k = numbers_as f FTurns ws c x k r.0 r.1 e
    go (Body (Evict a)) r e k = numbers_as f FEvict ws a 0 k r (omega arith) e
    go End r e k = numbers_as f FEnd ws 0 0 k (omega arith) (omega arith) e

-- no line of the form with such numbers may come next
pub form_refused : (f : LineForm) (ws : List (List ℕ)) (p : Reading) → ((l : PlanLine) (n : Numbers f ws l) → after_line p (line_with_numbers f n.first n.second) ≡ None) → RefusesLine plan_language plan_reader (form_name f ∷ ws) p
form_refused f ws p h = record {
  kept = kept_form f ws;
  none = λ l range e. (let n = numbers_of f ws l range e in ap (after_line p) n.is ∙ h l n);
}

-- ---- its numbers are read

pub reads_most : (f : LineForm) → first_read f ≤ 4294967295
reads_most FCallers = lit≤ tt
reads_most FBlocks = lit≤ tt
reads_most FLimit = lit≤ tt
reads_most FStop = lit≤ tt
reads_most FTurns = lit≤ tt
reads_most FEvict = lit≤ tt
reads_most FEnd = lit≤ tt

pub read_words : (f : LineForm) (x : ℕ) → slot_words (line_first_most f) x ≡ slot_words (first_read f) x
read_words FCallers x = refl
read_words FBlocks x = refl
read_words FLimit x = refl
read_words FStop x = refl
read_words FTurns x = refl
read_words FEvict x = refl
read_words FEnd x = refl

read_more : (f : LineForm) → line_first_most f ≤ first_read f
read_more FCallers = lit≤ tt
read_more FBlocks = lit≤ tt
read_more FLimit = lit≤ tt
read_more FStop = lit≤ tt
read_more FTurns = lit≤ tt
read_more FEvict = lit≤ tt
read_more FEnd = lit≤ tt

pub first_known : (f : LineForm) (ws : List (List ℕ)) (l : PlanLine) (n : Numbers f ws l) → slot_and_rest (first_read f) ws ≡ Some (n.first, slot_words (line_second_most f) n.second)
first_known f ws l n =
    let most = reads_most f in
    let more = read_more f in
    let low = n.low in
    ap (slot_and_rest (first_read f)) (n.words ∙ ap (λ (v : List (List ℕ)). v ++ slot_words (line_second_most f) n.second) (read_words f n.first))
    ∙ slot_again (first_read f) n.first (slot_words (line_second_most f) n.second) (omega (arith, most)) (omega (arith, more, low))

pub second_known : (f : LineForm) (y : ℕ) → y ≤ line_second_most f → slot_and_rest (line_second_most f) (slot_words (line_second_most f) y) ≡ Some (y, [])
second_known f y high =
    let m = mosts f in
    ap (slot_and_rest (line_second_most f)) (sym (append-nil _)) ∙ slot_again (line_second_most f) y [] (omega (arith, m.1)) high

-- what was read is that
pub same_read : (o : Option (ℕ × List (List ℕ))) (x y : ℕ) (v w : List (List ℕ)) → o ≡ Some (x, v) → o ≡ Some (y, w) → (x ≡ y) × (v ≡ w)
same_read o x y v w e f =
    let both : (x, v) ≡ (y, w) = some_is (x, v) (y, w) (sym e ∙ f) in
    (ap (λ (p : ℕ × List (List ℕ)). p.0) both, ap (λ (p : ℕ × List (List ℕ)). p.1) both)

pub unread : (o : Option (ℕ × List (List ℕ))) (x : ℕ × List (List ℕ)) → o ≡ None → o ≡ Some x → ⊥
unread None x e f = cc
unread (Some y) x e f = cc

-- ---- where it may not come next

late : (stage : Stage) (p : Reading) (f : LineForm) (x y : ℕ) → may_come stage f ≡ false → at_stage stage p (line_with_numbers f x y) ≡ None
late Start p FCallers x y late_is = refl
late Start p FBlocks x y late_is = refl
late Start p FLimit x y late_is = refl
late Start p FStop x y late_is = refl
late Start p FTurns x y late_is = refl
late Start p FEvict x y late_is = refl
late Start p FEnd x y late_is = refl
late Named p FCallers x y late_is = absurd cc
late Named p FBlocks x y late_is = refl
late Named p FLimit x y late_is = refl
late Named p FStop x y late_is = refl
late Named p FTurns x y late_is = refl
late Named p FEvict x y late_is = refl
late Named p FEnd x y late_is = refl
late Counted p FCallers x y late_is = refl
late Counted p FBlocks x y late_is = absurd cc
late Counted p FLimit x y late_is = refl
late Counted p FStop x y late_is = refl
late Counted p FTurns x y late_is = refl
late Counted p FEvict x y late_is = refl
late Counted p FEnd x y late_is = refl
late Sized p FCallers x y late_is = refl
late Sized p FBlocks x y late_is = refl
late Sized p FLimit x y late_is = absurd cc
late Sized p FStop x y late_is = absurd cc
late Sized p FTurns x y late_is = absurd cc
late Sized p FEvict x y late_is = absurd cc
late Sized p FEnd x y late_is = absurd cc
late InBody p FCallers x y late_is = refl
late InBody p FBlocks x y late_is = refl
late InBody p FLimit x y late_is = refl
late InBody p FStop x y late_is = absurd cc
late InBody p FTurns x y late_is = absurd cc
late InBody p FEvict x y late_is = absurd cc
late InBody p FEnd x y late_is = absurd cc
late Ended p FCallers x y late_is = refl
late Ended p FBlocks x y late_is = refl
late Ended p FLimit x y late_is = refl
late Ended p FStop x y late_is = refl
late Ended p FTurns x y late_is = refl
late Ended p FEvict x y late_is = refl
late Ended p FEnd x y late_is = refl

pub not_yet : (p : Reading) (f : LineForm) (x y : ℕ) → may_come p.stage f ≡ false → after_line p (line_with_numbers f x y) ≡ None
not_yet p f x y late_is = late p.stage p f x y late_is
