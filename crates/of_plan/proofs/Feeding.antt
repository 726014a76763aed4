-- Lines with numbers alone: each is taken, or refused with a reason that is true.
use Rattle.std.proofs.Common.{◌≡◌, ◌⊎◌, inl, inr, ℕ, ◌+◌, ◌≤◌, Bool, true, false, cond, eqb, leb, List, [], ◌∷◌, ◌++◌, Option, Some, None, is_some, get_or, refl, sym, ap, subst, ◌∙◌, append_assoc, arith, lit≤, lit<}
use Rattle.std.specs.Prelude.{codes, decimal}
use Rattle.std.proofs.lemmas.List.{append-nil}
use Rattle.std.proofs.lemmas.Bool.{leb-true, leb-false, eqb-true}
use Rattle.std.proofs.lemmas.Bool.Decides.{eqb_tells}
use Rattle.of_cell.specs.Cells.{durable_cells}
use Rattle.of_script.specs.declared.instr.Instr.{Instr}
use Rattle.of_script.specs.Text.{text_words, EndsWith}
use Rattle.of_script.specs.Reading.{slot_and_rest, parsed_number}
use Rattle.of_script.proofs.Forms.{slot_words}
use Rattle.of_script.proofs.Numbers.{number_again}
use Rattle.of_script.proofs.Instrs.{some_is, slot_takes}
use Rattle.of_plan.specs.declared.parser.line.BodyLine.TheVariants.{Script}
use Rattle.of_plan.specs.declared.parser.line.PlanLine.TheVariants.{Body}
use Rattle.of_plan.specs.declared.parser.line.LineForm.{LineForm}
use Rattle.of_plan.specs.declared.parser.line.LineForm.TheVariants.{Callers as FCallers, Blocks as FBlocks, Limit as FLimit, Stop as FStop, Turns as FTurns, Evict as FEvict, End as FEnd}
use Rattle.of_plan.specs.declared.parser.state.Stage.{Stage}
use Rattle.of_plan.specs.declared.parser.state.Stage.TheVariants.{Start, Named, Counted, Sized, Body as InBody, Ended}
use Rattle.of_plan.specs.declared.pieces.Piece.{Piece}
use Rattle.of_plan.specs.declared.reason.Reason.{Reason}
use Rattle.of_plan.specs.declared.reason.Reason.TheVariants.{Flawed, HeadingOver, NoCaller, NoCell, StopTwice, TooManyTurns}
use Rattle.of_plan.specs.declared.flaw.Flaw.TheVariants.{Zero}
use Rattle.of_plan.specs.Plan.{data_cells}
use Rattle.of_plan.specs.Lines.{line_words, is_skipped}
use Rattle.of_plan.specs.LineReading.{plan_language}
use Rattle.of_plan.specs.LineTable.{form_name, line_first_most, line_second_most, line_with_numbers}
use Rattle.of_plan.specs.Reader.{RefusesLine, ReadsLine}
use Rattle.of_plan.specs.Reading.{Reading, at_stage, after_line, plan_reader}
use Rattle.of_plan.specs.Checks.{may_come, place_reason, first_read, first_fault, second_fault}
use Rattle.of_plan.specs.Flaws.{PieceIsNumber}
use Rattle.of_plan.specs.Reasons.{IsTrueOf}
use Rattle.of_plan.specs.Pieces.{first_word, IsBad, IsNextWord}
use Rattle.of_plan.specs.Fed.{TooMany, IsFirstNumberFault, IsSecondNumberFault}
use Rattle.of_plan.proofs.LineLaws.{fits, mosts}
use Rattle.of_plan.proofs.BadPieces.{lift_next, lift_first}
use Rattle.of_plan.proofs.NumberFaults.{of_line, slot_read}
use Rattle.of_plan.proofs.FormLaws.{form_of, form_refused, first_known, second_known, same_read, unread, not_yet, same_form, no_title, reads_most, kept_form, read_words}

abbrev Refuses : List (List ℕ) → Reading → Type 0
Refuses ws p = RefusesLine plan_language plan_reader ws p

-- ---- not yet, or no longer

under_named : (f : LineForm) → may_come Named f ≡ false → form_name f ≡ codes "callers" → ⊥
under_named f late e = let same : f ≡ FCallers = same_form f FCallers e in let k : true ≡ false = sym (ap (may_come Named) same) ∙ late in cc

under_counted : (f : LineForm) → may_come Counted f ≡ false → form_name f ≡ codes "blocks" → ⊥
under_counted f late e = let same : f ≡ FBlocks = same_form f FBlocks e in let k : true ≡ false = sym (ap (may_come Counted) same) ∙ late in cc

place_reason_true : (stage : Stage) (p : Reading) (f : LineForm) → p.stage ≡ stage → may_come stage f ≡ false → IsTrueOf (place_reason stage HeadingOver) p [] (form_name f)
place_reason_true Start p f at late = (at, inl (refl, no_title f))
place_reason_true Named p f at late = (at, refl, under_named f late)
place_reason_true Counted p f at late = (at, refl, under_counted f late)
place_reason_true Ended p f at late = (at, refl)
place_reason_true Sized p FCallers at late = (inl at, refl, inr (inl refl))
place_reason_true Sized p FBlocks at late = (inl at, refl, inr (inr (inl refl)))
place_reason_true Sized p FLimit at late = absurd cc
place_reason_true Sized p FStop at late = absurd cc
place_reason_true Sized p FTurns at late = absurd cc
place_reason_true Sized p FEvict at late = absurd cc
place_reason_true Sized p FEnd at late = absurd cc
place_reason_true InBody p FCallers at late = (inr at, refl, inr (inl refl))
place_reason_true InBody p FBlocks at late = (inr at, refl, inr (inr (inl refl)))
place_reason_true InBody p FLimit at late = (inr at, refl, inr (inr (inr (refl, at))))
place_reason_true InBody p FStop at late = absurd cc
place_reason_true InBody p FTurns at late = absurd cc
place_reason_true InBody p FEvict at late = absurd cc
place_reason_true InBody p FEnd at late = absurd cc

pub place_reason_fed : (p : Reading) (f : LineForm) (line rest : List ℕ) (b : Piece) (r : Reason) → text_words line ≡ form_name f ∷ text_words rest → may_come p.stage f ≡ false → IsNextWord line b → r ≡ place_reason p.stage HeadingOver → Refuses (text_words line) p × IsBad line b (IsTrueOf r p)
place_reason_fed p f line rest b r words late next reason = (
  subst (λ (ws : List (List ℕ)). Refuses ws p) (sym words) (form_refused f (text_words rest) p (λ l n. not_yet p f n.first n.second late)),
  lift_first line b (IsTrueOf r p) (form_name f) (text_words rest) next words (subst (λ (q : Reason). IsTrueOf q p [] (form_name f)) (sym reason) (place_reason_true p.stage p f refl late)),
)

-- ---- the first number

chosen_some : {A : Type 0} (b : Bool) (x : A) (o : Option A) (y : A) → cond b (Some x) o ≡ Some y → ((b ≡ true) × (x ≡ y)) ⊎ ((b ≡ false) × (o ≡ Some y))
chosen_some true x o y e = inl (refl, some_is x y e)
chosen_some false x o y e = inr (refl, e)

none_some : {A : Type 0} (x : A) → None ≡ Some x → ⊥
none_some x e = cc

-- where a test refuses, nothing comes after
none_both : (b : Bool) (o : Option Reading) → o ≡ None → cond b None o ≡ None
none_both true o e = refl
none_both false o e = e

callers_zero : (stage : Stage) (p : Reading) (n : ℕ) → eqb n 0 ≡ true → at_stage stage p (line_with_numbers FCallers n 0) ≡ None
callers_zero Start p n h = refl
callers_zero Named p n h = rw h refl
callers_zero Counted p n h = refl
callers_zero Sized p n h = refl
callers_zero InBody p n h = refl
callers_zero Ended p n h = refl

limit_zero : (stage : Stage) (p : Reading) (n : ℕ) → eqb n 0 ≡ true → at_stage stage p (line_with_numbers FLimit n 0) ≡ None
limit_zero Start p n h = refl
limit_zero Named p n h = refl
limit_zero Counted p n h = refl
limit_zero Sized p n h = rw h refl
limit_zero InBody p n h = refl
limit_zero Ended p n h = refl

stop_past : (stage : Stage) (p : Reading) (c x : ℕ) → leb p.callers c ≡ true → at_stage stage p (line_with_numbers FStop c x) ≡ None
stop_past Start p c x h = refl
stop_past Named p c x h = refl
stop_past Counted p c x h = refl
stop_past Sized p c x h = rw h refl
stop_past InBody p c x h = rw h refl
stop_past Ended p c x h = refl

stop_twice : (stage : Stage) (p : Reading) (c x : ℕ) → is_some (get_or p.stops c None) ≡ true → at_stage stage p (line_with_numbers FStop c x) ≡ None
stop_twice Start p c x h = refl
stop_twice Named p c x h = refl
stop_twice Counted p c x h = refl
stop_twice Sized p c x h = none_both (leb p.callers c) _ (rw h refl)
stop_twice InBody p c x h = none_both (leb p.callers c) _ (rw h refl)
stop_twice Ended p c x h = refl

turns_past : (stage : Stage) (p : Reading) (c x : ℕ) → leb p.callers c ≡ true → at_stage stage p (line_with_numbers FTurns c x) ≡ None
turns_past Start p c x h = refl
turns_past Named p c x h = refl
turns_past Counted p c x h = refl
turns_past Sized p c x h = rw h refl
turns_past InBody p c x h = rw h refl
turns_past Ended p c x h = refl

turns_zero : (stage : Stage) (p : Reading) (c x : ℕ) → eqb x 0 ≡ true → at_stage stage p (line_with_numbers FTurns c x) ≡ None
turns_zero Start p c x h = refl
turns_zero Named p c x h = refl
turns_zero Counted p c x h = refl
turns_zero Sized p c x h = none_both (leb p.callers c) _ (rw h refl)
turns_zero InBody p c x h = none_both (leb p.callers c) _ (rw h refl)
turns_zero Ended p c x h = refl

turns_many : (stage : Stage) (p : Reading) (c x : ℕ) → leb (10000000 + 1) (p.turns + x) ≡ true → at_stage stage p (line_with_numbers FTurns c x) ≡ None
turns_many Start p c x h = refl
turns_many Named p c x h = refl
turns_many Counted p c x h = refl
turns_many Sized p c x h = none_both (leb p.callers c) _ (none_both (eqb x 0) _ (rw h refl))
turns_many InBody p c x h = none_both (leb p.callers c) _ (none_both (eqb x 0) _ (rw h refl))
turns_many Ended p c x h = refl

evict_past : (stage : Stage) (p : Reading) (a : ℕ) → leb (durable_cells p.callers (data_cells p.callers p.blocks)) a ≡ true → at_stage stage p (line_with_numbers FEvict a 0) ≡ None
evict_past Start p a h = refl
evict_past Named p a h = refl
evict_past Counted p a h = refl
evict_past Sized p a h = rw h refl
evict_past InBody p a h = rw h refl
evict_past Ended p a h = refl

abbrev cells : Reading → ℕ
cells p = durable_cells p.callers (data_cells p.callers p.blocks)

first_refuses : (p : Reading) (f : LineForm) (x y : ℕ) (r : Reason) → first_fault p f x ≡ Some r → after_line p (line_with_numbers f x y) ≡ None
first_refuses p FCallers x y r e = elim (chosen_some (eqb x 0) (Flawed Zero) None r e) [ inl h ↦ callers_zero p.stage p x h.0 | inr h ↦ absurd (none_some r h.1) ]
first_refuses p FBlocks x y r e = absurd (none_some r e)
first_refuses p FLimit x y r e = elim (chosen_some (eqb x 0) (Flawed Zero) None r e) [ inl h ↦ limit_zero p.stage p x h.0 | inr h ↦ absurd (none_some r h.1) ]
first_refuses p FStop x y r e = elim (chosen_some (leb p.callers x) (NoCaller x p.callers) (cond (is_some (get_or p.stops x None)) (Some (StopTwice x)) None) r e) [
  | inl h ↦ stop_past p.stage p x y h.0
  | inr h ↦ elim (chosen_some (is_some (get_or p.stops x None)) (StopTwice x) None r h.1) [ inl k ↦ stop_twice p.stage p x y k.0 | inr k ↦ absurd (none_some r k.1) ]
]
first_refuses p FTurns x y r e = elim (chosen_some (leb p.callers x) (NoCaller x p.callers) None r e) [ inl h ↦ turns_past p.stage p x y h.0 | inr h ↦ absurd (none_some r h.1) ]
first_refuses p FEvict x y r e = elim (chosen_some (leb (cells p) x) (NoCell x (cells p)) None r e) [ inl h ↦ evict_past p.stage p x h.0 | inr h ↦ absurd (none_some r h.1) ]
first_refuses p FEnd x y r e = absurd (none_some r e)

number_zero : (piece : List ℕ) (x : ℕ) → PieceIsNumber piece x → eqb x 0 ≡ true → PieceIsNumber piece 0
number_zero piece x h z = subst (PieceIsNumber piece) (eqb-true x 0 z) h

first_true : (p : Reading) (f : LineForm) (x : ℕ) (r : Reason) (piece : List ℕ) → first_fault p f x ≡ Some r → PieceIsNumber piece x → IsTrueOf r p (form_name f ∷ []) piece
first_true p FCallers x r piece e n = elim (chosen_some (eqb x 0) (Flawed Zero) None r e) [
  | inl h ↦ subst (λ (q : Reason). IsTrueOf q p (codes "callers" ∷ []) piece) h.1 (number_zero piece x n h.0, inl refl)
  | inr h ↦ absurd (none_some r h.1)
]
first_true p FBlocks x r piece e n = absurd (none_some r e)
first_true p FLimit x r piece e n = elim (chosen_some (eqb x 0) (Flawed Zero) None r e) [
  | inl h ↦ subst (λ (q : Reason). IsTrueOf q p (codes "limit" ∷ []) piece) h.1 (number_zero piece x n h.0, inr (inl refl))
  | inr h ↦ absurd (none_some r h.1)
]
first_true p FStop x r piece e n = elim (chosen_some (leb p.callers x) (NoCaller x p.callers) (cond (is_some (get_or p.stops x None)) (Some (StopTwice x)) None) r e) [
  | inl h ↦ subst (λ (q : Reason). IsTrueOf q p (codes "stop" ∷ []) piece) h.1 (inr (inl refl), n, refl, leb-true p.callers x h.0)
  | inr h ↦ elim (chosen_some (is_some (get_or p.stops x None)) (StopTwice x) None r h.1) [
    | inl k ↦ subst (λ (q : Reason). IsTrueOf q p (codes "stop" ∷ []) piece) k.1 (refl, n, k.0)
    | inr k ↦ absurd (none_some r k.1)
  ]
]
first_true p FTurns x r piece e n = elim (chosen_some (leb p.callers x) (NoCaller x p.callers) None r e) [
  | inl h ↦ subst (λ (q : Reason). IsTrueOf q p (codes "turns" ∷ []) piece) h.1 (inr (inr refl), n, refl, leb-true p.callers x h.0)
  | inr h ↦ absurd (none_some r h.1)
]
first_true p FEvict x r piece e n = elim (chosen_some (leb (cells p) x) (NoCell x (cells p)) None r e) [
  | inl h ↦ subst (λ (q : Reason). IsTrueOf q p (codes "evict" ∷ []) piece) h.1 (refl, n, refl, leb-true (cells p) x h.0)
  | inr h ↦ absurd (none_some r h.1)
]
first_true p FEnd x r piece e n = absurd (none_some r e)

-- the word of a number that was read
number_first : (most x : ℕ) (ws others : List (List ℕ)) → most ≤ 4294967295 → 1 ≤ most → slot_and_rest most ws ≡ Some (x, others) → PieceIsNumber (first_word ws) x
number_first most x ws others small some e =
    let t = slot_takes most ws (x, others) (omega (arith, small)) e in
    let low = t.1 in
    let is : first_word ws ≡ decimal x = ap first_word (t.0 ∙ ap (λ (v : List (List ℕ)). v ++ others) (one_word most x some)) in
    ap (parsed_number 4294967295) is ∙ number_again 4294967295 x (lit< tt) (omega (arith, low, small))
  where
    one_word : (most x : ℕ) → 1 ≤ most → slot_words most x ≡ decimal x ∷ []
    one_word most x some = elim (eqb_tells most 0) [ inl h ↦ absurd (let z = h.1 in omega (arith, z, some)) | inr h ↦ rw h.0 refl ]

some_first : (p : Reading) (f : LineForm) (x : ℕ) (r : Reason) → first_fault p f x ≡ Some r → 1 ≤ first_read f
some_first p FCallers x r e = lit≤ tt
some_first p FBlocks x r e = lit≤ tt
some_first p FLimit x r e = lit≤ tt
some_first p FStop x r e = lit≤ tt
some_first p FTurns x r e = lit≤ tt
some_first p FEvict x r e = lit≤ tt
some_first p FEnd x r e = absurd (none_some r e)

pub first_fed : (p : Reading) (f : LineForm) (line rest : List ℕ) (b : Piece) (r : Reason) → text_words line ≡ form_name f ∷ text_words rest → EndsWith line rest → IsNextWord rest b → IsFirstNumberFault p f r (text_words rest) → Refuses (text_words line) p × IsBad line b (IsTrueOf r p)
first_fed p f line rest b r words ends next fault = elim fault [
  | inl h ↦ (
    subst (λ (ws : List (List ℕ)). Refuses ws p) (sym words) (form_refused f (text_words rest) p (λ l n. absurd (unread _ _ h.0 (first_known f (text_words rest) l n)))),
    lift_next rest line b (IsTrueOf r p) (form_name f ∷ []) next ends words (of_line r p (form_name f ∷ []) (first_word (text_words rest)) (first_read f) (inl (f, inl (refl, refl))) h.1),
  )
  | inr h ↦ (
    subst (λ (ws : List (List ℕ)). Refuses ws p) (sym words) (form_refused f (text_words rest) p (λ l n.
        let same = same_read _ _ _ _ _ h.2 (first_known f (text_words rest) l n) in
        first_refuses p f n.first n.second r (subst (λ (x : ℕ). first_fault p f x ≡ Some r) same.0 h.3))),
    lift_next rest line b (IsTrueOf r p) (form_name f ∷ []) next ends words
        (first_true p f h.0 r (first_word (text_words rest)) h.3 (number_first (first_read f) h.0 (text_words rest) h.1 (reads_most f) (some_first p f h.0 r h.3) h.2)),
  )
]

-- ---- the second number

second_refuses : (p : Reading) (f : LineForm) (x y : ℕ) (r : Reason) → second_fault p f y ≡ Some r → after_line p (line_with_numbers f x y) ≡ None
second_refuses p FCallers x y r e = absurd (none_some r e)
second_refuses p FBlocks x y r e = absurd (none_some r e)
second_refuses p FLimit x y r e = absurd (none_some r e)
second_refuses p FStop x y r e = absurd (none_some r e)
second_refuses p FTurns x y r e = elim (chosen_some (eqb y 0) (Flawed Zero) (cond (leb (10000000 + 1) (p.turns + y)) (Some TooManyTurns) None) r e) [
  | inl h ↦ turns_zero p.stage p x y h.0
  | inr h ↦ elim (chosen_some (leb (10000000 + 1) (p.turns + y)) TooManyTurns None r h.1) [ inl k ↦ turns_many p.stage p x y k.0 | inr k ↦ absurd (none_some r k.1) ]
]
second_refuses p FEvict x y r e = absurd (none_some r e)
second_refuses p FEnd x y r e = absurd (none_some r e)

second_true : (p : Reading) (f : LineForm) (x y : ℕ) (r : Reason) (piece : List ℕ) → second_fault p f y ≡ Some r → PieceIsNumber piece y → IsTrueOf r p (form_name f ∷ slot_words (first_read f) x) piece
second_true p FCallers x y r piece e n = absurd (none_some r e)
second_true p FBlocks x y r piece e n = absurd (none_some r e)
second_true p FLimit x y r piece e n = absurd (none_some r e)
second_true p FStop x y r piece e n = absurd (none_some r e)
second_true p FTurns x y r piece e n = elim (chosen_some (eqb y 0) (Flawed Zero) (cond (leb (10000000 + 1) (p.turns + y)) (Some TooManyTurns) None) r e) [
  | inl h ↦ subst (λ (q : Reason). IsTrueOf q p (codes "turns" ∷ decimal x ∷ []) piece) h.1 (number_zero piece y n h.0, inr (inr (x, refl)))
  | inr h ↦ elim (chosen_some (leb (10000000 + 1) (p.turns + y)) TooManyTurns None r h.1) [
    | inl k ↦ subst (λ (q : Reason). IsTrueOf q p (codes "turns" ∷ decimal x ∷ []) piece) k.1 (x, y, refl, n, leb-true (10000000 + 1) (p.turns + y) k.0)
    | inr k ↦ absurd (none_some r k.1)
  ]
]
second_true p FEvict x y r piece e n = absurd (none_some r e)
second_true p FEnd x y r piece e n = absurd (none_some r e)

some_second : (p : Reading) (f : LineForm) (x : ℕ) (r : Reason) → second_fault p f x ≡ Some r → 1 ≤ line_second_most f
some_second p FCallers x r e = absurd (none_some r e)
some_second p FBlocks x r e = absurd (none_some r e)
some_second p FLimit x r e = absurd (none_some r e)
some_second p FStop x r e = lit≤ tt
some_second p FTurns x r e = lit≤ tt
some_second p FEvict x r e = absurd (none_some r e)
some_second p FEnd x r e = absurd (none_some r e)

-- the words up to the second number
past_first : (f : LineForm) (line rest after : List ℕ) (x : ℕ) → text_words line ≡ form_name f ∷ text_words rest → slot_and_rest (first_read f) (text_words rest) ≡ Some (x, text_words after) → text_words line ≡ (form_name f ∷ slot_words (first_read f) x) ++ text_words after
past_first f line rest after x words read = words ∙ ap (λ (v : List (List ℕ)). form_name f ∷ v) (slot_read (first_read f) (text_words rest) x (text_words after) (reads_most f) read)

pub second_fed : (p : Reading) (f : LineForm) (line rest after : List ℕ) (x : ℕ) (b : Piece) (r : Reason) → text_words line ≡ form_name f ∷ text_words rest → EndsWith line after → slot_and_rest (first_read f) (text_words rest) ≡ Some (x, text_words after) → IsNextWord after b → IsSecondNumberFault p f r (text_words after) → Refuses (text_words line) p × IsBad line b (IsTrueOf r p)
second_fed p f line rest after x b r words ends read next fault =
    let m = mosts f in
    let opening = form_name f ∷ slot_words (first_read f) x in
    let all = past_first f line rest after x words read in
    elim fault [
      | inl h ↦ (
        subst (λ (ws : List (List ℕ)). Refuses ws p) (sym words) (form_refused f (text_words rest) p (λ l n.
            let same = same_read _ _ _ _ _ read (first_known f (text_words rest) l n) in
            absurd (unread _ _ h.0 (ap (slot_and_rest (line_second_most f)) same.1 ∙ second_known f n.second n.high)))),
        lift_next after line b (IsTrueOf r p) opening next ends all (of_line r p opening (first_word (text_words after)) (line_second_most f) (inl (f, inr (x, refl, refl))) h.1),
      )
      | inr h ↦ (
        subst (λ (ws : List (List ℕ)). Refuses ws p) (sym words) (form_refused f (text_words rest) p (λ l n.
            let same = same_read _ _ _ _ _ read (first_known f (text_words rest) l n) in
            let then_same = same_read _ _ _ _ _ h.2 (ap (slot_and_rest (line_second_most f)) same.1 ∙ second_known f n.second n.high) in
            second_refuses p f n.first n.second r (subst (λ (y : ℕ). second_fault p f y ≡ Some r) then_same.0 h.3))),
        lift_next after line b (IsTrueOf r p) opening next ends all
            (second_true p f x h.0 r (first_word (text_words after)) h.3 (number_first (line_second_most f) h.0 (text_words after) h.1 m.1 (some_second p f h.0 r h.3) h.2)),
      )
    ]

-- ---- a word too many

none_chosen : {A : Type 0} (b : Bool) (x : A) (o : Option A) → cond b (Some x) o ≡ None → (b ≡ false) × (o ≡ None)
none_chosen true x o e = absurd cc
none_chosen false x o e = (refl, e)

below : (p : Reading) (x : ℕ) → p.callers ≤ 16 → leb p.callers x ≡ false → x ≤ 15
below p x few e = let lt = leb-false p.callers x e in omega (arith, lt, few)

first_low : (p : Reading) (f : LineForm) (x : ℕ) → p.callers ≤ 16 → x ≤ first_read f → first_fault p f x ≡ None → x ≤ line_first_most f
first_low p FCallers x few low e = low
first_low p FBlocks x few low e = low
first_low p FLimit x few low e = low
first_low p FStop x few low e = below p x few (none_chosen (leb p.callers x) (NoCaller x p.callers) (cond (is_some (get_or p.stops x None)) (Some (StopTwice x)) None) e).0
first_low p FTurns x few low e = below p x few (none_chosen (leb p.callers x) (NoCaller x p.callers) None e).0
first_low p FEvict x few low e = low
first_low p FEnd x few low e = low

formed : (f : LineForm) (x y : ℕ) → form_of (line_with_numbers f x y) ≡ Some f
formed FCallers x y = refl
formed FBlocks x y = refl
formed FLimit x y = refl
formed FStop x y = refl
formed FTurns x y = refl
formed FEvict x y = refl
formed FEnd x y = refl

no_script : (f : LineForm) (x y c : ℕ) (script : List Instr) → line_with_numbers f x y ≡ Body (Script c script) → ⊥
no_script f x y c script e = let k : Some f ≡ None = sym (formed f x y) ∙ ap form_of e in cc

-- the words of the whole line
pub whole_line : (p : Reading) (f : LineForm) (line rest after end : List ℕ) (x y : ℕ) → text_words line ≡ form_name f ∷ text_words rest → slot_and_rest (first_read f) (text_words rest) ≡ Some (x, text_words after) → slot_and_rest (line_second_most f) (text_words after) ≡ Some (y, text_words end) → x ≤ line_first_most f → y ≤ line_second_most f → text_words line ≡ line_words (line_with_numbers f x y) ++ text_words end
whole_line p f line rest after end x y words one two low high =
    let m = mosts f in
    let opening = form_name f ∷ slot_words (first_read f) x in
    past_first f line rest after x words one
    ∙ ap (λ (v : List (List ℕ)). opening ++ v) (slot_read (line_second_most f) (text_words after) y (text_words end) m.1 two)
    ∙ sym (append_assoc opening (slot_words (line_second_most f) y) (text_words end))
    ∙ ap (λ (v : List (List ℕ)). (form_name f ∷ v ++ slot_words (line_second_most f) y) ++ text_words end) (sym (read_words f x))
    ∙ ap (λ (v : List (List ℕ)). v ++ text_words end) (sym (fits f x y low high).words)

pub extra_fed : (p : Reading) (f : LineForm) (line rest after end : List ℕ) (x y : ℕ) (b : Piece) (r : Reason) → text_words line ≡ form_name f ∷ text_words rest → EndsWith line end → slot_and_rest (first_read f) (text_words rest) ≡ Some (x, text_words after) → slot_and_rest (line_second_most f) (text_words after) ≡ Some (y, text_words end) → p.callers ≤ 16 → x ≤ first_read f → y ≤ line_second_most f → first_fault p f x ≡ None → IsNextWord end b → (first_word (text_words end) ≡ [] → ⊥) → r ≡ TooMany → Refuses (text_words line) p × IsBad line b (IsTrueOf r p)
extra_fed p f line rest after end x y b r words ends one two few below high fault next some reason =
    let low = first_low p f x few below fault in (
      subst (λ (ws : List (List ℕ)). Refuses ws p) (sym words) (form_refused f (text_words rest) p (λ l n.
          let same = same_read _ _ _ _ _ one (first_known f (text_words rest) l n) in
          let then_same = same_read _ _ _ _ _ two (ap (slot_and_rest (line_second_most f)) same.1 ∙ second_known f n.second n.high) in
          absurd (some (ap first_word then_same.1)))),
      lift_next end line b (IsTrueOf r p) (line_words (line_with_numbers f x y)) next ends (whole_line p f line rest after end x y words one two low high)
          (subst (λ (q : Reason). IsTrueOf q p (line_words (line_with_numbers f x y)) (first_word (text_words end))) (sym reason)
          (some, record { line = line_with_numbers f x y; range = (fits f x y low high).range; words = refl; no_mark = λ c s e _. no_script f x y c s e })),
    )

-- ---- a line that is taken

pub numbers_taken : (p q : Reading) (f : LineForm) (line rest after end : List ℕ) (x y : ℕ) → text_words line ≡ form_name f ∷ text_words rest → slot_and_rest (first_read f) (text_words rest) ≡ Some (x, text_words after) → slot_and_rest (line_second_most f) (text_words after) ≡ Some (y, text_words end) → text_words end ≡ [] → p.callers ≤ 16 → x ≤ first_read f → y ≤ line_second_most f → first_fault p f x ≡ None → after_line p (line_with_numbers f x y) ≡ Some q → ReadsLine plan_language plan_reader (text_words line) p q
numbers_taken p q f line rest after end x y words one two empty few below high fault taken =
    let low = first_low p f x few below fault in
    let all = whole_line p f line rest after end x y words one two low high ∙ ap (λ (v : List (List ℕ)). line_words (line_with_numbers f x y) ++ v) empty ∙ append-nil _ in
    inr (line_with_numbers f x y, record { kept = ap is_skipped words ∙ kept_form f (text_words rest); words = all; range = (fits f x y low high).range }, taken)
