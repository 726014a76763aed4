-- Titles and script lines: each is taken, or refused with a reason that is true.
use Rattle.std.proofs.Common.{◌≡◌, inl, inr, ℕ, ◌<◌, ◌≤◌, true, false, leb, List, [], ◌∷◌, ◌++◌, Some, None, refl, sym, ap, subst, ◌∙◌, arith, lit≤, lit<}
use Rattle.std.specs.Prelude.{codes, decimal}
use Rattle.std.specs.Str.{bytes_eq}
use Rattle.std.proofs.lemmas.List.{append-nil}
use Rattle.std.proofs.lemmas.Bool.{le-leb, lt-leb}
use Rattle.of_script.specs.declared.instr.Instr.{Instr}
use Rattle.of_script.specs.Language.{IsScript}
use Rattle.of_script.specs.Text.{text_words, EndsWith, script_words, SpellsScript}
use Rattle.of_script.specs.Reading.{slot_and_rest, parsed_number}
use Rattle.of_script.proofs.Instrs.{slot_again}
use Rattle.of_script.proofs.Numbers.{number_again}
use Rattle.of_plan.specs.declared.parser.line.BodyLine.{BodyLine}
use Rattle.of_plan.specs.declared.parser.line.BodyLine.TheVariants.{Script, Stop, Turns, Evict}
use Rattle.of_plan.specs.declared.parser.line.PlanLine.{PlanLine}
use Rattle.of_plan.specs.declared.parser.line.PlanLine.TheVariants.{Title, Callers, Blocks, Limit, Body, End}
use Rattle.of_plan.specs.declared.parser.state.Stage.{Stage}
use Rattle.of_plan.specs.declared.parser.state.Stage.TheVariants.{Start, Named, Counted, Sized, Body as InBody, Ended}
use Rattle.of_plan.specs.declared.pieces.Piece.{Piece}
use Rattle.of_plan.specs.declared.reason.Reason.{Reason}
use Rattle.of_plan.specs.declared.reason.Reason.TheVariants.{Flawed, TitleExpected, CallersExpected, BlocksExpected, AfterEnd, UnknownLine, UnknownInstruction, NoCaller, NoCell, InstructionMissing, TooManyInstructions, TooManyScripts, TooManyTurns, StopTwice, SecondStop, HeadingOver, EndMissing}
use Rattle.of_plan.specs.declared.flaw.Flaw.{Flaw}
use Rattle.of_plan.specs.declared.flaw.Flaw.TheVariants.{ByteOrderMark, CarriageReturn, Tab, NumberMissing, NoNumber, TooGreat, Zero, WordTooMany}
use Rattle.of_plan.specs.Lines.{line_words, is_skipped}
use Rattle.of_plan.specs.LineReading.{IsLineInRange, plan_language}
use Rattle.of_plan.specs.Reader.{RefusesLine, ReadsLine}
use Rattle.of_plan.specs.Reading.{Reading, at_stage, with_entry, after_line, plan_reader}
use Rattle.of_plan.specs.Checks.{is_below_heading}
use Rattle.of_plan.specs.Flaws.{PieceIsNumber}
use Rattle.of_plan.specs.Pieces.{first_word, IsBad, IsNextWord}
use Rattle.of_plan.specs.Reasons.{WantsInstr, IsTrueOf}
use Rattle.of_plan.specs.Fed.{IsNumberFault, IsInstrFault, EndsInstr, IsAfterScript, IsScriptFault, IsTitleFault}
use Rattle.of_plan.proofs.BadPieces.{lift, lift_next}
use Rattle.of_plan.proofs.NumberFaults.{of_line, slot_read}
use Rattle.of_plan.proofs.FormLaws.{same_read, unread}

abbrev Refuses : List (List ℕ) → Reading → Type 0
Refuses ws p = RefusesLine plan_language plan_reader ws p

heads : {A : Type 0} (x y : A) (xs ys : List A) → x ∷ xs ≡ y ∷ ys → (x ≡ y) × (xs ≡ ys)
heads x y xs ys e = (cc, cc)

-- ---- titles

pub title_refused : (ws : List (List ℕ)) (p : Reading) → (ws ≡ codes "plan" ∷ codes "1" ∷ [] → ⊥) → Refuses (codes "onefile" ∷ ws) p
title_refused ws p no_title = record { kept = refl; none = λ l range e. absurd (go l e) }
  where
    go : (l : PlanLine) → codes "onefile" ∷ ws ≡ line_words l → ⊥
    go Title e = no_title (heads (codes "onefile") (codes "onefile") ws (codes "plan" ∷ codes "1" ∷ []) e).1
    go (Callers n) e = let k : true ≡ false = ap (λ (v : List (List ℕ)). bytes_eq (first_word v) (codes "onefile")) e in cc
    go (Blocks n) e = let k : true ≡ false = ap (λ (v : List (List ℕ)). bytes_eq (first_word v) (codes "onefile")) e in cc
    go (Limit x) e = let k : true ≡ false = ap (λ (v : List (List ℕ)). bytes_eq (first_word v) (codes "onefile")) e in cc
    go (Body (Script c s)) e = let k : true ≡ false = ap (λ (v : List (List ℕ)). bytes_eq (first_word v) (codes "onefile")) e in cc
    go (Body (Stop c x)) e = let k : true ≡ false = ap (λ (v : List (List ℕ)). bytes_eq (first_word v) (codes "onefile")) e in cc
    go (Body (Turns c x)) e = let k : true ≡ false = ap (λ (v : List (List ℕ)). bytes_eq (first_word v) (codes "onefile")) e in cc
    go (Body (Evict a)) e = let k : true ≡ false = ap (λ (v : List (List ℕ)). bytes_eq (first_word v) (codes "onefile")) e in cc
    go End e = let k : true ≡ false = ap (λ (v : List (List ℕ)). bytes_eq (first_word v) (codes "onefile")) e in cc

title_flaw : (flaw : Flaw) (p : Reading) (before : List (List ℕ)) (piece : List ℕ) → IsTitleFault (Flawed flaw) before piece → IsTrueOf (Flawed flaw) p (codes "onefile" ∷ before) piece
title_flaw ByteOrderMark p before piece h = absurd h
title_flaw CarriageReturn p before piece h = absurd h
title_flaw Tab p before piece h = absurd h
title_flaw NumberMissing p before piece h = absurd h
title_flaw NoNumber p before piece h = absurd h
title_flaw (TooGreat n) p before piece h = absurd h
title_flaw Zero p before piece h = absurd h
title_flaw WordTooMany p before piece h = (h.1, record { line = Title; range = tt; words = ap (λ (v : List (List ℕ)). codes "onefile" ∷ v) h.0; no_mark = λ c s e m. (let k = e in cc) })

title_true : (r : Reason) (p : Reading) (before : List (List ℕ)) (piece : List ℕ) → p.stage ≡ Start → IsTitleFault r before piece → IsTrueOf r p (codes "onefile" ∷ before) piece
title_true TitleExpected p before piece at h = (
  at,
  elim h [
    | inl k ↦ inr (inl (ap (λ (v : List (List ℕ)). codes "onefile" ∷ v) k.0, k.1))
    | inr k ↦ inr (inr (ap (λ (v : List (List ℕ)). codes "onefile" ∷ v) k.0, k.1))
  ],
)
title_true (Flawed flaw) p before piece at h = title_flaw flaw p before piece h
title_true CallersExpected p before piece at h = absurd h
title_true BlocksExpected p before piece at h = absurd h
title_true AfterEnd p before piece at h = absurd h
title_true UnknownLine p before piece at h = absurd h
title_true UnknownInstruction p before piece at h = absurd h
title_true (NoCaller a b) p before piece at h = absurd h
title_true (NoCell a b) p before piece at h = absurd h
title_true InstructionMissing p before piece at h = absurd h
title_true TooManyInstructions p before piece at h = absurd h
title_true TooManyScripts p before piece at h = absurd h
title_true TooManyTurns p before piece at h = absurd h
title_true (StopTwice a) p before piece at h = absurd h
title_true (SecondStop a) p before piece at h = absurd h
title_true HeadingOver p before piece at h = absurd h
title_true EndMissing p before piece at h = absurd h

pub title_fed : (p : Reading) (line rest : List ℕ) (b : Piece) (r : Reason) → p.stage ≡ Start → text_words line ≡ codes "onefile" ∷ text_words rest → EndsWith line rest → (text_words rest ≡ codes "plan" ∷ codes "1" ∷ [] → ⊥) → IsBad rest b (IsTitleFault r) → Refuses (text_words line) p × IsBad line b (IsTrueOf r p)
title_fed p line rest b r at words ends no_title bad = (
  subst (λ (ws : List (List ℕ)). Refuses ws p) (sym words) (title_refused (text_words rest) p no_title),
  lift rest line b (IsTitleFault r) (IsTrueOf r p) (codes "onefile" ∷ []) bad ends words (λ before piece h. title_true r p before piece at h),
)

-- ---- script lines

pub script_refused : (ws : List (List ℕ)) (p : Reading) → ((c : ℕ) (s : List Instr) → c ≤ 15 → IsScript s → ws ≡ decimal c ∷ script_words s → after_line p (Body (Script c s)) ≡ None) → Refuses (codes "script" ∷ ws) p
script_refused ws p h = record { kept = refl; none = λ l range e. go l range e }
  where
    go : (l : PlanLine) → IsLineInRange l → codes "script" ∷ ws ≡ line_words l → after_line p l ≡ None
    go (Body (Script c s)) range e = h c s range.0 range.1 (heads (codes "script") (codes "script") ws (decimal c ∷ script_words s) e).1
    go Title range e = absurd (let k : true ≡ false = ap (λ (v : List (List ℕ)). bytes_eq (first_word v) (codes "script")) e in cc)
    go (Callers n) range e = absurd (let k : true ≡ false = ap (λ (v : List (List ℕ)). bytes_eq (first_word v) (codes "script")) e in cc)
    go (Blocks n) range e = absurd (let k : true ≡ false = ap (λ (v : List (List ℕ)). bytes_eq (first_word v) (codes "script")) e in cc)
    go (Limit x) range e = absurd (let k : true ≡ false = ap (λ (v : List (List ℕ)). bytes_eq (first_word v) (codes "script")) e in cc)
    go (Body (Stop c x)) range e = absurd (let k : true ≡ false = ap (λ (v : List (List ℕ)). bytes_eq (first_word v) (codes "script")) e in cc)
    go (Body (Turns c x)) range e = absurd (let k : true ≡ false = ap (λ (v : List (List ℕ)). bytes_eq (first_word v) (codes "script")) e in cc)
    go (Body (Evict a)) range e = absurd (let k : true ≡ false = ap (λ (v : List (List ℕ)). bytes_eq (first_word v) (codes "script")) e in cc)
    go End range e = absurd (let k : true ≡ false = ap (λ (v : List (List ℕ)). bytes_eq (first_word v) (codes "script")) e in cc)

number_known : (c : ℕ) (ws : List (List ℕ)) → c ≤ 15 → slot_and_rest 4294967295 (decimal c ∷ ws) ≡ Some (c, ws)
number_known c ws low = slot_again 4294967295 c ws (lit< tt) (omega (arith, low))

pub number_fed : (p : Reading) (line rest : List ℕ) (b : Piece) (r : Reason) → text_words line ≡ codes "script" ∷ text_words rest → EndsWith line rest → slot_and_rest 4294967295 (text_words rest) ≡ None → IsNextWord rest b → IsNumberFault r 4294967295 (first_word (text_words rest)) → Refuses (text_words line) p × IsBad line b (IsTrueOf r p)
number_fed p line rest b r words ends none next fault = (
  subst (λ (ws : List (List ℕ)). Refuses ws p) (sym words) (script_refused (text_words rest) p (λ c s low fits e. absurd (unread _ _ none (ap (slot_and_rest 4294967295) e ∙ number_known c (script_words s) low)))),
  lift_next rest line b (IsTrueOf r p) (codes "script" ∷ []) next ends words (of_line r p (codes "script" ∷ []) (first_word (text_words rest)) 4294967295 (inr (inl (refl, refl))) fault),
)

script_past : (stage : Stage) (p : Reading) (c : ℕ) (s : List Instr) → leb p.callers c ≡ true → at_stage stage p (Body (Script c s)) ≡ None
script_past Start p c s h = refl
script_past Named p c s h = refl
script_past Counted p c s h = refl
script_past Sized p c s h = rw h refl
script_past InBody p c s h = rw h refl
script_past Ended p c s h = refl

pub caller_fed : (p : Reading) (line rest after : List ℕ) (c : ℕ) (b : Piece) (r : Reason) → text_words line ≡ codes "script" ∷ text_words rest → EndsWith line rest → slot_and_rest 4294967295 (text_words rest) ≡ Some (c, text_words after) → p.callers ≤ c → c ≤ 4294967295 → IsNextWord rest b → r ≡ NoCaller c p.callers → Refuses (text_words line) p × IsBad line b (IsTrueOf r p)
caller_fed p line rest after c b r words ends read past small next reason =
    let is : text_words rest ≡ decimal c ∷ text_words after = slot_read 4294967295 (text_words rest) c (text_words after) (lit≤ tt) read in
    let number : PieceIsNumber (first_word (text_words rest)) c = ap (λ (v : List (List ℕ)). parsed_number 4294967295 (first_word v)) is ∙ number_again 4294967295 c (lit< tt) small in (
      subst (λ (ws : List (List ℕ)). Refuses ws p) (sym words) (script_refused (text_words rest) p (λ d s low fits e.
          let same = same_read _ _ _ _ _ read (ap (slot_and_rest 4294967295) e ∙ number_known d (script_words s) low) in
          script_past p.stage p d s (le-leb p.callers d (subst (λ (k : ℕ). p.callers ≤ k) same.0 past)))),
      lift_next rest line b (IsTrueOf r p) (codes "script" ∷ []) next ends words
          (subst (λ (q : Reason). IsTrueOf q p (codes "script" ∷ []) (first_word (text_words rest))) (sym reason) (inl refl, number, refl, past)),
    )

-- what is wrong behind the caller
wants : (c : ℕ) (before : List (List ℕ)) → EndsInstr before → WantsInstr (codes "script" ∷ decimal c ∷ before)
wants c before ends = record { caller = decimal c; others = before; are = refl; mark = ends }

wants_all : (c : ℕ) (before opening words : List (List ℕ)) → EndsInstr opening → before ≡ opening ++ words → words ≡ [] → WantsInstr (codes "script" ∷ decimal c ∷ before)
wants_all c before opening words ends e none = wants c before (subst EndsInstr (sym (e ∙ ap (λ (v : List (List ℕ)). opening ++ v) none ∙ append-nil opening)) ends)

instr_true : (r : Reason) (p : Reading) (c : ℕ) (before opening words : List (List ℕ)) (piece : List ℕ) → EndsInstr opening → before ≡ opening ++ words → IsInstrFault r words piece → IsTrueOf r p (codes "script" ∷ decimal c ∷ before) piece
instr_true InstructionMissing p c before opening words piece ends e h = (wants_all c before opening words ends e h.0, h.1)
instr_true UnknownInstruction p c before opening words piece ends e h = (wants_all c before opening words ends e h.0, h.1)
instr_true (Flawed flaw) p c before opening words piece ends e h =
    of_line (Flawed flaw) p (codes "script" ∷ decimal c ∷ before) piece h.0
    (inr (inr (codes "script" ∷ decimal c ∷ opening, words, wants c opening ends, ap (λ (v : List (List ℕ)). codes "script" ∷ decimal c ∷ v) e, h.1))) h.2
instr_true TitleExpected p c before opening words piece ends e h = absurd h
instr_true CallersExpected p c before opening words piece ends e h = absurd h
instr_true BlocksExpected p c before opening words piece ends e h = absurd h
instr_true AfterEnd p c before opening words piece ends e h = absurd h
instr_true UnknownLine p c before opening words piece ends e h = absurd h
instr_true (NoCaller a b) p c before opening words piece ends e h = absurd h
instr_true (NoCell a b) p c before opening words piece ends e h = absurd h
instr_true TooManyInstructions p c before opening words piece ends e h = absurd h
instr_true TooManyScripts p c before opening words piece ends e h = absurd h
instr_true TooManyTurns p c before opening words piece ends e h = absurd h
instr_true (StopTwice a) p c before opening words piece ends e h = absurd h
instr_true (SecondStop a) p c before opening words piece ends e h = absurd h
instr_true HeadingOver p c before opening words piece ends e h = absurd h
instr_true EndMissing p c before opening words piece ends e h = absurd h

after_flaw : (flaw : Flaw) (p : Reading) (c : ℕ) (before : List (List ℕ)) (script : List Instr) (piece : List ℕ) → c ≤ 15 → IsScript script → before ≡ script_words script → IsAfterScript (Flawed flaw) script piece → IsTrueOf (Flawed flaw) p (codes "script" ∷ decimal c ∷ before) piece
after_flaw ByteOrderMark p c before script piece low fits e h = absurd h
after_flaw CarriageReturn p c before script piece low fits e h = absurd h
after_flaw Tab p c before script piece low fits e h = absurd h
after_flaw NumberMissing p c before script piece low fits e h = absurd h
after_flaw NoNumber p c before script piece low fits e h = absurd h
after_flaw (TooGreat n) p c before script piece low fits e h = absurd h
after_flaw Zero p c before script piece low fits e h = absurd h
after_flaw WordTooMany p c before script piece low fits e h = (h.0, record { line = Body (Script c script); range = (low, fits); words = ap (λ (v : List (List ℕ)). codes "script" ∷ decimal c ∷ v) e; no_mark = λ d s _ m. h.1 m })

after_true : (r : Reason) (p : Reading) (c : ℕ) (before : List (List ℕ)) (script : List Instr) (piece : List ℕ) → c ≤ 15 → IsScript script → before ≡ script_words script → IsAfterScript r script piece → IsTrueOf r p (codes "script" ∷ decimal c ∷ before) piece
after_true TooManyInstructions p c before script piece low fits e h = (h.1, c, script, h.0, ap (λ (v : List (List ℕ)). codes "script" ∷ decimal c ∷ v) e)
after_true (Flawed flaw) p c before script piece low fits e h = after_flaw flaw p c before script piece low fits e h
after_true TitleExpected p c before script piece low fits e h = absurd h
after_true CallersExpected p c before script piece low fits e h = absurd h
after_true BlocksExpected p c before script piece low fits e h = absurd h
after_true AfterEnd p c before script piece low fits e h = absurd h
after_true UnknownLine p c before script piece low fits e h = absurd h
after_true UnknownInstruction p c before script piece low fits e h = absurd h
after_true (NoCaller a b) p c before script piece low fits e h = absurd h
after_true (NoCell a b) p c before script piece low fits e h = absurd h
after_true InstructionMissing p c before script piece low fits e h = absurd h
after_true TooManyScripts p c before script piece low fits e h = absurd h
after_true TooManyTurns p c before script piece low fits e h = absurd h
after_true (StopTwice a) p c before script piece low fits e h = absurd h
after_true (SecondStop a) p c before script piece low fits e h = absurd h
after_true HeadingOver p c before script piece low fits e h = absurd h
after_true EndMissing p c before script piece low fits e h = absurd h

script_true : (r : Reason) (p : Reading) (c : ℕ) (before : List (List ℕ)) (piece : List ℕ) → c ≤ 15 → IsScriptFault r before piece → IsTrueOf r p (codes "script" ∷ decimal c ∷ before) piece
script_true r p c before piece low fault = elim fault [
  | inl h ↦ instr_true r p c before h.0 h.1 piece h.2 h.3 h.4
  | inr h ↦ after_true r p c before h.0 piece low h.1 h.2 h.3
]

pub script_fed : (p : Reading) (line rest after : List ℕ) (c : ℕ) (b : Piece) (r : Reason) → text_words line ≡ codes "script" ∷ text_words rest → EndsWith line after → slot_and_rest 4294967295 (text_words rest) ≡ Some (c, text_words after) → c ≤ 15 → ((script : List Instr) → SpellsScript after script → ⊥) → IsBad after b (IsScriptFault r) → Refuses (text_words line) p × IsBad line b (IsTrueOf r p)
script_fed p line rest after c b r words ends read low none bad =
    let is : text_words rest ≡ decimal c ∷ text_words after = slot_read 4294967295 (text_words rest) c (text_words after) (lit≤ tt) read in (
      subst (λ (ws : List (List ℕ)). Refuses ws p) (sym words) (script_refused (text_words rest) p (λ d s _ fits e.
          absurd (none s (record { fits = fits; each = (heads (decimal c) (decimal d) (text_words after) (script_words s) (sym is ∙ e)).1 })))),
      lift after line b (IsScriptFault r) (IsTrueOf r p) (codes "script" ∷ decimal c ∷ []) bad ends (words ∙ ap (λ (v : List (List ℕ)). codes "script" ∷ v) is) (λ before piece h. script_true r p c before piece low h),
    )

-- ---- a script line that is taken

pub body_entry : (p : Reading) (e : BodyLine) → is_below_heading p.stage ≡ true → after_line p (Body e) ≡ with_entry (record p { stage = InBody }) e
body_entry p e below = go p.stage refl below
  where
    go : (stage : Stage) → p.stage ≡ stage → is_below_heading stage ≡ true → at_stage stage p (Body e) ≡ with_entry (record p { stage = InBody }) e
    go Start at h = absurd cc
    go Named at h = absurd cc
    go Counted at h = absurd cc
    go Sized at h = refl
    go InBody at h = ap (λ (s : Stage). with_entry (record p { stage = s }) e) at
    go Ended at h = absurd cc

pub script_takes : (p : Reading) (c : ℕ) (s : List Instr) → c < p.callers → p.count < 20000 → with_entry p (Script c s) ≡ None → ⊥
script_takes p c s lt few e =
    let one = lt-leb p.callers c lt in
    let two = lt-leb 20000 p.count few in
    let k = rw (one, two) at e in cc

pub script_taken : (p q : Reading) (line rest after : List ℕ) (c : ℕ) (s : List Instr) → text_words line ≡ codes "script" ∷ text_words rest → slot_and_rest 4294967295 (text_words rest) ≡ Some (c, text_words after) → SpellsScript after s → c ≤ 15 → is_below_heading p.stage ≡ true → with_entry (record p { stage = InBody }) (Script c s) ≡ Some q → ReadsLine plan_language plan_reader (text_words line) p q
script_taken p q line rest after c s words read spells low below taken =
    let is : text_words rest ≡ decimal c ∷ text_words after = slot_read 4294967295 (text_words rest) c (text_words after) (lit≤ tt) read in
    let all : text_words line ≡ line_words (Body (Script c s)) = words ∙ ap (λ (v : List (List ℕ)). codes "script" ∷ v) (is ∙ ap (λ (v : List (List ℕ)). decimal c ∷ v) spells.each) in
    inr (Body (Script c s), record { kept = ap is_skipped words; words = all; range = (low, spells.fits) }, body_entry p (Script c s) below ∙ taken)
