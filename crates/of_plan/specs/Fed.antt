-- What the calls that read a part of a line promise of their answers.
use Rattle.std.specs.Prelude.{◌≡◌, ◌⊎◌, ℕ, List, [], ◌∷◌, ◌++◌, length, codes, MatchOption, Option, Some, None}
use Rattle.of_script.specs.declared.instr.Instr.{Instr}
use Rattle.of_script.specs.declared.instr.TheConstants.{MOST_INSTRS}
use Rattle.of_script.specs.Language.{IsScript}
use Rattle.of_script.specs.Text.{text_words, semicolon_byte, script_words}
use Rattle.of_script.specs.Table.{form_named}
use Rattle.of_script.specs.Reading.{slot_and_rest}
use Rattle.of_plan.specs.declared.parser.feed.Bad.{Bad}
use Rattle.of_plan.specs.declared.parser.line.LineForm.{LineForm}
use Rattle.of_plan.specs.declared.parser.state.Reading.{Reading as RustReading}
use Rattle.of_plan.specs.declared.reason.Reason.{Reason}
use Rattle.of_plan.specs.declared.reason.Reason.TheVariants.{Flawed, TitleExpected, UnknownInstruction, InstructionMissing, TooManyInstructions}
use Rattle.of_plan.specs.declared.flaw.Flaw.TheVariants.{WordTooMany}
use Rattle.of_plan.specs.LineTable.{line_second_most}
use Rattle.of_plan.specs.LineReading.{plan_language}
use Rattle.of_plan.specs.Reader.{ReadsLine, RefusesLine}
use Rattle.of_plan.specs.Reading.{Reading, reading_value, plan_reader}
use Rattle.of_plan.specs.Checks.{first_read, first_fault, second_fault}
use Rattle.of_plan.specs.Flaws.{IsNoWord, IsNumberFlaw}
use Rattle.of_plan.specs.Pieces.{first_word, IsBad}
use Rattle.of_plan.specs.Reasons.{IsAfterInstr, IsTrueOf}

-- the reason for a word where the line should end
abbrev pub TooMany : Reason
TooMany = Flawed WordTooMany

-- the reason says why the piece is no number up to `most`
abbrev pub IsNumberFault : Reason → (most : ℕ) (piece : List ℕ) → Type 0
IsNumberFault (Flawed flaw) most piece = IsNumberFlaw flaw most piece
IsNumberFault _ most piece = ⊥

-- the reason says why the piece cannot follow the words `before` of an instruction: its name is
-- missing or unknown, or one of its numbers is wrong
abbrev pub IsInstrFault : Reason → (before : List (List ℕ)) (piece : List ℕ) → Type 0
IsInstrFault InstructionMissing before piece = (before ≡ []) × IsNoWord piece
IsInstrFault UnknownInstruction before piece = (before ≡ []) × (form_named piece ≡ None)
IsInstrFault (Flawed flaw) before piece =
    (most : ℕ) × IsAfterInstr before most × IsNumberFlaw flaw most piece
IsInstrFault _ before piece = ⊥

-- after these words of a script an instruction comes next: there is no word, or the last word is a
-- semicolon
abbrev pub EndsInstr : List (List ℕ) → Type 0
EndsInstr words =
    (words ≡ []) ⊎ ((front : List (List ℕ)) × (words ≡ front ++ semicolon_byte ∷ []))

-- the reason says why the piece cannot follow this script: it is a word too many, or a semicolon
-- after as many instructions as a script may have
abbrev pub IsAfterScript : Reason → List Instr → (piece : List ℕ) → Type 0
IsAfterScript (Flawed WordTooMany) script piece = (piece ≡ [] → ⊥) × (piece ≡ semicolon_byte → ⊥)
IsAfterScript TooManyInstructions script piece =
    (length script ≡ MOST_INSTRS) × (piece ≡ semicolon_byte)
IsAfterScript _ script piece = ⊥

-- the reason says what is wrong with the piece in a script line, after the caller's number and the
-- words `before`
abbrev pub IsScriptFault : Reason → (before : List (List ℕ)) (piece : List ℕ) → Type 0
IsScriptFault reason before piece =
    ((opening words : List (List ℕ)) × EndsInstr opening × (before ≡ opening ++ words)
    × IsInstrFault reason words piece)
    ⊎ ((script : List Instr) × IsScript script × (before ≡ script_words script)
    × IsAfterScript reason script piece)

-- the reason says what is wrong with the piece in a title line, after `onefile` and the words
-- `before`
abbrev pub IsTitleFault : Reason → (before : List (List ℕ)) (piece : List ℕ) → Type 0
IsTitleFault TitleExpected before piece =
    ((before ≡ []) × (piece ≡ codes "plan" → ⊥))
    ⊎ ((before ≡ codes "plan" ∷ []) × (piece ≡ codes "1" → ⊥))
IsTitleFault (Flawed WordTooMany) before piece =
    (before ≡ codes "plan" ∷ codes "1" ∷ []) × (piece ≡ [] → ⊥)
IsTitleFault _ before piece = ⊥

-- the reason says why the first of these words may not be the first number of a line of this form
abbrev pub IsFirstNumberFault : Reading → LineForm → Reason → (words : List (List ℕ)) → Type 0
IsFirstNumberFault p form reason words =
    ((slot_and_rest (first_read form) words ≡ None)
    × IsNumberFault reason (first_read form) (first_word words))
    ⊎ ((first : ℕ) × (others : List (List ℕ))
    × (slot_and_rest (first_read form) words ≡ Some (first, others))
    × (first_fault p form first ≡ Some reason))

-- the reason says why the first of these words may not be the second number of a line of this form
abbrev pub IsSecondNumberFault : Reading → LineForm → Reason → (words : List (List ℕ)) → Type 0
IsSecondNumberFault p form reason words =
    ((slot_and_rest (line_second_most form) words ≡ None)
    × IsNumberFault reason (line_second_most form) (first_word words))
    ⊎ ((second : ℕ) × (others : List (List ℕ))
    × (slot_and_rest (line_second_most form) words ≡ Some (second, others))
    × (second_fault p form second ≡ Some reason))

-- If no fault is found, the line was skipped, or it was read and the reading after it is `new`. If
-- a fault is found, the line may not come next after the reading `old`, and the piece found is at
-- fault for a true reason.
abbrev pub HasFed : (line : List ℕ) → (old new : RustReading) → Option Bad → Type 0
HasFed line old new found =
    MatchOption found
    (ReadsLine plan_language plan_reader (text_words line) (reading_value old) (reading_value new))
    (λ bad. RefusesLine plan_language plan_reader (text_words line) (reading_value old)
    × IsBad line bad.piece (IsTrueOf bad.reason (reading_value old)))
