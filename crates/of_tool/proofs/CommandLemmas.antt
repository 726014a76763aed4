-- No two commands have the same words, so a command has its own answers alone.
use Rattle.std.proofs.Common.{◌≡◌, ◌↔◌, ◌<◌, ◌≤◌, ◌⊎◌, inl, inr, Bool, false, IsTrue, List, ℕ, [], ◌∷◌, length, get_or, Option, None, Some, refl, sym, ap, subst, ◌∙◌, arith}
use Rattle.std.specs.Prelude.{◌^◌, ◌*◌, codes, decimal, if◌then◌else◌}
use Rattle.std.specs.Str.Parse.{digits_value}
use Rattle.std.proofs.lemmas.Fmt.{decimal_is_IsNumeral, decimal_injective}
use Rattle.std.specs.Str.{bytes_eq}
use Rattle.std.specs.Option.{MatchOption}
use Rattle.of_script.specs.Reading.{parsed_number}
use Rattle.of_script.proofs.Numbers.{number_reads, number_again}
use Rattle.of_tool.specs.declared.command.Command.{Command}
use Rattle.of_tool.specs.declared.command.Command.TheVariants.{Serial, Play, Trace, Commits, Run, Load, Check, CheckLife, Part, Image, Recover, Renumber, Migrate, Continue, Help, Version}
use Rattle.of_tool.specs.declared.command.HelpWord.TheVariants.{Long, Short, Bare}
use Rattle.of_tool.specs.Commands.{command_words, IsInRange, IsTrace, IsLoad, IsPartNumber, SpellsUpTo, AreWordsOf, IsNoCommand}
use Rattle.of_tool.specs.Inputs.{Input, input_of, AskForInput}

-- ---- numbers

pub number_is : (most : ℕ) (w : List ℕ) (o : Option ℕ) → most < 2 ^ 64 → o ≡ parsed_number most w → MatchOption o ((n : ℕ) → SpellsUpTo most w n → ⊥) (SpellsUpTo most w)
number_is most w None small e = λ n h. (let again : ◌≡◌ {A = Option ℕ} None (Some n) = e ∙ ap (parsed_number most) h.1 ∙ number_again most n small h.0 in cc)
number_is most w (Some n) small e = let r = number_reads most w n small (sym e) in (r.1, r.0)

-- ---- words

pub no_load : (a b : List ℕ) → ((n m : ℕ) → IsLoad n m → a ≡ decimal n → b ≡ decimal m → ⊥) → IsNoCommand (codes "load" ∷ a ∷ b ∷ [])
no_load a b h Serial is = absurd (let e = ap length is.1 in omega (arith, e))
no_load a b h Play is = absurd (let e = ap length is.1 in omega (arith, e))
no_load a b h Commits is = absurd (let e = ap length is.1 in omega (arith, e))
no_load a b h Run is = absurd (let e = ap length is.1 in omega (arith, e))
no_load a b h Check is = absurd (let e = ap length is.1 in omega (arith, e))
no_load a b h CheckLife is = absurd (let e = ap length is.1 in omega (arith, e))
no_load a b h (Part n) is = absurd (let e = ap length is.1 in omega (arith, e))
no_load a b h Image is = absurd (let e = ap length is.1 in omega (arith, e))
no_load a b h Recover is = absurd (let e = ap length is.1 in omega (arith, e))
no_load a b h Renumber is = absurd (let e = ap length is.1 in omega (arith, e))
no_load a b h Migrate is = absurd (let e = ap length is.1 in omega (arith, e))
no_load a b h Continue is = absurd (let e = ap length is.1 in omega (arith, e))
no_load a b h (Help word) is = absurd (let e = ap length is.1 in omega (arith, e))
no_load a b h Version is = absurd (let e = ap length is.1 in omega (arith, e))
no_load a b h (Trace n m) is = absurd (let e = ap (λ (ws : List (List ℕ)). length (get_or ws 0 [])) is.1 in omega (arith, e))
no_load a b h (Load n m) is = h n m is.0 (ap (λ (ws : List (List ℕ)). get_or ws 1 []) is.1) (ap (λ (ws : List (List ℕ)). get_or ws 2 []) is.1)

-- numbers that are spelled and out of range are those of no load
pub out_of_range : (x y : ℕ) → x ≤ 16 → y ≤ 20000 → (x ≡ 0) ⊎ (20000 < x * y) → IsNoCommand (codes "load" ∷ decimal x ∷ decimal y ∷ [])
out_of_range x y few each out = no_load (decimal x) (decimal y) (λ n m is first second.
    let one : n ≡ x = sym (decimal_injective x n (omega arith) (omega (arith, is.few)) first) in
    let two : m ≡ y = sym (decimal_injective y m (omega arith) (omega (arith, is.each)) second) in
    let here : IsLoad x y = subst (λ (k : ℕ). IsLoad x k) two (subst (λ (k : ℕ). IsLoad k m) one is) in
    elim out [ inl none ↦ omega (arith, none, here.some) | inr more ↦ omega (arith, more, here.all) ])

pub no_trace : (a b : List ℕ) → ((n m : ℕ) → IsTrace n m → a ≡ decimal n → b ≡ decimal m → ⊥) → IsNoCommand (codes "trace" ∷ a ∷ b ∷ [])
no_trace a b h Serial is = absurd (let e = ap length is.1 in omega (arith, e))
no_trace a b h Play is = absurd (let e = ap length is.1 in omega (arith, e))
no_trace a b h Commits is = absurd (let e = ap length is.1 in omega (arith, e))
no_trace a b h Run is = absurd (let e = ap length is.1 in omega (arith, e))
no_trace a b h Check is = absurd (let e = ap length is.1 in omega (arith, e))
no_trace a b h CheckLife is = absurd (let e = ap length is.1 in omega (arith, e))
no_trace a b h (Part n) is = absurd (let e = ap length is.1 in omega (arith, e))
no_trace a b h Image is = absurd (let e = ap length is.1 in omega (arith, e))
no_trace a b h Recover is = absurd (let e = ap length is.1 in omega (arith, e))
no_trace a b h Renumber is = absurd (let e = ap length is.1 in omega (arith, e))
no_trace a b h Migrate is = absurd (let e = ap length is.1 in omega (arith, e))
no_trace a b h Continue is = absurd (let e = ap length is.1 in omega (arith, e))
no_trace a b h (Help word) is = absurd (let e = ap length is.1 in omega (arith, e))
no_trace a b h Version is = absurd (let e = ap length is.1 in omega (arith, e))
no_trace a b h (Trace n m) is = h n m is.0 (ap (λ (ws : List (List ℕ)). get_or ws 1 []) is.1) (ap (λ (ws : List (List ℕ)). get_or ws 2 []) is.1)
no_trace a b h (Load n m) is = absurd (let e = ap (λ (ws : List (List ℕ)). length (get_or ws 0 [])) is.1 in omega (arith, e))

-- no trace has no events
pub no_events : (a b : List ℕ) (y : ℕ) → y ≡ 0 → b ≡ decimal y → IsNoCommand (codes "trace" ∷ a ∷ b ∷ [])
no_events a b y none spelled = no_trace a b (λ n m is first second.
    let two : y ≡ m = decimal_injective y m (omega (arith, none)) (omega (arith, is.few)) (sym spelled ∙ second) in
    absurd (omega (arith, two, none, is.some)))

pub no_part : (a : List ℕ) → ((n : ℕ) → IsPartNumber n → a ≡ decimal n → ⊥) → IsNoCommand (codes "part" ∷ a ∷ [])
no_part a h Serial is = absurd (let e = ap length is.1 in omega (arith, e))
no_part a h Play is = absurd (let e = ap length is.1 in omega (arith, e))
no_part a h Commits is = absurd (let e = ap length is.1 in omega (arith, e))
no_part a h Run is = absurd (let e = ap length is.1 in omega (arith, e))
no_part a h Check is = absurd (let e = ap length is.1 in omega (arith, e))
no_part a h CheckLife is = absurd (let e = ap length is.1 in omega (arith, e))
no_part a h Image is = absurd (let e = ap length is.1 in omega (arith, e))
no_part a h Recover is = absurd (let e = ap length is.1 in omega (arith, e))
no_part a h Renumber is = absurd (let e = ap length is.1 in omega (arith, e))
no_part a h Migrate is = absurd (let e = ap length is.1 in omega (arith, e))
no_part a h Continue is = absurd (let e = ap length is.1 in omega (arith, e))
no_part a h (Help word) is = absurd (let e = ap length is.1 in omega (arith, e))
no_part a h Version is = absurd (let e = ap length is.1 in omega (arith, e))
no_part a h (Trace n m) is = absurd (let e = ap length is.1 in omega (arith, e))
no_part a h (Load n m) is = absurd (let e = ap length is.1 in omega (arith, e))
no_part a h (Part n) is = h n is.0 (ap (λ (ws : List (List ℕ)). get_or ws 1 []) is.1)

-- no part has number 0
pub no_number : (a : List ℕ) (x : ℕ) → x ≡ 0 → a ≡ decimal x → IsNoCommand (codes "part" ∷ a ∷ [])
no_number a x none spelled = no_part a (λ n is first.
    let one : x ≡ n = decimal_injective x n (omega (arith, none)) (omega (arith, is.few)) (sym spelled ∙ first) in
    absurd (omega (arith, one, none, is.some)))

-- the command of a word
abbrev named_by : List ℕ → Option Command
named_by w =
    if bytes_eq w (codes "serial") then Some Serial
    else if bytes_eq w (codes "play") then Some Play
    else if bytes_eq w (codes "commits") then Some Commits
    else if bytes_eq w (codes "run") then Some Run
    else if bytes_eq w (codes "check") then Some Check
    else if bytes_eq w (codes "check-life") then Some CheckLife
    else if bytes_eq w (codes "image") then Some Image
    else if bytes_eq w (codes "recover") then Some Recover
    else if bytes_eq w (codes "renumber") then Some Renumber
    else if bytes_eq w (codes "migrate") then Some Migrate
    else if bytes_eq w (codes "continue") then Some Continue
    else if bytes_eq w (codes "--help") then Some (Help Long)
    else if bytes_eq w (codes "-h") then Some (Help Short)
    else if bytes_eq w (codes "help") then Some (Help Bare)
    else if bytes_eq w (codes "--version") then Some Version
    else None

-- the command of some words
abbrev command_of : List (List ℕ) → Option Command
command_of [] = None
command_of (w ∷ []) = named_by w
command_of (w ∷ v ∷ []) = Some (Part (digits_value 10 v))
command_of (w ∷ v ∷ u ∷ ws) = if bytes_eq w (codes "load") then Some (Load (digits_value 10 v) (digits_value 10 u)) else Some (Trace (digits_value 10 v) (digits_value 10 u))

command_again : (c : Command) → IsInRange c → command_of (command_words c) ≡ Some c
command_again Serial range = refl
command_again Play range = refl
command_again Commits range = refl
command_again Run range = refl
command_again Check range = refl
command_again CheckLife range = refl
command_again Image range = refl
command_again Recover range = refl
command_again Renumber range = refl
command_again Migrate range = refl
command_again Continue range = refl
command_again (Help Long) range = refl
command_again (Help Short) range = refl
command_again (Help Bare) range = refl
command_again Version range = refl
command_again (Part number) range =
    let one : digits_value 10 (decimal number) ≡ number = (decimal_is_IsNumeral number (omega (arith, range.few))).1 in
    cc
command_again (Trace first count) range =
    let one : digits_value 10 (decimal first) ≡ first = (decimal_is_IsNumeral first (omega (arith, range.begins))).1 in
    let two : digits_value 10 (decimal count) ≡ count = (decimal_is_IsNumeral count (omega (arith, range.few))).1 in
    cc
command_again (Load callers scripts) range =
    let first : digits_value 10 (decimal callers) ≡ callers = (decimal_is_IsNumeral callers (omega (arith, range.few))).1 in
    let second : digits_value 10 (decimal scripts) ≡ scripts = (decimal_is_IsNumeral scripts (omega (arith, range.each))).1 in
    cc

pub words_of_injective : (c d : Command) → IsInRange c → IsInRange d → command_words c ≡ command_words d → c ≡ d
words_of_injective c d here there e = let same : ◌≡◌ {A = Option Command} (Some c) (Some d) = sym (command_again c here) ∙ ap command_of e ∙ command_again d there in cc

-- the words are one command alone
pub same_command : (words : List (List ℕ)) (c d : Command) → AreWordsOf words c → AreWordsOf words d → c ≡ d
same_command words c d here there = words_of_injective c d here.0 there.0 (sym here.1 ∙ there.1)

-- a command that the words do not ask for input reads nothing
pub unread_of : (words : List (List ℕ)) (c : Command) → AreWordsOf words c → (AskForInput words → ⊥) → input_of c ≡ None
unread_of words c is none = by (input_of c) refl
  where
    by : (o : Option _) → input_of c ≡ o → input_of c ≡ None
    by None e = e
    by (Some input) e = absurd (none (record { command = c; are = is; input = input; reads = e }))

-- a command asks for input exactly if it reads
pub asks_by : (words : List (List ℕ)) (c : Command) → AreWordsOf words c → (reads : Bool) → MatchOption (input_of c) (IsTrue reads → ⊥) (λ input. IsTrue reads) → IsTrue reads ↔ AskForInput words
asks_by words c is reads = by (input_of c) refl
  where
    by : (o : Option Input) → input_of c ≡ o → MatchOption o (IsTrue reads → ⊥) (λ input. IsTrue reads) → IsTrue reads ↔ AskForInput words
    by None e none = (
      λ reading. absurd (none reading),
      λ asks.
          let same : input_of c ≡ Some asks.input = subst (λ (k : Command). input_of k ≡ Some asks.input) (same_command words asks.command c asks.are is) asks.reads in
          let neither : ◌≡◌ {A = Option Input} None (Some asks.input) = sym e ∙ same in
          absurd cc,
    )
    by (Some input) e asked = (λ reading. record { command = c; are = is; input = input; reads = e }, λ asks. asked)

pub asks_not : (words : List (List ℕ)) → IsNoCommand words → IsTrue false ↔ AskForInput words
asks_not words none = (λ reading. absurd cc, λ asks. absurd (none asks.command asks.are))
