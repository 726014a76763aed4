-- The words of the commands.
use Rattle.std.specs.Prelude.{◌≡◌, ◌≤◌, ◌*◌, ℕ, List, [], ◌∷◌, map, codes, decimal, string_bytes, String}
use Rattle.std.specs.Global.{Global}
use Rattle.of_plan.specs.declared.plan.TheConstants.{MOST_PLAN_CALLERS, MOST_SCRIPTS}
use Rattle.of_tool.specs.declared.command.Command.{Command}
use Rattle.of_tool.specs.declared.command.HelpWord.{HelpWord}
use Rattle.of_tool.specs.declared.command.HelpWord.TheVariants.{Long, Short, Bare}
use Rattle.of_tool.specs.declared.command.TheConstants.{MOST_FIRST, MOST_EVENTS, MOST_PART}
use Rattle.of_tool.specs.declared.command.Command.TheVariants.{Serial, Play, Trace, Commits, Run, Load, Check, CheckLife, Part, Image, Recover, Renumber, Migrate, Continue, Help, Version}

-- the bytes of each word
abbrev pub word_bytes : List (String Global) → List (List ℕ)
word_bytes words = map string_bytes words

-- the word spells `n` in digits alone, without a leading 0, and `n` is at most `most`
abbrev pub SpellsUpTo : (most : ℕ) → List ℕ → ℕ → Type 0
SpellsUpTo most word n = (n ≤ most) × (word ≡ decimal n)

-- a word that asks for help
abbrev pub help_word : HelpWord → List ℕ
help_word Long = codes "--help"
help_word Short = codes "-h"
help_word Bare = codes "help"

-- the words of this command line; each command has exactly one list of words
abbrev pub command_words : Command → List (List ℕ)
command_words Serial = codes "serial" ∷ []
command_words Play = codes "play" ∷ []
command_words (Trace first count) = codes "trace" ∷ decimal first ∷ decimal count ∷ []
command_words Commits = codes "commits" ∷ []
command_words Run = codes "run" ∷ []
command_words (Load callers scripts) = codes "load" ∷ decimal callers ∷ decimal scripts ∷ []
command_words Check = codes "check" ∷ []
command_words CheckLife = codes "check-life" ∷ []
command_words (Part number) = codes "part" ∷ decimal number ∷ []
command_words Image = codes "image" ∷ []
command_words Recover = codes "recover" ∷ []
command_words Renumber = codes "renumber" ∷ []
command_words Migrate = codes "migrate" ∷ []
command_words Continue = codes "continue" ∷ []
command_words (Help word) = help_word word ∷ []
command_words Version = codes "--version" ∷ []

-- a trace may have this many events, from event `first` on
pub record IsTrace (first count : ℕ) : Type 0 where
  pub begins : first ≤ MOST_FIRST
  pub some : 1 ≤ count
  pub few : count ≤ MOST_EVENTS

-- a load may have this many callers with this many scripts each
pub record IsLoad (callers scripts : ℕ) : Type 0 where
  pub some : 1 ≤ callers
  pub few : callers ≤ MOST_PLAN_CALLERS
  pub each : scripts ≤ MOST_SCRIPTS
  pub all : callers * scripts ≤ MOST_SCRIPTS

-- the number is one that `part` takes: 1 to `MOST_PART`
pub record IsPartNumber (number : ℕ) : Type 0 where
  pub some : 1 ≤ number
  pub few : number ≤ MOST_PART

-- the numbers of a command are in range
abbrev pub IsInRange : Command → Type 0
IsInRange Serial = Unit {0}
IsInRange Play = Unit {0}
IsInRange (Trace first count) = IsTrace first count
IsInRange Commits = Unit {0}
IsInRange Run = Unit {0}
IsInRange (Load callers scripts) = IsLoad callers scripts
IsInRange Check = Unit {0}
IsInRange CheckLife = Unit {0}
IsInRange (Part number) = IsPartNumber number
IsInRange Image = Unit {0}
IsInRange Recover = Unit {0}
IsInRange Renumber = Unit {0}
IsInRange Migrate = Unit {0}
IsInRange Continue = Unit {0}
IsInRange (Help word) = Unit {0}
IsInRange Version = Unit {0}

-- the command runs no callers at once
abbrev pub IsPlain : Command → Type 0
IsPlain Run = ⊥
IsPlain Continue = ⊥
IsPlain (Load callers scripts) = ⊥
IsPlain Serial = Unit {0}
IsPlain Play = Unit {0}
IsPlain (Trace first count) = Unit {0}
IsPlain Commits = Unit {0}
IsPlain Check = Unit {0}
IsPlain CheckLife = Unit {0}
IsPlain (Part number) = Unit {0}
IsPlain Image = Unit {0}
IsPlain Recover = Unit {0}
IsPlain Renumber = Unit {0}
IsPlain Migrate = Unit {0}
IsPlain (Help word) = Unit {0}
IsPlain Version = Unit {0}

-- the words spell this command, and its numbers are in range
abbrev pub AreWordsOf : List (List ℕ) → Command → Type 0
AreWordsOf words command = IsInRange command × (words ≡ command_words command)

-- the words spell no command whose numbers are in range
abbrev pub IsNoCommand : List (List ℕ) → Type 0
IsNoCommand words = (command : Command) → AreWordsOf words command → ⊥

-- the words spell a command that runs callers at once
pub record AreWordsOfTeam (words : List (List ℕ)) : Type 0 where
  pub command : Command
  pub are : AreWordsOf words command
  pub team : IsPlain command → ⊥
