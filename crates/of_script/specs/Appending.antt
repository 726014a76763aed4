-- What is true after a call that writes text.
use Rattle.std.specs.Prelude.{◌≡◌, ℕ, List, ◌++◌, String, string_bytes}

-- the call added this text at the end of what the string held before
abbrev pub AppendsText : {Z : Type 0} → (old new : String Z) → (text : List ℕ) → Type 0
AppendsText old new text = string_bytes new ≡ string_bytes old ++ text
