-- Whom a call helps.
use Rattle.std.specs.Prelude.{ℕ, Bool, true, false, Option, Some, None}
use Rattle.of_core.specs.Machine.{CallState}

-- the owner of the log that a helper copies or applies
abbrev pub helped_by : (helps : Bool) → (owner : ℕ) → Option ℕ
helped_by true owner = Some owner
helped_by false owner = None

-- the owner of the log that the machine copies or applies as a helper; None if it does not help
abbrev pub helped_owner : CallState → Option ℕ
helped_owner m = helped_by m.helps m.owner
