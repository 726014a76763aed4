-- The text that is printed of each flaw.
use Rattle.std.specs.Prelude.{ℕ, List, ◌++◌, codes, decimal}
use Rattle.of_plan.specs.declared.flaw.Flaw.{Flaw}
use Rattle.of_plan.specs.declared.flaw.Flaw.TheVariants.{ByteOrderMark, CarriageReturn, Tab, NumberMissing, NoNumber, TooGreat, Zero, WordTooMany}

-- the text that is printed of a flaw
abbrev pub flaw_text : Flaw → List ℕ
flaw_text ByteOrderMark = codes "a byte order mark at the start of the text"
flaw_text CarriageReturn = codes "a carriage return at the end of the line"
flaw_text Tab = codes "a tab, where only spaces part words"
flaw_text NumberMissing = codes "a number is missing here"
flaw_text NoNumber = codes "not a number: digits alone, no 0 before others"
flaw_text (TooGreat most) = codes "a number above " ++ decimal most
flaw_text Zero = codes "a number below 1"
flaw_text WordTooMany = codes "a word too many"
