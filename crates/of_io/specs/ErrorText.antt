-- The texts that are printed for errors.
use Rattle.std.specs.Prelude.{ℕ, List, codes}
use Rattle.of_io.specs.declared.source.ReadErr.{ReadErr}
use Rattle.of_io.specs.declared.source.ReadErr.TheVariants.{Memory, Fault, TooLong}

-- what is printed if one read or write failed
abbrev pub failed_text : List ℕ
failed_text = codes "a read or a write failed"

-- what is printed if not all bytes were read, by the reason
abbrev pub read_err_text : ReadErr → List ℕ
read_err_text Memory = codes "out of memory"
read_err_text Fault = codes "a read failed"
read_err_text TooLong = codes "more bytes than the limit"
