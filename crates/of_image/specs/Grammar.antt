-- The grammars of images: a version of the text, and how many callers and blocks an image may have.
use Rattle.std.specs.Prelude.{ℕ}
use Rattle.of_mem.specs.declared.plot.TheConstants.{MOST_BLOCKS}
use Rattle.of_mem.specs.declared.work.TheConstants.{MOST_CALLERS}
use Rattle.of_plan.specs.declared.plan.TheConstants.{MOST_PLAN_CALLERS, MOST_PLAN_BLOCKS}
use Rattle.of_report.specs.ImageRow.{DurableRow, IsRowWithin}
use Rattle.of_report.specs.Image.{Image, IsImageWithin}
use Rattle.of_image.specs.declared.grammar.Grammar.{Grammar}
use Rattle.of_image.specs.declared.grammar.Limits.{Limits}
use Rattle.of_image.specs.declared.grammar.Limits.TheVariants.{Plan, Table}
use Rattle.of_image.specs.declared.version.Version.{Version}
use Rattle.of_image.specs.declared.version.Version.TheVariants.{Two}
use Rattle.of_image.specs.Version.{instrs_of}

-- the most callers of an image
abbrev pub most_callers : Limits → ℕ
most_callers Plan = MOST_PLAN_CALLERS
most_callers Table = MOST_CALLERS

-- the most blocks of an image
abbrev pub most_blocks : Limits → ℕ
most_blocks Plan = MOST_PLAN_BLOCKS
most_blocks Table = MOST_BLOCKS

-- this version, for images that have no more callers and blocks than a plan may have
abbrev pub plan_grammar : Version → Grammar
plan_grammar v = record { version = v; limits = Plan }

-- version 2, with these limits
abbrev pub grammar_within : Limits → Grammar
grammar_within limits = record { version = Two; limits = limits }

-- version 2, for images of any table
abbrev pub table_grammar : Grammar
table_grammar = grammar_within Table

-- the row of an image in this grammar
abbrev pub IsRowIn : Grammar → DurableRow → Type 0
IsRowIn g r = IsRowWithin (most_callers g.limits) (most_blocks g.limits) (instrs_of g.version) r

-- an image that can be read from a text in this grammar
abbrev pub IsImageIn : Grammar → Image → Type 0
IsImageIn g i = IsImageWithin (most_callers g.limits) (most_blocks g.limits) (instrs_of g.version) i
