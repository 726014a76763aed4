-- The text that is printed of each reason.
use Rattle.std.specs.Prelude.{ℕ, List, ◌++◌, codes, decimal}
use Rattle.of_plan.specs.FlawText.{flaw_text}
use Rattle.of_image.specs.declared.reason.Reason.{Reason}
use Rattle.of_image.specs.declared.reason.Reason.TheVariants.{Flawed, TitleExpected, OtherVersion, CallersExpected, BlocksExpected, AfterEnd, UnknownLine, NoCell, CellPassed, OutOfOrder, EmptyCell, HeadingOver, EndMissing}

-- the text that is printed of a reason
abbrev pub image_reason_text : Reason → List ℕ
image_reason_text (Flawed flaw) = flaw_text flaw
image_reason_text (TitleExpected version) =
    codes "the first line of an image is `onefile image " ++ (decimal version ++ codes "`")
image_reason_text (OtherVersion found read) =
    codes "an image of version "
    ++ (decimal found ++ (codes "; version " ++ (decimal read ++ codes " is read")))
image_reason_text (CallersExpected most) =
    codes "the second line of an image is `callers N`, N from 1 to " ++ decimal most
image_reason_text (BlocksExpected most) =
    codes "the third line of an image is `blocks B`, B from 0 to " ++ decimal most
image_reason_text AfterEnd = codes "a line after `end`"
image_reason_text UnknownLine = codes "no line of an image begins with this word"
image_reason_text (NoCell cell cells) =
    codes "this image has " ++ (decimal cells ++ codes " cells, from cell 0 on")
image_reason_text (CellPassed cell) =
    codes "cells ascend, and a line above has this one or a later one"
image_reason_text (OutOfOrder line) =
    codes "cells ascend, and line " ++ (decimal line ++ codes " has this one or a later one")
image_reason_text EmptyCell = codes "a cell of sequence 0 and payload 0 has no line"
image_reason_text HeadingOver = codes "this line comes once, in the heading of an image"
image_reason_text EndMissing = codes "the text ends before `end`"
