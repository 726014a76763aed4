-- The lines of a trace, one for each event.
use Rattle.std.specs.Prelude.{ℕ, List, [], ◌++◌, Option, Some, None, true, false, codes, decimal}
use Rattle.of_plan.specs.Plan.{Plan}
use Rattle.of_core.specs.declared.place.Outcome.{Outcome}
use Rattle.of_core.specs.declared.place.Outcome.TheVariants.{Answered, Spent, Lost}
use Rattle.of_play.specs.declared.trace_line.TraceStep.{TraceStep}
use Rattle.of_play.specs.declared.trace_text.Change.{Change}
use Rattle.of_play.specs.TraceText.{step_text, plan_word, change_text}
use Rattle.of_play.specs.TraceParts.{helper_part, did_part, word_part, reply_part}

-- what is printed of how a call has ended; nothing if the call is still open
abbrev pub end_text : Option Outcome → List ℕ
end_text None = []
end_text (Some (Answered s true raw k)) =
    codes ", answered at " ++ decimal s ++ codes " in " ++ decimal k ++ codes " steps"
end_text (Some (Answered s false raw k)) =
    codes ", read at " ++ decimal s ++ codes " in " ++ decimal k ++ codes " steps"
end_text (Some (Spent s)) = codes ", spent at " ++ decimal s
end_text (Some (Lost s)) = codes ", lost at " ++ decimal s

-- what is printed first of event `k`: its number, its caller, the index of the script, and the name
-- of the step
abbrev pub head_text : (k : ℕ) → TraceStep → List ℕ
head_text k s =
    (decimal k ++ codes " " ++ decimal s.caller)
    ++ (codes " " ++ decimal s.index ++ codes " " ++ step_text s.place ++ codes ", ")

-- what is printed of the meaning of the word that was left
abbrev pub means_part : Plan → Change → List ℕ
means_part p c = word_part p.callers (plan_word p c.word) c.left

-- what is printed after the change of the word: which caller the step helps, how the step went,
-- what the word that was left means, and the reply of a call that has ended
abbrev pub step_parts : Plan → TraceStep → List ℕ
step_parts p s =
    helper_part s.helps ++ did_part s.op s.change.found ++ means_part p s.change
    ++ reply_part s.outcome

-- the line of event `k`, a turn in which a caller has made a step
abbrev pub step_line : Plan → (k : ℕ) → TraceStep → List ℕ
step_line p k s =
    head_text k s ++ change_text p s.change ++ end_text s.outcome ++ step_parts p s
    ++ codes "\n"

-- the line of event `k`, a turn of caller `i` that has done nothing
abbrev pub rest_line : (k i : ℕ) → List ℕ
rest_line k i = decimal k ++ codes " " ++ decimal i ++ codes " nothing\n"

-- the line of event `k`, an eviction
abbrev pub evict_line : Plan → (k : ℕ) → Change → List ℕ
evict_line p k c =
    decimal k ++ codes " evict, " ++ change_text p c ++ means_part p c ++ codes "\n"
