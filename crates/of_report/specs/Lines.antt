-- How a caller ended: the form that contracts see for the form that the code has, and back.
use Rattle.std.specs.Prelude.{◌≡◌, refl}
use Rattle.of_plan.specs.Report.{EndState as End, done, stopped, spent}
use Rattle.of_report.specs.declared.report.EndState.{EndState}
use Rattle.of_report.specs.declared.report.EndState.TheVariants.{Done, Stopped, Spent}

-- how a caller ended, in the form that contracts see, for the value that the code has
abbrev pub end_state_value : EndState → End
end_state_value Done = done
end_state_value Stopped = stopped
end_state_value Spent = spent

-- how a caller ended, in the form that the code has, for the value that contracts see
abbrev pub end_state_for : End → EndState
end_state_for done = Done
end_state_for stopped = Stopped
end_state_for spent = Spent

pub end_state_back : (s : EndState) → end_state_for (end_state_value s) ≡ s
end_state_back Done = refl
end_state_back Stopped = refl
end_state_back Spent = refl
