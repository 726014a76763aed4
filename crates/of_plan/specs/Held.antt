-- How the fields of a parsed plan stand for a plan.
use Rattle.std.specs.Prelude.{map}
use Rattle.of_plan.specs.declared.plan.Plan.TheInside.{Inside}
use Rattle.of_plan.specs.Plan.{Plan}

-- the plan that the fields of the code's type hold
abbrev pub plan_value : Inside → Plan
plan_value p = record {
  callers = p.callers;
  blocks = p.blocks;
  limit = p.limit;
  scripts = map (λ v. v.items) p.scripts.items;
  stops = p.stops.items;
  schedule = p.schedule.items;
}
