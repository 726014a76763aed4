-- The text of the report of a load: its size and the store, summed up.
use Rattle.std.specs.Prelude.{ℕ, List, ◌++◌, length, sum_by, codes, decimal}
use Rattle.std.specs.FinMap as fm
use Rattle.of_store.specs.Store.{Store}
use Rattle.of_plan.specs.Report.{Report}
use Rattle.of_report.specs.StoreText.{register_lines}

-- the sum of the numbers at all keys
abbrev pub sum_of_values : Store → ℕ
sum_of_values s = sum_by (λ e. e.1) (fm.entries s.keys)

-- two lines: how many keys a store has, and the sum of the numbers at them
abbrev pub sum_lines : Store → List ℕ
sum_lines s =
    (codes "keys " ++ decimal (fm.len s.keys) ++ codes "\n") ++ codes "values "
    ++ decimal (sum_of_values s) ++ codes "\n"

-- the text of a load's report: how many callers and entries there are, the registers that aren't 0,
-- how many keys there are, and the sum of the numbers at these keys
abbrev pub load_text : Report → List ℕ
load_text r =
    ((((codes "onefile load 1\n" ++ codes "callers " ++ decimal (length r.callers) ++ codes "\n")
    ++ codes "calls " ++ decimal (length r.entries) ++ codes "\n")
    ++ register_lines r.store) ++ sum_lines r.store) ++ codes "end\n"
