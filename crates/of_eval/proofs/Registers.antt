-- Instructions that add to a register or take off it, on cells that they ask for.
use Rattle.std.proofs.Common.{◌≡◌, ℕ, ◌+◌, ◌-◌, ◌≤◌, subst, sym, Bool, Some, Ok, le-ltb}
use Rattle.of_mem.specs.declared.plot.Plot.{Plot}
use Rattle.of_mem.specs.Plots.{base}
use Rattle.of_mem.specs.Places.{register_at}
use Rattle.of_mem.specs.OnDemand.{Running, RunsOn, read_cell, write_cell}
use Rattle.of_mem.proofs.OnDemand.{runs_read, runs_write, runs_done}
use Rattle.of_script.specs.Language.{greatest}
use Rattle.of_script.specs.declared.instr.Instr.TheVariants.{Add, Sub}
use Rattle.of_eval.specs.Calls.{step}
use Rattle.of_eval.specs.ScriptPrograms.{answers_number, write_register, add_to, add_unless, sub_from, sub_unless}

module _ (plot : Plot) (r v : ℕ) (c d : Running) (a n : ℕ) (at : a ≡ register_at (base plot) r) (read : RunsOn (read_cell a) c d (Ok n)) where
  abbrev cell : ℕ
  cell = register_at (base plot) r

  first : RunsOn (read_cell cell) c d (Ok n)
  first = rw at at read

  module _ (e : Running) (new : ℕ) (write : RunsOn (write_cell a new) d e (Ok tt)) where
    wrote : RunsOn (write_cell cell new) d e (Ok tt)
    wrote = rw at at write

    written : RunsOn (write_register (base plot) r new) d e (Ok (Ok (Some new)))
    written = runs_write cell new (answers_number new) d e e (Ok (Ok (Some new))) wrote (runs_done e (Ok (Some new)) wrote.goes.knows)

  pub adds : (e : Running) → n + v ≤ greatest → RunsOn (write_cell a (n + v)) d e (Ok tt) → RunsOn (step plot (Add r v)) c e (Ok (Ok (Some (n + v))))
  adds e few write = runs_read cell n (add_to (base plot) r v) c d e (Ok (Ok (Some (n + v)))) first
      (subst (λ (t : Bool). RunsOn (add_unless (base plot) r (n + v) t) d e (Ok (Ok (Some (n + v))))) (sym (le-ltb greatest (n + v) few)) (written e (n + v) write))

  pub takes_off : (e : Running) → v ≤ n → RunsOn (write_cell a (n - v)) d e (Ok tt) → RunsOn (step plot (Sub r v)) c e (Ok (Ok (Some (n - v))))
  takes_off e few write = runs_read cell n (sub_from (base plot) r v) c d e (Ok (Ok (Some (n - v)))) first
      (subst (λ (t : Bool). RunsOn (sub_unless (base plot) r (n - v) t) d e (Ok (Ok (Some (n - v))))) (sym (le-ltb n v few)) (written e (n - v) write))
