use Rattle.of_cells.proofs.calling.call_with.Given as goal

abbrev pub ghosts-call_counted : goal.ghosts-call_counted
ghosts-call_counted g a = record { name = a.blank.name; parts = 1 }

abbrev pub ghosts-call_counted-2 : goal.ghosts-call_counted-2
ghosts-call_counted-2 g a = record { name = a.blank.name; parts = 1 }
