use Rattle.of_cells.proofs.calling.go_on_with.Given as goal

abbrev pub ghosts-go_on_counted : goal.ghosts-go_on_counted
ghosts-go_on_counted g a = record { name = a.blank.name; parts = 1 }

abbrev pub ghosts-go_on_counted-2 : goal.ghosts-go_on_counted-2
ghosts-go_on_counted-2 g a = record { name = a.blank.name; parts = 1 }
