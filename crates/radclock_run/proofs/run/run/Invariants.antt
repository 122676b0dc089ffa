use Rattle.radclock_run.proofs.run.run.Given as goal

abbrev pub ghosts-finish : goal.ghosts-finish
ghosts-finish g a = record { name = a.blank.name; parts = a.blank.parts }

abbrev pub ghosts-run_made : goal.ghosts-run_made
ghosts-run_made g a = record { name = a.blank.name; parts = a.blank.parts }
