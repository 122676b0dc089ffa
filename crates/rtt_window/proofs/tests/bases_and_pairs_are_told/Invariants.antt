use Rattle.rtt_window.proofs.tests.bases_and_pairs_are_told.Given as goal

abbrev pub ghosts-told_under : goal.ghosts-told_under
ghosts-told_under g a = record { name = a.blank.name; parts = a.blank.parts }
