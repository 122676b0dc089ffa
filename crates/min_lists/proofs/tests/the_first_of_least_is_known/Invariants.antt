use Rattle.min_lists.proofs.tests.the_first_of_least_is_known.Given as goal

abbrev pub ghosts-least_under : goal.ghosts-least_under
ghosts-least_under g a = record { name = a.blank.name; parts = a.blank.parts }
