use Rattle.plain_daemon.proofs.tests.the_daemon_answers_as_its_rules_say.Given as goal

abbrev pub ghosts-compared : goal.ghosts-compared
ghosts-compared g a = record { name = a.blank.name; parts = a.blank.parts }
