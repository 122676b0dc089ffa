use Rattle.replay_run.proofs.tests.plan_of.Given as goal

abbrev pub ghosts-events_under : goal.ghosts-events_under
ghosts-events_under a = record { name = a.blank.name; parts = a.blank.parts }
