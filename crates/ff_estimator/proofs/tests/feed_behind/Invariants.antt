use Rattle.ff_estimator.proofs.tests.feed_behind.Given as goal

abbrev pub ghosts-feed_under : goal.ghosts-feed_under
ghosts-feed_under a = record { name = a.blank.name; parts = a.blank.parts }
