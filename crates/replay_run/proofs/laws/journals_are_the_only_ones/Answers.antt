use Rattle.replay_run.proofs.Journals.{journal-by, journal-only}
use Rattle.replay_run.proofs.laws.journals_are_the_only_ones.Goals as goal

pub returns-clause-told : goal.returns-clause-told
returns-clause-told c steps ticks is counts orders = journal-only steps ticks (journal-by steps ticks is counts orders)

pub returns-clause-exact : goal.returns-clause-exact
returns-clause-exact c = journal-only
