use Rattle.replay_run.proofs.Journals.{journal-legal, journal-counts, journal-orders, journal-made}
use Rattle.replay_run.proofs.laws.journals_are_legal.Goals as goal

pub returns-clause-legal : goal.returns-clause-legal
returns-clause-legal c = journal-legal

pub returns-clause-counts : goal.returns-clause-counts
returns-clause-counts c = journal-counts

pub returns-clause-orders : goal.returns-clause-orders
returns-clause-orders c = journal-orders

pub returns-clause-made : goal.returns-clause-made
returns-clause-made c = journal-made
