use Rattle.ff_hands.proofs.Samples.{taken_journal, jumped_journal, steered_journal}
use Rattle.ff_hands.proofs.refusals.samples_are_journals.Goals as goal

pub returns-clause-taken : goal.returns-clause-taken
returns-clause-taken c = taken_journal

pub returns-clause-jumped : goal.returns-clause-jumped
returns-clause-jumped c = jumped_journal

pub returns-clause-steered : goal.returns-clause-steered
returns-clause-steered c = steered_journal
