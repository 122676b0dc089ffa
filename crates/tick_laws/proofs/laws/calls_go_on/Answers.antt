use Rattle.tick_laws.proofs.laws.calls_go_on.Goals as goal

pub returns-clause-seen : goal.returns-clause-seen
returns-clause-seen c = λ before after ask loads calls. calls.grows.seen

pub returns-clause-turns : goal.returns-clause-turns
returns-clause-turns c = λ before after ask loads calls. calls.grows.since

pub returns-clause-marks : goal.returns-clause-marks
returns-clause-marks c = λ before after ask loads calls. calls.grows.aged
