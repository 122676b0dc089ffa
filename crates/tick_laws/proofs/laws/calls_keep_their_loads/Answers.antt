use Rattle.tick_laws.proofs.laws.calls_keep_their_loads.Goals as goal

pub returns-clause-number : goal.returns-clause-number
returns-clause-number c = λ before after ask loads calls. calls.grows.number

pub returns-clause-turns : goal.returns-clause-turns
returns-clause-turns c = λ before after ask loads calls. calls.grows.turns

pub returns-clause-counters : goal.returns-clause-counters
returns-clause-counters c = λ before after ask loads calls. calls.grows.counters

pub returns-clause-marks : goal.returns-clause-marks
returns-clause-marks c = λ before after ask loads calls. calls.grows.marks
