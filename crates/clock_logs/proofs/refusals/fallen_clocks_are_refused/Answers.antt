use Rattle.std.proofs.Common.{arith}
use Rattle.clock_logs.specs.Rises.{line, uptime}
use Rattle.ff_hands.specs.Samples.{ticks}
use Rattle.clock_logs.proofs.Samples.{same_tick, two_rise}
use Rattle.clock_logs.proofs.refusals.fallen_clocks_are_refused.Goals as goal

pub returns-clause-mono : goal.returns-clause-mono
returns-clause-mono c rises = (let order = two_rise ticks line _ _ rises tt tt (omega arith) (same_tick line ticks 2) in grind arith)

pub returns-clause-back : goal.returns-clause-back
returns-clause-back c rises = (let order = two_rise ticks line _ _ rises tt tt (omega arith) (same_tick line ticks 2) in grind arith)

pub returns-clause-uptime : goal.returns-clause-uptime
returns-clause-uptime c rises = (let order = two_rise ticks uptime _ _ rises tt tt (omega arith) (same_tick uptime ticks 2) in grind arith)

pub returns-clause-at_one_count : goal.returns-clause-at_one_count
returns-clause-at_one_count c rises = (let order = two_rise ticks line _ _ rises tt tt (omega arith) (same_tick line ticks 2) in grind arith)
