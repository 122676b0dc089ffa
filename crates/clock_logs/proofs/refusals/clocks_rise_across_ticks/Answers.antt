use Rattle.std.proofs.Common.{List, [], ◌∷◌, refl, arith}
use Rattle.ff_hands.proofs.Samples.{at_two, at_three, taken_journal}
use Rattle.clock_lines.specs.Values.{value_of, bound_of}
use Rattle.clock_lines.specs.declared.readings.Entry.{Entry}
use Rattle.clock_logs.specs.Logs.{IsLog}
use Rattle.clock_logs.specs.Samples.{earlier, later}
use Rattle.clock_logs.proofs.Climbs.{logs-rise}
use Rattle.ff_hands.specs.Samples.{ticks, warm_ticks}
use Rattle.clock_logs.specs.Rises.{line, uptime}
use Rattle.clock_logs.proofs.Samples.{each_at, legal_by, next_tick, one_rises, two_rise}
use Rattle.clock_logs.proofs.refusals.clocks_rise_across_ticks.Goals as goal

pub returns-clause-plain : goal.returns-clause-plain
returns-clause-plain c rises = (let order = two_rise ticks line _ _ rises tt tt (omega arith)
    (next_tick line ticks 2 _ refl (grind arith, grind arith)) in grind arith)

pub returns-clause-take : goal.returns-clause-take
returns-clause-take c rises = (let order = two_rise ticks line _ _ rises tt tt (omega arith)
    (next_tick line ticks 1 _ refl (grind arith, grind arith)) in grind arith)

pub returns-clause-jump : goal.returns-clause-jump
returns-clause-jump c rises = (let order = two_rise warm_ticks uptime _ _ rises tt tt (omega arith)
    (next_tick uptime warm_ticks 1 _ refl (grind arith)) in grind arith)

pub returns-clause-of_one_reader : goal.returns-clause-of_one_reader
returns-clause-of_one_reader c rises = (let order = one_rises ticks line _ _ rises tt tt (omega arith)
    (next_tick line ticks 2 _ refl (grind arith, grind arith)) in grind arith)

earlier_legal : IsLog ticks earlier
unfolding value_of bound_of
earlier_legal = legal_by ticks earlier (search (at_two, arith), tt) refl refl

later_legal : IsLog ticks later
unfolding value_of bound_of
later_legal = legal_by ticks later (search (at_three, arith), tt) refl refl

pub returns-clause-rises : goal.returns-clause-rises
returns-clause-rises c = logs-rise ticks (earlier ∷ later ∷ []) taken_journal
    (each_at (λ k (es : List Entry). IsLog ticks es) (earlier ∷ later ∷ []) (earlier_legal, (later_legal, tt)))
