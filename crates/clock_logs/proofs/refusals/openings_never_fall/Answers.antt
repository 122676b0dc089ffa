use Rattle.std.proofs.Common.{Some, refl, arith}
use Rattle.ff_hands.specs.Samples.{ticks}
use Rattle.clock_logs.specs.Logs.{IsSince}
use Rattle.clock_logs.specs.declared.noted.Noted.{Noted}
use Rattle.clock_logs.specs.Samples.{rising}
use Rattle.clock_logs.proofs.Samples.{each_at, rise}
use Rattle.clock_logs.proofs.refusals.openings_never_fall.Goals as goal

pub returns-clause-not_current : goal.returns-clause-not_current
returns-clause-not_current c is = (let current = is.each 0 _ refl in omega arith)

pub returns-clause-falls : goal.returns-clause-falls
returns-clause-falls c is = (let order = is.rise 0 1 _ _ (omega arith) refl refl in omega arith)

pub returns-clause-rise : goal.returns-clause-rise
returns-clause-rise c = record {
  each = each_at (λ k (e : Noted). IsSince ticks e.entry e.opening) rising (refl, (refl, ((omega arith, omega arith), (tt, tt))));
  rise = λ i j d e order at then. rise (λ (n : Noted). Some n.opening) rising 0 refl i j d.opening e.opening d e order at then refl refl;
}
