-- Made stamps lie in the made world.
use Rattle.std.proofs.Common.{ℕ, ◌≤ℤ◌, subst, arith}
use Rattle.std.proofs.lemmas.Int.{ints}
use Rattle.ff_grain.specs.Grains.{number_of}
use Rattle.ff_grain.specs.Periods.{nominal_period, lowest_period, highest_period}
use Rattle.world_times.specs.Worlds.{IsFit, LiesIn}
use Rattle.stamp_maker.specs.Worlds.{frequency, made_world}
use Rattle.stamp_maker.specs.MadeStamps.{made, stamp_of_made}
use Rattle.stamp_maker.proofs.Rounding.{number_of-true_time}
use Rattle.stamp_maker.proofs.Accepting.{made-forward, made-backward}

-- its period is one that is believed of its frequency
pub made-fits : IsFit frequency made_world
unfolding nominal_period lowest_period highest_period
made-fits = record { lowest = omega arith; highest = omega arith; start = omega (arith, ints); early = omega (arith, ints) }

pub made-lies : (number count i : ℕ) → LiesIn made_world (stamp_of_made (made number count i))
made-lies number count i = record {
  request = subst (λ z. z ≤ℤ number_of (stamp_of_made (made number count i)).tb) (number_of-true_time (made number count i).ta) (made-forward number count i);
  reply = subst (λ z. number_of (stamp_of_made (made number count i)).te ≤ℤ z) (number_of-true_time (made number count i).tf) (made-backward number count i);
}
