use Rattle.stamp_maker.proofs.Accepting.{trip-first, trip-second}
use Rattle.stamp_maker.proofs.laws.round_trips_are_within.Goals as goal

pub returns : goal.returns
returns c = record { first_half = trip-first; second_half = trip-second }
