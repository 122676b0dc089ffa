use Rattle.std.proofs.Common.{refl}
use Rattle.offset_weights.proofs.WeightLaws.{weights_are_table, table_falls}
use Rattle.offset_weights.proofs.laws.weights_are_the_table.Goals as goal

pub returns : goal.returns
returns c = record { table = weights_are_table; len = refl; falling = table_falls }
