use Rattle.std.proofs.Common.{◌*◌, ◌/◌}
use Rattle.offset_weights.specs.Weights.{aged_excess}
use Rattle.offset_weights.proofs.WeightLaws.{table_most}
use Rattle.offset_weights.proofs.weights.weight.Goals as goal

pub returns-clause-most : goal.returns-clause-most
returns-clause-most c = table_most c.weight_of_row.result (8 * aged_excess c.args.excess c.args.age / c.trip_scale.result) c.weight_of_row.ensures
