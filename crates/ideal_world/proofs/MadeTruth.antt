-- What is told of made stamps is true.
use Rattle.std.proofs.Common.{List, map, All, sym, subst, arith}
use Rattle.stamp_maker.specs.Worlds.{frequency, made_world}
use Rattle.stamp_maker.specs.MadeStamps.{made_stamps}
use Rattle.stamp_maker.proofs.Lying.{made-fits}
use Rattle.stamp_maker.proofs.MadeLists.{made-accepted, made-lie}
use Rattle.stamp_text.specs.declared.lines.Item.TheVariants as item
use Rattle.stamp_text.specs.declared.lines.Stamp.{Stamp}
use Rattle.world_times.specs.Worlds.{LiesIn}
use Rattle.ideal_world.proofs.MadeItems.{stamps-back, stamps-are-items}
use Rattle.world_laws.proofs.BoundsHold.{estimates-true}
use Rattle.world_laws.proofs.PlansGoBy.{readings-true}
use Rattle.ideal_world.specs.MadeTruth.{MadeEstimatesAreTrue, MadeTicksAreTrue}

pub made-estimates : MadeEstimatesAreTrue
made-estimates number count most = estimates-true frequency made_world (made_stamps number count) (omega arith) (omega arith) made-fits
    (made-accepted number count most) (made-lie number count)

pub made-ticks : MadeTicksAreTrue
made-ticks number count between beside ticks most is =
    let made : List Stamp = made_stamps number count in
    readings-true frequency between beside made_world (map item.Stamp made) ticks (omega arith) (omega arith) made-fits
    (stamps-are-items frequency made (made-accepted number count most))
    (subst (All (LiesIn made_world)) (sym (stamps-back made)) (made-lie number count)) is
