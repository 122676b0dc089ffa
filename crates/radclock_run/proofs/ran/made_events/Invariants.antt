use Rattle.std.proofs.Common.{◌≡◌, ◌≤◌, ◌-◌, map}
use Rattle.stamp_maker.specs.Worlds.{frequency}
use Rattle.radclock_run.specs.Gathered.{Gathered}
use Rattle.stamp_text.specs.declared.lines.Item.TheVariants as item
use Rattle.stamp_maker.specs.Worlds.{made_world}
use Rattle.stamp_maker.proofs.MadeLists.{first_stamps}
use Rattle.radclock_run.proofs.ran.made_events.Given as goal

abbrev pub invariant-loop-made : goal.invariant-loop-made
invariant-loop-made g l = record {
  of : (l.maker.number ≡ l.asked.number) × (l.maker.count ≡ l.asked.count);
  within : l.maker.made ≤ l.asked.count;
  world : l.watched.world ≡ made_world;
  gathered : Gathered l.watched.daemon l.events.items frequency (map item.Stamp (first_stamps l.asked.number l.asked.count l.maker.made));
}

abbrev pub decreases-loop-made : goal.decreases-loop-made
decreases-loop-made g l = l.asked.count - l.maker.made
