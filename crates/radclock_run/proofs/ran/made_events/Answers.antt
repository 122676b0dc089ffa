use Rattle.std.proofs.Common.{◌≡◌, ℕ, ◌+◌, ◌<◌, map, sym, ap, ◌∙◌, subst, arith}
use Rattle.stamp_maker.specs.MadeStamps.{made, stamp_of_made}
use Rattle.stamp_maker.specs.Worlds.{frequency}
use Rattle.ff_estimator.specs.Events.{AreOf}
use Rattle.stamp_text.specs.declared.lines.Item.TheVariants as item
use Rattle.radclock_run.specs.Gathered.{Gathered}
use Rattle.stamp_maker.proofs.MadeLists.{first_stamps}
use Rattle.radclock_run.proofs.Making.{made-none, made-next, next-taken}
use Rattle.radclock_run.proofs.ran.made_events.Goals as goal

pub loop-made-init : goal.loop-made-init
loop-made-init g c =
    let new = c.new-maker.ensures in
    let none : c.new-maker.result.made ≡ 0 = ap (λ m. m.made) new in
    record {
      of = (ap (λ m. m.number) new, ap (λ m. m.count) new);
      within = omega (arith, none);
      world = c.in_ok-watched.ensures.world ∙ c.made_world.ensures.value;
      gathered = made-none c.args.asked.now.number c.args.asked.now.count _ _ _ none c.in_ok-watched.ensures.stands c.new-events.ensures.items;
    }

pub loop-made-preserved : goal.loop-made-preserved
loop-made-preserved g c =
    let a = c.args.asked.now in
    let inv = c.loop-made.invariant in
    let i = c.loop-made.maker.made in
    let is : c.in-Some.made ≡ made a.number a.count i = c.in-Some.ensures.made ∙ ap (λ (n : ℕ). made n c.loop-made.maker.count i) inv.of.0
    ∙ ap (λ (n : ℕ). made a.number n i) inv.of.1 in
    let next : i + 1 ≡ c.next.new.self.made = sym (ap (λ m. m.made) c.in-Some.ensures.counted) in
    let less : i < a.count = omega (arith, c.in-Some.ensures.left, inv.of.1) in
    let more = c.in_ok-gather_made.ensures.gathered frequency (map item.Stamp (first_stamps a.number a.count i)) inv.gathered in
    record {
      of = (ap (λ m. m.number) c.in-Some.ensures.counted ∙ inv.of.0, ap (λ m. m.count) c.in-Some.ensures.counted ∙ inv.of.1);
      within = omega (arith, less, next);
      world = c.gather_made.ensures.world ∙ inv.world;
      gathered = subst (λ n. Gathered c.gather_made.new.watched.daemon c.gather_made.new.events.items frequency
          (map item.Stamp (first_stamps a.number a.count n))) next
          (made-next a.number a.count i c.stamp.result _ _ (c.stamp.ensures.value ∙ ap stamp_of_made is)
          (next-taken a.number a.count i c.stamp.result (c.stamp.ensures.value ∙ ap stamp_of_made is)) more);
    }

pub returns : goal.returns
returns g c =
    let a = c.args.asked.now in
    let inv = c.loop-made.invariant in
    subst (λ n. AreOf c.loop-made.events.items frequency (map item.Stamp (first_stamps a.number a.count n))) (c.in_default.ensures.made ∙ inv.of.1)
    inv.gathered.are
