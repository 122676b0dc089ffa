use Rattle.std.proofs.Common.{rules, ◌≡◌, true, sym, subst}
use Rattle.clock_lines.specs.Readings.{newest}
use Rattle.ff_hands.specs.Journals.{Follows}
use Rattle.ff_hands.specs.Orders.{fits}
use Rattle.tick_table.proofs.tests.wind_up.Goals as goal

pub close_turn-requires-clause-follows : goal.close_turn-requires-clause-follows
close_turn-requires-clause-follows c = let fit : fits c.args.last.now c.load_counter-count.result c.args.order.now ≡ true = search rules in
    let same : newest c.set_mark.new.self.view.journal ≡ c.args.last.now = search rules in
    subst (λ h. Follows h c.wind-hands.result) (sym same) (subst (Follows c.args.last.now) (sym c.wind-hands.ensures.value)
    (c.windups_follow.ensures _ _ _ fit))
