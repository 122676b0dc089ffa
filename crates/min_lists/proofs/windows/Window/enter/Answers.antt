use Rattle.min_lists.proofs.Lows.{lows_next}
use Rattle.min_lists.proofs.windows.Window.enter.Goals as goal

pub returns-then-before-self-clause-cost : goal.returns-then-before-self-clause-cost
returns-then-before-self-clause-cost g c =
    rw (c.link_behind.ensures.from, c.link_behind.ensures.to) (lows_next _ _ _ _ _ _ _ c.link_behind.ensures.trips c.requires.linked.ends
    c.before_next-before.ensures.before c.before_next-before.ensures.cost)

pub returns-else-before-self-clause-cost : goal.returns-else-before-self-clause-cost
returns-else-before-self-clause-cost g c =
    rw (c.link_alone.ensures.from, c.link_alone.ensures.to) (lows_next _ _ _ _ _ _ _ c.link_alone.ensures.trips c.requires.linked.ends
    c.before_next-before.ensures.before c.before_next-before.ensures.cost)
