use Rattle.std.proofs.Common.{refl}
use Rattle.radclock_run.proofs.Next.{stands-next, more-stamps}
use Rattle.radclock_run.proofs.reports.push_item.Goals as goal

pub returns-in_ok-push_accepted-in-Ok-clause-next : goal.returns-in_ok-push_accepted-in-Ok-clause-next
returns-in_ok-push_accepted-in-Ok-clause-next g c items at =
    stands-next g.T.Telling.stands _ _ c.args.head.now c.args.tally.now _ items c.args.x.now.item at c.in-Ok.ensures.test c.in-Ok.ensures.after
    (more-stamps c.args.x.now.item _ _ c.stamps_in.result refl c.stamps_in.ensures)
    (λ answer. c.in_ok-push_accepted-in-Ok.ensures.stands c.args.head.now items at.count at.stood answer)
