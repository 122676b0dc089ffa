use Rattle.radclock_run.proofs.Next.{forward}
use Rattle.radclock_run.proofs.reports.push_accepted.Goals as goal

pub tell-requires-clause-forward : goal.tell-requires-clause-forward
tell-requires-clause-forward g c =
    let next = c.requires.next in
    forward next.head.freq next.accepted c.args.x.now c.in-Stamp.stamp c.in-Stamp.is next.answer
