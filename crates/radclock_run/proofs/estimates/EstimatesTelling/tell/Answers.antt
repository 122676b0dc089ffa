use Rattle.radclock_run.proofs.Next.{not-refused}
use Rattle.radclock_run.proofs.estimates.EstimatesTelling.tell.Goals as goal

pub unreachable-requires : goal.unreachable-requires
unreachable-requires g c =
    let next = c.requires.next in
    not-refused _ _ c.in-Refused.field-0 next.answer (c.in-Refused.ensures.answer next.head.freq next.accepted next.stood.1)
