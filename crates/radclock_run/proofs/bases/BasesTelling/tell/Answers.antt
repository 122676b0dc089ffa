use Rattle.std.proofs.Common.{◌∙◌, sym, subst}
use Rattle.stamp_text.specs.Past.{stamps_of}
use Rattle.stamp_text.specs.declared.lines.Item.TheVariants as item
use Rattle.stamp_text.proofs.PastLaws.{stamps-push}
use Rattle.rtt_window.specs.Windows.{StandsFor}
use Rattle.rtt_window.proofs.Keeping.{accept_of-kept}
use Rattle.radclock_run.proofs.Next.{by-times, on-ok}
use Rattle.radclock_run.proofs.bases.BasesTelling.tell.Goals as goal

pub add-base-requires-clause-accepted : goal.add-base-requires-clause-accepted
add-base-requires-clause-accepted g c =
    let next = c.requires.next in
    let s = c.args.stamp.now in
    accept_of-kept c.args.self.now.window next.head.freq (stamps_of next.accepted) s next.stood ∙ by-times next.head.freq next.accepted s next.answer

pub returns-clause-stands : goal.returns-clause-stands
returns-clause-stands g c =
    let s = c.args.stamp.now in
    on-ok c.base_line.result _ (λ head accepted many stood answer. subst (StandsFor c.add-base.new.self head.freq)
    (sym (stamps-push accepted (item.Stamp s))) (c.add-base.ensures.stands head.freq (stamps_of accepted) stood))
