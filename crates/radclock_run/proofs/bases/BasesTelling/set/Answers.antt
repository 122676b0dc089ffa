use Rattle.std.proofs.Common.{sym, ◌∙◌, subst, append-nil}
use Rattle.stamp_text.specs.Past.{stamps_of}
use Rattle.stamp_text.specs.declared.lines.Item.TheVariants as item
use Rattle.stamp_text.proofs.PastLaws.{stamps-push}
use Rattle.rtt_window.specs.Windows.{StandsFor}
use Rattle.radclock_run.proofs.bases.BasesTelling.set.Goals as goal

pub returns : goal.returns
returns g c head accepted at was answer = subst (StandsFor c.args.self.now.window head.freq)
    (sym (stamps-push accepted (item.Set c.args._count at) ∙ append-nil (stamps_of accepted))) was
