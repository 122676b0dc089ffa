use Rattle.std.proofs.Common.{◌==◌, sym, ◌∙◌}
use Rattle.stamp_text.proofs.PlaceLaws.{place_none}
use Rattle.stamp_text.proofs.cuts.cut_at.Goals as goal

pub returns-in_err-at-clause-none : goal.returns-in_err-at-clause-none
returns-in_err-at-clause-none c = rw c.from_residual.ensures (place_none (λ b. b == c.args.byte) c.args.text.now (sym c.place_of.ensures ∙ c.in_err-at.was))
