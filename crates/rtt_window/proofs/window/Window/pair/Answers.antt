use Rattle.std.proofs.Common.{◌∙◌, sym, ap, subst, arith}
use Rattle.stamp_text.specs.Accepted.{AreAccepted}
use Rattle.rtt_window.specs.Pairs.{pair_of}
use Rattle.rtt_window.specs.Windows.{Kept}
use Rattle.rtt_window.proofs.Pairing.{pair_of-none, pair_of-kept, pair_of-accepted}
use Rattle.rtt_window.proofs.window.Window.pair.Goals as goal

pub returns-then-len-lt2-clause-value : goal.returns-then-len-lt2-clause-value
returns-then-len-lt2-clause-value c =
    sym (pair_of-none c.args.reach c.self.inside.stamps.items (omega arith)) ∙ ap (λ (k : Kept). pair_of c.args.reach k.stamps) c.self.view_is

pub returns-then-len-lt2-clause-all : goal.returns-then-len-lt2-clause-all
returns-then-len-lt2-clause-all c freq all was =
    returns-then-len-lt2-clause-value c ∙ ap (pair_of c.args.reach) was.stamps ∙ pair_of-kept c.args.reach all c.requires.kept

pub returns-clause-value : goal.returns-clause-value
returns-clause-value c =
    sym c.pair_within.ensures

pub returns-clause-all : goal.returns-clause-all
returns-clause-all c freq all was =
    returns-clause-value c ∙ ap (pair_of c.args.reach) was.stamps ∙ pair_of-kept c.args.reach all c.requires.kept

pub returns-clause-pair : goal.returns-clause-pair
returns-clause-pair c =
    pair_of-accepted c.args.self.now.freq c.args.reach c.args.self.now.stamps c.pair_within.result.0 c.pair_within.result.1
    (subst (λ (k : Kept). AreAccepted k.freq k.stamps) c.self.view_is c.self.invariant.accepted) (sym (returns-clause-value c))
