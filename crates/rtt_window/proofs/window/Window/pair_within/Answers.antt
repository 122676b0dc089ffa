use Rattle.std.proofs.Common.{◌≡◌, ◌∙◌, length, min, ap, refl, subst, arith}
use Rattle.min_lists.specs.declared.which.Which.TheVariants.{WideOld, WideNew, NearOld, NearNew}
use Rattle.rtt_window.specs.Pairs.{pair_of}
use Rattle.rtt_window.specs.Windows.{Kept}
use Rattle.rtt_window.proofs.Pairing.{pair_of-spans}
use Rattle.rtt_window.proofs.window.Window.pair_within.Goals as goal

pub returns-in-1024 : goal.returns-in-1024
returns-in-1024 c =
    let k = c.args.self.now in
    let few = subst (λ (k : Kept). length k.stamps ≡ min 1024 k.count) c.self.view_is c.self.invariant.few in
    ap (λ n. pair_of n k.stamps) c.in-1024.is ∙ pair_of-spans 1024 k WideOld WideNew c.least_in.result c.least_in-in-1024.result (omega arith)
    (omega arith) few c.requires.some refl refl c.least_in.ensures.value c.least_in-in-1024.ensures.value

pub returns-in-64 : goal.returns-in-64
returns-in-64 c =
    let k = c.args.self.now in
    let few = subst (λ (k : Kept). length k.stamps ≡ min 1024 k.count) c.self.view_is c.self.invariant.few in
    ap (λ n. pair_of n k.stamps) c.in-64.is ∙ pair_of-spans 64 k NearOld NearNew c.least_in-in-64.result c.least_in-in-64-2.result (omega arith)
    (omega arith) few c.requires.some refl refl c.least_in-in-64.ensures.value c.least_in-in-64-2.ensures.value
