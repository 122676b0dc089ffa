use Rattle.std.proofs.Common.{ℕ, ℤ, sym, subst, arith}
use Rattle.ff_estimator.specs.Daemons.{IsTakenBounded}
use Rattle.ff_estimator.specs.declared.choices.Taken.{Taken}
use Rattle.ff_estimator.proofs.Bounds.{IsWithin, predicted-within, chosen-bounded}
use Rattle.ff_estimator.proofs.daemon.taken_at.Goals as goal

pub returns-clause-bounded : goal.returns-clause-bounded
returns-clause-bounded c =
    let t = c.args.t.now in
    let rate = c.args.rates.now.global in
    let bounded = c.requires.bounded in
    let order = c.requires.order.0 in
    let within : IsWithin c.predicted_by-predicted.result c.args.now = subst (λ (p : ℤ × ℕ). IsWithin p c.args.now)
    (sym c.predicted_by-predicted.ensures) (predicted-within rate t c.args.before c.args.now (omega arith) c.requires.bound c.requires.later bounded) in
    subst (λ (t : Taken). IsTakenBounded t c.args.now) (sym c.chosen.ensures)
    (chosen-bounded _ t.run c.predicted_by-predicted.result c.mean_at-mean.result c.args.now bounded.run within c.mean_at-mean.ensures.time
    c.mean_at-mean.ensures.spread)
