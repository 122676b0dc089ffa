use Rattle.std.proofs.Common.{◌≡◌, ℕ, ◌+◌, ◌-◌, ◌<◌, ◌≢◌, subst, sym, ap, arith, inl, inr}
use Rattle.std.proofs.lemmas.Bool.{cases_lt, cases_eq}
use Rattle.std.proofs.lemmas.Grind.{common_steps}
use Rattle.min_lists.specs.Lists.{lows}
use Rattle.min_lists.specs.Links.{IsBefore, trips_between}
use Rattle.min_lists.specs.Nodes.{trip_at}
use Rattle.min_lists.proofs.Lows.{lows_before}
use Rattle.min_lists.proofs.windows.Window.before_next.Goals as goal

pub loop-before-preserved : goal.loop-before-preserved
loop-before-preserved g c =
    let ns = c.args.nodes.now in
    let trip : ℕ → ℕ = trip_at ns in
    let from : ℕ = c.args.self.from in
    let last : ℕ = c.loop-before.before - 1 in
    let before : ℕ = c.link-before.result.before in
    let is : IsBefore trip from last before = subst (IsBefore trip from last) (sym (ap (λ l. l.before) c.link-before.ensures))
    (c.requires.linked.befores last (omega arith) (omega arith)) in
    let above_next : trip c.args.self.to < trip last = grind (arith, common_steps) in
    let one_more : last + 1 ≡ c.loop-before.before = omega arith in
    let fewer : lows (trips_between ns from c.loop-before.before) ≡ 1 + lows (trips_between ns from before) =
    subst (λ n. lows (trips_between ns from n) ≡ 1 + lows (trips_between ns from before)) one_more (lows_before trip from last before (omega arith) is) in
    record {
      within = omega (arith, is.within);
      above = λ j l m k. elim (cases_lt j last) [
        | inl before_last ↦ omega (arith, is.above j l m before_last)
        | inr not_before ↦ elim (cases_eq j last) [
          | inl e ↦ subst (λ q. trip c.args.self.to < trip q) (sym e) above_next
          | inr n ↦ let ne : j ≢ last = n in c.loop-before.invariant.above j l (omega arith) k
        ]
      ];
      forward = omega (arith, c.loop-before.invariant.forward, c.is_at_most.ensures.step);
      cost = omega (arith, c.loop-before.invariant.cost, c.is_at_most.ensures.step);
    }
