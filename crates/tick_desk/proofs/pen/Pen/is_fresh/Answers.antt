use Rattle.std.proofs.Common.{◌≡◌, ◌≤◌, ◌<◌, not, Bool, true, false, length, rules, refl, arith, subst}
use Rattle.tick_desk.specs.contracts.pen.Pen.{the_view}
use Rattle.tick_desk.specs.Shows.{PenShows, new_pen}
use Rattle.tick_desk.proofs.Pens.{journal-some, cold-alone, none-kept}
use Rattle.tick_desk.proofs.pen.Pen.is_fresh.Goals as goal

pub returns-clause-fresh : goal.returns-clause-fresh
returns-clause-fresh c home =
    let i = c.self.invariant in
    let some-tick = journal-some c.self.inside.ticks.items i.legal in
    let many : c.len.result ≡ length c.self.inside.ticks.items = search rules in
    let few = c.if-len-gt1.false in
    let one : length c.self.inside.ticks.items ≡ 1 = omega arith in
    let low = c.if-self-gt0.false in
    let none = c.if-self-gt0-2.false in
    let top : c.self.inside.top ≡ 0 = omega arith in
    let made : c.self.inside.made ≡ 0 = omega arith in
    let out : c.self.inside.out ≡ false = search rules in
    let kept = none-kept c.self.inside.seat.view.kept c.self.inside.made (λ j k e. subst (λ m. k.number < m) i.made_is (i.given j k e)) made in
    subst (λ (s : PenShows). s ≡ new_pen s.table s.spare s.counters s.met) c.self.view_is
    (λ t. record (the_view c.self.inside) {
      journal = cold-alone c.self.inside.ticks.items i.legal one t;
      top = top t;
      out = out t;
      made = made t;
      kept = kept t;
    })
