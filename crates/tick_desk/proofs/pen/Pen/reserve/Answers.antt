use Rattle.std.proofs.Common.{◌≡◌, ◌≤◌, ◌-◌, ◌+◌, ◌^◌, length, vec_len, vec_capacity, rules, arith, subst, sym, ap, false, true}
use Rattle.tick_desk.specs.Shows.{PenShows, room_of}
use Rattle.tick_desk.proofs.Pens.{room-most, room-below, room-there}
use Rattle.tick_desk.proofs.pen.Pen.reserve.Goals as goal

pub returns-then-n-len-clause-succeeds : goal.returns-then-n-len-clause-succeeds
returns-then-n-len-clause-succeeds c enough =
    let there : c.args.n ≤ room_of (vec_capacity c.self.inside.ticks) - vec_len c.self.inside.ticks = subst (λ (s : PenShows). c.args.n ≤ s.spare)
    (sym c.self.view_is) enough in
    let low = room-below c.args.n _ _ there in let many = c.if-n-len.true in let len = c.len.ensures in absurd (omega arith)
