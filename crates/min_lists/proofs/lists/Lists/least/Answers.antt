use Rattle.std.proofs.lemmas.Option.{IfSome_then}
use Rattle.min_lists.proofs.Views.{head_is_least}
use Rattle.min_lists.proofs.lists.Lists.least.Goals as goal

pub returns-clause-least : goal.returns-clause-least
returns-clause-least c = λ all stands.
    let l = c.self.inside in
    let kept = rw (← c.self.view_is) at stands in
    IfSome_then c.least.result c.least.ensures.head (λ i is.
    let at = rw c.place.ensures.value at is in
    rw (← c.self.view_is, at.1) (head_is_least l.nodes l.count l.windows all c.args.which c.self.invariant kept at.0))
