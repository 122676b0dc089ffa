use Rattle.std.proofs.Common.{◌≡◌, ◌-◌, ◌∙◌, ap, ap₂, subst, arith}
use Rattle.min_lists.specs.declared.which.Which.TheVariants as which
use Rattle.rtt_window.specs.Bases.{judged}
use Rattle.rtt_window.specs.declared.bases.Base.{Base}
use Rattle.rtt_window.specs.Windows.{Kept, least_in, judged_in}
use Rattle.rtt_window.proofs.window.Window.judge.Goals as goal

pub returns-clause-base : goal.returns-clause-base
returns-clause-base g c =
    let k = c.keep.new.self in
    let i = c.self.inside.count in
    let by : Kept → Base = λ k. judged k.freq k.start i c.least_trip-least.result c.least_trip-recent.result in
    let said : c.judged-answer.result ≡ by k = subst (λ k. c.judged-answer.result ≡ by k) c.self-2.view_is c.judged-answer.ensures.value in
    let here : i ≡ k.count - 1 = omega (arith, ap (λ (k : Kept). k.count) c.self.view_is, ap (λ (k : Kept). k.count) c.keep.ensures.kept) in
    said
    ∙ ap₂ (judged k.freq k.start i) c.least_trip-least.ensures c.least_trip-recent.ensures
    ∙ ap (λ i. judged k.freq k.start i (least_in k which.Base) (least_in k which.Recent)) here
    ∙ ap judged_in c.keep.ensures.kept
