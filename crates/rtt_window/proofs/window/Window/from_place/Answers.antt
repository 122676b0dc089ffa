use Rattle.std.proofs.Common.{ap, ◌∙◌, subst}
use Rattle.std.specs.List.{All}
use Rattle.stamp_text.specs.Accepted.{IsInRange, IsPlausible}
use Rattle.rtt_window.proofs.Runs.{runs_from, rests_have}
use Rattle.rtt_window.proofs.window.Window.from_place.Goals as goal

pub returns-clause-value : goal.returns-clause-value
returns-clause-value c = runs_from c.args.from c.min-first.result c.min-rest.result _ _ _ (c.as_slices.ensures ∙ ap (λ k. k.stamps) c.self.view_is)
    c.min-first.ensures c.min-rest.ensures

pub returns-clause-timed : goal.returns-clause-timed
returns-clause-timed c =
    rests_have IsInRange c.min-first.result c.min-rest.result c.as_slices.result.0.now c.as_slices.result.1.now c.self.inside.stamps.items
    c.as_slices.ensures c.self.invariant.accepted.timed

pub returns-clause-sound : goal.returns-clause-sound
returns-clause-sound c =
    let all = subst (λ freq. All (IsPlausible freq) c.self.inside.stamps.items) (ap (λ k. k.freq) c.self.view_is) c.self.invariant.accepted.sound in
    rests_have (IsPlausible c.args.self.now.freq) c.min-first.result c.min-rest.result c.as_slices.result.0.now c.as_slices.result.1.now
    c.self.inside.stamps.items c.as_slices.ensures all
