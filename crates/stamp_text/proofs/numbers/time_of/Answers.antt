use Rattle.std.proofs.Common.{Some, refl, ◌∙◌}
use Rattle.stamp_text.specs.Times.{nanos_in}
use Rattle.stamp_text.proofs.PlaceLaws.{time_whole, time_cut, time_told}
use Rattle.stamp_text.proofs.numbers.time_of.Goals as goal

pub returns-in-None-clause-time : goal.returns-in-None-clause-time
returns-in-None-clause-time c =
    let text = c.args.text.now in
    c.written_of.ensures.written ∙ time_told text text c.number_of.result (Some 0) (Some 0) (time_whole text c.in-None.ensures.none) c.number_of.ensures refl

pub returns-in-Some-clause-time : goal.returns-in-Some-clause-time
returns-in-Some-clause-time c =
    let text = c.args.text.now in
    let whole = c.in-Some.whole.now in
    let fraction = c.in-Some.fraction.now in
    let time = time_cut text whole fraction c.in-Some.ensures.found c.in-Some.ensures.before c.in-Some.ensures.behind in
    c.written_of-in-Some.ensures.written ∙ time_told text whole c.number_of-in-Some.result (nanos_in fraction) c.nanos_of.result time
    c.number_of-in-Some.ensures c.nanos_of.ensures.nanos
