use Rattle.std.proofs.Common.{[]}
use Rattle.rad_io.proofs.Chains.{wrote_nothing, writes_last}
use Rattle.report_text.specs.Text.{ideal_text}
use Rattle.radclock_run.proofs.ran.push_told.Goals as goal

pub returns-in-Some : goal.returns-in-Some
returns-in-Some g c =
    let sink = g.met.K.Sink in
    let f = c.in-Some.f in
    let last = c.ideal_line.ensures in
    rw c.in-Some.is (writes_last _ _ _ c.args.sink.now c.args.sink.now c.ideal_line.new.sink [] (ideal_text f.tick f.distance f.bound)
    c.ideal_line.result (sink.appends _ _ _ _ last) (sink.cause _ _ _ _ last) (wrote_nothing _ _ _ _) last)

pub returns-in-None : goal.returns-in-None
returns-in-None g c = rw c.in-None.is (wrote_nothing _ _ _ c.args.sink.now)
