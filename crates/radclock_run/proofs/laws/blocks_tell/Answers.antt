use Rattle.radclock_run.specs.Runs.{ByBlocks}
use Rattle.radclock_run.proofs.Endings.{blocks-append, blocks-rose, complete-by, converts-by, done-by, headline-by, made-by, made-truth-by, none-by, ran-by, summary-by, truth-by, usage-by}
use Rattle.radclock_run.proofs.laws.blocks_tell.Goals as goal

pub returns-clause-done : goal.returns-clause-done
returns-clause-done g c =
    let s = g.met.S.Source in
    let k = g.met.K.Sink in
    done-by g.S.Source.left g.S.Source.faults g.S.Source.pull_gives s.consumes s.cause g.K.Sink.written g.K.Sink.faults
    (ByBlocks g.K.Sink.push_gives) (blocks-append g.K.Sink.written g.K.Sink.faults g.K.Sink.push_gives k.appends k.cause)
    (blocks-rose g.K.Sink.written g.K.Sink.faults g.K.Sink.push_gives k.appends k.cause)

pub returns-clause-headline : goal.returns-clause-headline
returns-clause-headline g c =
    let s = g.met.S.Source in
    let k = g.met.K.Sink in
    headline-by g.S.Source.left g.S.Source.faults g.S.Source.pull_gives s.consumes s.cause g.K.Sink.written g.K.Sink.faults
    (ByBlocks g.K.Sink.push_gives) (blocks-append g.K.Sink.written g.K.Sink.faults g.K.Sink.push_gives k.appends k.cause)
    (blocks-rose g.K.Sink.written g.K.Sink.faults g.K.Sink.push_gives k.appends k.cause)

pub returns-clause-summary : goal.returns-clause-summary
returns-clause-summary g c =
    let s = g.met.S.Source in
    let k = g.met.K.Sink in
    summary-by g.S.Source.left g.S.Source.faults g.S.Source.pull_gives s.consumes s.cause g.K.Sink.written g.K.Sink.faults
    (ByBlocks g.K.Sink.push_gives) (blocks-append g.K.Sink.written g.K.Sink.faults g.K.Sink.push_gives k.appends k.cause)
    (blocks-rose g.K.Sink.written g.K.Sink.faults g.K.Sink.push_gives k.appends k.cause)

pub returns-clause-truth : goal.returns-clause-truth
returns-clause-truth g c =
    let s = g.met.S.Source in
    let k = g.met.K.Sink in
    truth-by g.S.Source.left g.S.Source.faults g.S.Source.pull_gives s.consumes s.cause g.K.Sink.written g.K.Sink.faults
    (ByBlocks g.K.Sink.push_gives) (blocks-append g.K.Sink.written g.K.Sink.faults g.K.Sink.push_gives k.appends k.cause)
    (blocks-rose g.K.Sink.written g.K.Sink.faults g.K.Sink.push_gives k.appends k.cause)

pub returns-clause-made_truth : goal.returns-clause-made_truth
returns-clause-made_truth g c =
    let s = g.met.S.Source in
    let k = g.met.K.Sink in
    made-truth-by g.S.Source.left g.S.Source.faults g.S.Source.pull_gives s.consumes s.cause g.K.Sink.written g.K.Sink.faults
    (ByBlocks g.K.Sink.push_gives) (blocks-append g.K.Sink.written g.K.Sink.faults g.K.Sink.push_gives k.appends k.cause)
    (blocks-rose g.K.Sink.written g.K.Sink.faults g.K.Sink.push_gives k.appends k.cause)

pub returns-clause-none : goal.returns-clause-none
returns-clause-none g c =
    let s = g.met.S.Source in
    let k = g.met.K.Sink in
    none-by g.S.Source.left g.S.Source.faults g.S.Source.pull_gives s.consumes s.cause g.K.Sink.written g.K.Sink.faults
    (ByBlocks g.K.Sink.push_gives) (blocks-append g.K.Sink.written g.K.Sink.faults g.K.Sink.push_gives k.appends k.cause)
    (blocks-rose g.K.Sink.written g.K.Sink.faults g.K.Sink.push_gives k.appends k.cause)

pub returns-clause-usage : goal.returns-clause-usage
returns-clause-usage g c =
    let s = g.met.S.Source in
    let k = g.met.K.Sink in
    usage-by g.S.Source.left g.S.Source.faults g.S.Source.pull_gives s.consumes s.cause g.K.Sink.written g.K.Sink.faults
    (ByBlocks g.K.Sink.push_gives) (blocks-append g.K.Sink.written g.K.Sink.faults g.K.Sink.push_gives k.appends k.cause)
    (blocks-rose g.K.Sink.written g.K.Sink.faults g.K.Sink.push_gives k.appends k.cause)

pub returns-clause-complete : goal.returns-clause-complete
returns-clause-complete g c =
    let s = g.met.S.Source in
    let k = g.met.K.Sink in
    complete-by g.S.Source.left g.S.Source.faults g.S.Source.pull_gives s.consumes s.cause g.K.Sink.written g.K.Sink.faults
    (ByBlocks g.K.Sink.push_gives) (blocks-append g.K.Sink.written g.K.Sink.faults g.K.Sink.push_gives k.appends k.cause)
    (blocks-rose g.K.Sink.written g.K.Sink.faults g.K.Sink.push_gives k.appends k.cause)

pub returns-clause-converts : goal.returns-clause-converts
returns-clause-converts g c =
    let s = g.met.S.Source in
    let k = g.met.K.Sink in
    converts-by g.S.Source.left g.S.Source.faults g.S.Source.pull_gives s.consumes s.cause g.K.Sink.written g.K.Sink.faults
    (ByBlocks g.K.Sink.push_gives) (blocks-append g.K.Sink.written g.K.Sink.faults g.K.Sink.push_gives k.appends k.cause)
    (blocks-rose g.K.Sink.written g.K.Sink.faults g.K.Sink.push_gives k.appends k.cause)

pub returns-clause-made : goal.returns-clause-made
returns-clause-made g c =
    let s = g.met.S.Source in
    let k = g.met.K.Sink in
    made-by g.S.Source.left g.S.Source.faults g.S.Source.pull_gives s.consumes s.cause g.K.Sink.written g.K.Sink.faults
    (ByBlocks g.K.Sink.push_gives) (blocks-append g.K.Sink.written g.K.Sink.faults g.K.Sink.push_gives k.appends k.cause)
    (blocks-rose g.K.Sink.written g.K.Sink.faults g.K.Sink.push_gives k.appends k.cause)

pub returns-clause-ran : goal.returns-clause-ran
returns-clause-ran g c =
    let s = g.met.S.Source in
    let k = g.met.K.Sink in
    ran-by g.S.Source.left g.S.Source.faults g.S.Source.pull_gives s.consumes s.cause g.K.Sink.written g.K.Sink.faults (ByBlocks g.K.Sink.push_gives)
    (blocks-append g.K.Sink.written g.K.Sink.faults g.K.Sink.push_gives k.appends k.cause)
    (blocks-rose g.K.Sink.written g.K.Sink.faults g.K.Sink.push_gives k.appends k.cause)
