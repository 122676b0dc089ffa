use Rattle.std.proofs.Common.{[], refl}
use Rattle.std.proofs.lemmas.Result.{err_from_is_err_and}
use Rattle.rad_io.proofs.Chains.{wrote_nothing, wrote_more, broke}
use Rattle.capture_text.specs.Files.{answer_text}
use Rattle.capture_text.proofs.Listing.{listing-more, listing-breaks, listing-done}
use Rattle.capture_text.proofs.pushes.push_answers.Goals as goal

pub loop-answer-init : goal.loop-answer-init
loop-answer-init g c = record { listing = record { front = []; wrote = wrote_nothing _ _ _ _; whole = refl } }

pub returns-in_err-answer_line : goal.returns-in_err-answer_line
returns-in_err-answer_line g c =
    let sink = g.met.K.Sink in
    let once = c.in_err-answer_line.ensures in
    let p = err_from_is_err_and c.from_residual.result c.from_residual.ensures.1 in
    let one = broke _ _ _ _ _ _ [] _ [] (sink.appends _ _ _ _ once) (sink.cause _ _ _ _ once) (wrote_nothing _ _ _ _) once in
    rw p.1 (listing-breaks _ _ _ answer_text c.args.answers.now c.loop-answer.answer-index _ _ _ _ c.loop-answer-test.true c.loop-answer.invariant.listing one)

pub loop-answer-preserved : goal.loop-answer-preserved
loop-answer-preserved g c =
    let sink = g.met.K.Sink in
    let once = c.in_ok-answer_line.ensures in
    let one = wrote_more _ _ _ _ _ _ [] _ (sink.appends _ _ _ _ once) (sink.cause _ _ _ _ once) (wrote_nothing _ _ _ _) once in
    record { listing = listing-more _ _ _ answer_text c.args.answers.now c.loop-answer.answer-index _ _ _ _ c.loop-answer-test.true c.loop-answer.invariant.listing one }

pub returns : goal.returns
returns g c = listing-done _ _ _ answer_text c.args.answers.now c.loop-answer.answer-index _ _ c.loop-answer-test.false c.loop-answer.invariant.listing
