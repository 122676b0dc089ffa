use Rattle.std.proofs.Common.{[], ◌∷◌, map}
use Rattle.std.proofs.lemmas.Result.{err_from_is_err_and}
use Rattle.rad_io.proofs.Chains.{wrote_nothing, wrote_more, broke}
use Rattle.capture_text.specs.Files.{answer_text, stamp_lines}
use Rattle.capture_text.specs.Text.{version_text, freq_text}
use Rattle.capture_text.proofs.Pieces.{writes-on}
use Rattle.capture_text.proofs.pushes.push_stamps.Goals as goal

pub returns-in_err-version_line : goal.returns-in_err-version_line
unfolding stamp_lines
returns-in_err-version_line g c =
    let sink = g.met.K.Sink in
    let once = c.in_err-version_line.ensures in
    let p = err_from_is_err_and c.from_residual.result c.from_residual.ensures.1 in
    rw p.1 (broke _ _ _ _ _ _ [] version_text _ (sink.appends _ _ _ _ once) (sink.cause _ _ _ _ once) (wrote_nothing _ _ _ _) once)

pub returns-in_err-freq_line : goal.returns-in_err-freq_line
unfolding stamp_lines
returns-in_err-freq_line g c =
    let sink = g.met.K.Sink in
    let first = c.in_ok-version_line.ensures in
    let once = c.in_err-freq_line.ensures in
    let p = err_from_is_err_and c.from_residual-in_err-freq_line.result c.from_residual-in_err-freq_line.ensures.1 in
    let head = wrote_more _ _ _ _ _ _ [] version_text (sink.appends _ _ _ _ first) (sink.cause _ _ _ _ first) (wrote_nothing _ _ _ _) first in
    rw p.1 (broke _ _ _ _ _ _ (version_text ∷ []) (freq_text c.args.freq) _ (sink.appends _ _ _ _ once) (sink.cause _ _ _ _ once) head once)

pub returns : goal.returns
unfolding stamp_lines
returns g c =
    let sink = g.met.K.Sink in
    let first = c.in_ok-version_line.ensures in
    let second = c.in_ok-freq_line.ensures in
    let head = wrote_more _ _ _ _ _ _ [] version_text (sink.appends _ _ _ _ first) (sink.cause _ _ _ _ first) (wrote_nothing _ _ _ _) first in
    let both = wrote_more _ _ _ _ _ _ (version_text ∷ []) (freq_text c.args.freq) (sink.appends _ _ _ _ second) (sink.cause _ _ _ _ second) head second in
    writes-on _ _ _ _ _ _ (version_text ∷ freq_text c.args.freq ∷ []) (map answer_text c.args.answers.now) c.push_answers.result both c.push_answers.ensures
