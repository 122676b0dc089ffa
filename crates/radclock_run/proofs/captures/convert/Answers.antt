use Rattle.std.proofs.Common.{◌≡◌, ℕ, List, [], ◌∷◌, sym, ap, ◌∙◌, subst}
use Rattle.ntp_capture.specs.Grammar.{given}
use Rattle.report_text.specs.Text.{fault_text}
use Rattle.capture_text.specs.Files.{stamp_lines, lines_of_capture}
use Rattle.capture_text.specs.Inputs.{answers_of, freq_after}
use Rattle.capture_text.specs.declared.inputs.Answer.{Answer}
use Rattle.radclock_run.specs.Endings.{EndsWith}
use Rattle.radclock_run.specs.Statuses.{fault_of, status_of}
use Rattle.radclock_run.specs.declared.status.Status.TheVariants as status
use Rattle.radclock_run.proofs.Running.{run-converted, run-capture-stopped}
use Rattle.radclock_run.proofs.captures.convert.Goals as goal

pub returns-in-Ok : goal.returns-in-Ok
unfolding lines_of_capture
returns-in-Ok g c desk =
    let ok = c.in-Ok.ensures.ok in
    let ends : ℕ → List Answer → Type 0 = λ freq answers. EndsWith g.K.Sink.written g.K.Sink.faults g.K.Sink.push_gives c.args.sink.now
    (stamp_lines freq answers) status.Done c.push_file.result c.push_file.new.sink in
    let told : ends (freq_after 0 (given ok.text)) (answers_of (given ok.text)) = subst (ends (freq_after 0 (given ok.text))) ok.gave.answers
    (subst (λ freq. ends freq c.in-Ok.file.answers.items) ok.gave.freq c.push_file.ensures) in
    run-converted g.S.Source.pull_gives g.K.Sink.written g.K.Sink.faults g.K.Sink.push_gives ok.text _ _ _ _ desk _ ok.reads told

pub returns-in-Err : goal.returns-in-Err
returns-in-Err g c desk =
    let err = c.in-Err.ensures.err in
    let s = c.in-Err.stop in
    let ends : EndsWith g.K.Sink.written g.K.Sink.faults g.K.Sink.push_gives c.args.sink.now (fault_text (fault_of s) ∷ []) (status_of s)
    c.refuse.result c.refuse.new.sink = rw (← c.status_of.ensures, ← c.fault_of.ensures) c.refuse.ensures in
    run-capture-stopped g.S.Source.pull_gives g.K.Sink.written g.K.Sink.faults g.K.Sink.push_gives s err.text _ _ _ _ desk _ err.reads err.taken ends
