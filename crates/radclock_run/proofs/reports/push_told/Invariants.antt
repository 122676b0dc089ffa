use Rattle.std.proofs.Common.{◌+◌, ◌≤◌}
use Rattle.report_text.specs.Text.{head_text}
use Rattle.radclock_run.proofs.Progress.{Progress}
use Rattle.radclock_run.proofs.reports.push_told.Given as goal

abbrev pub invariant-loop-x : goal.invariant-loop-x
invariant-loop-x g l = record {
  few : l.tally.accepted + l.tally.refused ≤ l.x-index;
  progress : Progress g.K.Sink.written g.K.Sink.faults g.K.Sink.push_gives g.T.Telling.stands (g.T.Telling.says l.file.head) l.file.head
      (head_text l.head) l.x-items l.x-index l.fn.sink l.sink l.telling l.tally;
}
