use Rattle.std.proofs.Common.{◌≡◌, ◌≤◌, vec_capacity}
use Rattle.replay_run.specs.Logs.{tried_by}
use Rattle.replay_run.proofs.Reading.{Reads}
use Rattle.replay_run.proofs.reader.read_all.Given as goal

abbrev pub invariant-loop-k : goal.invariant-loop-k
invariant-loop-k g l = record {
  reads : Reads l.freq (tried_by l.options) l.entries.items l.pass l.k l.latest;
  room : l.options.reads ≤ vec_capacity l.entries;
  table : l.pass.table ≡ l.initial.pass.table;
  number : l.pass.view.number ≡ l.log.reader;
}
