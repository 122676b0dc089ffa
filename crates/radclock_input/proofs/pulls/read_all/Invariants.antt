use Rattle.std.proofs.Common.{◌≡◌, ◌≤◌, ◌-◌, [], length}
use Rattle.radclock_input.specs.Pulled.{HasRead}
use Rattle.radclock_input.proofs.Pulling.{Underway}
use Rattle.radclock_input.proofs.pulls.read_all.Given as goal

abbrev pub invariant-loop-count : goal.invariant-loop-count
invariant-loop-count g l = record {
  few : l.taken ≤ l.most;
  sized : length l.room ≡ 4096;
  underway : (rules : g.I.Intake.Rules) → HasRead g.I.Intake.within g.I.Intake.reads rules l.initial.intake []
      → Underway g.S.Source.left g.S.Source.faults g.S.Source.pull_gives g.I.Intake.within g.I.Intake.reads l.initial.source l.source rules l.intake l.taken;
}

abbrev pub decreases-loop-count : goal.decreases-loop-count
decreases-loop-count g l = l.most - l.taken
