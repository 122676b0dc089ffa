use Rattle.radclock_run.proofs.replay.play_file.Goals as goal
use Rattle.radclock_run.proofs.replay.play_file.Goals.{then-lane+in_ok-logs, else-lane+in_ok-logs-2}

pub returns-clause-played : goal.returns-clause-played
returns-clause-played g c =
    elim c.if-lane.branch [
      | then-lane+in_ok-logs w ↦ rw (w.desk-is, w.logs-is) w.in_ok-logs.ensures.played
      | else-lane+in_ok-logs-2 w ↦ rw (w.desk-is, w.logs-is) w.in_ok-logs-2.ensures.played
    ]
