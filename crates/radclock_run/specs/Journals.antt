-- The journal of ticks that a file's items make.
use Rattle.std.specs.Prelude.{ℕ, List, []}
use Rattle.ff_hands.specs.declared.hands.Hands.{Hands}
use Rattle.ff_estimator.specs.Events.{events_of}
use Rattle.replay_run.specs.Journals.{journal_of}
use Rattle.replay_run.specs.Plans.{plan_of}
use Rattle.radclock_input.specs.Inputs.{accepted_among}
use Rattle.radclock_input.specs.declared.files.ItemLine.{ItemLine}

-- the journal of a clock that is played what a file's accepted items say, at this frequency and with so many plain
-- steps between two of them
abbrev pub played_by : ℕ → ℕ → List ItemLine → List Hands
played_by freq ticks items = journal_of (plan_of freq (events_of freq (accepted_among freq [] items)) ticks)
