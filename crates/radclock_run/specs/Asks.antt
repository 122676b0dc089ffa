-- What a report asks of its input.
use Rattle.std.specs.Prelude.{Bool, true, false}
use Rattle.clock_words.specs.declared.commands.Report.{Report}
use Rattle.clock_words.specs.declared.commands.Report.TheVariants as report

-- a report takes only so many accepted stamps and sets: one on ticks, or on a replay, keeps what they say in
-- memory
abbrev pub takes_few : Report → Bool
takes_few report.Stamps = false
takes_few report.Rtt = false
takes_few report.Estimate = false
takes_few (report.Ticks ticks timers) = true
takes_few (report.Replay ticks readers reads back crank utc lane) = true
