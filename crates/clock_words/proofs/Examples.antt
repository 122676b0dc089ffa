-- What the definition of a line says of some words.
use Rattle.std.proofs.Common.{◌≡◌, [], ◌∷◌, false, true, None, Some, codes, refl}
use Rattle.std.specs.Str.{chars}
use Rattle.clock_words.specs.Lines.{command_in, make_row, replay_row, ticks_row}
use Rattle.clock_words.specs.Rows.{items_from, items_in}
use Rattle.clock_words.specs.declared.commands.Command.TheVariants as command
use Rattle.clock_words.specs.declared.commands.Report.TheVariants as report

-- in both spellings, in any order
apart : items_in ticks_row (codes "--ticks" ∷ codes "7" ∷ []) ≡ Some ((codes "ticks", codes "7") ∷ [])
unfolding items_in items_from
apart = refl

joined : items_in ticks_row (codes "--ticks=7" ∷ []) ≡ Some ((codes "ticks", codes "7") ∷ [])
unfolding items_in items_from
joined = refl

places : items_in make_row (codes "7" ∷ codes "3" ∷ []) ≡ Some ((codes "NUMBER", codes "7") ∷ (codes "COUNT", codes "3") ∷ [])
unfolding items_in items_from
places = refl

mixed : items_in replay_row (codes "--back" ∷ codes "--reads" ∷ codes "9" ∷ codes "--ticks=0" ∷ []) ≡ Some
    ((codes "back", codes "true") ∷ (codes "reads", codes "9") ∷ (codes "ticks", codes "0") ∷ [])
unfolding items_in items_from
mixed = refl

-- each name at most once
twice : items_in replay_row (codes "--ticks" ∷ codes "4" ∷ codes "--crank" ∷ codes "--ticks=4" ∷ []) ≡ None
unfolding items_in items_from
twice = refl

flag_twice : items_in replay_row (codes "--back" ∷ codes "--back" ∷ []) ≡ None
unfolding items_in items_from
flag_twice = refl

-- no flag with a value, no option without one, no flag for a value, and no `--`
flag_with_value : items_in replay_row (codes "--back=" ∷ []) ≡ None
unfolding items_in items_from
flag_with_value = refl

no_value : items_in replay_row (codes "--readers" ∷ []) ≡ None
unfolding items_in items_from
no_value = refl

flag_for_value : items_in replay_row (codes "--ticks" ∷ codes "--back" ∷ []) ≡ None
unfolding items_in items_from chars
flag_for_value = refl

dashes : items_in replay_row (codes "--" ∷ []) ≡ None
unfolding items_in items_from
dashes = refl

short : items_in replay_row (codes "-ticks" ∷ codes "4" ∷ []) ≡ None
unfolding items_in items_from
short = refl

-- values in their ranges, as numbers are written
most : command_in (codes "ticks" ∷ codes "--ticks=15" ∷ []) ≡ Some (command.Report (report.Ticks 15 None))
unfolding command_in items_in items_from
most = refl

-- options in either order, and one that is given is told even where it is 0
timers : command_in (codes "ticks" ∷ codes "--timers=0" ∷ codes "--ticks" ∷ codes "1" ∷ []) ≡ Some (command.Report (report.Ticks 1 (Some 0)))
unfolding command_in items_in items_from
timers = refl

most_timers : command_in (codes "ticks" ∷ codes "--ticks=1" ∷ codes "--timers" ∷ codes "1000" ∷ []) ≡ Some (command.Report (report.Ticks 1 (Some 1000)))
unfolding command_in items_in items_from
most_timers = refl

too_many_timers : command_in (codes "ticks" ∷ codes "--timers" ∷ codes "1001" ∷ []) ≡ None
unfolding command_in items_in items_from
too_many_timers = refl

one_more : command_in (codes "ticks" ∷ codes "--ticks=16" ∷ []) ≡ None
unfolding command_in items_in items_from
one_more = refl

empty_value : command_in (codes "ticks" ∷ codes "--ticks=" ∷ []) ≡ None
unfolding command_in items_in items_from
empty_value = refl

leading_zero : command_in (codes "make" ∷ codes "07" ∷ codes "3" ∷ []) ≡ None
unfolding command_in items_in items_from
leading_zero = refl

made : command_in (codes "make" ∷ codes "7" ∷ codes "3" ∷ []) ≡ Some (command.Make 7 3)
unfolding command_in items_in items_from
made = refl

-- flags and options of `replay`, each at its default where the words do not tell
plain_replay : command_in (codes "replay" ∷ []) ≡ Some (command.Report (report.Replay 4 2 100 false false false false))
unfolding command_in items_in items_from
plain_replay = refl

full_replay : command_in (codes "replay" ∷ codes "--crank" ∷ codes "--readers=16" ∷ codes "--ticks" ∷ codes "15" ∷ codes "--back" ∷ codes "--utc"
    ∷ codes "--reads" ∷ codes "16384" ∷ []) ≡ Some (command.Report (report.Replay 15 16 16384 true true true false))
unfolding command_in items_in items_from
full_replay = refl

one_flag : command_in (codes "replay" ∷ codes "--reads=0" ∷ codes "--crank" ∷ []) ≡ Some (command.Report (report.Replay 4 2 0 false true false false))
unfolding command_in items_in items_from
one_flag = refl

with_lane : command_in (codes "replay" ∷ codes "--ticks" ∷ codes "1" ∷ codes "--readers" ∷ codes "0" ∷ codes "--lane" ∷ [])
    ≡ Some (command.Report (report.Replay 1 0 100 false false false true))
unfolding command_in items_in items_from
with_lane = refl

lane_with_crank : command_in (codes "replay" ∷ codes "--lane" ∷ codes "--crank" ∷ []) ≡ None
unfolding command_in items_in items_from
lane_with_crank = refl

one_reader_more : command_in (codes "replay" ∷ codes "--readers=17" ∷ []) ≡ None
unfolding command_in items_in items_from
one_reader_more = refl

one_read_more : command_in (codes "replay" ∷ codes "--reads=16385" ∷ []) ≡ None
unfolding command_in items_in items_from
one_read_more = refl

replay_with_place : command_in (codes "replay" ∷ codes "7" ∷ []) ≡ None
unfolding command_in items_in items_from
replay_with_place = refl

flag_of_another : command_in (codes "ticks" ∷ codes "--back" ∷ []) ≡ None
unfolding command_in items_in items_from
flag_of_another = refl

-- `run`, whose flag stands last
plain_run : command_in (codes "run" ∷ codes "7" ∷ codes "4096" ∷ []) ≡ Some (command.Run 7 4096 false)
unfolding command_in items_in items_from
plain_run = refl

one_stamp_more : command_in (codes "run" ∷ codes "7" ∷ codes "4097" ∷ []) ≡ None
unfolding command_in items_in items_from
one_stamp_more = refl

flag_last : command_in (codes "run" ∷ codes "7" ∷ codes "3" ∷ codes "--ideal" ∷ []) ≡ Some (command.Run 7 3 true)
unfolding command_in items_in items_from
flag_last = refl

flag_between : command_in (codes "run" ∷ codes "7" ∷ codes "--ideal" ∷ codes "3" ∷ []) ≡ None
unfolding command_in items_in items_from
flag_between = refl
