-- The uptimes of a journal: those that a wheel can be asked about.
use Rattle.std.proofs.Common.{arith, List, get_or}
use Rattle.std.specs.List.{All}
use Rattle.std.proofs.lemmas.Int.{ints}
use Rattle.std.proofs.lemmas.Option.{slice_get-get_or}
use Rattle.ff_hands.specs.Bounds.{IsBounded}
use Rattle.ff_hands.specs.Journals.{IsJournal}
use Rattle.ff_hands.specs.declared.hands.Hands.{Hands}
use Rattle.ff_hands.proofs.Sounding.{sound-bounded}
use Rattle.ff_hands.proofs.Ticks.{tick-sound}
use Rattle.callouts.specs.Firings.{IsUptime}

bounded_uptime : (h : Hands) → IsBounded h → IsUptime h
bounded_uptime h is = (omega (arith, ints, is.uptime_low), omega (arith, ints, is.uptime_high, is.count))

pub uptimes : (ticks : List Hands) → IsJournal ticks → All IsUptime ticks
uptimes ticks is k d l =
    let h = get_or ticks k d in
    bounded_uptime h (sound-bounded h (tick-sound ticks is k h (slice_get-get_or ticks k d l)))
