use Rattle.std.proofs.Common.{sym, subst}
use Rattle.ff_hands.specs.Bounds.{IsBounded}
use Rattle.ff_hands.specs.Journals.{IsSound}
use Rattle.ff_hands.proofs.Winding.{wind-bounded, line-goes_on, uptime-goes_on}
use Rattle.ff_hands.proofs.Sounding.{sound-bounded, sound-wound}
use Rattle.ff_hands.proofs.windups.wind.Goals as goal

pub wound-requires-clause-bounded : goal.wound-requires-clause-bounded
wound-requires-clause-bounded c = sound-bounded c.args.h.now c.requires.sound

pub returns-clause-sound : goal.returns-clause-sound
returns-clause-sound c = subst IsSound (sym c.wound.ensures) (sound-wound c.args.h.now c.args.count c.args.o.now c.requires.sound c.requires.fits)

pub returns-clause-slope : goal.returns-clause-slope
returns-clause-slope c =
    let is = subst IsBounded (sym c.wound.ensures) (wind-bounded c.args.h.now c.args.count c.args.o.now (sound-bounded c.args.h.now c.requires.sound)
    c.requires.fits) in
    (is.slope_low, is.slope_high)

pub returns-clause-line : goal.returns-clause-line
returns-clause-line c = rw c.wound.ensures (line-goes_on c.args.h.now c.args.count c.args.o.now)

pub returns-clause-uptime : goal.returns-clause-uptime
returns-clause-uptime c = rw c.wound.ensures (uptime-goes_on c.args.h.now c.args.count c.args.o.now)
