-- Loads over a small journal.
use Rattle.std.specs.Prelude.{ℕ, List, ◌++◌}
use Rattle.ff_hands.specs.Samples.{on}
use Rattle.clock_lines.specs.declared.readings.Kind.{Kind}
use Rattle.hand_words.specs.Words.{pack}
use Rattle.tick_reads.specs.Looks.{look, full_mark}
use Rattle.tick_reads.specs.declared.loads.Ask.{Ask}
use Rattle.tick_reads.specs.declared.loads.Load.{Load}

-- a call of a kind that is given nothing
abbrev pub asking : Kind → Ask
asking k = record { kind = k; given = 0 }

-- a look at a plain tick of the count n, whose mark stands
abbrev pub looks_on : ℕ → ℕ → List Load
looks_on m n = look m (pack (on n)) (full_mark m)

-- looks at the newest tick and eight older ones
abbrev pub nine_looks : List Load
nine_looks = looks_on 12 140 ++ looks_on 11 130 ++ looks_on 10 120 ++ looks_on 9 110 ++ looks_on 8 100 ++ looks_on 7 90 ++ looks_on 6 80
    ++ looks_on 5 70 ++ looks_on 4 60
