-- The loads of a tick, and the values of loads.
use Rattle.std.specs.Prelude.{ℕ, ◌+◌, ◌*◌, List, [], ◌∷◌, ◌++◌}
use Rattle.tick_reads.specs.declared.loads.Load.{Load}
use Rattle.tick_reads.specs.declared.loads.Load.TheVariants.{Turn, Field, Mark, Counter}

-- the mark of a tick's slot while the fields of tick m stand there
abbrev pub full_mark : ℕ → ℕ
full_mark m = 2 * m + 2

-- the fields of a tick from number f on
abbrev pub fields_from : ℕ → ℕ → List ℕ → List Load
fields_from m f [] = []
fields_from m f (x ∷ xs) = Field m f x ∷ fields_from m (f + 1) xs

-- a look at a tick: its fields, and then its mark
abbrev pub look : ℕ → List ℕ → ℕ → List Load
look m fields x = fields_from m 0 fields ++ Mark m x ∷ []

-- the values of the turn word that were loaded, and those of the counter
abbrev pub turns_in : List Load → List ℕ
turns_in [] = []
turns_in (Turn x ∷ ls) = x ∷ turns_in ls
turns_in (Field t f x ∷ ls) = turns_in ls
turns_in (Mark t x ∷ ls) = turns_in ls
turns_in (Counter x ∷ ls) = turns_in ls

abbrev pub counters_in : List Load → List ℕ
counters_in [] = []
counters_in (Turn x ∷ ls) = counters_in ls
counters_in (Field t f x ∷ ls) = counters_in ls
counters_in (Mark t x ∷ ls) = counters_in ls
counters_in (Counter x ∷ ls) = x ∷ counters_in ls
