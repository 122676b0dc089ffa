-- The live timers of a wheel as a list, each with its place.
use Rattle.std.specs.Prelude.{ℕ, ◌+◌, Option, Some, None, List, [], ◌∷◌}
use Rattle.callouts.specs.declared.timers.Entry.{Entry}
use Rattle.callouts.specs.declared.timers.Timer.{Timer}
use Rattle.callouts.specs.Timers.{Kept}

-- a timer that lives, and the grains of its due time
pub record Living : Type 0 where
  pub timer : Timer
  pub due : ℕ

-- the live timer at a place
abbrev pub living_at : ℕ → Entry → Living
living_at p e = record { timer = record { id = e.id; place = p }; due = e.due }

-- those of places, of which the first is the place p
abbrev pub listed_from : ℕ → List (Option Entry) → List Living
listed_from p [] = []
listed_from p (None ∷ ps) = listed_from (p + 1) ps
listed_from p (Some e ∷ ps) = living_at p e ∷ listed_from (p + 1) ps

-- those of a wheel
unfoldable pub listed : Kept → List Living
listed k = listed_from 0 k.places
