-- A wheel as contracts see it: its places, of which each has a live timer or none.
use Rattle.std.specs.Prelude.{◌≡◌, ◌⊎◌, ℕ, ◌+◌, pos, ◌≤ℤ◌, ◌<ℤ◌, ◌<◌, ◌≤◌, ◌^◌, Option, Some, None, List, length, replicate, set, slice_index_or}
use Rattle.std.specs.List.{count_by}
use Rattle.std.specs.Option.{is_some}
use Rattle.ff_grain.specs.declared.bintime.Bintime.{Bintime}
use Rattle.ff_grain.specs.Grains.{number_of, of_grains}
use Rattle.callouts.specs.declared.timers.Entry.{Entry}
use Rattle.callouts.specs.declared.timers.Fired.{Fired}
use Rattle.callouts.specs.declared.timers.Timer.{Timer}

-- how many timers were ever added, and the places
pub record Kept : Type 0 where
  pub added : ℕ
  pub places : List (Option Entry)

-- the live timer at a place, if there is one
abbrev pub timer_in : List (Option Entry) → ℕ → Option Entry
timer_in ps p = slice_index_or ps p None

-- how many timers live
abbrev pub live_in : List (Option Entry) → ℕ
live_in ps = count_by is_some ps

abbrev pub room : Kept → ℕ
room k = length k.places

abbrev pub live : Kept → ℕ
live k = live_in k.places

-- no timers, in so many places
abbrev pub no_timers : ℕ → Kept
no_timers room = record { added = 0; places = replicate room None }

-- the timer that was added with this number lives
abbrev pub Lives : List (Option Entry) → ℕ → Type 0
Lives ps id = (p : ℕ) × (due : ℕ) × (timer_in ps p ≡ Some (record { id = id; due = due }))

-- a timer of this wheel, as it was added: where one with its number lives, it is at its place
abbrev pub IsOf : Kept → Timer → Type 0
IsOf k t = (p due : ℕ) → timer_in k.places p ≡ Some (record { id = t.id; due = due }) → p ≡ t.place

-- with one more timer, at this place
abbrev pub with_timer : Kept → ℕ → ℕ → Kept
with_timer k p due = record { added = k.added + 1; places = set k.places p (Some (record { id = k.added; due = due })) }

-- without the one at this place
abbrev pub without : Kept → ℕ → Kept
without k p = record k { places = set k.places p None }

-- the one fires before the other, or is the same: by due time, and then by id
abbrev pub IsNoLater : Entry → Entry → Type 0
IsNoLater e o = (e.due < o.due) ⊎ ((e.due ≡ o.due) × (e.id ≤ o.id))

-- the timer at a place is the first of all to fire
pub record IsFirst (ps : List (Option Entry)) (p : ℕ) (e : Entry) : Type 0 where
  pub lives : timer_in ps p ≡ Some e
  pub first : (q : ℕ) (o : Entry) → timer_in ps q ≡ Some o → IsNoLater e o

-- a due time, or a time that it is asked about: from 0 to below 2^110 grains, which are 2^46 s
pub record IsDue (t : Bintime) : Type 0 where
  pub low : pos 0 ≤ℤ number_of t
  pub high : number_of t <ℤ pos (2 ^ 110)

-- what is told of a timer that fires
abbrev pub fired_of : Entry → Fired
fired_of e = record { id = e.id; due = of_grains (pos e.due) }

-- at this time, in grains, this timer fires: it is the first of all, and due. It then lives no more
pub record Fires (old : Kept) (now : ℕ) (f : Fired) (new : Kept) : Type 0 where
  pub place : ℕ
  pub timer : Entry
  pub first : IsFirst old.places place timer
  pub due : timer.due ≤ now
  pub told : f ≡ fired_of timer
  pub grains : number_of f.due ≡ pos timer.due
  pub gone : new ≡ without old place

-- at this time no timer is due
abbrev pub NoneDue : Kept → ℕ → Type 0
NoneDue k now = (p : ℕ) (e : Entry) → timer_in k.places p ≡ Some e → now < e.due
