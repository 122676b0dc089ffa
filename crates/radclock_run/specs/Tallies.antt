-- What a tally counts while a report is written.
use Rattle.std.specs.Prelude.{◌≡◌, ◌+◌, ◌&&◌, List, length, count_by, is_ok, is_err, Result, if◌then◌else◌}
use Rattle.stamp_text.specs.Past.{seen_of, stamps_of}
use Rattle.stamp_text.specs.declared.accepts.Refused.{Refused}
use Rattle.stamp_text.specs.declared.lines.Head.{Head}
use Rattle.stamp_text.specs.declared.lines.Item.{Item}
use Rattle.radclock_run.specs.Reports.{Outcome, is_stamp, is_taken, refused_in}
use Rattle.radclock_run.specs.declared.reports.Tally.{Tally}

-- a value and a tally stand for these accepted items
pub record StandsAt {T : Type 0} (stands : T → Head → List Item → Type 0) (telling : T) (head : Head) (tally : Tally) (items : List Item) : Type 0 where
  pub stood : stands telling head items
  pub count : length (stamps_of items) ≡ tally.accepted
  pub seen : tally.past ≡ seen_of items

-- a tally gained the answer to an item
pub record Counts (old new : Tally) (x : Item) (answer : Result (Unit {0}) Refused) : Type 0 where
  pub accepted : new.accepted ≡ (if is_stamp x && is_ok answer then 1 else 0) + old.accepted
  pub refused : new.refused ≡ (if is_err answer then 1 else 0) + old.refused

-- a tally counts all outcomes
pub record CountsAll (t : Tally) (q : List Outcome) : Type 0 where
  pub accepted : t.accepted ≡ count_by is_taken q
  pub refused : t.refused ≡ refused_in q
