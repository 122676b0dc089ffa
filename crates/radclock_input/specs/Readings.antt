-- While a stamp file is read.
use Rattle.std.specs.Prelude.{◌≡◌, ℕ, ◌+◌, ◌^◌, ◌<◌, ◌≤◌, Bool, true, List, [], ◌∷◌, ◌++◌, length, None}
use Rattle.std.specs.List.{AllByRecursion}
use Rattle.stamp_text.specs.Accepted.{IsLineInRange, IsItemInRange, accepted_with}
use Rattle.stamp_text.specs.Format.{least_freq, greatest_freq}
use Rattle.stamp_text.specs.Grammar.{given, fault_so_far}
use Rattle.stamp_text.specs.Kept.{Kept, StandsFor}
use Rattle.stamp_text.specs.Past.{accept_item, counts_of, seen_of}
use Rattle.stamp_text.specs.declared.lines.Head.{Head}
use Rattle.stamp_text.specs.declared.lines.Item.{Item}
use Rattle.stamp_text.specs.declared.lines.Item.TheVariants as item
use Rattle.stamp_text.specs.declared.lines.Line.{Line}
use Rattle.stamp_text.specs.declared.lines.Line.TheVariants as gives
use Rattle.report_text.specs.declared.lines.Limit.TheVariants as limit
use Rattle.radclock_input.specs.Inputs.{most_items, most_accepted, items_in, no_head, head_after, accepted_among}
use Rattle.radclock_input.specs.declared.files.ItemLine.{ItemLine}
use Rattle.radclock_input.specs.declared.files.StampFile.{StampFile}
use Rattle.radclock_input.specs.declared.stops.Stop.{Stop}
use Rattle.radclock_input.specs.declared.stops.Stop.TheVariants as stop
use Rattle.radclock_input.specs.declared.quota.Quota.{Quota}

-- a quota stands for these accepted items, and counts the stamps and sets among them
pub record Counts (q : Quota) (items : List Item) : Type 0 where
  pub count : q.accepted ≡ length (counts_of items)
  pub seen : q.past ≡ seen_of items
  pub few : length (counts_of items) ≤ most_accepted

-- how much an item counts: one where it is a stamp or a set
abbrev pub weight_of : Item → ℕ
weight_of (item.Stamp s) = 1
weight_of (item.Set count at) = 1
weight_of (item.Leap count leap) = 0

-- an accepted item was counted
pub record IsCounted (old new : Quota) (x : Item) : Type 0 where
  pub same : new.limited ≡ old.limited
  pub past : new.past ≡ old.past
  pub count : new.accepted ≡ old.accepted + weight_of x
  pub few : old.accepted ≤ most_accepted → new.accepted ≤ most_accepted

-- with it there are too many
pub record IsOver (s : Stop) (q : Quota) (x : Item) : Type 0 where
  pub limit : s ≡ stop.Large limit.Accepted
  pub over : most_accepted < q.accepted + weight_of x

-- where accepted stamps and sets are limited, a quota stands for one more item if it is accepted
pub record Admits (old new : Quota) (freq : ℕ) (x : Item) : Type 0 where
  pub same : new.limited ≡ old.limited
  pub counts : old.limited ≡ true → (accepted : List Item) → Counts old accepted → Counts new (accepted_with accepted x (accept_item freq accepted x))

-- accepted stamps and sets are limited, and with one more they are too many
pub record IsSpent (s : Stop) (q : Quota) (freq : ℕ) (x : Item) : Type 0 where
  pub limit : s ≡ stop.Large limit.Accepted
  pub limited : q.limited ≡ true
  pub many : (accepted : List Item) → Counts q accepted → most_accepted < length (counts_of (accepted_with accepted x (accept_item freq accepted x)))

-- the accepted items behind accepted ones and a line
abbrev pub accepted_after : Head → List Item → Line → List Item
accepted_after head accepted line = accepted_among (head_after head (line ∷ [])).freq accepted (items_in (line ∷ []))

-- an item can be tested at this frequency
pub record CanTestItem (freq : ℕ) (x : Item) : Type 0 where
  pub low : least_freq ≤ freq
  pub high : freq ≤ greatest_freq
  pub range : IsItemInRange x

-- where a line gives an item, it can be tested
abbrev pub CanTest : ℕ → Line → Type 0
CanTest freq (gives.Head h) = Unit {0}
CanTest freq (gives.Stamp n s) = CanTestItem freq (item.Stamp s)
CanTest freq (gives.Set n count at) = CanTestItem freq (item.Set count at)
CanTest freq (gives.Leap n count leap) = CanTestItem freq (item.Leap count leap)

-- a file and a quota gained an item
pub record KeepsItem (old new : StampFile) (was is : Quota) (x : ItemLine) : Type 0 where
  pub head : new.head ≡ old.head
  pub items : new.items.items ≡ old.items.items ++ x ∷ []
  pub few : length new.items.items ≤ most_items
  pub same : is.limited ≡ was.limited
  pub counts : was.limited ≡ true → (accepted : List Item) → Counts was accepted
      → Counts is (accepted_with accepted x.item (accept_item old.head.freq accepted x.item))

-- a file has as many items as it may
pub record HasNoRoom (s : Stop) (file : StampFile) : Type 0 where
  pub limit : s ≡ stop.Large limit.Stamps
  pub full : most_items ≤ length file.items.items

-- a file has room for one more item, but the quota has none
pub record HasRoomAlone (s : Stop) (file : StampFile) (quota : Quota) (x : Item) : Type 0 where
  pub room : length file.items.items < most_items
  pub spent : IsSpent s quota file.head.freq x

-- what a file and a quota keep of these lines
pub record Gathers (limited : Bool) (file : StampFile) (quota : Quota) (lines : List Line) : Type 0 where
  pub head : file.head ≡ head_after no_head lines
  pub items : file.items.items ≡ items_in lines
  pub few : length (items_in lines) ≤ most_items
  pub ranged : AllByRecursion IsLineInRange lines
  pub same : quota.limited ≡ limited
  pub counts : limited ≡ true → Counts quota (accepted_among (head_after no_head lines).freq [] (items_in lines))

-- a file and a quota gained what a line gives
pub record Keeps (old new : StampFile) (was is : Quota) (line : Line) : Type 0 where
  pub head : new.head ≡ head_after old.head (line ∷ [])
  pub items : new.items.items ≡ old.items.items ++ items_in (line ∷ [])
  pub few : length old.items.items ≤ most_items → length new.items.items ≤ most_items
  pub same : is.limited ≡ was.limited
  pub counts : was.limited ≡ true → (accepted : List Item) → Counts was accepted → Counts is (accepted_after old.head accepted line)

-- a file has as many items as it may
pub record IsFull (s : Stop) (file : StampFile) (line : Line) : Type 0 where
  pub limit : s ≡ stop.Large limit.Stamps
  pub full : most_items < length (file.items.items ++ items_in (line ∷ []))

-- a file has room for a line, but the quota has none
pub record HasNoQuota (s : Stop) (file : StampFile) (quota : Quota) (line : Line) : Type 0 where
  pub limit : s ≡ stop.Large limit.Accepted
  pub limited : quota.limited ≡ true
  pub few : length (file.items.items ++ items_in (line ∷ [])) ≤ most_items
  pub many : (accepted : List Item) → Counts quota accepted → most_accepted < length (counts_of (accepted_after file.head accepted line))

-- a reader, a file and a quota stand for a text without a fault
pub record Reads (limited : Bool) (k : Kept) (file : StampFile) (quota : Quota) (text : List ℕ) : Type 0 where
  pub stands : StandsFor k text
  pub sound : fault_so_far text ≡ None
  pub gathers : Gathers limited file quota (given text)

-- they stand for a text, behind which so many bytes may come
pub record IsReading (k : Kept) (file : StampFile) (quota : Quota) (more : ℕ) : Type 0 where
  pub limited : Bool
  pub text : List ℕ
  pub short : length text + more < 2 ^ 62
  pub reads : Reads limited k file quota text
