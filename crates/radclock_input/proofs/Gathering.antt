-- What a file keeps of the lines that a text gives.
use Rattle.std.proofs.Common.{◌≡◌, ◌⊎◌, inl, inr, ℕ, ◌<◌, ◌≤◌, Bool, List, [], ◌∷◌, ◌++◌, None, length, sym, ap, ◌∙◌, subst, arith}
use Rattle.std.specs.List.{All, AllByRecursion}
use Rattle.std.specs.Option.{option_map}
use Rattle.std.proofs.lemmas.List.{length_push}
use Rattle.std.proofs.lemmas.List.Elements.{All-nil, All-cons}
use Rattle.stamp_text.specs.Past.{counts_of}
use Rattle.stamp_text.specs.Accepted.{IsItemInRange, IsLineInRange}
use Rattle.stamp_text.specs.Grammar.{given, given_of_file, fault_so_far, fault_of_file}
use Rattle.stamp_text.specs.Kept.{Kept, StandsFor}
use Rattle.stamp_text.specs.declared.lines.Head.{Head}
use Rattle.stamp_text.specs.declared.lines.Item.{Item}
use Rattle.stamp_text.specs.declared.lines.Item.TheVariants as item
use Rattle.stamp_text.specs.declared.lines.Line.{Line}
use Rattle.stamp_text.specs.declared.lines.Line.TheVariants as gives
use Rattle.stamp_text.proofs.GivenLaws.{head-first}
use Rattle.radclock_input.specs.declared.files.StampFile.{StampFile}
use Rattle.radclock_input.specs.declared.files.ItemLine.{ItemLine}
use Rattle.radclock_input.specs.declared.stops.Stop.{Stop}
use Rattle.radclock_input.specs.declared.stops.Stop.TheVariants as stop
use Rattle.radclock_input.specs.Inputs.{items_in, no_head, head_after, accepted_among, counted_among, stop_within, stop_whole, head_of_file, items_of_file, IsFileOf}
use Rattle.radclock_input.specs.declared.quota.Quota.{Quota}
use Rattle.radclock_input.specs.Readings.{Counts, CanTest, CanTestItem, Gathers, HasNoQuota, HasNoRoom, HasRoomAlone, IsFull, Keeps, KeepsItem, Reads}
use Rattle.radclock_input.specs.Pulled.{IsInputStop}
use Rattle.radclock_input.proofs.Heads.{IsHeaded, headed-given, headed-file, head_after-append, IsFreq, IsItemLine, freq-ranged, item-ranged}
use Rattle.radclock_input.proofs.Accepting.{items_in-append, accepted-line}
use Rattle.radclock_input.proofs.Stopping.{gathers-stop}

ranged-push : (lines : List Line) (line : Line) → AllByRecursion IsLineInRange lines → IsLineInRange line → AllByRecursion IsLineInRange (lines ++ line ∷ [])
ranged-push [] line all is = (is, tt)
ranged-push (l ∷ lines) line all is = (all.0, ranged-push lines line all.1 is)

-- one more line that is kept
gathers-more : (limited : Bool) (old new : StampFile) (was is : Quota) (lines : List Line) (line : Line) → Gathers limited old was lines
    → Keeps old new was is line → IsHeaded (lines ++ line ∷ []) → IsLineInRange line → Gathers limited new is (lines ++ line ∷ [])
gathers-more limited old new was is lines line before keeps headed range =
    let items : new.items.items ≡ items_in (lines ++ line ∷ []) = keeps.items ∙ ap (λ (xs : List ItemLine). xs ++ items_in (line ∷ [])) before.items
    ∙ sym (items_in-append lines (line ∷ [])) in
    record {
      head = keeps.head ∙ ap (λ h. head_after h (line ∷ [])) before.head ∙ sym (head_after-append no_head lines (line ∷ []));
      items = items;
      few = omega (arith, ap length (sym items), keeps.few (omega (arith, before.few, ap length before.items)));
      ranged = ranged-push lines line before.ranged range;
      same = keeps.same ∙ before.same;
      counts = λ on. subst (Counts is) (sym (accepted-line old.head lines line headed before.head))
          (keeps.counts (before.same ∙ on) (accepted_among (head_after no_head lines).freq [] (items_in lines)) (before.counts on));
    }

-- one more byte that ends a line that is kept
pub reads-line : (limited : Bool) (k k' : Kept) (old new : StampFile) (was is : Quota) (text more : List ℕ) (line : Line) → Reads limited k old was
    text → StandsFor k' more → fault_so_far more ≡ None → given more ≡ given text ++ line ∷ [] → Keeps old new was is line → IsLineInRange line
    → Reads limited k' new is more
reads-line limited k k' old new was is text more line reads stands sound gave keeps range =
    record {
      stands = stands;
      sound = sound;
      gathers = subst (Gathers limited new is) (sym gave)
          (gathers-more limited old new was is (given text) line reads.gathers keeps (subst IsHeaded gave (headed-given more)) range);
    }

-- the end gives a line that is kept
pub gathers-last : (limited : Bool) (old new : StampFile) (was is : Quota) (text : List ℕ) (line : Line) → Gathers limited old was (given text)
    → Keeps old new was is line → given_of_file text ≡ given text ++ line ∷ [] → IsLineInRange line → Gathers limited new is (given_of_file text)
gathers-last limited old new was is text line before keeps gave range =
    subst (Gathers limited new is) (sym gave) (gathers-more limited old new was is (given text) line before keeps
    (subst IsHeaded gave (headed-file text)) range)

-- an item that is kept, with its line
pub keeps-item : (old new : StampFile) (was now : Quota) (line : Line) (x : ItemLine) → items_in (line ∷ []) ≡ x ∷ []
    → head_after old.head (line ∷ []) ≡ old.head → KeepsItem old new was now x → Keeps old new was now line
keeps-item old new was now line x one same keeps = record {
  head = keeps.head ∙ sym same;
  items = keeps.items ∙ ap (λ (xs : List ItemLine). old.items.items ++ xs) (sym one);
  few = λ few. keeps.few;
  same = keeps.same;
  counts = λ on accepted counts. subst (Counts now) (sym (ap (λ (h : Head). accepted_among h.freq accepted (items_in (line ∷ []))) same
      ∙ ap (accepted_among old.head.freq accepted) one)) (keeps.counts on accepted counts);
}

-- and one that is not
pub not-kept : (s : Stop) (file : StampFile) (quota : Quota) (line : Line) (x : ItemLine) → items_in (line ∷ []) ≡ x ∷ []
    → head_after file.head (line ∷ []) ≡ file.head → HasNoRoom s file ⊎ HasRoomAlone s file quota x.item → IsFull s file line ⊎ HasNoQuota s file quota line
not-kept s file quota line x one same (inl none) =
    let more : length (file.items.items ++ items_in (line ∷ [])) ≡ length (file.items.items ++ x ∷ []) = ap
    (λ (xs : List ItemLine). length (file.items.items ++ xs)) one in
    inl (record { limit = none.limit; full = omega (arith, none.full, more, length_push file.items.items x) })
not-kept s file quota line x one same (inr alone) =
    let more : length (file.items.items ++ items_in (line ∷ [])) ≡ length (file.items.items ++ x ∷ []) = ap
    (λ (xs : List ItemLine). length (file.items.items ++ xs)) one in
    inr (record {
      limit = alone.spent.limit;
      limited = alone.spent.limited;
      few = omega (arith, alone.room, more, length_push file.items.items x);
      many = λ accepted counts. subst (λ (xs : List Item). 16384 < length (counts_of xs))
          (sym (ap (λ (h : Head). accepted_among h.freq accepted (items_in (line ∷ []))) same ∙ ap (accepted_among file.head.freq accepted) one))
          (alone.spent.many accepted counts);
    })

-- a line that a text gives next can be tested
item-tests : (file : StampFile) (quota : Quota) (limited : Bool) (lines : List Line) (line : Line) (x : Item) → Gathers limited file quota lines
    → IsHeaded (lines ++ line ∷ []) → IsItemLine line → IsItemInRange x → CanTestItem file.head.freq x
item-tests file quota limited lines line x is headed is_item range =
    let freq = item-ranged lines line is_item headed is.ranged in
    let same = ap (λ (h : Head). h.freq) is.head in
    record { low = omega (arith, freq.low, same); high = omega (arith, freq.high, same); range = range }

can-test : (limited : Bool) (file : StampFile) (quota : Quota) (lines : List Line) (line : Line) → Gathers limited file quota lines
    → IsHeaded (lines ++ line ∷ []) → IsLineInRange line → CanTest file.head.freq line
can-test limited file quota lines (gives.Head h) is headed range = tt
can-test limited file quota lines (gives.Stamp n s) is headed range = item-tests file quota limited lines (gives.Stamp n s) (item.Stamp s) is headed tt range
can-test limited file quota lines (gives.Set n count at) is headed range =
    item-tests file quota limited lines (gives.Set n count at) (item.Set count at) is headed tt range
can-test limited file quota lines (gives.Leap n count leap) is headed range =
    item-tests file quota limited lines (gives.Leap n count leap) (item.Leap count leap) is headed tt range

pub line-tests : (limited : Bool) (file : StampFile) (quota : Quota) (text more : List ℕ) (line : Line) → Gathers limited file quota (given text)
    → given more ≡ given text ++ line ∷ [] → IsLineInRange line → CanTest file.head.freq line
line-tests limited file quota text more line is gave range = can-test limited file quota (given text) line is (subst IsHeaded gave (headed-given more)) range

pub last-tests : (limited : Bool) (file : StampFile) (quota : Quota) (text : List ℕ) (line : Line) → Gathers limited file quota (given text)
    → given_of_file text ≡ given text ++ line ∷ [] → IsLineInRange line → CanTest file.head.freq line
last-tests limited file quota text line is gave range = can-test limited file quota (given text) line is (subst IsHeaded gave (headed-file text)) range

pub head-ranged : (lines more : List Line) (head : Head) → lines ≡ gives.Head head ∷ more → AllByRecursion IsLineInRange lines
    → IsFreq (head_after no_head lines).freq
head-ranged lines more head e all =
    let is : AllByRecursion IsLineInRange (gives.Head head ∷ more) = subst (AllByRecursion IsLineInRange) e all in
    let here : IsFreq (head_after head more).freq = freq-ranged head more (record { low = is.0.low; high = is.0.high }) is.1 in
    subst (λ ls. IsFreq (head_after no_head ls).freq) (sym e) here

pub items-timed : (lines : List Line) → AllByRecursion IsLineInRange lines → All (λ x. IsItemInRange x.item) (items_in lines)
items-timed [] all = All-nil (λ x. IsItemInRange x.item)
items-timed (gives.Head h ∷ lines) all = items-timed lines all.1
items-timed (gives.Stamp n s ∷ lines) all = All-cons (λ x. IsItemInRange x.item) (record { line = n; item = item.Stamp s }) (items_in lines) all.0
    (items-timed lines all.1)
items-timed (gives.Set n count at ∷ lines) all = All-cons (λ x. IsItemInRange x.item) (record { line = n; item = item.Set count at })
    (items_in lines) all.0 (items-timed lines all.1)
items-timed (gives.Leap n count leap ∷ lines) all = All-cons (λ x. IsItemInRange x.item) (record { line = n; item = item.Leap count leap })
    (items_in lines) all.0 (items-timed lines all.1)

-- nothing stops a text that is read
pub reads-within : (limited : Bool) (k : Kept) (file : StampFile) (quota : Quota) (text : List ℕ) → Reads limited k file quota text
    → stop_within limited text ≡ None
unfolding stop_within
reads-within limited k file quota text reads = gathers-stop limited file quota (given text) (fault_so_far text) reads.gathers
    ∙ ap (option_map stop.Fault) reads.sound

-- a file that keeps what a whole input in the grammar gives
pub file-whole : (limited : Bool) (file : StampFile) (quota : Quota) (text : List ℕ) → fault_of_file text ≡ None
    → Gathers limited file quota (given_of_file text) → (stop_whole limited text ≡ None) × IsFileOf limited file text
unfolding head_of_file items_of_file stop_whole
file-whole limited file quota text sound is =
    let lines = given_of_file text in
    let head = head-first text sound in
    let freq = head-ranged lines head.1 head.0 head.2 is.ranged in
    let same = ap (λ (h : Head). h.freq) is.head in (
      gathers-stop limited file quota lines (fault_of_file text) is ∙ ap (option_map stop.Fault) sound,
      record {
        head = is.head;
        items = is.items;
        ranged = record {
          low = omega (arith, freq.low, same);
          high = omega (arith, freq.high, same);
          timed = subst (All (λ x. IsItemInRange x.item)) (sym is.items) (items-timed lines is.ranged);
        };
        few = λ on. omega (
          arith,
          (is.counts on).few,
          ap (λ f. counted_among f file.items.items) same
              ∙ ap (counted_among (head_after no_head lines).freq) is.items,
        );
      },
    )

-- from one property of an input's stop to another
pub IsInputStop-weaker : (s : Stop) (P Q : Type 0) → (P → Q) → IsInputStop s P → IsInputStop s Q
IsInputStop-weaker stop.Memory P Q g h = h
IsInputStop-weaker (stop.Read taken) P Q g h = h
IsInputStop-weaker (stop.Fault f) P Q g h = g h
IsInputStop-weaker (stop.Large l) P Q g h = g h
IsInputStop-weaker (stop.Capture f) P Q g h = g h
