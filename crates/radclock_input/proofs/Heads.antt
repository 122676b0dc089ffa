-- A text gives its head first, and then items alone.
use Rattle.std.proofs.Common.{◌≡◌, ◌⊎◌, ◌||◌, ℕ, ◌+◌, ◌≤◌, Bool, true, false, cond, eqb, ltb, List, [], ◌∷◌, ◌++◌, Option, None, Some, Result, Ok, Err, IfOk, IfSome, length, codes, refl, ap, ◌∙◌, sym, subst, arith, inl, inr}
use Rattle.std.specs.List.{AllByRecursion}
use Rattle.std.specs.Str.{bytes_eq}
use Rattle.std.proofs.lemmas.Bool.Decides.{nat_tests}
use Rattle.stamp_text.specs.Accepted.{IsLineInRange}
use Rattle.stamp_text.specs.Cut.{ended_lines, file_lines, without_return}
use Rattle.stamp_text.specs.Items.{item_in}
use Rattle.stamp_text.specs.Grammar.{is_second, second_of, freq_in, head_of, is_skipped, item_at, entry_says, freq_says, version_says, short_says, line_says, given_on, given_from, given, given_of_file}
use Rattle.stamp_text.specs.declared.lines.Head.{Head}
use Rattle.stamp_text.specs.declared.lines.Item.{Item}
use Rattle.stamp_text.specs.declared.lines.Item.TheVariants as item
use Rattle.stamp_text.specs.declared.lines.Line.{Line}
use Rattle.stamp_text.specs.declared.lines.Line.TheVariants as gives
use Rattle.stamp_text.specs.declared.lines.Why.{Why}
use Rattle.stamp_text.specs.declared.lines.Why.TheVariants as why
use Rattle.radclock_input.specs.Inputs.{items_in, no_head, head_after}

abbrev pub IsItemLine : Line → Type 0
IsItemLine (gives.Head h) = ⊥
IsItemLine (gives.Stamp n s) = Unit {0}
IsItemLine (gives.Set n count at) = Unit {0}
IsItemLine (gives.Leap n count leap) = Unit {0}

-- nothing, or a head and then items alone
abbrev pub IsHeaded : List Line → Type 0
IsHeaded [] = Unit {0}
IsHeaded (gives.Head h ∷ lines) = AllByRecursion IsItemLine lines
IsHeaded (gives.Stamp n s ∷ lines) = ⊥
IsHeaded (gives.Set n count at ∷ lines) = ⊥
IsHeaded (gives.Leap n count leap ∷ lines) = ⊥

-- what a line gives, if it is not refused
abbrev GivesItem : Result (Option Line) Why → Type 0
GivesItem r = IfOk r (λ o. IfSome o IsItemLine)

abbrev GivesNothing : Result (Option Line) Why → Type 0
GivesNothing r = IfOk r (λ o. IfSome o (λ x. ⊥))

abbrev IsHead : Option Line → Type 0
IsHead None = ⊥
IsHead (Some (gives.Head h)) = Unit {0}
IsHead (Some (gives.Stamp n s)) = ⊥
IsHead (Some (gives.Set n count at)) = ⊥
IsHead (Some (gives.Leap n count leap)) = ⊥

either : (P : Result (Option Line) Why → Type 0) (t : Bool) (a b : Result (Option Line) Why) → P a → P b → P (cond t a b)
either P true a b ha hb = ha
either P false a b ha hb = hb

item-gives : (n : ℕ) (r : Result Item Why) → GivesItem (item_at n r)
item-gives n (Ok (item.Stamp s)) = tt
item-gives n (Ok (item.Set count at)) = tt
item-gives n (Ok (item.Leap count leap)) = tt
item-gives n (Err w) = tt

entry-gives : (second : Bool) (n : ℕ) (line : List ℕ) → GivesItem (entry_says second n line)
entry-gives second n line = either GivesItem (is_skipped line) (Ok None) (item_at n (item_in second line)) tt (item-gives n (item_in second line))

-- a line from 3 on
later-gives : (second : Bool) (n : ℕ) (line : List ℕ) → 3 ≤ n → GivesItem (line_says second n line)
later-gives second n line h =
    let text = without_return line in
    let one : eqb n 1 ≡ false = grind (arith, nat_tests) in
    let two : eqb n 2 ≡ false = grind (arith, nat_tests) in
    let entry : short_says second n line ≡ entry_says second n text = ap
    (λ t. cond t (version_says text) (cond (eqb n 2) (freq_says second text) (entry_says second n text))) one
    ∙ ap (λ t. cond t (freq_says second text) (entry_says second n text)) two in
    either GivesItem (ltb 255 (length line)) (Err why.LongLine) (short_says second n line) tt (subst GivesItem (sym entry) (entry-gives second n text))

-- line 1
first-gives : (second : Bool) (line : List ℕ) → GivesNothing (line_says second 1 line)
first-gives second line = either GivesNothing (ltb 255 (length line)) (Err why.LongLine) (short_says second 1 line) tt
    (either GivesNothing (bytes_eq (without_return line) (codes "radclock-stamps 1") || is_second (without_return line)) (Ok None) (Err why.Head) tt tt)

-- line 2
head-gives : (second : Bool) (o : Option ℕ) → IfOk (head_of second o) IsHead
head-gives second None = tt
head-gives second (Some n) = tt

second-gives : (second : Bool) (line : List ℕ) → IfOk (line_says second 2 line) IsHead
second-gives second line = either (λ r. IfOk r IsHead) (ltb 255 (length line)) (Err why.LongLine) (short_says second 2 line) tt
    (head-gives second (freq_in (without_return line)))

-- what is given by a line and those behind it
items-on : (r : Result (Option Line) Why) (more : List Line) → GivesItem r → AllByRecursion IsItemLine more → AllByRecursion IsItemLine (given_on r more)
items-on (Ok None) more is all = all
items-on (Ok (Some x)) more is all = (is, all)
items-on (Err w) more is all = tt

head-on : (r : Result (Option Line) Why) (more : List Line) → IfOk r IsHead → AllByRecursion IsItemLine more → IsHeaded (given_on r more)
head-on (Ok None) more is all = absurd is
head-on (Ok (Some (gives.Head h))) more is all = all
head-on (Ok (Some (gives.Stamp n s))) more is all = absurd is
head-on (Ok (Some (gives.Set n count at))) more is all = absurd is
head-on (Ok (Some (gives.Leap n count leap))) more is all = absurd is
head-on (Err w) more is all = tt

nothing-on : (r : Result (Option Line) Why) (more : List Line) → GivesNothing r → IsHeaded more → IsHeaded (given_on r more)
nothing-on (Ok None) more is headed = headed
nothing-on (Ok (Some x)) more is headed = absurd is
nothing-on (Err w) more is headed = tt

items-from : (second : Bool) (n : ℕ) (lines : List (List ℕ)) → 3 ≤ n → AllByRecursion IsItemLine (given_from second n lines)
items-from second n [] h = tt
items-from second n (l ∷ ls) h = items-on (line_says second n l) (given_from second (n + 1) ls) (later-gives second n l h)
    (items-from second (n + 1) ls (omega arith))

headed-second : (second : Bool) (lines : List (List ℕ)) → IsHeaded (given_from second 2 lines)
headed-second second [] = tt
headed-second second (l ∷ ls) = head-on (line_says second 2 l) (given_from second 3 ls) (second-gives second l) (items-from second 3 ls (omega arith))

headed-first : (second : Bool) (lines : List (List ℕ)) → IsHeaded (given_from second 1 lines)
headed-first second [] = tt
headed-first second (l ∷ ls) = nothing-on (line_says second 1 l) (given_from second 2 ls) (first-gives second l) (headed-second second ls)

pub headed-given : (text : List ℕ) → IsHeaded (given text)
unfolding given
headed-given text = headed-first (second_of (ended_lines text)) (ended_lines text)

pub headed-file : (text : List ℕ) → IsHeaded (given_of_file text)
unfolding given_of_file
headed-file text = headed-first (second_of (file_lines text)) (file_lines text)

pub head_after-append : (head : Head) (lines more : List Line) → head_after head (lines ++ more) ≡ head_after (head_after head lines) more
head_after-append head [] more = refl
head_after-append head (gives.Head h ∷ lines) more = head_after-append h lines more
head_after-append head (gives.Stamp n s ∷ lines) more = head_after-append head lines more
head_after-append head (gives.Set n count at ∷ lines) more = head_after-append head lines more
head_after-append head (gives.Leap n count leap ∷ lines) more = head_after-append head lines more

-- items leave the head
items-leave : (head : Head) (lines : List Line) → AllByRecursion IsItemLine lines → head_after head lines ≡ head
items-leave head [] all = refl
items-leave head (gives.Head h ∷ lines) all = absurd all.0
items-leave head (gives.Stamp n s ∷ lines) all = items-leave head lines all.1
items-leave head (gives.Set n count at ∷ lines) all = items-leave head lines all.1
items-leave head (gives.Leap n count leap ∷ lines) all = items-leave head lines all.1

front-leaves : (head : Head) (lines more : List Line) → AllByRecursion IsItemLine (lines ++ more) → head_after head (lines ++ more) ≡ head_after head lines
front-leaves head [] more all = items-leave head more all
front-leaves head (gives.Head h ∷ lines) more all = absurd all.0
front-leaves head (gives.Stamp n s ∷ lines) more all = front-leaves head lines more all.1
front-leaves head (gives.Set n count at ∷ lines) more all = front-leaves head lines more all.1
front-leaves head (gives.Leap n count leap ∷ lines) more all = front-leaves head lines more all.1

-- the head behind lines with an item stays
pub head-stays : (lines more : List Line) → IsHeaded (lines ++ more) → (items_in lines ≡ []) ⊎ (head_after no_head (lines ++ more) ≡ head_after no_head lines)
head-stays [] more headed = inl refl
head-stays (gives.Head h ∷ lines) more headed = inr (front-leaves h lines more headed)
head-stays (gives.Stamp n s ∷ lines) more headed = absurd headed
head-stays (gives.Set n count at ∷ lines) more headed = absurd headed
head-stays (gives.Leap n count leap ∷ lines) more headed = absurd headed

-- a frequency in its range
pub record IsFreq (freq : ℕ) : Type 0 where
  pub low : 1000000 ≤ freq
  pub high : freq ≤ 16000000000

pub freq-ranged : (head : Head) (lines : List Line) → IsFreq head.freq → AllByRecursion IsLineInRange lines → IsFreq (head_after head lines).freq
freq-ranged head [] is all = is
freq-ranged head (gives.Head h ∷ lines) is all = freq-ranged h lines (record { low = all.0.low; high = all.0.high }) all.1
freq-ranged head (gives.Stamp n s ∷ lines) is all = freq-ranged head lines is all.1
freq-ranged head (gives.Set n count at ∷ lines) is all = freq-ranged head lines is all.1
freq-ranged head (gives.Leap n count leap ∷ lines) is all = freq-ranged head lines is all.1

-- before an item stands a head
pub item-ranged : (lines : List Line) (line : Line) → IsItemLine line → IsHeaded (lines ++ line ∷ []) → AllByRecursion IsLineInRange lines
    → IsFreq (head_after no_head lines).freq
item-ranged [] (gives.Head h) is headed all = absurd is
item-ranged [] (gives.Stamp n s) is headed all = absurd headed
item-ranged [] (gives.Set n count at) is headed all = absurd headed
item-ranged [] (gives.Leap n count leap) is headed all = absurd headed
item-ranged (gives.Head h ∷ lines) line is headed all = freq-ranged h lines (record { low = all.0.low; high = all.0.high }) all.1
item-ranged (gives.Stamp n s ∷ lines) line is headed all = absurd headed
item-ranged (gives.Set n count at ∷ lines) line is headed all = absurd headed
item-ranged (gives.Leap n count leap ∷ lines) line is headed all = absurd headed
