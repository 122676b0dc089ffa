-- A file of version 1 is a special case of one of version 2.
use Rattle.std.proofs.Common.{◌≡◌, ℕ, ◌+◌, ◌&&◌, ◌||◌, Bool, true, false, cond, eqb, ltb, List, [], ◌∷◌, ◌++◌, map, length, Option, None, Some, Result, Ok, Err, IfOk, IfSome, All, codes, refl, sym, ap, ◌∙◌, subst}
use Rattle.std.specs.Bool.{⊤}
use Rattle.std.specs.List.{AllByRecursion, onto_first}
use Rattle.std.specs.Str.{bytes_eq}
use Rattle.ff_grain.specs.Grains.{of_nanos}
use Rattle.std.proofs.lemmas.List.Elements.{All-nil, All-cons}
use Rattle.stamp_text.specs.declared.lines.Item.{Item}
use Rattle.stamp_text.specs.declared.lines.Item.TheVariants as item
use Rattle.stamp_text.specs.declared.lines.Line.{Line}
use Rattle.stamp_text.specs.declared.lines.Line.TheVariants as gives
use Rattle.stamp_text.specs.declared.lines.Stamp.{Stamp}
use Rattle.stamp_text.specs.declared.lines.Why.{Why}
use Rattle.stamp_text.specs.declared.lines.Why.TheVariants as why
use Rattle.stamp_text.specs.declared.numbers.Written.{Written}
use Rattle.stamp_text.specs.Accepted.{accepted_of_lines, stamps_among}
use Rattle.stamp_text.specs.Cut.{file_lines, without_return}
use Rattle.stamp_text.specs.Digits.{number_in}
use Rattle.stamp_text.specs.Times.{time_in}
use Rattle.stamp_text.specs.Stamps.{with_rest, pieces_of, is_empty, stamp_within, stamp_of_numbers, stamp_of_pieces, stamp_in}
use Rattle.stamp_text.specs.Items.{stamp_item, item_of_pieces, item_in}
use Rattle.stamp_text.specs.Grammar.{is_second, second_of, version_says, freq_in, head_of, freq_says, is_skipped, item_at, entry_says, text_says, short_says, line_says, given_on, given_from, given_of_file}
use Rattle.stamp_text.specs.Past.{is_unsynchronised, accepted_items, items_among, accepted_of}
use Rattle.stamp_text.proofs.StampLaws.{some_piece, too_many}
use Rattle.stamp_text.proofs.PieceLaws.{number_says}
use Rattle.stamp_text.proofs.RangeLaws.{one-of}
use Rattle.stamp_text.proofs.PlainItems.{stamps-alone}

-- the pieces of two texts with a space between
pieces-behind : (line rest : List ℕ) → pieces_of (line ++ 32 ∷ rest) ≡ pieces_of line ++ pieces_of rest
pieces-behind [] rest = refl
pieces-behind (x ∷ xs) rest =
    let some = some_piece xs in
    let onto : onto_first x (pieces_of xs ++ pieces_of rest) ≡ onto_first x (pieces_of xs)
    ++ pieces_of rest = subst (λ (ps : List (List ℕ)). onto_first x (ps ++ pieces_of rest) ≡ onto_first x ps ++ pieces_of rest) (sym some.2) refl in
    elim (eqb x 32) as (λ t. cond t ([] ∷ pieces_of (xs ++ 32 ∷ rest)) (onto_first x (pieces_of (xs ++ 32 ∷ rest))) ≡ cond t ([] ∷ pieces_of xs)
    (onto_first x (pieces_of xs)) ++ pieces_of rest) [
      | true ↦ ap (λ (ps : List (List ℕ)). [] ∷ ps) (pieces-behind xs rest)
      | false ↦ ap (onto_first x) (pieces-behind xs rest) ∙ onto
    ]

-- the first piece of a stamp is a number
numbers-first : (a : Option ℕ) (b c : Option Written) (d e f : Option ℕ) (s : Stamp) → stamp_of_numbers a b c d e f ≡ Ok s → (n : ℕ) × (a ≡ Some n)
numbers-first (Some n) b c d e f s is = (n, refl)
numbers-first None b c d e f s is = absurd (cc)

first-number : (a : List ℕ) (rest : List (List ℕ)) (s : Stamp) → stamp_of_pieces (a ∷ rest) ≡ Ok s → (n : ℕ) × (number_in a ≡ Some n)
first-number a (b ∷ c ∷ d ∷ e ∷ f ∷ []) s is =
    let split : (t : Bool) → cond t (Err why.Columns) (stamp_of_numbers (number_in a) (time_in b) (time_in c) (number_in d) (number_in e)
    (number_in f)) ≡ Ok s → (n : ℕ) × (number_in a ≡ Some n) =
    elim [ true ↦ λ is. absurd (cc) | false ↦ λ is. numbers-first (number_in a) (time_in b) (time_in c) (number_in d) (number_in e) (number_in f) s is ] in
    split (is_empty a || is_empty b || is_empty c || is_empty d || is_empty e || is_empty f) is
first-number a [] s is = absurd (cc)
first-number a (b ∷ []) s is = absurd (cc)
first-number a (b ∷ c ∷ []) s is = absurd (cc)
first-number a (b ∷ c ∷ d ∷ []) s is = absurd (cc)
first-number a (b ∷ c ∷ d ∷ e ∷ []) s is = absurd (cc)
first-number a (b ∷ c ∷ d ∷ e ∷ f ∷ g ∷ more) s is = absurd (cc)

-- so four pieces say in version 1 what they say in version 2 with the rest behind them
rest-says : (pieces : List (List ℕ)) (x : Item) → stamp_item (stamp_of_pieces (with_rest pieces)) ≡ Ok x → item_of_pieces (with_rest pieces) ≡ Ok x
rest-says [] x is = absurd (cc)
rest-says (a ∷ more) x is =
    let split : (r : Result Stamp Why) → stamp_of_pieces (with_rest (a ∷ more)) ≡ r → stamp_item r ≡ Ok x → item_of_pieces (with_rest (a ∷ more)) ≡ Ok x =
    elim [
      | Ok s ↦ λ e is. (let first = first-number a (with_rest more) s e in number_says a (with_rest more) first.0 first.1 ∙ ap stamp_item e ∙ is)
      | Err w ↦ λ e is. absurd (cc)
    ] in
    split (stamp_of_pieces (with_rest (a ∷ more))) refl is

pub line-says : (line : List ℕ) (x : Item) → item_in false line ≡ Ok x → item_in true (line ++ codes " 1 0") ≡ Ok x
unfolding item_in stamp_in
line-says line x is = ap item_of_pieces (pieces-behind line (codes "1 0")) ∙ rest-says (pieces_of line) x is

-- what a stamp of version 1 says of its server
abbrev IsPlain : Stamp → Type 0
IsPlain s = is_unsynchronised s ≡ false

plain-within : (a : ℕ) (b c : Written) (d : ℕ) → IfOk (stamp_within a b c d 1 0) IsPlain
plain-within a b c d = elim (ltb a 4611686018427387904 && ltb b.sec 4294967296 && ltb c.sec 4294967296 && ltb d 4611686018427387904 && true
    && true) as (λ t. IfOk {E = Why} (cond t (Ok (record {
      ta = a;
      tb = of_nanos b.sec b.nanos;
      te = of_nanos c.sec c.nanos;
      tf = d;
      stratum = 1;
      leap = 0;
    })) (Err why.Range)) IsPlain) [ true ↦ refl | false ↦ tt ]

plain-numbers : (a : Option ℕ) (b c : Option Written) (d : Option ℕ) → IfOk (stamp_of_numbers a b c d (Some 1) (Some 0)) IsPlain
plain-numbers (Some a) (Some b) (Some c) (Some d) = plain-within a b c d
plain-numbers None b c d = tt
plain-numbers (Some a) None c d = tt
plain-numbers (Some a) (Some b) None d = tt
plain-numbers (Some a) (Some b) (Some c) None = tt

plain-pieces : (pieces : List (List ℕ)) → IfOk (stamp_of_pieces (with_rest pieces)) IsPlain
plain-pieces [] = tt
plain-pieces (a ∷ []) = tt
plain-pieces (a ∷ b ∷ []) = tt
plain-pieces (a ∷ b ∷ c ∷ []) = tt
plain-pieces (a ∷ b ∷ c ∷ d ∷ []) = one-of IsPlain (is_empty a || is_empty b || is_empty c || is_empty d || false || false) (Err why.Columns)
    (stamp_of_numbers (number_in a) (time_in b) (time_in c) (number_in d) (Some 1) (Some 0)) tt
    (plain-numbers (number_in a) (time_in b) (time_in c) (number_in d))
plain-pieces (a ∷ b ∷ c ∷ d ∷ e ∷ more) = subst (λ r. IfOk r IsPlain) (sym (too_many a b c d e more)) tt

-- what a line of version 1 gives: the head, or such a stamp
abbrev IsOfFirst : Line → Type 0
IsOfFirst (gives.Head h) = ⊤
IsOfFirst (gives.Stamp n s) = IsPlain s
IsOfFirst (gives.Set n count at) = ⊥
IsOfFirst (gives.Leap n count leap) = ⊥

abbrev GivesFirst : Option Line → Type 0
GivesFirst o = IfSome o IsOfFirst

first-item : (n : ℕ) (r : Result Stamp Why) → IfOk r IsPlain → IfOk (item_at n (stamp_item r)) GivesFirst
first-item n (Ok s) h = h
first-item n (Err w) h = tt

first-head : (o : Option ℕ) → IfOk (head_of false o) GivesFirst
first-head None = tt
first-head (Some n) = tt

first-text : (n : ℕ) (line : List ℕ) → IfOk (text_says false n line) GivesFirst
unfolding item_in stamp_in
first-text n line =
    one-of GivesFirst (eqb n 1) (version_says line) _ (one-of GivesFirst (bytes_eq line (codes "radclock-stamps 1") || is_second line) (Ok None)
    (Err why.Head) tt tt)
    (one-of GivesFirst (eqb n 2) (freq_says false line) (entry_says false n line) (first-head (freq_in line))
    (one-of GivesFirst (is_skipped line) (Ok None) (item_at n (item_in false line)) tt (first-item n (stamp_in line) (plain-pieces (pieces_of line)))))

first-on : (r : Result (Option Line) Why) (more : List Line) → IfOk r GivesFirst → AllByRecursion IsOfFirst more → AllByRecursion IsOfFirst (given_on r more)
first-on (Ok None) more h all = all
first-on (Ok (Some x)) more h all = (h, all)
first-on (Err w) more h all = tt

first-lines : (n : ℕ) (lines : List (List ℕ)) → AllByRecursion IsOfFirst (given_from false n lines)
first-lines n [] = tt
first-lines n (line ∷ lines) =
    first-on (line_says false n line) (given_from false (n + 1) lines)
    (one-of GivesFirst (ltb 255 (length line)) (Err why.LongLine) (short_says false n line) tt (first-text n (without_return line)))
    (first-lines (n + 1) lines)

-- such lines give stamps alone
first-stamps : (lines : List Line) → AllByRecursion IsOfFirst lines → items_among lines ≡ map item.Stamp (stamps_among lines)
first-stamps [] all = refl
first-stamps (gives.Head h ∷ lines) all = first-stamps lines all.1
first-stamps (gives.Stamp n s ∷ lines) all = ap (λ (xs : List Item). item.Stamp s ∷ xs) (first-stamps lines all.1)
first-stamps (gives.Set n count at ∷ lines) all = absurd all.0
first-stamps (gives.Leap n count leap ∷ lines) all = absurd all.0

first-plain : (lines : List Line) → AllByRecursion IsOfFirst lines → All IsPlain (stamps_among lines)
first-plain [] all = All-nil IsPlain
first-plain (gives.Head h ∷ lines) all = first-plain lines all.1
first-plain (gives.Stamp n s ∷ lines) all = All-cons IsPlain s (stamps_among lines) all.0 (first-plain lines all.1)
first-plain (gives.Set n count at ∷ lines) all = absurd all.0
first-plain (gives.Leap n count leap ∷ lines) all = absurd all.0

-- the accepted items of a file of version 1
pub file-accepts : (freq : ℕ) (text : List ℕ) → second_of (file_lines text) ≡ false
    → accepted_of freq (given_of_file text) ≡ map item.Stamp (accepted_of_lines freq (given_of_file text))
unfolding given_of_file
file-accepts freq text is =
    let lines : List Line = given_from false 1 (file_lines text) in
    let all = first-lines 1 (file_lines text) in
    subst (λ (v : Bool). accepted_of freq (given_from v 1 (file_lines text)) ≡ map item.Stamp
    (accepted_of_lines freq (given_from v 1 (file_lines text)))) (sym is)
    (ap (accepted_items freq []) (first-stamps lines all) ∙ stamps-alone freq [] (stamps_among lines) (first-plain lines all))
