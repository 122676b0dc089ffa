-- What the bytes of a capture give is in range.
use Rattle.std.proofs.Common.{◌≡◌, ℕ, zero, suc, ◌+◌, ◌-◌, ◌*◌, ◌/◌, ◌^◌, ◌<◌, ◌≤◌, Bool, true, false, ◌&&◌, cond, ltb, Option, None, Some, IfSome, List, [], ◌∷◌, ◌++◌, length, take, drop, get_or, ⊎_elim, refl, sym, ap, subst, ◌∙◌, arith, length-take, length-drop, length-append}
use Rattle.std.specs.Prelude.{slice_index, slice_range, filter_map, option_to_list}
use Rattle.std.specs.List.{All, AllByRecursion, find}
use Rattle.std.proofs.lemmas.Bool.{cases_lt}
use Rattle.std.proofs.lemmas.Bool.Decides.{nat_tests}
use Rattle.std.proofs.lemmas.List.{take-append-drop}
use Rattle.std.proofs.lemmas.List.Elements.{All-nil, All-cons, All-append, All-take, All-drop}
use Rattle.std.proofs.Math.ListN.{get_or-eq_default}
use Rattle.byteorder.specs.Endian.{big_number}
use Rattle.byteorder.specs.Numbers.{big_from-lt}
use Rattle.stamp_text.specs.Format.{least_freq, greatest_freq}
use Rattle.ntp_capture.specs.Cut.{Units, size_of, units_from, units_of}
use Rattle.ntp_capture.specs.Grammar.{refusal_in, piece_in, given_on, given_from, given, fault_at, first_fault, fault_from, fault_so_far, cut_off, fault_of_capture}
use Rattle.ntp_capture.specs.Matches.{fits, first_taken, match_of, requests_with, exchange_of, reply_gives, got_by, gots_from, gots}
use Rattle.ntp_capture.specs.Packets.{transmit_of, receive_of, unix_time, is_request, is_reply, is_usable}
use Rattle.ntp_capture.specs.declared.exchanges.Got.{Got}
use Rattle.ntp_capture.specs.declared.exchanges.Got.TheVariants as got
use Rattle.ntp_capture.specs.declared.matches.Request.{Request}
use Rattle.ntp_capture.specs.declared.pieces.CapFault.{CapFault}
use Rattle.ntp_capture.specs.declared.pieces.CapWhy.{CapWhy}
use Rattle.ntp_capture.specs.declared.pieces.Piece.{Piece}
use Rattle.ntp_capture.specs.declared.pieces.Piece.TheVariants as piece
use Rattle.ntp_capture.specs.declared.pieces.Record.{Record}
use Rattle.ntp_capture.proofs.CutLaws.{cut-first}
use Rattle.ntp_capture.proofs.FieldLaws.{size-some, size-long, sound-packet, piece-in-range}
use Rattle.ntp_capture.proofs.GrammarLaws.{not-refused, sound-by}
use Rattle.stamp_maker.specs.MadeStamps.{IsTimePair}
use Rattle.capture_text.specs.Inputs.{record_of, records_in, freq_after, answer_at, answers_from, answers_of}
use Rattle.capture_text.specs.ReadBack.{IsByte, IsExchangeInRange, IsAnswerInRange}
use Rattle.capture_text.specs.declared.inputs.Answer.{Answer}
use Rattle.capture_text.specs.declared.inputs.Answer.TheVariants as answer

-- ---- bytes

bytes-below : (xs : List ℕ) → All IsByte xs → (k : ℕ) → slice_index xs k < 256
bytes-below xs all k = ⊎_elim (λ within. all k 0 within) (λ past. omega (arith, get_or-eq_default xs 0 {n = k} past)) (cases_lt k (length xs))

number-below : (n : ℕ) (xs : List ℕ) → All IsByte xs → big_number n xs < 256 ^ n
number-below n xs all = big_from-lt 0 n xs (bytes-below xs all)

range-bytes : (xs : List ℕ) (i j : ℕ) → All IsByte xs → All IsByte (slice_range xs i j)
range-bytes xs i j all = All-take IsByte (j - i) (drop i xs) (All-drop IsByte i xs all)

-- ---- units

-- what a unit gives: a frequency in its range, or a record of bytes with a counter below 2^62
abbrev IsSoundPiece : Piece → Type 0
IsSoundPiece (piece.Freq f) = (least_freq ≤ f) × (f ≤ greatest_freq)
IsSoundPiece (piece.Record r) = (r.count < 2 ^ 62) × All IsByte r.packet

unit-sound : (h : Bool) (u : List ℕ) → All IsByte u → refusal_in h u ≡ None → size_of h u ≤ length u → IsSoundPiece (piece_in h u)
unfolding piece_in size_of
unit-sound true u all none whole = piece-in-range true u none (omega arith)
unit-sound false u all none whole =
    let long : 11 ≤ length u = omega (arith, size-some false u, whole) in
    let packet = sound-packet u none long in
    (piece-in-range false u none (omega (arith, packet, whole)), All-take IsByte 48 (drop 11 u) (All-drop IsByte 11 u all))

-- units give sound pieces, no more than they have bytes
record AreSound (ps : List Piece) (bytes : ℕ) : Type 0 where
  sound : AllByRecursion IsSoundPiece ps
  few : length ps ≤ bytes

given-one : (r : Option (ℕ × CapWhy)) (p : Piece) (more : List Piece) (n m : ℕ) → (r ≡ None → IsSoundPiece p) → AreSound more n → n < m
    → AreSound (given_on r p more) m
given-one None p more n m sound rest fewer = record { sound = (sound refl, rest.sound); few = omega (arith, rest.few, fewer) }
given-one (Some r) p more n m sound rest fewer = record { sound = tt; few = omega arith }

given-sound : (k : ℕ) (h : Bool) (text : List ℕ) → All IsByte text → AreSound (given_from h (units_from k h text).ended) (length text)
given-sound zero h text all = record { sound = tt; few = omega arith }
given-sound (suc k) h text all =
    let n = size_of h text in
    let u = take n text in
    let split : (t : Bool) → ltb (length text) n ≡ t → AreSound (given_from h (cond {A = Units} t (record { ended = []; last = text })
    (record { ended = u ∷ (units_from k false (drop n text)).ended; last = (units_from k false (drop n text)).last })).ended) (length text) =
    elim [
      | true ↦ λ e. record { sound = tt; few = omega arith }
      | false ↦ λ e.
          let fits : n ≤ length text = grind (arith, nat_tests) in
          let size : length u ≡ n = omega (arith, length-take n text, fits) in
          let some = size-some h text in
          let same : size_of h u ≡ n = sym (size-long h u (drop n text) (omega (arith, size, some))) ∙ ap (size_of h) (take-append-drop n text) in
          let rest = given-sound k false (drop n text) (All-drop IsByte n text all) in
          given-one (refusal_in h u) (piece_in h u) (given_from false (units_from k false (drop n text)).ended) (length (drop n text)) (length text)
          (λ none. unit-sound h u (All-take IsByte n text all) none (omega (arith, size, same))) rest
          (omega (arith, length-drop n text, fits, some))
    ] in
    split (ltb (length text) n) refl

text-sound : (text : List ℕ) → All IsByte text → AreSound (given text) (length text)
unfolding given units_of
text-sound text all = given-sound (length text) true text all

-- ---- what replies become

abbrev IsSoundRequest : Request → Type 0
IsSoundRequest q = q.count < 2 ^ 62

taken-sound : (p : Request → Bool) (qs : List Request) → All IsSoundRequest qs → All IsSoundRequest (first_taken p qs)
taken-sound p [] all = All-nil IsSoundRequest
taken-sound p (q ∷ qs) all =
    let here : IsSoundRequest q = all 0 q (omega arith) in
    let rest : All IsSoundRequest qs = λ k d below. all (suc k) d (omega arith) in
    let split : (t : Bool) → All IsSoundRequest (cond t (record q { taken = true } ∷ qs) (q ∷ first_taken p qs)) =
    elim [
      | true ↦ All-cons IsSoundRequest (record q { taken = true }) qs here rest
      | false ↦ All-cons IsSoundRequest q (first_taken p qs) here (taken-sound p qs rest)
    ] in
    split (p q)

requests-sound : (qs : List Request) (r : Record) → All IsSoundRequest qs → r.count < 2 ^ 62 → All IsSoundRequest (requests_with qs r)
unfolding requests_with
requests-sound qs r all below =
    let split : (asks replies : Bool) → All IsSoundRequest (cond asks (record { count = r.count; mark = transmit_of r.packet; taken = false } ∷ qs)
    (cond replies (first_taken (fits r) (take 16 qs) ++ drop 16 qs) qs)) =
    elim [
      | true ↦ λ replies. All-cons IsSoundRequest (record { count = r.count; mark = transmit_of r.packet; taken = false }) qs below all
      | false ↦ elim [
        | true ↦ All-append IsSoundRequest (first_taken (fits r) (take 16 qs)) (drop 16 qs)
            (taken-sound (fits r) (take 16 qs) (All-take IsSoundRequest 16 qs all)) (All-drop IsSoundRequest 16 qs all)
        | false ↦ all
      ]
    ] in
    split (is_request r) (is_reply r && is_usable r.packet)

find-sound : (p : Request → Bool) (qs : List Request) → All IsSoundRequest qs → IfSome (find p qs) IsSoundRequest
find-sound p [] all = tt
find-sound p (q ∷ qs) all =
    let rest : All IsSoundRequest qs = λ k d below. all (suc k) d (omega arith) in
    let split : (t : Bool) → IfSome (cond t (Some q) (find p qs)) IsSoundRequest = elim [ true ↦ all 0 q (omega arith) | false ↦ find-sound p qs rest ] in
    split (p q)

match-sound : (qs : List Request) (r : Record) → All IsSoundRequest qs → IfSome (match_of qs r) IsSoundRequest
match-sound qs r all =
    let split : (t : Bool) → IfSome (cond t (find (fits r) (take 16 qs)) None) IsSoundRequest =
    elim [ true ↦ find-sound (fits r) (take 16 qs) (All-take IsSoundRequest 16 qs all) | false ↦ tt ] in
    split (is_usable r.packet)

-- a time of bytes
nanos-below : (f : ℕ) → f < 4294967296 → f * 1000000000 / 4294967296 < 1000000000
nanos-below f below = omega arith

time-sound : (time : List ℕ) → All IsByte time → IsTimePair (unix_time time)
time-sound time all =
    let seconds : big_number 4 (slice_range time 0 4) < 4294967296 = number-below 4 (slice_range time 0 4) (range-bytes time 0 4 all) in
    let fraction : big_number 4 (slice_range time 4 8) < 4294967296 = number-below 4 (slice_range time 4 8) (range-bytes time 4 8 all) in
    (omega (arith, seconds), nanos-below _ fraction)

abbrev IsSoundGot : Got → Type 0
IsSoundGot got.Nothing = Unit {0}
IsSoundGot got.Unused = Unit {0}
IsSoundGot (got.Exchange e) = IsExchangeInRange e

reply-sound : (r : Record) (o : Option Request) → r.count < 2 ^ 62 → All IsByte r.packet → IfSome o IsSoundRequest → IsSoundGot (reply_gives r o)
reply-sound r None below all some = tt
reply-sound r (Some q) below all some = record {
  ta = some;
  tb = time-sound (receive_of r.packet) (range-bytes r.packet 32 40 all);
  te = time-sound (transmit_of r.packet) (range-bytes r.packet 40 48 all);
  tf = below;
  stratum = bytes-below r.packet all 1;
  leap = let b = bytes-below r.packet all 0 in omega (arith, b);
}

got-sound : (qs : List Request) (r : Record) → All IsSoundRequest qs → r.count < 2 ^ 62 → All IsByte r.packet → IsSoundGot (got_by qs r)
unfolding got_by
got-sound qs r all below bytes =
    let split : (t : Bool) → IsSoundGot (cond t (reply_gives r (match_of qs r)) got.Nothing) =
    elim [ true ↦ reply-sound r (match_of qs r) below bytes (match-sound qs r all) | false ↦ tt ] in
    split (is_reply r)

-- the records of sound pieces, and what they give
abbrev IsSoundRecord : Record → Type 0
IsSoundRecord r = (r.count < 2 ^ 62) × All IsByte r.packet

records-sound : (ps : List Piece) → AllByRecursion IsSoundPiece ps → AllByRecursion IsSoundRecord (records_in ps) × (length (records_in ps) ≤ length ps)
records-sound [] all = (tt, omega arith)
records-sound (piece.Freq f ∷ ps) all = let rest = records-sound ps all.1 in (rest.0, omega (arith, rest.1))
records-sound (piece.Record r ∷ ps) all = let rest = records-sound ps all.1 in ((all.0, rest.0), omega (arith, rest.1))

gots-sound : (qs : List Request) (rs : List Record) → All IsSoundRequest qs → AllByRecursion IsSoundRecord rs
    → AllByRecursion IsSoundGot (gots_from qs rs) × (length (gots_from qs rs) ≡ length rs)
gots-sound qs [] all each = (tt, refl)
gots-sound qs (r ∷ rs) all each =
    let rest = gots-sound (requests_with qs r) rs (requests-sound qs r all each.0.0) each.1 in
    ((got-sound qs r all each.0.0 each.0.1, rest.0), ap suc rest.1)

answers-sound : (n : ℕ) (gs : List Got) → AllByRecursion IsSoundGot gs → n + length gs < 2 ^ 64 → All IsAnswerInRange (answers_from n gs)
answers-sound n [] each few = All-nil IsAnswerInRange
answers-sound n (got.Nothing ∷ gs) each few = answers-sound (n + 1) gs each.1 (omega arith)
answers-sound n (got.Unused ∷ gs) each few = All-cons IsAnswerInRange (answer.Unused n) (answers_from (n + 1) gs) (omega arith)
    (answers-sound (n + 1) gs each.1 (omega arith))
answers-sound n (got.Exchange e ∷ gs) each few = All-cons IsAnswerInRange (answer.Exchange e) (answers_from (n + 1) gs) each.0
    (answers-sound (n + 1) gs each.1 (omega arith))

pub answers-in-range : (text : List ℕ) → All IsByte text → length text < 2 ^ 62 → All IsAnswerInRange (answers_of (given text))
unfolding answers_of gots
answers-in-range text all short =
    let pieces = text-sound text all in
    let records = records-sound (given text) pieces.sound in
    let each = gots-sound [] (records_in (given text)) (All-nil IsSoundRequest) records.0 in
    answers-sound 0 (gots_from [] (records_in (given text))) each.0 (omega (arith, each.1, records.1, pieces.few))

-- ---- the frequency

abbrev IsFreq : ℕ → Type 0
IsFreq f = (least_freq ≤ f) × (f ≤ greatest_freq)

freq-stays : (f : ℕ) (ps : List Piece) → IsFreq f → AllByRecursion IsSoundPiece ps → IsFreq (freq_after f ps)
freq-stays f [] is all = is
freq-stays f (piece.Freq n ∷ ps) is all = freq-stays n ps all.0 all.1
freq-stays f (piece.Record r ∷ ps) is all = freq-stays f ps is all.1

both-none : (a b : Option CapFault) → first_fault a b ≡ None → (a ≡ None) × (b ≡ None)
both-none None b e = (refl, e)
both-none (Some f) b e = absurd (cc)

freq-first : (us : List (List ℕ)) (last : List ℕ) (place n : ℕ) → fault_from 0 true us ≡ None → cut_off us last place ≡ None
    → AreSound (given_from true us) n → IsFreq (freq_after 0 (given_from true us))
unfolding piece_in
freq-first [] last place n sound whole are = absurd (cc)
freq-first (u ∷ us) last place n sound whole are =
    let none = not-refused 0 (refusal_in true u) (both-none (fault_at 0 (refusal_in true u)) _ sound).0 in
    let told : given_from true (u ∷ us) ≡ piece_in true u ∷ given_from false us = ap (λ r. given_on r (piece_in true u) (given_from false us)) none in
    let all : AllByRecursion IsSoundPiece (piece_in true u ∷ given_from false us) = subst (AllByRecursion IsSoundPiece) told are.sound in
    subst (λ ps. IsFreq (freq_after 0 ps)) (sym told) (freq-stays _ (given_from false us) all.0 all.1)

pub freq-in-range : (text : List ℕ) → All IsByte text → fault_of_capture text ≡ None → IsFreq (freq_after 0 (given text))
unfolding fault_of_capture given
freq-in-range text all none =
    let both = both-none (fault_so_far text) _ none in
    freq-first (units_of text).ended (units_of text).last _ (length text) (sound-by text both.0).ended both.1 (text-sound text all)
