-- One more unit behind those that were kept.
use Rattle.std.proofs.Common.{◌≡◌, ℕ, suc, ◌+◌, ◌≤◌, option_to_list, List, [], ◌∷◌, ◌++◌, length, refl, sym, ap, subst, ◌∙◌, arith, append_assoc, append-nil, add-zero, length-append}
use Rattle.std.specs.List.{All}
use Rattle.std.proofs.lemmas.List.Elements.{filter_map-append, All-push}
use Rattle.std.proofs.lemmas.List.Sums.{sum_by-append}
use Rattle.ntp_capture.specs.Matches.{StandsFor, IsGotInRange, requests_with, requests_of, got_by, gots_from, gots}
use Rattle.ntp_capture.specs.declared.exchanges.Got.{Got}
use Rattle.ntp_capture.specs.declared.exchanges.Got.TheVariants as got
use Rattle.ntp_capture.specs.declared.exchanges.Exchange.{Exchange}
use Rattle.ntp_capture.specs.declared.matches.Request.{Request}
use Rattle.ntp_capture.specs.declared.pieces.Piece.{Piece}
use Rattle.ntp_capture.specs.declared.pieces.Piece.TheVariants as piece
use Rattle.ntp_capture.specs.declared.pieces.Record.{Record}
use Rattle.ntp_capture.proofs.MatchLaws.{gots-grow}
use Rattle.capture_text.specs.Inputs.{record_of, records_in, freq_with, freq_after, answer_at, answers_from, answers_of, exchanges_in, most_exchanges, IsAnswerTimed}
use Rattle.capture_text.specs.Readings.{Gathers, PassesLimit}
use Rattle.capture_text.specs.declared.inputs.Answer.{Answer}
use Rattle.capture_text.specs.declared.inputs.Answer.TheVariants as answer
use Rattle.capture_text.specs.declared.inputs.CaptureFile.{CaptureFile}
use Rattle.capture_text.specs.declared.inputs.CaptureStop.TheVariants as stop

answers-push : (n : ℕ) (gs : List Got) (g : Got) → answers_from n (gs ++ g ∷ []) ≡ answers_from n gs ++ option_to_list (answer_at (n + length gs) g)
answers-push n [] g = append-nil (option_to_list (answer_at n g)) ∙ ap (λ n. option_to_list (answer_at n g)) (sym (add-zero n))
answers-push n (x ∷ gs) g =
    let front = option_to_list (answer_at n x) in
    ap (λ (xs : List Answer). front ++ xs) (answers-push (n + 1) gs g)
    ∙ sym (append_assoc front (answers_from (n + 1) gs) (option_to_list (answer_at (n + 1 + length gs) g)))
    ∙ ap (λ k. (front ++ answers_from (n + 1) gs) ++ option_to_list (answer_at k g)) (let m : n + 1 + length gs ≡ n + suc (length gs) = omega arith in m)

length-gots : (qs : List Request) (rs : List Record) → length (gots_from qs rs) ≡ length rs
length-gots qs [] = refl
length-gots qs (r ∷ rs) = ap suc (length-gots (requests_with qs r) rs)

records-push : (ps : List Piece) (p : Piece) → records_in (ps ++ p ∷ []) ≡ records_in ps ++ records_in (p ∷ [])
records-push ps p = filter_map-append record_of ps (p ∷ [])

pub freq-push : (freq : ℕ) (ps : List Piece) (p : Piece) → freq_after freq (ps ++ p ∷ []) ≡ freq_with (freq_after freq ps) p
freq-push freq [] p = refl
freq-push freq (x ∷ ps) p = freq-push (freq_with freq x) ps p

answers-record : (ps : List Piece) (r : Record) → answers_of (ps ++ piece.Record r ∷ []) ≡ answers_of ps ++ option_to_list (answer_at (length (records_in ps)) (got_by (requests_of (records_in ps)) r))
unfolding answers_of gots
answers-record ps r =
    let rs = records_in ps in
    ap (λ rs. answers_from 0 (gots rs)) (records-push ps (piece.Record r))
    ∙ ap (answers_from 0) (gots-grow rs r)
    ∙ answers-push 0 (gots rs) (got_by (requests_of rs) r)
    ∙ ap (λ n. answers_from 0 (gots rs) ++ option_to_list (answer_at n (got_by (requests_of rs) r))) (let l = length-gots [] rs in let n : 0 + length (gots rs) ≡ length rs = omega arith in n)

-- the head tells no more than the frequency
pub gathers-freq : (file new : CaptureFile) (m : List Request) (ps : List Piece) (freq : ℕ) → Gathers file m ps → new ≡ record file { freq = freq } → Gathers new m (ps ++ piece.Freq freq ∷ [])
unfolding answers_of
gathers-freq file new m ps freq was is =
    let same : records_in (ps ++ piece.Freq freq ∷ []) ≡ records_in ps = records-push ps (piece.Freq freq) ∙ append-nil (records_in ps) in
    let all : answers_of (ps ++ piece.Freq freq ∷ []) ≡ answers_of ps = ap (λ rs. answers_from 0 (gots rs)) same in
    record {
      freq = ap (λ f. f.freq) is ∙ sym (freq-push 0 ps (piece.Freq freq));
      matches = subst (StandsFor m) (sym same) was.matches;
      records = ap (λ f. f.records) is ∙ was.records ∙ ap length (sym same);
      answers = ap (λ f. f.answers.items) is ∙ was.answers ∙ sym all;
      exchanges = ap (λ f. f.exchanges) is ∙ was.exchanges ∙ ap exchanges_in (sym all);
      few = subst (λ xs. exchanges_in xs ≤ most_exchanges) (sym all) was.few;
      timed = subst (All IsAnswerTimed) (sym all) was.timed;
    }

-- what is answered in range becomes what can be written
timed-next : (n : ℕ) (g : Got) (xs : List Answer) → IsGotInRange g → All IsAnswerTimed xs → All IsAnswerTimed (xs ++ option_to_list (answer_at n g))
timed-next n got.Nothing xs ranged all = subst (All IsAnswerTimed) (sym (append-nil xs)) all
timed-next n got.Unused xs ranged all = All-push IsAnswerTimed xs (answer.Unused n) all tt
timed-next n (got.Exchange e) xs ranged all = All-push IsAnswerTimed xs (answer.Exchange e) all ranged

-- a record gives what the matcher answers
pub gathers-record : (file new : CaptureFile) (m m' : List Request) (ps : List Piece) (r : Record) (g : Got) → IsGotInRange g → Gathers file m ps → g ≡ got_by (requests_of (records_in ps)) r → StandsFor m' (records_in ps ++ r ∷ []) → new.freq ≡ file.freq → new.records ≡ file.records + 1 → new.answers.items ≡ file.answers.items ++ option_to_list (answer_at file.records g) → new.exchanges ≡ file.exchanges + exchanges_in (option_to_list (answer_at file.records g)) → new.exchanges ≤ most_exchanges → Gathers new m' (ps ++ piece.Record r ∷ [])
gathers-record file new m m' ps r g ranged was is stands freq records answers exchanges few =
    let more : records_in (ps ++ piece.Record r ∷ []) ≡ records_in ps ++ r ∷ [] = records-push ps (piece.Record r) in
    let one : option_to_list (answer_at file.records g) ≡ option_to_list (answer_at (length (records_in ps)) (got_by (requests_of (records_in ps)) r)) = ap (λ n. option_to_list (answer_at n g)) was.records ∙ ap (λ g. option_to_list (answer_at (length (records_in ps)) g)) is in
    let all : answers_of (ps ++ piece.Record r ∷ []) ≡ answers_of ps ++ option_to_list (answer_at file.records g) = answers-record ps r ∙ ap (λ (xs : List Answer). answers_of ps ++ xs) (sym one) in
    let count : exchanges_in (answers_of (ps ++ piece.Record r ∷ [])) ≡ new.exchanges = ap exchanges_in all ∙ sum_by-append _ (answers_of ps) (option_to_list (answer_at file.records g)) ∙ ap (λ n. n + exchanges_in (option_to_list (answer_at file.records g))) (sym was.exchanges) ∙ sym exchanges in
    record {
      freq = freq ∙ was.freq ∙ sym (freq-push 0 ps (piece.Record r));
      matches = subst (StandsFor m') (sym more) stands;
      records = omega (arith, records, was.records, ap length more, length-append (records_in ps) (r ∷ []));
      answers = answers ∙ ap (λ (xs : List Answer). xs ++ option_to_list (answer_at file.records g)) was.answers ∙ sym all;
      exchanges = sym count;
      few = subst (λ n. n ≤ most_exchanges) (sym count) few;
      timed = subst (All IsAnswerTimed) (sym all) (timed-next file.records g (answers_of ps) ranged was.timed);
    }

-- one exchange more than there may be
pub passes-limit : (file : CaptureFile) (m : List Request) (ps : List Piece) (r : Record) (e : Exchange) → Gathers file m ps → got.Exchange e ≡ got_by (requests_of (records_in ps)) r → most_exchanges ≤ file.exchanges → PassesLimit (stop.ManyExchanges) (ps ++ piece.Record r ∷ [])
passes-limit file m ps r e was is full =
    let n = length (records_in ps) in
    let all : answers_of (ps ++ piece.Record r ∷ []) ≡ answers_of ps ++ answer.Exchange e ∷ [] = answers-record ps r ∙ ap (λ g. answers_of ps ++ option_to_list (answer_at n g)) (sym is) in
    let count : exchanges_in (answers_of (ps ++ piece.Record r ∷ [])) ≡ exchanges_in (answers_of ps) + exchanges_in (answer.Exchange e ∷ []) = ap exchanges_in all ∙ sum_by-append _ (answers_of ps) (answer.Exchange e ∷ []) in
    record { limit = refl; many = omega (arith, count, was.exchanges, full) }

-- there are no more records than units
pub few-records : (ps : List Piece) → length (records_in ps) ≤ length ps
few-records [] = omega arith
few-records (piece.Freq n ∷ ps) = omega (arith, few-records ps)
few-records (piece.Record r ∷ ps) = omega (arith, few-records ps)

-- one more unit adds answers behind those before it
pub answers-more : (ps : List Piece) (p : Piece) → (more : List Answer) × (answers_of (ps ++ p ∷ []) ≡ answers_of ps ++ more)
unfolding answers_of
answers-more ps (piece.Freq freq) =
    ([], ap (λ rs. answers_from 0 (gots rs)) (records-push ps (piece.Freq freq) ∙ append-nil (records_in ps)) ∙ sym (append-nil (answers_of ps)))
answers-more ps (piece.Record r) =
    (option_to_list (answer_at (length (records_in ps)) (got_by (requests_of (records_in ps)) r)), answers-record ps r)
