-- What stops an input stops it with more bytes, too.
use Rattle.std.proofs.Common.{◌≡◌, ℕ, ◌+◌, ◌<◌, ◌≤◌, Bool, true, false, cond, ltb, Option, None, Some, List, [], ◌∷◌, ◌++◌, length, take, drop, refl, sym, ap, subst, ◌∙◌, arith, append_assoc, append-nil}
use Rattle.std.specs.Option.{option_map}
use Rattle.std.proofs.lemmas.Bool.Decides.{nat_tests}
use Rattle.std.proofs.lemmas.List.{take-append-drop}
use Rattle.std.proofs.lemmas.List.Sums.{sum_by-append}
use Rattle.ntp_capture.specs.Cut.{left_head, units_from, units_of}
use Rattle.ntp_capture.specs.Grammar.{fault_so_far, given, given_from, fault_of_capture}
use Rattle.ntp_capture.specs.declared.matches.Request.{Request}
use Rattle.ntp_capture.specs.declared.pieces.CapFault.{CapFault}
use Rattle.ntp_capture.specs.declared.pieces.Piece.{Piece}
use Rattle.ntp_capture.proofs.CutLaws.{units-more}
use Rattle.ntp_capture.proofs.GrammarLaws.{sound-by, given-append}
use Rattle.ntp_capture.proofs.StayLaws.{refused-stays, fault-of-all}
use Rattle.capture_text.specs.Inputs.{answers_of, exchanges_in, most_exchanges, stop_by, stop_within, stop_of_capture}
use Rattle.capture_text.specs.Readings.{Gathers, PassesLimit}
use Rattle.capture_text.specs.declared.inputs.CaptureFile.{CaptureFile}
use Rattle.capture_text.specs.declared.inputs.CaptureStop.{CaptureStop}
use Rattle.capture_text.specs.declared.inputs.CaptureStop.TheVariants as stop
use Rattle.capture_text.proofs.GatherLaws.{answers-more}

-- more units give no fewer stamps
pub stamps-grow : (ps more : List Piece) → exchanges_in (answers_of ps) ≤ exchanges_in (answers_of (ps ++ more))
stamps-grow ps [] = subst (λ qs. exchanges_in (answers_of ps) ≤ exchanges_in (answers_of qs)) (sym (append-nil ps)) (omega arith)
stamps-grow ps (p ∷ more) =
    let rest = stamps-grow (ps ++ p ∷ []) more in
    let one = answers-more ps p in
    let same : (ps ++ p ∷ []) ++ more ≡ ps ++ (p ∷ more) = append_assoc ps (p ∷ []) more in
    let count = ap exchanges_in one.1 ∙ sum_by-append _ (answers_of ps) one.0 in
    let here : exchanges_in (answers_of (ps ++ p ∷ [])) ≡ exchanges_in (answers_of ps) + exchanges_in one.0 = count in
    subst (λ qs. exchanges_in (answers_of ps) ≤ exchanges_in (answers_of qs)) same (omega arith)

-- a text gives what its front gives, and more
pub given-more : (t v : List ℕ) → (more : List Piece) × (given (t ++ v) ≡ given t ++ more)
unfolding given
given-more t v =
    let split : (f : Option CapFault) → fault_so_far t ≡ f → (more : List Piece) × (given (t ++ v) ≡ given t ++ more) =
    elim [
      | None ↦ λ e.
          let es = (units_of t).ended in
          let x = units_from (length t + length v) (left_head true es) ((units_of t).last ++ v) in
          (given_from (left_head true es) x.ended, ap (λ us. given_from true us.ended) (units-more t v) ∙ given-append 0 true es x.ended (sound-by t e).ended)
      | Some f ↦ λ e. ([], (refused-stays t v f e).given ∙ sym (append-nil (given t)))
    ] in
    split (fault_so_far t) refl

-- too many stamps
pub many-stops : (ps : List Piece) (f : Option CapFault) → most_exchanges < exchanges_in (answers_of ps) → stop_by ps f ≡ Some (stop.ManyExchanges)
many-stops ps f many =
    let test : ltb most_exchanges (exchanges_in (answers_of ps)) ≡ true = grind (arith, nat_tests) in
    ap (λ t. cond t (Some (stop.ManyExchanges)) (option_map stop.Fault f)) test

-- no more than there may be
pub few-stops : (ps : List Piece) (f : Option CapFault) → exchanges_in (answers_of ps) ≤ most_exchanges → stop_by ps f ≡ option_map stop.Fault f
few-stops ps f few =
    let test : ltb most_exchanges (exchanges_in (answers_of ps)) ≡ false = grind (arith, nat_tests) in
    ap (λ t. cond t (Some (stop.ManyExchanges)) (option_map stop.Fault f)) test

pub limit-stops : (t v : List ℕ) (s : CaptureStop) → PassesLimit s (given t) → stop_within (t ++ v) ≡ Some s
unfolding stop_within
limit-stops t v s passes =
    let more = given-more t v in
    let grows = stamps-grow (given t) more.0 in
    let many : most_exchanges < exchanges_in (answers_of (given (t ++ v))) = subst (λ ps. most_exchanges < exchanges_in (answers_of ps)) (sym more.1) (omega (arith, passes.many)) in
    many-stops (given (t ++ v)) (fault_so_far (t ++ v)) many ∙ ap Some (sym passes.limit)

-- a fault of a text that gives what was kept
pub fault-stops : (file : CaptureFile) (m : List Request) (t v w : List ℕ) (f : CapFault) → Gathers file m (given t) → fault_so_far (t ++ v) ≡ Some f → given (t ++ v) ≡ given t → stop_within ((t ++ v) ++ w) ≡ Some (stop.Fault f)
unfolding stop_within
fault-stops file m t v w f gathers fault same =
    let stays = refused-stays (t ++ v) w f fault in
    let all : given ((t ++ v) ++ w) ≡ given t = stays.given ∙ same in
    ap (λ ps. stop_by ps (fault_so_far ((t ++ v) ++ w))) all
    ∙ few-stops (given t) (fault_so_far ((t ++ v) ++ w)) gathers.few
    ∙ ap (option_map stop.Fault) stays.fault

-- the end
pub end-stops : (file : CaptureFile) (m : List Request) (t : List ℕ) (f : Option CapFault) → Gathers file m (given t) → fault_of_capture t ≡ f → stop_of_capture t ≡ option_map stop.Fault f
unfolding stop_of_capture
end-stops file m t f gathers fault = few-stops (given t) (fault_of_capture t) gathers.few ∙ ap (option_map stop.Fault) fault

-- the front of some bytes, and the rest
pub front-and-rest : (t more : List ℕ) (n : ℕ) → (t ++ take n more) ++ drop n more ≡ t ++ more
front-and-rest t more n = append_assoc t (take n more) (drop n more) ∙ ap (λ (bs : List ℕ). t ++ bs) (take-append-drop n more)

-- with no fault only the limit stops, and then it does with any
limit-alone : (ps : List Piece) (f : Option CapFault) (s : CaptureStop) → stop_by ps None ≡ Some s → stop_by ps f ≡ Some s
limit-alone ps f s h =
    let split : (b : Bool) → cond b (Some stop.ManyExchanges) None ≡ Some s → cond b (Some stop.ManyExchanges) (option_map stop.Fault f) ≡ Some s =
    elim [
      | true ↦ λ e. e
      | false ↦ λ e. absurd (cc)
    ] in
    split (ltb most_exchanges (exchanges_in (answers_of ps))) h

-- units without a fault are stopped by the limit alone
limit-passed : (ps : List Piece) (s : CaptureStop) → stop_by ps None ≡ Some s → most_exchanges < exchanges_in (answers_of ps)
limit-passed ps s h =
    let split : (b : Bool) → ltb most_exchanges (exchanges_in (answers_of ps)) ≡ b → cond b (Some stop.ManyExchanges) None ≡ Some s
    → most_exchanges < exchanges_in (answers_of ps) =
    elim [
      | true ↦ λ e g. grind (arith, nat_tests)
      | false ↦ λ e g. absurd (cc)
    ] in
    split (ltb most_exchanges (exchanges_in (answers_of ps))) refl h

limit-is : (ps : List Piece) (s : CaptureStop) → stop_by ps None ≡ Some s → Some s ≡ Some stop.ManyExchanges
limit-is ps s h = sym h ∙ many-stops ps None (limit-passed ps s h)

-- what stops bytes that may go on stops the capture that ends there
pub within-stops : (t : List ℕ) (s : CaptureStop) → stop_within t ≡ Some s → stop_of_capture t ≡ Some s
unfolding stop_within stop_of_capture
within-stops t s stops =
    let split : (f : Option CapFault) → fault_so_far t ≡ f → stop_by (given t) f ≡ Some s → stop_by (given t) (fault_of_capture t) ≡ Some s =
    elim [
      | None ↦ λ e h. limit-alone (given t) (fault_of_capture t) s h
      | Some f ↦ λ e h. ap (λ (u : List ℕ). stop_by (given t) (fault_of_capture u)) (sym (append-nil t)) ∙ ap (stop_by (given t)) (fault-of-all t f e []) ∙ h
    ] in
    split (fault_so_far t) refl stops

-- and more bytes behind them do not hide it
pub stop_within-stays : (t v : List ℕ) (s : CaptureStop) → stop_within t ≡ Some s → stop_within (t ++ v) ≡ Some s
unfolding stop_within
stop_within-stays t v s stops =
    let split : (f : Option CapFault) → fault_so_far t ≡ f → stop_by (given t) f ≡ Some s → stop_by (given (t ++ v)) (fault_so_far (t ++ v)) ≡ Some s =
    elim [
      | None ↦ λ e h. many-stops (given (t ++ v)) (fault_so_far (t ++ v))
          (let more = given-more t v in
          let many = limit-passed (given t) s h in
          subst (λ ps. most_exchanges < exchanges_in (answers_of ps)) (sym more.1) (omega (arith, many, stamps-grow (given t) more.0)))
          ∙ sym (limit-is (given t) s h)
      | Some f ↦ λ e h.
          let stays = refused-stays t v f e in
          ap (λ ps. stop_by ps (fault_so_far (t ++ v))) stays.given ∙ ap (stop_by (given t)) stays.fault ∙ h
    ] in
    split (fault_so_far t) refl stops
