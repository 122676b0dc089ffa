-- What stops a capture.
use Rattle.std.proofs.Common.{◌≡◌, ℕ, ◌≤◌, List, ◌++◌, length, Option, None, Some, refl, sym, ap, ◌∙◌}
use Rattle.std.specs.Option.{option_map}
use Rattle.ntp_capture.specs.Kept.{Kept}
use Rattle.ntp_capture.specs.Grammar.{given, fault_so_far, fault_of_capture}
use Rattle.ntp_capture.specs.declared.matches.Request.{Request}
use Rattle.ntp_capture.specs.declared.pieces.CapFault.{CapFault}
use Rattle.report_text.specs.declared.lines.Limit.TheVariants as limit
use Rattle.capture_text.specs.Inputs.{answers_of, exchanges_in, stop_within, stop_of_capture}
use Rattle.capture_text.specs.Readings.{Reads}
use Rattle.capture_text.specs.Readings.{IsInputStop as IsCaptureStop}
use Rattle.capture_text.specs.declared.inputs.CaptureFile.{CaptureFile}
use Rattle.capture_text.specs.declared.inputs.CaptureStop.{CaptureStop}
use Rattle.capture_text.specs.declared.inputs.CaptureStop.TheVariants as capture_stop
use Rattle.capture_text.proofs.StopLaws.{few-stops, many-stops, within-stops, stop_within-stays}
use Rattle.radclock_input.specs.Captured.{stop_of, capture_within, capture_whole, capture_so_far, stop_of_packets}
use Rattle.radclock_input.specs.Pulled.{IsInputStop, first_stop}
use Rattle.radclock_input.specs.declared.stops.Stop.{Stop}
use Rattle.radclock_input.specs.declared.stops.Stop.TheVariants as stop
use Rattle.radclock_input.proofs.Pulling.{by_order, input_stop-stays, front_stop-long, input_stop-short, input_stop-long}

-- nothing stops what is read
pub reads-nothing-stops : (k : Kept) (matcher : List Request) (file : CaptureFile) (text : List ℕ) → Reads k matcher file text → capture_within text ≡ None
unfolding stop_within
reads-nothing-stops k matcher file text reads =
    ap (option_map stop_of) (few-stops (given text) (fault_so_far text) reads.gathers.few ∙ ap (option_map capture_stop.Fault) reads.sound)

mapped-some : (o p : Option CaptureStop) (s : Stop) → ((t : CaptureStop) → o ≡ Some t → p ≡ Some t) → option_map stop_of o ≡ Some s
    → option_map stop_of p ≡ Some s
mapped-some None p s g h = absurd (cc)
mapped-some (Some t) p s g h = ap (option_map stop_of) (g t refl) ∙ h

-- what stops the front of a capture stops it
pub stop_of_packets-stays : (text more : List ℕ) (s : Stop) → capture_so_far text ≡ Some s → stop_of_packets (text ++ more) ≡ Some s
stop_of_packets-stays = input_stop-stays 16777216 capture_within capture_whole
    (λ text more s h. mapped-some (stop_within text) (stop_within (text ++ more)) s (stop_within-stays text more) h)
    (λ text s h. mapped-some (stop_within text) (stop_of_capture text) s (within-stops text) h)

-- a capture that nothing stops has no fault, and is within the limits
pub record IsSoundCapture (text : List ℕ) : Type 0 where
  pub sound : fault_of_capture text ≡ None
  pub few_bytes : length text ≤ 16777216
  pub few_exchanges : exchanges_in (answers_of (given text)) ≤ 65536

no-fault : (fault : Option CapFault) → option_map capture_stop.Fault fault ≡ None → fault ≡ None
no-fault None e = refl
no-fault (Some f) e = absurd (cc)

not-mapped : (o : Option CaptureStop) → option_map stop_of o ≡ None → o ≡ None
not-mapped None e = refl
not-mapped (Some s) e = absurd (cc)

first-of-some : (a : Option Stop) (s : Stop) → first_stop a (Some s) ≡ None → ⊥
first-of-some None s e = cc
first-of-some (Some t) s e = cc

pub is-sound-capture : (text : List ℕ) → stop_of_packets text ≡ None → IsSoundCapture text
unfolding stop_of_capture
is-sound-capture text none =
    by_order (IsSoundCapture text) (length text) 16777216
    (λ short.
    let here = not-mapped (stop_of_capture text) (sym (input_stop-short 16777216 capture_within capture_whole text short) ∙ none) in
    by_order (IsSoundCapture text) (exchanges_in (answers_of (given text))) 65536
    (λ few. record {
      sound = no-fault (fault_of_capture text) (sym (few-stops (given text) (fault_of_capture text) few) ∙ here);
      few_bytes = short;
      few_exchanges = few;
    })
    (λ many. let found = many-stops (given text) (fault_of_capture text) many in absurd (cc)))
    (λ long. absurd (first-of-some _ (stop.Large limit.Bytes) (sym (front_stop-long 16777216 capture_within text long)
    ∙ sym (input_stop-long 16777216 capture_within capture_whole text long) ∙ none)))

-- a stop of a capture is one among all
pub stops-as : (s : CaptureStop) (P Q : Type 0) → (P → Q) → IsCaptureStop s P → IsInputStop (stop_of s) Q
stops-as capture_stop.Memory P Q g h = tt
stops-as capture_stop.ManyExchanges P Q g h = g h
stops-as (capture_stop.Fault f) P Q g h = g h
