-- What a stamp file is that nothing stops.
use Rattle.std.proofs.Common.{◌≡◌, ℕ, ◌≤◌, Bool, true, false, List, Option, None, Some, length, refl, sym, ◌∙◌}
use Rattle.std.specs.Option.{option_map}
use Rattle.stamp_text.specs.Grammar.{given_of_file, fault_of_file}
use Rattle.stamp_text.specs.declared.lines.LineFault.{LineFault}
use Rattle.report_text.specs.declared.lines.Limit.TheVariants as limit
use Rattle.radclock_input.specs.Inputs.{items_in, counted_among, accepts_many, stop_by, stop_within, stop_whole, stop_of_file, head_of_file, freq_of_file, items_of_file}
use Rattle.radclock_input.specs.declared.stops.Stop.{Stop}
use Rattle.radclock_input.specs.declared.stops.Stop.TheVariants as stop
use Rattle.radclock_input.specs.Pulled.{first_stop}
use Rattle.radclock_input.proofs.Accepting.{are-few}
use Rattle.radclock_input.proofs.Pulling.{by_order, front_stop-long, input_stop-short, input_stop-long}
use Rattle.radclock_input.proofs.Stopping.{accepted-stop, many-stop, few-stop}

-- an input that nothing stops is in the grammar and within the limits
pub record IsSound (limited : Bool) (text : List ℕ) : Type 0 where
  pub sound : fault_of_file text ≡ None
  pub few_bytes : length text ≤ 16777216
  pub few_items : length (items_of_file text) ≤ 65536
  pub few_accepted : limited ≡ true → counted_among (freq_of_file text) (items_of_file text) ≤ 16384

no-fault : (fault : Option LineFault) → option_map stop.Fault fault ≡ None → fault ≡ None
no-fault None e = refl
no-fault (Some f) e = absurd (cc)

first-of-some : (a : Option Stop) (s : Stop) → first_stop a (Some s) ≡ None → ⊥
first-of-some None s e = cc
first-of-some (Some t) s e = cc

pub is-sound : (limited : Bool) (text : List ℕ) → stop_of_file limited text ≡ None → IsSound limited text
unfolding items_of_file head_of_file stop_whole
is-sound limited text none =
    let lines = given_of_file text in
    let fault = fault_of_file text in
    by_order (IsSound limited text) (length text) 16777216
    (λ short.
    let here : stop_by limited lines fault ≡ None = sym (input_stop-short 16777216 (stop_within limited) (stop_whole limited) text short) ∙ none in
    let split : (t : Bool) → accepts_many limited lines ≡ t → IsSound limited text =
    elim [
      | true ↦ λ many. let found = accepted-stop limited lines fault many in absurd (cc)
      | false ↦ λ tested. by_order (IsSound limited text) (length (items_in lines)) 65536
          (λ few. record {
            sound = no-fault fault (sym (few-stop limited lines fault tested few) ∙ here);
            few_bytes = short;
            few_items = few;
            few_accepted = are-few limited lines few tested;
          })
          (λ many. let found = many-stop limited lines fault tested many in absurd (cc))
    ] in
    split (accepts_many limited lines) refl)
    (λ long. absurd (first-of-some _ (stop.Large limit.Bytes) (sym (front_stop-long 16777216 (stop_within limited) text long)
    ∙ sym (input_stop-long 16777216 (stop_within limited) (stop_whole limited) text long) ∙ none)))
