-- A reading is by the hands that a pass looked at.
use Rattle.std.proofs.Common.{◌≡◌, ℕ, ◌<◌, ◌^◌, List, refl, ap, sym, ◌∙◌, subst}
use Rattle.ff_hands.specs.declared.hands.Hands.{Hands}
use Rattle.clock_lines.specs.Readings.{reading_at}
use Rattle.clock_lines.specs.Values.{MayRead}
use Rattle.clock_lines.specs.declared.readings.Kind.{Kind}
use Rattle.clock_lines.specs.declared.readings.Reading.{Reading}
use Rattle.hand_words.specs.Words.{unpack}
use Rattle.tick_views.specs.declared.views.PassView.{PassView}
use Rattle.tick_views.specs.Views.{scan_of}
use Rattle.tick_table.specs.Steps.{IsSoundAt}
use Rattle.tick_desk.specs.Answers.{IsBy, hands_of}

pub by_it : (v : PassView) (h : Hands) (fields : List ℕ) (k : Kind) (tick count : ℕ) (r : Reading) → (scan_of v).fields ≡ fields → h ≡ unpack fields
    → IsSoundAt tick h → MayRead k h.count count → count < 2 ^ 62 → r ≡ reading_at h tick k count → IsBy (hands_of v) r
by_it v h fields k tick count r same is stands place small r-is =
    subst (λ (z : Hands × Reading). IsBy z.0 z.1) (λ i. ((is ∙ ap unpack (sym same)) i, sym r-is i)) record {
      stands = stands;
      is = refl;
      place = place;
      small = small;
    }
