-- Two conversions of one count are one reading.
use Rattle.std.proofs.Common.{◌≡◌, ℕ, List, slice_get, Some, sym, ap, ◌∙◌, subst}
use Rattle.ff_hands.specs.declared.hands.Hands.{Hands}
use Rattle.clock_lines.specs.Lines.{line_of}
use Rattle.clock_lines.specs.Readings.{reading_at}
use Rattle.clock_lines.specs.declared.readings.Kind.TheVariants as kind
use Rattle.clock_lines.specs.declared.readings.Reading.{Reading}
use Rattle.clock_lines.specs.declared.readings.Entry.{Entry}
use Rattle.clock_logs.specs.Legal.{IsPlaced, IsReading}
use Rattle.clock_logs.specs.Logs.{IsLog}
use Rattle.clock_logs.specs.Rises.{IsIn}
use Rattle.clock_logs.proofs.Places.{same-at}
use Rattle.tick_table.proofs.Lists.{Some_same}

-- a conversion is the reading by the line of its count
converted : (ticks : List Hands) (r : Reading) → IsReading ticks r → r.kind ≡ kind.Back → (h : Hands) × (slice_get ticks r.tick ≡ Some h)
    × (line_of ticks r.count ≡ Some r.tick) × (r ≡ reading_at h r.tick kind.Back r.count)
converted ticks r is back = (
  is.hands,
  is.tick,
  subst (λ k. IsPlaced k ticks r.tick r.count is.hands) back is.place,
  (λ i. record r { time = is.time i; bound = is.bound i }) ∙ ap (λ k. reading_at is.hands r.tick k r.count) back,
)

pub one_conversion : (ticks : List Hands) (r s : Reading) → IsReading ticks r → IsReading ticks s → r.kind ≡ kind.Back → s.kind ≡ kind.Back
    → r.count ≡ s.count → r ≡ s
one_conversion ticks r s p q back back' same =
    let a = converted ticks r p back in let b = converted ticks s q back' in
    let tick : r.tick ≡ s.tick = Some_same r.tick s.tick (sym a.2 ∙ (ap (line_of ticks) same ∙ b.2)) in
    let hands : a.0 ≡ b.0 = same-at ticks s.tick a.0 b.0 (subst (λ n. slice_get ticks n ≡ Some a.0) tick a.1) b.1 in
    a.3 ∙ ((λ i. reading_at (hands i) (tick i) kind.Back (same i)) ∙ sym b.3)

pub agree : (ticks : List Hands) (logs : List (List Entry)) → ((i : ℕ) (es : List Entry) → slice_get logs i ≡ Some es
    → IsLog ticks es) → (r s : Reading) → IsIn logs r → IsIn logs s → r.kind ≡ kind.Back → s.kind ≡ kind.Back → r.count ≡ s.count → r ≡ s
agree ticks logs legal r s a b = one_conversion ticks r s ((legal a.reader a.entries a.log).each a.place _ a.here)
    ((legal b.reader b.entries b.log).each b.place _ b.here)
