-- A read of now by the newest tick.
use Rattle.std.proofs.Common.{◌≡◌, ℕ, ◌-◌, ◌<◌, ◌≤◌, ◌^◌, List, [], ◌∷◌, ◌++◌, length, refl, ap, sym, ◌∙◌, subst}
use Rattle.ff_hands.specs.declared.hands.Hands.{Hands}
use Rattle.clock_lines.specs.Readings.{newest, reading_at}
use Rattle.clock_lines.specs.Values.{MayRead}
use Rattle.clock_lines.specs.declared.readings.Kind.{Kind}
use Rattle.clock_lines.specs.declared.readings.Kind.TheVariants as kind
use Rattle.clock_lines.specs.declared.readings.Reading.{Reading}
use Rattle.clock_core.specs.Machines.{count_of}
use Rattle.clock_logs.specs.Legal.{full, quick, past, way_of}

quick_full : {P : Type 0} → quick ≡ full → P
quick_full e = cc

past_full : {P : Type 0} → past ≡ full → P
past_full e = cc

-- a kind that is read in full is read at the counter
pub count_full : (k : Kind) (at counter : ℕ) → way_of k ≡ full → count_of k at counter ≡ counter
count_full kind.Abs at counter way = refl
count_full kind.Mono at counter way = refl
count_full kind.Uptime at counter way = refl
count_full kind.Utc at counter way = refl
count_full kind.Fast at counter way = quick_full way
count_full kind.Diff at counter way = quick_full way
count_full kind.Back at counter way = past_full way

pub reading_newest : (ticks : List Hands) (h : Hands) (k : Kind) (len count counter : ℕ) (r : Reading) → h ≡ newest ticks → len ≡ length ticks
    → count ≡ count_of k h.count counter → r ≡ reading_at h (len - 1) k count
    → r ≡ reading_at (newest ticks) (length ticks - 1) k (count_of k (newest ticks).count counter)
reading_newest ticks h k len count counter r is many at r-is =
    r-is ∙ ((λ i. reading_at h (many i - 1) k (at i)) ∙ ap (λ (g : Hands). reading_at g (length ticks - 1) k (count_of k g.count counter)) is)
