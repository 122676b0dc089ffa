-- The parts of the lines of a report: rows of columns, each behind a space.
use Rattle.std.specs.Prelude.{◌≡◌, ℕ, ℤ, pos, ◌≤◌, ◌-◌, ◌^◌, Bool, true, false, if◌then◌else◌, ⊤, List, [], ◌∷◌, ◌++◌, codes, decimal}
use Rattle.std.specs.Fmt.{signed_decimal}
use Rattle.ff_grain.specs.declared.bintime.Bintime.{Bintime}
use Rattle.ff_hands.specs.declared.estimates.Estimate.{Estimate}
use Rattle.ff_hands.specs.declared.estimates.Marks.{Marks}
use Rattle.ff_hands.specs.declared.hands.Hands.{Hands}
use Rattle.ff_hands.specs.declared.hands.How.{How}
use Rattle.ff_estimator.specs.declared.fulls.Full.{Full}
use Rattle.clock_lines.specs.declared.readings.Kind.{Kind}
use Rattle.clock_lines.specs.declared.readings.Reading.{Reading}
use Rattle.journal_check.specs.Reading.{Reader, led_at, both_at, as_at, choice_at}
use Rattle.journal_check.specs.Numbers.{IsWithin, FitsTime, signed_at, word_at, half_at, wide_at, time_at, time_text}
use Rattle.journal_check.specs.Names.{how_name, how_at, kind_name, kind_at, marks_name, marks_at}

-- a value behind a space
abbrev pub column_at : {A : Type 0} → Reader A → Reader A
column_at read = led_at (codes " ") read

abbrev pub column : List ℕ → List ℕ
column text = codes " " ++ text

abbrev pub FitsWord : ℕ → Type 0
FitsWord n = n ≤ 2 ^ 64 - 1

abbrev pub FitsHalf : ℕ → Type 0
FitsHalf n = n ≤ 2 ^ 32 - 1

-- ---- the estimate that a clock goes by, with its leap seconds

abbrev pub given_text : Estimate → List ℕ
given_text e = time_text e.update_time ++ (column (decimal e.update_ffcount) ++ (column (decimal e.period) ++ (column (decimal e.errb_abs) ++ (column (decimal e.errb_rate) ++ (column (marks_name e.status) ++ (column (decimal e.leapsec_next) ++ (column (signed_decimal e.leapsec_total) ++ column (signed_decimal e.leapsec))))))))

abbrev pub FitsGiven : Estimate → Type 0
FitsGiven e = FitsTime e.update_time × (FitsWord e.update_ffcount × (FitsWord e.period × (FitsHalf e.errb_abs × (FitsHalf e.errb_rate × (⊤ × (FitsWord e.leapsec_next × (IsWithin (2 ^ 15 - 1) e.leapsec_total × IsWithin (2 ^ 7 - 1) e.leapsec)))))))

abbrev pub Given : Type 0
Given = Bintime × (ℕ × (ℕ × (ℕ × (ℕ × (Marks × (ℕ × (ℤ × ℤ)))))))

abbrev pub given_row : Reader Given
given_row = both_at time_at (both_at (column_at word_at) (both_at (column_at word_at) (both_at (column_at half_at) (both_at (column_at half_at) (both_at (column_at marks_at) (both_at (column_at word_at) (both_at (column_at (signed_at (2 ^ 15 - 1))) (column_at (signed_at (2 ^ 7 - 1))))))))))

abbrev pub estimate_of : Given → Estimate
estimate_of (time, (count, (period, (errb_abs, (errb_rate, (status, (next, (total, leap)))))))) = record { update_time = time; update_ffcount = count; leapsec_next = next; period = period; errb_abs = errb_abs; errb_rate = errb_rate; status = status; leapsec_total = total; leapsec = leap }

unfoldable pub given_at : Reader Estimate
given_at = as_at estimate_of given_row

-- ---- where the clocks stand, and the estimate that they go by

abbrev pub hands_text : Hands → List ℕ
hands_text h = how_name h.how ++ (column (decimal h.count) ++ (column (time_text h.time) ++ (column (time_text h.lerp) ++ (column (decimal h.period_lerp) ++ (column (time_text h.boot) ++ (column (marks_name h.kstatus) ++ column (given_text h.est)))))))

abbrev pub FitsHands : Hands → Type 0
FitsHands h = ⊤ × (FitsWord h.count × (FitsTime h.time × (FitsTime h.lerp × (FitsWord h.period_lerp × (FitsTime h.boot × (⊤ × FitsGiven h.est))))))

abbrev pub Told : Type 0
Told = How × (ℕ × (Bintime × (Bintime × (ℕ × (Bintime × (Marks × Estimate))))))

abbrev pub hands_row : Reader Told
hands_row = both_at how_at (both_at (column_at word_at) (both_at (column_at time_at) (both_at (column_at time_at) (both_at (column_at word_at) (both_at (column_at time_at) (both_at (column_at marks_at) (column_at given_at)))))))

abbrev pub hands_of : Told → Hands
hands_of (how, (count, (time, (lerp, (slope, (boot, (kstatus, est))))))) = record { count = count; time = time; lerp = lerp; period_lerp = slope; boot = boot; kstatus = kstatus; how = how; est = est }

unfoldable pub hands_at : Reader Hands
hands_at = as_at hands_of hands_row

-- ---- an estimate of the daemon, whose rate has the estimate's own period; of version 1 it knows of no leap seconds

abbrev pub Flags : Type 0
Flags = Bool × Bool × Bool

abbrev pub letter : List ℕ → Bool → List ℕ
letter word b = if b then word else codes "-"

abbrev pub flags_name : Flags → List ℕ
flags_name f = letter (codes "S") f.0 ++ (letter (codes "L") f.1 ++ letter (codes "P") f.2)

abbrev pub flags_table : List (List ℕ × Flags)
flags_table =
    (codes "---", (false, false, false)) ∷ (codes "--P", (false, false, true)) ∷ (codes "-L-", (false, true, false)) ∷ (codes "-LP", (false, true, true))
    ∷ (codes "S--", (true, false, false)) ∷ (codes "S-P", (true, false, true)) ∷ (codes "SL-", (true, true, false)) ∷ (codes "SLP", (true, true, true)) ∷ []

abbrev pub flags_at : Reader Flags
flags_at = choice_at flags_table

abbrev pub full_text : Full → List ℕ
full_text f = decimal f.est.update_ffcount ++ (column (time_text f.est.update_time) ++ (column (decimal f.est.period) ++ (column (decimal f.est.errb_abs) ++ (column (decimal f.est.errb_rate) ++ (column (marks_name f.est.status) ++ (column (decimal f.spread) ++ (column (decimal f.rate.low) ++ (column (decimal f.rate.high) ++ column (flags_name (f.shifted, f.local, f.predicted))))))))))

abbrev pub FitsParts : Full → Type 0
FitsParts f = FitsWord f.est.update_ffcount × (FitsTime f.est.update_time × (FitsWord f.est.period × (FitsHalf f.est.errb_abs × (FitsHalf f.est.errb_rate × (⊤ × ((f.spread ≤ 2 ^ 128 - 1) × (FitsWord f.rate.low × (FitsWord f.rate.high × ⊤))))))))

-- its rate has the estimate's own period, and it knows of no leap seconds
pub record FitsFull (f : Full) : Type 0 where
  pub period : f.rate.period ≡ f.est.period
  pub next : f.est.leapsec_next ≡ 0
  pub total : f.est.leapsec_total ≡ pos 0
  pub leap : f.est.leapsec ≡ pos 0
  pub parts : FitsParts f

abbrev pub FullRow : Type 0
FullRow = ℕ × (Bintime × (ℕ × (ℕ × (ℕ × (Marks × (ℕ × (ℕ × (ℕ × Flags))))))))

abbrev pub full_row : Reader FullRow
full_row = both_at word_at (both_at (column_at time_at) (both_at (column_at word_at) (both_at (column_at half_at) (both_at (column_at half_at) (both_at (column_at marks_at) (both_at (column_at wide_at) (both_at (column_at word_at) (both_at (column_at word_at) (column_at flags_at)))))))))

abbrev pub full_of : FullRow → Full
full_of (count, (time, (period, (errb_abs, (errb_rate, (status, (spread, (low, (high, (shifted, local, predicted)))))))))) = record {
  est = record { update_time = time; update_ffcount = count; leapsec_next = 0; period = period; errb_abs = errb_abs; errb_rate = errb_rate; status = status; leapsec_total = pos 0; leapsec = pos 0 };
  spread = spread;
  rate = record { period = period; low = low; high = high };
  shifted = shifted;
  local = local;
  predicted = predicted;
}

unfoldable pub full_at : Reader Full
full_at = as_at full_of full_row

-- of version 2 the leap seconds stand behind it
abbrev pub leaps_text : Estimate → List ℕ
leaps_text e = column (decimal e.leapsec_next) ++ (column (signed_decimal e.leapsec_total) ++ column (signed_decimal e.leapsec))

abbrev pub FitsLeaps : Estimate → Type 0
FitsLeaps e = FitsWord e.leapsec_next × (IsWithin (2 ^ 15 - 1) e.leapsec_total × IsWithin (2 ^ 7 - 1) e.leapsec)

abbrev pub leaps_row : Reader (ℕ × (ℤ × ℤ))
leaps_row = both_at (column_at word_at) (both_at (column_at (signed_at (2 ^ 15 - 1))) (column_at (signed_at (2 ^ 7 - 1))))

abbrev pub told_full_text : Full → List ℕ
told_full_text f = full_text f ++ leaps_text f.est

pub record FitsToldFull (f : Full) : Type 0 where
  pub period : f.rate.period ≡ f.est.period
  pub parts : FitsParts f × FitsLeaps f.est

abbrev pub with_leaps : Full × (ℕ × (ℤ × ℤ)) → Full
with_leaps (f, (next, (total, leap))) = record f { est = record f.est { leapsec_next = next; leapsec_total = total; leapsec = leap } }

unfoldable pub told_full_at : Reader Full
told_full_at = as_at with_leaps (both_at full_at leaps_row)

-- ---- a reading

abbrev pub reading_text : Reading → List ℕ
reading_text r = kind_name r.kind ++ (column (decimal r.tick) ++ (column (decimal r.count) ++ (column (time_text r.time) ++ column (decimal r.bound))))

abbrev pub FitsReading : Reading → Type 0
FitsReading r = ⊤ × (FitsWord r.tick × (FitsWord r.count × (FitsTime r.time × (r.bound ≤ 2 ^ 128 - 1))))

abbrev pub ReadingRow : Type 0
ReadingRow = Kind × (ℕ × (ℕ × (Bintime × ℕ)))

abbrev pub reading_row : Reader ReadingRow
reading_row = both_at kind_at (both_at (column_at word_at) (both_at (column_at word_at) (both_at (column_at time_at) (column_at wide_at))))

abbrev pub reading_of : ReadingRow → Reading
reading_of (kind, (tick, (count, (time, bound)))) = record { kind = kind; tick = tick; count = count; time = time; bound = bound }

unfoldable pub reading_at : Reader Reading
reading_at = as_at reading_of reading_row
