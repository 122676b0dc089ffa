-- The first turn value of a call stays with it.
use Rattle.std.proofs.Common.{◌≡◌, ℕ, ◌+◌, ◌-◌, ◌/◌, ◌%◌, ◌==◌, ◌&&◌, nat_lt, not, Bool, true, false, List, [], ◌∷◌, ◌++◌, length, refl, sym, ◌∙◌, subst, Option, None, Some}
use Rattle.clock_lines.specs.declared.readings.Entry.{Entry}
use Rattle.clock_logs.specs.Legal.{Way, full, quick, past, way_of}
use Rattle.hand_words.specs.Words.{unpack}
use Rattle.tick_reads.specs.declared.loads.Ask.{Ask}
use Rattle.tick_reads.specs.declared.loads.Load.{Load}
use Rattle.tick_reads.specs.declared.loads.Load.TheVariants.{Turn, Field, Mark, Counter}
use Rattle.tick_reads.specs.Looks.{full_mark}
use Rattle.tick_reads.specs.Ways.{needs_even}
use Rattle.tick_reads.specs.Scans.{Scan, fresh, after, run, decided, is_even, has_fields, ends, opened, turned, turn_again, goes_down, finds_top, finds_line, looks_at, finds_mark, walks, mark_by, counts_back, counter_back, takes_counter}
use Rattle.tick_reads.proofs.Endings.{no_field_first, no_counter_first, no_mark_first, none_some}

-- a call that has begun keeps its first turn value
abbrev Keeps : Scan → Scan → Type 0
Keeps s t = (t.first ≡ s.first) × (t.begun ≡ true)

module _ (ask : Ask) (s : Scan) (begun : s.begun ≡ true) where
  goes_down_keeps : (a b : Bool) → Keeps s (goes_down a b ask s)
  goes_down_keeps true b = (refl, refl)
  goes_down_keeps false true = (refl, refl)
  goes_down_keeps false false = (refl, begun)

  finds_top_keeps : (b : Bool) → Keeps s (finds_top b ask s)
  finds_top_keeps true = (refl, begun)
  finds_top_keeps false = (refl, refl)

  finds_line_keeps : (b : Bool) → Keeps s (finds_line b ask s)
  finds_line_keeps true = finds_top_keeps (is_even s.first)
  finds_line_keeps false = (refl, refl)

  looks_keep : (b : Bool) → Keeps s (looks_at b ask s)
  looks_keep true = finds_line_keeps (s.tick == s.first / 2)
  looks_keep false = goes_down_keeps (s.tick == 0) (s.tick + 9 == s.first / 2)

  finds_mark_keeps : (b : Bool) (x : ℕ) → Keeps s (finds_mark b ask s x)
  finds_mark_keeps true x = looks_keep (nat_lt (unpack s.fields).count ask.given)
  finds_mark_keeps false x = (refl, refl)

  walks_keep : (b : Bool) (x : ℕ) → Keeps s (walks b ask s x)
  walks_keep true x = finds_mark_keeps (x == full_mark s.tick) x
  walks_keep false x = (refl, refl)

  mark_keeps : (y : Way) (t x : ℕ) → Keeps s (mark_by y ask s t x)
  mark_keeps full t x = (refl, refl)
  mark_keeps quick t x = (refl, refl)
  mark_keeps past t x = walks_keep (has_fields s && not s.line && (t == s.tick)) x

  counts_keep : (b : Bool) (x : ℕ) → Keeps s (counts_back b ask s x)
  counts_keep true x = (refl, refl)
  counts_keep false x = (refl, begun)

  counter_back_keeps : (b : Bool) (x : ℕ) → Keeps s (counter_back b ask s x)
  counter_back_keeps true x = counts_keep (nat_lt x ask.given) x
  counter_back_keeps false x = (refl, refl)

  counter_keeps : (y : Way) (x : ℕ) → Keeps s (takes_counter y ask s x)
  counter_keeps full x = (refl, refl)
  counter_keeps quick x = (refl, refl)
  counter_keeps past x = counter_back_keeps (s.good && s.line && (length s.counters == 0)) x

  again_keeps : (y : Way) (x : ℕ) → Keeps s (turn_again y ask s x)
  again_keeps full x = (refl, refl)
  again_keeps quick x = (refl, refl)
  again_keeps past x = (refl, refl)

  load_keeps : (l : Load) → Keeps s (after ask s l)
  load_keeps (Turn x) = subst (λ b. Keeps s (turned b ask s x)) (sym begun) (again_keeps (way_of ask.kind) x)
  load_keeps (Field t f x) = (refl, refl)
  load_keeps (Mark t x) = mark_keeps (way_of ask.kind) t x
  load_keeps (Counter x) = counter_keeps (way_of ask.kind) x

run_keeps : (ask : Ask) (s : Scan) (ls : List Load) → s.begun ≡ true → (run ask s ls).first ≡ s.first
run_keeps ask s [] begun = refl
run_keeps ask s (l ∷ ls) begun = let k = load_keeps ask s begun l in run_keeps ask (after ask s l) ls k.1 ∙ k.0

opened_keeps : (b : Bool) (ask : Ask) (w : ℕ) → ((opened b ask w).first ≡ w) × ((opened b ask w).begun ≡ true)
opened_keeps true ask w = (refl, refl)
opened_keeps false ask w = (refl, refl)

pub first_is : (ask : Ask) (w : ℕ) (ls : List Load) → (run ask fresh (Turn w ∷ ls)).first ≡ w
first_is ask w ls = let o = opened_keeps (needs_even (way_of ask.kind) && not (is_even w)) ask w in
    run_keeps ask (opened (needs_even (way_of ask.kind) && not (is_even w)) ask w) ls o.1 ∙ o.0

-- loads that decide an entry begin with the turn word, which is its opening value
pub record Opens (ask : Ask) (loads : List Load) : Type 0 where
  pub opening : ℕ
  pub rest : List Load
  pub opens : loads ≡ Turn opening ∷ rest
  pub first : (run ask fresh loads).first ≡ opening

pub opens_with : (ask : Ask) (loads : List Load) (e : Entry) → decided ask loads ≡ Some e → Opens ask loads
opens_with ask [] e is = none_some e is
opens_with ask (Turn w ∷ ls) e is = record { opening = w; rest = ls; opens = refl; first = first_is ask w ls }
opens_with ask (Field t f x ∷ ls) e is = absurd (no_field_first ask (way_of ask.kind) refl t f x ls e is)
opens_with ask (Mark t x ∷ ls) e is = absurd (no_mark_first ask (way_of ask.kind) refl t x ls e is)
opens_with ask (Counter x ∷ ls) e is = absurd (no_counter_first ask (way_of ask.kind) refl x ls e is)
