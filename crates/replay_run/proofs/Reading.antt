-- While a reader reads.
use Rattle.std.proofs.Common.{◌≡◌, ℕ, ◌+◌, ◌<◌, ◌^◌, List, [], ◌∷◌, ◌++◌, length, take, map, slice_get, Some, refl, sym, ap, ◌∙◌, subst, arith}
use Rattle.std.proofs.lemmas.List.{length_push, take-append-le, map-append}
use Rattle.std.proofs.Math.Seq.{take-append_seam}
use Rattle.std.proofs.lemmas.Option.{slice_get_within}
use Rattle.ff_hands.specs.declared.hands.Hands.{Hands}
use Rattle.clock_lines.specs.declared.readings.Entry.{Entry}
use Rattle.clock_lines.specs.declared.readings.Entry.TheVariants as entry
use Rattle.clock_lines.specs.declared.readings.Kind.{Kind}
use Rattle.clock_lines.specs.declared.readings.Kind.TheVariants as kind
use Rattle.clock_logs.specs.Attempts.{kind_at, given_for, latest_by, latest_with, latest_after, IsAnswerTo, AnswersNext, AreAttempts}
use Rattle.clock_logs.specs.Logs.{entry_of}
use Rattle.tick_laws.proofs.Asked.{answers-ask}
use Rattle.tick_table.specs.Sees.{PassSees}
use Rattle.tick_desk.specs.Answers.{Adds, IsEntryBy}
use Rattle.replay_run.specs.Logs.{ask_for}
use Rattle.replay_run.proofs.Places.{IsPlace, stays, comes, place}

latest-push : (es : List Entry) (latest : ℕ) (e : Entry) → latest_after latest (es ++ e ∷ []) ≡ latest_with (latest_after latest es) e
latest-push [] latest e = refl
latest-push (d ∷ es) latest e = latest-push es (latest_with latest d) e

-- the latest count is one that was read, or the one before
small-by : (k : Kind) (latest count : ℕ) → latest < 2 ^ 62 → count < 2 ^ 62 → latest_by k latest count < 2 ^ 62
small-by kind.Abs latest count low small = small
small-by kind.Mono latest count low small = low
small-by kind.Uptime latest count low small = low
small-by kind.Utc latest count low small = low
small-by kind.Fast latest count low small = low
small-by kind.Diff latest count low small = low
small-by kind.Back latest count low small = low

small-with : (h : Hands) (e : Entry) (latest : ℕ) → latest < 2 ^ 62 → IsEntryBy h e → latest_with latest e < 2 ^ 62
small-with h (entry.Read r) latest low by = small-by r.kind latest r.count low by.small
small-with h (entry.Again kind first last) latest low by = low
small-with h (entry.TooOld count oldest) latest low by = low
small-with h (entry.Ahead count at) latest low by = low

-- these entries are those of the pass, and answer the attempts so far
pub record Reads (freq : ℕ) (kinds : List Kind) (items : List Entry) (pass : PassSees) (k latest : ℕ) : Type 0 where
  pub entries : items ≡ map entry_of pass.view.entries
  pub many : length items ≡ k
  pub each : (i : ℕ) (e : Entry) → slice_get items i ≡ Some e → AnswersNext freq kinds (take i items) i e
  pub latest_is : latest ≡ latest_after 0 items
  pub small : latest < 2 ^ 62

pub reads-first : (freq : ℕ) (kinds : List Kind) (items : List Entry) (pass : PassSees) → items ≡ [] → pass.view.entries ≡ [] → Reads freq kinds items pass 0 0
reads-first freq kinds items pass none unused = record {
  entries = none ∙ sym (ap (map entry_of) unused);
  many = ap length none;
  each = λ i e at. absurd (let w = slice_get_within items i e at in let n = ap length none in omega arith);
  latest_is = sym (ap (latest_after 0) none);
  small = omega arith;
}

answers-at : (freq : ℕ) (kinds : List Kind) (items : List Entry) (k : ℕ) (e : Entry) → length items ≡ k
    → ((i : ℕ) (d : Entry) → slice_get items i ≡ Some d → AnswersNext freq kinds (take i items) i d) → AnswersNext freq kinds items k e
    → (i : ℕ) (d : Entry) → IsPlace items e i d → AnswersNext freq kinds (take i (items ++ e ∷ [])) i d
answers-at freq kinds items k e many each next i d (stays w here) =
    subst (λ (es : List Entry). AnswersNext freq kinds es i d) (sym (take-append-le i items (e ∷ []) (omega arith))) (each i d here)
answers-at freq kinds items k e many each next i d (comes here is) =
    let front : items ≡ take i (items ++ e ∷ []) = sym (ap (λ n. take n (items ++ e ∷ [])) here ∙ take-append_seam items (e ∷ [])) in
    let at : k ≡ i = omega arith in
    subst (λ (es : List Entry). AnswersNext freq kinds es i d) front
    (subst (λ n. AnswersNext freq kinds items n d) at (subst (AnswersNext freq kinds items k) (sym is) next))

abbrev AnswersGiven : ℕ → List Kind → ℕ → ℕ → Entry → Type 0
AnswersGiven freq kinds k n e = IsAnswerTo (kind_at kinds k) (given_for freq n (kind_at kinds k)) e

reads-next : (freq : ℕ) (kinds : List Kind) (items : List Entry) (old new : PassSees) (k latest : ℕ) (e : Entry) → Reads freq kinds items old k
    latest → Adds old new (ask_for freq latest (kind_at kinds k)) e → Reads freq kinds (items ++ e ∷ []) new (k + 1) (latest_with latest e)
reads-next freq kinds items old new k latest e reads adds =
    let answers = answers-ask (ask_for freq latest (kind_at kinds k)) new.view.loads e adds.reads in
    let next : AnswersNext freq kinds items k e = subst (λ n. AnswersGiven freq kinds k n e) reads.latest_is answers in
    record {
      entries = ap (λ (es : List Entry). es ++ e ∷ []) reads.entries ∙ sym (map-append entry_of old.view.entries _)
          ∙ sym (ap (map entry_of) adds.notes.entries);
      many = omega (arith, length_push items e, reads.many);
      each = λ i d at. answers-at freq kinds items k e reads.many reads.each next i d (place items e i d at);
      latest_is = ap (λ n. latest_with n e) reads.latest_is ∙ sym (latest-push items 0 e);
      small = small-with _ e latest reads.small adds.by;
    }

pub reads-more : (freq : ℕ) (kinds : List Kind) (items items' : List Entry) (old new : PassSees) (k latest latest' : ℕ) (kind : Kind)
    (e : Entry) → kind ≡ kind_at kinds k → items' ≡ items ++ e ∷ [] → latest' ≡ latest_with latest e → Reads freq kinds items old k latest
    → Adds old new (ask_for freq latest kind) e → Reads freq kinds items' new (k + 1) latest'
reads-more freq kinds items items' old new k latest latest' kind e is grown later reads adds =
    let asked = subst (λ (k : Kind). Adds old new (ask_for freq latest k) e) is adds in
    let next = reads-next freq kinds items old new k latest e reads asked in
    subst (λ (es : List Entry). Reads freq kinds es new (k + 1) latest') (sym grown) (subst (Reads freq kinds (items ++ e ∷ []) new (k + 1)) (sym later) next)

pub reads-done : (freq : ℕ) (kinds : List Kind) (items : List Entry) (pass : PassSees) (k latest : ℕ) → Reads freq kinds items pass k latest
    → AreAttempts freq kinds k items
reads-done freq kinds items pass k latest reads = record { many = reads.many; each = reads.each }
