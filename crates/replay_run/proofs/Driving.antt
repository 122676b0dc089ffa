-- One step, and all that were driven so far.
use Rattle.std.proofs.Common.{◌≡◌, ℕ, ◌+◌, ◌-◌, ◌<◌, ◌≤◌, max, Bool, false, List, [], ◌∷◌, ◌++◌, length, get_or, drop, slice_get, Some, refl, sym, ap, ◌∙◌, subst, arith}
use Rattle.std.proofs.lemmas.List.{length_push, get_or_push, drop_more, at_drop_all}
use Rattle.std.proofs.lemmas.Option.{slice_get_within, get_or_from_slice_get}
use Rattle.ff_hands.specs.Journals.{order_of, IsJournal}
use Rattle.ff_hands.specs.Windups.{cold, wind_of}
use Rattle.ff_hands.specs.declared.hands.Hands.{Hands}
use Rattle.ff_hands.proofs.Orders.{fits-on}
use Rattle.ff_hands.proofs.Winding.{order_of-wound, count-wound}
use Rattle.clock_lines.specs.Readings.{newest}
use Rattle.clock_core.proofs.Growing.{holds-wound}
use Rattle.tick_table.specs.Sees.{CrankSees}
use Rattle.tick_desk.specs.Shows.{PenShows}
use Rattle.replay_run.specs.Drives.{StepsBy, IsDriven}
use Rattle.replay_run.specs.Fitting.{PlanFits, update_after}
use Rattle.replay_run.specs.Journals.{greatest, IsTickOf}
use Rattle.replay_run.specs.declared.plan.PlanStep.{PlanStep}
use Rattle.replay_run.proofs.Playing.{update-wound}
use Rattle.replay_run.proofs.Places.{IsPlace, stays, comes, place}

-- so far
pub record Drives (steps : List PlanStep) (old new : PenShows) (k : ℕ) : Type 0 where
  pub journal : IsJournal new.journal
  pub many : length new.journal ≡ 1 + k
  pub each : (i : ℕ) (s : PlanStep) (h : Hands) → i < k → slice_get steps i ≡ Some s → slice_get new.journal (i + 1) ≡ Some h → IsTickOf old.out s h
  pub fits : PlanFits new.top (newest new.journal).est.update_ffcount (drop k steps)
  pub highest : max new.top (greatest (drop k steps)) ≡ greatest steps
  pub room : length steps ≤ old.spare
  pub spare : new.spare + k ≡ old.spare
  pub table : new.table ≡ old.table
  pub out : new.out ≡ old.out
  pub made : new.made ≡ old.made
  pub kept : new.kept ≡ old.kept

-- the cold hands are a journal by themselves
cold-journal : IsJournal (cold ∷ [])
cold-journal = record { first = refl; next = λ n h next at then. absurd (let within = slice_get_within (cold ∷ []) (n + 1) next then in omega arith) }

pub drives-first : (steps : List PlanStep) (old : PenShows) → old.journal ≡ cold ∷ [] → old.top ≡ 0 → length steps ≤ old.spare → PlanFits 0 0 steps
    → Drives steps old old 0
drives-first steps old journal top spare plan = record {
  journal = subst IsJournal (sym journal) cold-journal;
  many = ap length journal;
  each = λ i s h none. absurd (omega arith);
  fits = subst (λ (ts : List Hands). PlanFits old.top (newest ts).est.update_ffcount steps) (sym journal) (subst (λ n. PlanFits n 0 steps) (sym top) plan);
  highest = omega arith;
  room = spare;
  spare = omega arith;
  table = refl;
  out = refl;
  made = refl;
  kept = refl;
}

pub newest-push : (ticks : List Hands) (next : Hands) → newest (ticks ++ next ∷ []) ≡ next
newest-push ticks next = get_or_push ticks next cold _ (omega (arith, length_push ticks next))

-- the next step, and the rest behind it
pub rest-fits : (steps : List PlanStep) (old new : PenShows) (k : ℕ) (d : PlanStep) → k < length steps → Drives steps old new k
    → PlanFits new.top (newest new.journal).est.update_ffcount (get_or steps k d ∷ drop (k + 1) steps)
rest-fits steps old new k d within drives = subst (PlanFits new.top (newest new.journal).est.update_ffcount) (drop_more steps k d within) drives.fits

-- a tick of the longer journal
tick-of : (out : Bool) (steps : List PlanStep) (k : ℕ) (d : PlanStep) (ticks : List Hands) (counter : ℕ)
    → length ticks ≡ 1 + k → ((i : ℕ) (s : PlanStep) (h : Hands) → i < k → slice_get steps i ≡ Some s → slice_get ticks (i + 1) ≡ Some h → IsTickOf out s h)
    → (get_or steps k d).to ≤ counter → (out ≡ false → counter ≡ (get_or steps k d).to)
    → (i : ℕ) (s : PlanStep) (h : Hands) → slice_get steps i ≡ Some s
    → IsPlace ticks (wind_of (newest ticks) counter (get_or steps k d).order) (i + 1) h → IsTickOf out s h
tick-of out steps k d ticks counter many each reached still i s h at (stays w here) = each i s h (omega arith) at here
tick-of out steps k d ticks counter many each reached still i s h at (comes e is) =
    let here : i ≡ k = omega arith in
    let same : get_or steps k d ≡ s = ap (λ n. get_or steps n d) (sym here) ∙ get_or_from_slice_get steps i s d at in
    let to = ap (λ (s : PlanStep). s.to) same in
    let count = ap (λ (h : Hands). h.count) is ∙ count-wound (newest ticks) counter (get_or steps k d).order in
    record {
      order = ap order_of is ∙ order_of-wound (newest ticks) counter (get_or steps k d).order ∙ ap (λ (s : PlanStep). s.order) same;
      reached = omega arith;
      exact = λ none. count ∙ still none ∙ to;
    }

pub drives-next : (steps : List PlanStep) (old mid new : PenShows) (k : ℕ) (d : PlanStep) → k < length steps → Drives steps old mid k
    → StepsBy (get_or steps k d) mid new → Drives steps old new (k + 1)
drives-next steps old mid new k d within drives step =
    let s = get_or steps k d in
    let h = wind_of (newest mid.journal) step.count s.order in
    let rest = drop (k + 1) steps in
    let both = rest-fits steps old mid k d within drives in
    let now : PenShows = record mid { journal = mid.journal ++ h ∷ []; counters = step.counters; top = s.to; met = step.met; spare = mid.spare - 1 } in
    let on = fits-on (newest mid.journal) step.count s.order step.fits in
    let update : (newest (mid.journal ++ h ∷ [])).est.update_ffcount ≡ update_after (newest mid.journal).est.update_ffcount s.order = ap
    (λ (h : Hands). h.est.update_ffcount) (newest-push mid.journal h) ∙ update-wound (newest mid.journal) step.count s.order in
    let all : greatest (drop k steps) ≡ max s.to (greatest rest) = ap greatest (drop_more steps k d within) in
    let made : Drives steps old now (k + 1) = record {
      journal = (holds-wound mid.journal step.count s.order (record { journal = drives.journal; reached = step.later; most = on.most }) step.fits).journal;
      many = omega (arith, length_push mid.journal h, drives.many);
      each = λ i t g low at here. tick-of old.out steps k d mid.journal step.count drives.many drives.each step.reached
          (λ none. step.still (drives.out ∙ none)) i t g at (place mid.journal h (i + 1) g here);
      fits = subst (λ n. PlanFits s.to n rest) (sym update) both.1;
      highest = omega (arith, drives.highest, both.0.later);
      room = drives.room;
      spare = omega (arith, drives.spare, drives.room);
      table = drives.table;
      out = drives.out;
      made = drives.made;
      kept = drives.kept;
    } in
    subst (λ (p : PenShows). Drives steps old p (k + 1)) (sym step.after) made

pub drives-done : (steps : List PlanStep) (old new : PenShows) (k : ℕ) → length steps ≤ k → k ≤ length steps → Drives steps old new k → IsDriven steps old new
drives-done steps old new k ended within drives =
    let none : greatest (drop k steps) ≡ 0 = at_drop_all greatest steps k ended in
    record {
      journal = drives.journal;
      many = omega (arith, drives.many);
      each = λ i s h at here. (let w = slice_get_within steps i s at in drives.each i s h (omega arith) at here);
      top = omega (arith, drives.highest);
      spare = omega (arith, drives.spare);
      table = drives.table;
      out = drives.out;
      made = drives.made;
      kept = drives.kept;
    }

-- a crank has raised the counter to each step's count so far
pub record Raises (steps : List PlanStep) (old new : CrankSees) (k : ℕ) : Type 0 where
  pub table : new.table ≡ old.table
  pub highest : max new.top (greatest (drop k steps)) ≡ max old.top (greatest steps)
  pub before : ℕ
  pub update : ℕ
  pub fits : PlanFits before update (drop k steps)
