-- A call adds one entry.
use Rattle.std.proofs.Common.{◌≡◌, ◌≢◌, ℕ, ◌%◌, List, [], ◌∷◌, refl, ap, sym, ◌∙◌, subst, None, Some, ⊎_elim, inl, inr, ◌⊎◌}
use Rattle.clock_lines.specs.declared.readings.Kind.{Kind}
use Rattle.clock_lines.specs.declared.readings.Entry.{Entry}
use Rattle.clock_lines.specs.declared.readings.Entry.TheVariants.{Again}
use Rattle.clock_logs.specs.Legal.{full, quick, way_of}
use Rattle.tick_reads.specs.declared.loads.Ask.{Ask}
use Rattle.tick_reads.specs.declared.loads.Load.{Load}
use Rattle.tick_reads.specs.declared.loads.Load.TheVariants.{Turn}
use Rattle.tick_reads.specs.Scans.{Scan}
use Rattle.tick_reads.specs.Reads.{Reads}
use Rattle.tick_reads.proofs.Runs.{opens_even, opens_light, opens_odd}
use Rattle.tick_reads.proofs.Tells.{decides_read}
use Rattle.tick_views.specs.declared.views.PassView.{PassView}
use Rattle.tick_views.specs.Views.{scan_of, undecided, gained, turn_loaded, call_begun}
use Rattle.tick_table.specs.Sees.{PassSees}
use Rattle.tick_table.specs.Steps.{LearnsTurn}
use Rattle.tick_laws.specs.Goes.{Calls, Answers, IsOpened, ask_of}
use Rattle.tick_laws.proofs.Going.{opened_on}
use Rattle.tick_laws.proofs.Opening.{opens_with}
use Rattle.tick_laws.proofs.Reading.{rest_calls, rest_reads, once_reads, call_reads}
use Rattle.tick_desk.specs.Answers.{Adds, BegunShows, Finishes, IsBegun, IsEntryBy, IsLate, IsLateBy, hands_of}
use Rattle.tick_desk.specs.declared.reads.Answer.{Answer}

adds_it : (old new : PassSees) (ask : Ask) (e : Entry)
    → new.table ≡ old.table → Calls old.view new.view ask new.view.loads → Reads ask new.view.loads e → IsEntryBy (hands_of new.view) e
    → Adds old new ask e
adds_it old new ask e table calls reads by =
    let is = decides_read ask new.view.loads e reads in
    let o = opens_with ask new.view.loads e is in record {
      table = table;
      asked = calls.ask_is;
      ended = calls.calling ∙ ap undecided is;
      grows = calls.grows;
      reads = reads;
      by = by;
      notes = record {
        opening = o.opening;
        rest = o.rest;
        opens = o.opens;
        entries = calls.entries ∙ (λ i. gained old.view.entries (is i) (o.first i));
      };
    }

-- a call that its first load does not decide
pub call_adds : (old mid new : PassSees) (ask : Ask) (w : ℕ) (e : Entry) → mid.view ≡ turn_loaded w (call_begun ask old.view) → LearnsTurn old.view w
    → (scan_of mid.view).answer ≡ None → new.table ≡ old.table → Answers mid.view new.view e → IsEntryBy (hands_of new.view) e → Adds old new ask e
call_adds old mid new ask w e is learns none-yet table s by =
    let began : Calls old.view mid.view ask (Turn w ∷ []) = subst (λ (z : PassView). Calls old.view z ask (Turn w ∷ [])) (sym is)
    (opened_on old.view ask w learns.seen) in
    adds_it old new ask e table (rest_calls old.view mid.view new.view ask w e began none-yet s) (call_reads old.view mid.view new.view ask w e is s) by

-- a read that its beginning did not decide
pub quick_yet : (b : BegunShows) (old : PassSees) → IsBegun b → b.pass ≡ old → way_of b.kind ≡ quick → (scan_of old.view).answer ≡ None
quick_yet b old begun same way = ap (λ (p : PassSees). (scan_of p.view).answer) (sym same)
    ∙ ap (λ (s : Scan). s.answer) (begun.opened.scan ∙ opens_light (ask_of b.kind) b.first way)

pub even_yet : (b : BegunShows) (old : PassSees) → IsBegun b → b.pass ≡ old → b.first % 2 ≡ 0 → (scan_of old.view).answer ≡ None
even_yet b old begun same even = ap (λ (p : PassSees). (scan_of p.view).answer) (sym same)
    ∙ ap (λ (s : Scan). s.answer) (begun.opened.scan ∙ opens_even (ask_of b.kind) b.first even)

-- its rest
pub rest_of : (b : BegunShows) (old new : PassSees) (e : Entry) → IsBegun b → b.pass ≡ old → (scan_of old.view).answer ≡ None → new.table ≡ old.table
    → Answers old.view new.view e → IsEntryBy (hands_of new.view) e → Finishes old new b.kind e
rest_of b old new e begun same none-yet table s by = record {
  table = table;
  rest = inr (none-yet, s);
  reads = rest_reads old.view new.view (ask_of b.kind) b.first e (subst (λ (p : PassSees). IsOpened p.view (ask_of b.kind) b.first) same begun.opened) s;
  by = by;
}

-- and of one that it did
pub no_rest : (b : BegunShows) (old : PassSees) → IsBegun b → b.pass ≡ old → way_of b.kind ≡ full → b.first % 2 ≢ 0
    → Finishes old old b.kind (Again b.kind b.first b.first)
no_rest b old begun same way odd = let opened = subst (λ (p : PassSees). IsOpened p.view (ask_of b.kind) b.first) same begun.opened in record {
  table = refl;
  rest = inl (ap (λ (s : Scan). s.answer) (opened.scan ∙ opens_odd (ask_of b.kind) b.first way odd), refl);
  reads = once_reads old.view (ask_of b.kind) b.first opened way odd;
  by = tt;
}

-- a beginning and its rest
pub read_adds : (old mid new : PassSees) (k : Kind) (first : ℕ) (e : Entry) → mid.table ≡ old.table
    → Calls old.view mid.view (ask_of k) (Turn first ∷ []) → Finishes mid new k e → Adds old new (ask_of k) e
read_adds old mid new k first e table began f = adds_it old new (ask_of k) e (f.table ∙ table) (calls f.rest) f.reads f.by
  where
    calls : (((scan_of mid.view).answer ≡ Some e) × (new ≡ mid)) ⊎ (((scan_of mid.view).answer ≡ None) × Answers mid.view new.view e)
        → Calls old.view new.view (ask_of k) new.view.loads
    calls (inl (is, same)) = subst (λ (z : PassSees). Calls old.view z.view (ask_of k) z.view.loads) (sym same)
        (subst (Calls old.view mid.view (ask_of k)) (sym began.loads) began)
    calls (inr (none-yet, s)) = rest_calls old.view mid.view new.view (ask_of k) first e began none-yet s

-- a full read looks at no mark
pub full_late : (k : Kind) (a : Answer) → way_of k ≡ full → IsLate k a
full_late k a way = subst (λ y. IsLateBy y a) (sym way) tt
