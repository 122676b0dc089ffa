-- What a play leaves.
use Rattle.std.proofs.Common.{◌≡◌, ℕ, zero, suc, ◌+◌, ◌-◌, ◌<◌, max, Bool, true, false, List, ◌++◌, length, get_or, map, slice_get, Option, None, Some, refl, sym, ap, ◌∙◌, subst, arith}
use Rattle.std.proofs.lemmas.Option.{slice_get_within, slice_get-get_or, get_or_from_slice_get}
use Rattle.ff_hands.specs.Windups.{cold}
use Rattle.ff_hands.specs.declared.hands.Hands.{Hands}
use Rattle.ff_hands.specs.declared.hands.Order.TheVariants.{Plain}
use Rattle.replay_run.specs.declared.plan.Options.{Options}
use Rattle.replay_run.specs.declared.plan.PlanStep.{PlanStep}
use Rattle.clock_logs.specs.declared.noted.Kept.{Kept}
use Rattle.clock_logs.specs.Attempts.{AreAttempts}
use Rattle.clock_logs.specs.Logs.{AreWithin, entry_of}
use Rattle.tick_views.specs.Views.{kept_of}
use Rattle.tick_table.specs.Sees.{CrankSees, PassSees}
use Rattle.tick_desk.specs.Shows.{PenShows}
use Rattle.tick_desk.specs.Winds.{Lends}
use Rattle.replay_run.specs.Drives.{IsDriven, Turned}
use Rattle.replay_run.specs.Journals.{greatest, AreTicksOf, IsJournalOf}
use Rattle.replay_run.specs.Logs.{IsNumbered, HasRun, HaveRun, tried_by}
use Rattle.replay_run.specs.Plays.{IsLentFor, IsMost, IsBack, IsKeptOf, TakesAll, IsKeptLog, Played}
use Rattle.replay_run.specs.declared.log.ReadLog.{ReadLog}
use Rattle.replay_run.proofs.Targets.{to-greatest}

-- where all counts are exact, none is above the greatest
exact-most : (steps : List PlanStep) (ticks : List Hands) → slice_get ticks 0 ≡ Some cold → length ticks ≡ 1 + length steps
    → AreTicksOf false steps ticks → IsMost (greatest steps) ticks
exact-most steps ticks first many each zero h at =
    let same : h ≡ cold = sym (get_or_from_slice_get ticks 0 h h at) ∙ get_or_from_slice_get ticks 0 cold h first in
    let e = ap (λ (h : Hands). h.count) same in
    omega arith
exact-most steps ticks first many each (suc k) h at =
    let within = slice_get_within ticks (suc k) h at in
    let s : PlanStep = get_or steps k (record { to = 0; order = Plain }) in
    let there : slice_get steps k ≡ Some s = slice_get-get_or steps k _ (omega arith) in
    let tick = each k s h there ((let e : k + 1 ≡ suc k = omega arith in ap (slice_get ticks) e) ∙ at) in
    let most = to-greatest steps k s there in
    omega (arith, tick.exact refl)

-- the pen behind the driver and the crank, with the crank back
pub record IsRested (steps : List PlanStep) (beside : Bool) (old new : PenShows) : Type 0 where
  pub journal : IsJournalOf beside steps new.journal
  pub top : new.top ≡ greatest steps
  pub spare : new.spare ≡ old.spare - length steps
  pub out : new.out ≡ false
  pub table : new.table ≡ old.table
  pub made : new.made ≡ old.made
  pub kept : new.kept ≡ old.kept

rested-alone : (steps : List PlanStep) (beside : Bool) (old lent driven new : PenShows) → old.out ≡ false → beside ≡ false → lent ≡ old
    → IsDriven steps lent driven → new ≡ driven → IsRested steps beside old new
rested-alone steps beside old lent driven new still alone same d is =
    let out : lent.out ≡ false = ap (λ (p : PenShows). p.out) same ∙ still in
    let each : AreTicksOf beside steps driven.journal = subst (λ (b : Bool). AreTicksOf b steps driven.journal) (out ∙ sym alone) d.each in
    let made : IsRested steps beside old driven = record {
      journal = record {
        journal = d.journal;
        many = d.many;
        each = each;
        most = exact-most steps driven.journal d.journal.first d.many (subst (λ (b : Bool). AreTicksOf b steps driven.journal) out d.each);
      };
      top = d.top;
      spare = d.spare ∙ ap (λ (p : PenShows). p.spare - length steps) same;
      out = d.out ∙ out;
      table = d.table ∙ ap (λ (p : PenShows). p.table) same;
      made = d.made ∙ ap (λ (p : PenShows). p.made) same;
      kept = d.kept ∙ ap (λ (p : PenShows). p.kept) same;
    } in
    subst (IsRested steps beside old) (sym is) made

rested-beside : (steps : List PlanStep) (beside : Bool) (old lent driven new : PenShows) (crank turned : CrankSees) → beside ≡ true
    → Lends old lent crank → turned ≡ record crank { top = max crank.top (greatest steps); met = turned.met } → IsDriven steps lent driven
    → new ≡ record driven { top = max driven.top turned.top; out = false } → IsMost new.top new.journal → IsRested steps beside old new
rested-beside steps beside old lent driven new crank turned wanted l raised d is most =
    let out : lent.out ≡ true = ap (λ (p : PenShows). p.out) l.after in
    let each : AreTicksOf beside steps driven.journal = subst (λ (b : Bool). AreTicksOf b steps driven.journal) (out ∙ sym wanted) d.each in
    let high : turned.top ≡ max crank.top (greatest steps) = ap (λ (c : CrankSees). c.top) raised in
    let top : max driven.top turned.top ≡ greatest steps = omega (arith, d.top, l.top) in
    let journal : new.journal ≡ driven.journal = ap (λ (p : PenShows). p.journal) is in
    let new_top : new.top ≡ greatest steps = ap (λ (p : PenShows). p.top) is ∙ top in
    let all : IsMost (greatest steps) driven.journal = subst (IsMost (greatest steps)) journal (subst (λ n. IsMost n new.journal) new_top most) in
    record {
      journal = subst (IsJournalOf beside steps) (sym journal) (record { journal = d.journal; many = d.many; each = each; most = all });
      top = new_top;
      spare = ap (λ (p : PenShows). p.spare) is ∙ d.spare ∙ ap (λ (p : PenShows). p.spare - length steps) l.after;
      out = ap (λ (p : PenShows). p.out) is;
      table = ap (λ (p : PenShows). p.table) is ∙ d.table ∙ ap (λ (p : PenShows). p.table) l.after;
      made = ap (λ (p : PenShows). p.made) is ∙ d.made ∙ ap (λ (p : PenShows). p.made) l.after;
      kept = ap (λ (p : PenShows). p.kept) is ∙ d.kept ∙ ap (λ (p : PenShows). p.kept) l.after;
    }

pub rested : (steps : List PlanStep) (beside : Bool) (old lent driven new : PenShows) (before after : Option CrankSees) → old.out ≡ false
    → IsLentFor beside old before lent → Turned steps before after → IsDriven steps lent driven → IsBack after driven new → IsRested steps beside old new
rested steps beside old lent driven new None None still lends turns d back = rested-alone steps beside old lent driven new still lends.0 lends.1 d back
rested steps beside old lent driven new None (Some c) still lends turns d back = absurd (cc)
rested steps beside old lent driven new (Some c) None still lends turns d back = absurd turns
rested steps beside old lent driven new (Some c) (Some t) still lends turns d back =
    rested-beside steps beside old lent driven new c t lends.0 lends.1 turns d back.0 back.1

-- the log of a reader, and what the pen keeps of its pass
kept-log : (freq : ℕ) (options : Options) (most i : ℕ) (before mid after : ReadLog) (p : PenShows) (k : Kept)
    → before.reader ≡ i → HasRun freq options before mid → IsKeptOf p mid after k → p.out ≡ false → p.top ≡ most
    → IsKeptLog freq options most p.journal i after k
kept-log freq options most i before mid after p k number ran kept out top =
    let same : ran.pass ≡ kept.pass = (let e = sym ran.has ∙ kept.had in cc) in
    let is : kept_of ran.pass.view ≡ k = ap (λ (q : PassSees). kept_of q.view) same ∙ sym kept.is in
    let items : mid.entries.items ≡ map entry_of k.entries = ran.entries ∙ ap (λ (k : Kept). map entry_of k.entries) is in
    record {
      reader = kept.reader ∙ ran.reader ∙ number;
      none = kept.none;
      number = sym (ap (λ (k : Kept). k.number) is) ∙ ran.number ∙ number;
      entries = kept.entries ∙ items;
      log = record {
        legal = kept.legal.legal;
        since = kept.legal.since;
        attempts = subst (AreAttempts freq (tried_by options) options.reads) items ran.attempts;
        within = subst (λ n. AreWithin n (map entry_of k.entries)) top (kept.legal.within out);
      };
    }

pub played : (freq : ℕ) (options : Options) (steps : List PlanStep) (before mid after : List ReadLog) (old rest new : PenShows)
    → IsNumbered before → length mid ≡ length before → length after ≡ length before → HaveRun freq options before mid
    → IsRested steps options.crank old rest → TakesAll mid after rest new → Played freq options steps before after old new
played freq options steps before mid after old rest new numbered as_many still_many ran rested takes =
    let journal : new.journal ≡ rest.journal = ap (λ (p : PenShows). p.journal) takes.pen in
    record {
      journal = subst (IsJournalOf options.crank steps) (sym journal) rested.journal;
      top = ap (λ (p : PenShows). p.top) takes.pen ∙ rested.top;
      spare = ap (λ (p : PenShows). p.spare) takes.pen ∙ rested.spare;
      still = ap (λ (p : PenShows). p.out) takes.pen ∙ rested.out;
      table = ap (λ (p : PenShows). p.table) takes.pen ∙ rested.table;
      made = ap (λ (p : PenShows). p.made) takes.pen ∙ rested.made;
      kept = takes.kept;
      pen = ap (λ (p : PenShows). p.kept) takes.pen ∙ ap (λ (ks : List Kept). ks ++ takes.kept) rested.kept;
      many = takes.many ∙ as_many;
      same = still_many;
      each = λ i l k at here.
          let within : i < length before = (let w = slice_get_within after i l at in omega arith) in
          let is = takes.each i l k here in
          let run = ran i l within in
          let reader : (get_or before i l).reader ≡ i = numbered i (get_or before i l) (slice_get-get_or before i l within) in
          let log = kept-log freq options (greatest steps) i (get_or before i l) (get_or mid i l) (get_or after i l) rest k reader run is rested.out
          rested.top in
          let last : IsKeptLog freq options (greatest steps) rest.journal i l k = subst
          (λ (q : ReadLog). IsKeptLog freq options (greatest steps) rest.journal i q k) (get_or_from_slice_get after i l l at) log in
          subst (λ (ts : List Hands). IsKeptLog freq options (greatest steps) ts i l k) (sym journal) last;
    }
