use Rattle.std.proofs.Common.{◌≡◌, ◌<◌, ◌≤◌, ◌-◌, ◌^◌, length, vec_len, rules, refl, ap, sym, ◌∙◌, subst}
use Rattle.clock_lines.specs.Readings.{newest}
use Rattle.clock_lines.specs.Values.{MayRead}
use Rattle.clock_lines.specs.declared.readings.Kind.TheVariants as kind
use Rattle.clock_core.specs.Machines.{count_of}
use Rattle.clock_logs.specs.Legal.{full, way_of}
use Rattle.ff_hands.proofs.Sounding.{sound-bounded}
use Rattle.tick_laws.proofs.Reading.{may_whole}
use Rattle.tick_desk.specs.contracts.pen.Pen.{the_view}
use Rattle.tick_desk.specs.Shows.{PenShows}
use Rattle.tick_desk.specs.Winds.{ReadsNewest, IsCounter}
use Rattle.tick_desk.proofs.Newest.{count_full, reading_newest}
use Rattle.tick_desk.proofs.Pens.{counter-shown}
use Rattle.tick_desk.proofs.pen.Pen.read.Goals.{in-Fast, in-Abs}
use Rattle.tick_desk.proofs.pen.Pen.read.Goals as goal

pub reading-requires-clause-most : goal.reading-requires-clause-most
reading-requires-clause-most c = elim c.match-kind.branch [
  | in-Fast w ↦ subst (λ n. n < 2 ^ 62) (sym w.count-is) (sound-bounded _ c.newest-last.ensures.sound).count
  | in-Abs w ↦ subst (λ n. n < 2 ^ 62) (sym w.count-is) c.load_counter-counter.ensures.learns.small
]

pub reading-requires-clause-place : goal.reading-requires-clause-place
reading-requires-clause-place c =
    let met : IsCounter c.args.self.now c.load_counter-counter.result = subst (λ (s : PenShows). IsCounter s c.load_counter-counter.result) c.self.view_is
    (counter-shown c.self.inside.seat.view (the_view c.self.inside) c.load_counter-counter.result c.self.invariant.journal refl
    c.self.invariant.top_is c.self.invariant.out_is c.self.invariant.legal c.load_counter-counter.ensures.learns) in
    let reached : c.newest-last.result.now.count ≤ c.load_counter-counter.result = subst (λ h. h.count ≤ c.load_counter-counter.result)
    (ap (λ (s : PenShows). newest s.journal) (sym c.self.view_is) ∙ sym c.newest-last.ensures.value) met.reached in
    elim c.match-kind.branch [
      | in-Fast w ↦ subst (λ k. MayRead k c.newest-last.result.now.count c.match-kind.count) (sym w.in-Fast.is) (sym w.count-is)
      | in-Abs w ↦ let is = w.in-Abs.is in let way : way_of c.args.kind ≡ full = search rules in
          may_whole c.args.kind c.newest-last.result.now.count c.match-kind.count way (subst (λ n. c.newest-last.result.now.count ≤ n) (sym w.count-is) reached)
    ]

pub returns : goal.returns
returns c =
    let counter = c.load_counter-counter.result in
    let at : c.match-kind.count ≡ count_of c.args.kind c.newest-last.result.now.count counter = elim c.match-kind.branch [
      | in-Fast w ↦ subst (λ k. c.match-kind.count ≡ count_of k c.newest-last.result.now.count counter) (sym w.in-Fast.is) w.count-is
      | in-Abs w ↦ let is = w.in-Abs.is in let way : way_of c.args.kind ≡ full = search rules in w.count-is
          ∙ sym (count_full c.args.kind c.newest-last.result.now.count counter way)
    ] in
    let many : c.len.result ≡ length c.self.inside.ticks.items = search rules in
    subst (λ (s : PenShows). ReadsNewest s (the_view record {
      seat = c.load_counter-counter.new.self;
      ticks = c.self.inside.ticks;
      top = c.self.inside.top;
      out = c.self.inside.out;
      made = c.self.inside.made;
    }) c.args.kind c.reading.result) c.self.view_is
    record {
      counter = counter;
      counter_is = counter-shown c.self.inside.seat.view (the_view c.self.inside) counter c.self.invariant.journal refl c.self.invariant.top_is
          c.self.invariant.out_is c.self.invariant.legal c.load_counter-counter.ensures.learns;
      reading = reading_newest c.self.inside.ticks.items c.newest-last.result.now c.args.kind c.len.result c.match-kind.count counter
          c.reading.result c.newest-last.ensures.value many at c.reading.ensures;
      after = λ i. record (the_view c.self.inside) {
        table = c.load_counter-counter.ensures.table i;
        counters = (c.load_counter-counter.ensures.view i).counters;
        met = (c.load_counter-counter.ensures.view i).met;
        kept = (c.load_counter-counter.ensures.view i).kept;
      };
    }
