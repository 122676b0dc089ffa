use Rattle.std.proofs.Common.{◌/◌, ap, ◌∙◌, arith}
use Rattle.clock_lines.specs.declared.readings.Kind.TheVariants as kind
use Rattle.ff_hands.proofs.Ticks.{tick-sound}
use Rattle.tick_desk.proofs.Hands.{by_it}
use Rattle.tick_views.specs.Views.{counter_loaded}
use Rattle.tick_laws.proofs.Deciding.{past_ahead, past_crossed, past_read, past_fields}
use Rattle.tick_desk.proofs.pass.Pass.past_newest.Goals as goal

pub returns-then-counter-count-clause-answers : goal.returns-then-counter-count-clause-answers
returns-then-counter-count-clause-answers c = past_ahead c.args.self.now.view _ c.args.count c.args.first _ c.requires.ask c.requires.at
    c.load_counter-counter.result (c.load_counter-counter.ensures.view
    ∙ ap (λ v. counter_loaded c.load_counter-counter.result v.view) c.self.view_is) c.if-counter-count.true

pub returns-then-last-first-clause-answers : goal.returns-then-last-first-clause-answers
returns-then-last-first-clause-answers c = past_crossed c.args.self.now.view _ c.args.count c.args.first _ c.requires.ask c.requires.at
    c.load_counter-counter.result (c.load_counter-counter.ensures.view
    ∙ ap (λ v. counter_loaded c.load_counter-counter.result v.view) c.self.view_is) c.if-counter-count.false _ c.load_turn-last.result
    c.load_turn-last.ensures.view c.load_turn-last.ensures.learns.seen c.if-last-first.true

pub returns-clause-answers : goal.returns-clause-answers
returns-clause-answers c = past_read c.args.self.now.view _ c.args.count c.args.first _ c.requires.ask c.requires.at c.load_counter-counter.result
    (c.load_counter-counter.ensures.view ∙ ap (λ v. counter_loaded c.load_counter-counter.result v.view) c.self.view_is) c.if-counter-count.false _
    c.load_turn-last.result c.load_turn-last.ensures.view c.load_turn-last.ensures.learns.seen c.if-last-first.false c.args.hands.now
    c.requires.hands c.reading.result c.reading.ensures

pub reading-requires-clause-sound : goal.reading-requires-clause-sound
reading-requires-clause-sound c = let s = c.requires.stands in tick-sound s.0 s.1 (c.args.first / 2) c.args.hands.now s.2

pub returns-clause-by : goal.returns-clause-by
returns-clause-by c = by_it c.load_turn-last.new.self.view _ _ kind.Back (c.args.first / 2) c.args.count c.reading.result
    (past_fields c.args.self.now.view _ c.args.count c.args.first _ c.requires.ask c.requires.at c.load_counter-counter.result
    (c.load_counter-counter.ensures.view ∙ ap (λ v. counter_loaded c.load_counter-counter.result v.view) c.self.view_is) c.if-counter-count.false _
    c.load_turn-last.result c.load_turn-last.ensures.view c.load_turn-last.ensures.learns.seen) c.requires.hands c.requires.stands
    (omega (arith, c.requires.past)) c.requires.most c.reading.ensures
