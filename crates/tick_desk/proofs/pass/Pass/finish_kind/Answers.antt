use Rattle.std.proofs.Common.{◌/◌, ap, ◌∙◌}
use Rattle.tick_views.specs.Views.{undecided}
use Rattle.tick_laws.specs.Goes.{ask_of}
use Rattle.tick_desk.proofs.Hands.{by_it}
use Rattle.tick_desk.proofs.Inside.{from_inside}
use Rattle.tick_laws.proofs.Reading.{b_scan_of, may_whole, whole_again, whole_read, whole_sound, whole_stands, whole_fields, whole_past_it}
use Rattle.tick_desk.proofs.pass.Pass.finish_kind.Goals as goal

pub load_counter-count-requires-clause-calling : goal.load_counter-count-requires-clause-calling
load_counter-count-requires-clause-calling c = let g = from_inside c.args.self.now c.self.inside.seat _ _ c.self.view_is
    c.load_fields-fields.ensures.loads in g.calling ∙ ap (λ s. undecided s.answer)
    (b_scan_of _ _ (ask_of c.args.kind) c.args.first c.load_fields-fields.result c.requires.at g)

pub returns-then-last-first-clause-answers : goal.returns-then-last-first-clause-answers
returns-then-last-first-clause-answers c = let g = from_inside c.args.self.now c.self.inside.seat _ _ c.self.view_is
    c.load_fields-fields.ensures.loads in whole_again _ _ _ (ask_of c.args.kind) c.args.first c.load_fields-fields.result c.load_counter-count.result
    c.requires.way c.requires.at g c.load_fields-fields.ensures.long c.load_counter-count.ensures.view _ c.load_turn-last.result
    c.load_turn-last.ensures.view c.load_turn-last.ensures.learns.seen c.if-last-first.true

pub reading-requires-clause-sound : goal.reading-requires-clause-sound
reading-requires-clause-sound c = let g = from_inside c.args.self.now c.self.inside.seat _ _ c.self.view_is c.load_fields-fields.ensures.loads in
    whole_sound _ _ _ (ask_of c.args.kind) c.args.first c.load_fields-fields.result c.load_counter-count.result c.requires.way c.requires.at g
    c.load_fields-fields.ensures.long c.load_counter-count.ensures.view _ c.load_turn-last.result c.load_turn-last.ensures.view
    c.load_turn-last.ensures.learns.seen c.if-last-first.false c.unpack-hands.result c.unpack-hands.ensures c.load_turn-last.ensures.hands

pub reading-requires-clause-place : goal.reading-requires-clause-place
reading-requires-clause-place c = let g = from_inside c.args.self.now c.self.inside.seat _ _ c.self.view_is c.load_fields-fields.ensures.loads in
    may_whole c.args.kind _ _ c.requires.way (whole_past_it _ _ _ (ask_of c.args.kind) c.args.first c.load_fields-fields.result
    c.load_counter-count.result c.requires.way c.requires.at g c.load_fields-fields.ensures.long c.load_counter-count.ensures.view _
    c.load_turn-last.result c.load_turn-last.ensures.view c.load_turn-last.ensures.learns.seen c.if-last-first.false c.unpack-hands.result
    c.unpack-hands.ensures c.load_turn-last.ensures.hands)

pub returns-clause-answers : goal.returns-clause-answers
returns-clause-answers c = let g = from_inside c.args.self.now c.self.inside.seat _ _ c.self.view_is c.load_fields-fields.ensures.loads in
    whole_read _ _ _ (ask_of c.args.kind) c.args.first c.load_fields-fields.result c.load_counter-count.result c.requires.way c.requires.at g
    c.load_fields-fields.ensures.long c.load_counter-count.ensures.view _ c.load_turn-last.result c.load_turn-last.ensures.view
    c.load_turn-last.ensures.learns.seen c.if-last-first.false c.unpack-hands.result c.unpack-hands.ensures c.reading.result c.reading.ensures

pub returns-clause-by : goal.returns-clause-by
returns-clause-by c = let g = from_inside c.args.self.now c.self.inside.seat _ _ c.self.view_is c.load_fields-fields.ensures.loads in
    by_it c.load_turn-last.new.self.view _ _ c.args.kind (c.args.first / 2) c.load_counter-count.result c.reading.result
    (whole_fields _ _ _ (ask_of c.args.kind) c.args.first c.load_fields-fields.result c.load_counter-count.result c.requires.way c.requires.at g
    c.load_fields-fields.ensures.long c.load_counter-count.ensures.view _ c.load_turn-last.result c.load_turn-last.ensures.view
    c.load_turn-last.ensures.learns.seen) c.unpack-hands.ensures
    (whole_stands _ _ _ (ask_of c.args.kind) c.args.first c.load_fields-fields.result c.load_counter-count.result c.requires.way c.requires.at g
    c.load_fields-fields.ensures.long c.load_counter-count.ensures.view _ c.load_turn-last.result c.load_turn-last.ensures.view
    c.load_turn-last.ensures.learns.seen c.if-last-first.false c.unpack-hands.result c.unpack-hands.ensures c.load_turn-last.ensures.hands)
    (may_whole c.args.kind _ _ c.requires.way (whole_past_it _ _ _ (ask_of c.args.kind) c.args.first c.load_fields-fields.result
    c.load_counter-count.result c.requires.way c.requires.at g c.load_fields-fields.ensures.long c.load_counter-count.ensures.view _
    c.load_turn-last.result c.load_turn-last.ensures.view c.load_turn-last.ensures.learns.seen c.if-last-first.false c.unpack-hands.result
    c.unpack-hands.ensures c.load_turn-last.ensures.hands)) c.load_counter-count.ensures.small c.reading.ensures
