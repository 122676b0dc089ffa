use Rattle.std.proofs.Common.{◌≡◌, ◌+◌, None, false, length, sym, ap, subst, ◌∙◌, arith}
use Rattle.std.proofs.lemmas.Grind.{common_steps}
use Rattle.ntp_capture.specs.Grammar.{refusal_in}
use Rattle.ntp_capture.specs.Kept.{Kept, IsPieceInRange}
use Rattle.ntp_capture.proofs.FieldLaws.{sound-packet, size-some, piece-in-range}
use Rattle.ntp_capture.proofs.TurnLaws.{at-by, record_turn, read_so_far}
use Rattle.ntp_capture.proofs.capture.Capture.record_ahead.Goals as goal

pub piece_in-piece-requires-clause-packet : goal.piece_in-piece-requires-clause-packet
piece_in-piece-requires-clause-packet c is =
    let more = c.args.more.now in
    let none : refusal_in false more ≡ None = grind (arith, common_steps) in
    omega (arith, sound-packet more none (omega arith))

pub returns-clause-goes_on : goal.returns-clause-goes_on
returns-clause-goes_on c = omega (arith, size-some false c.args.more.now, c.size_of-size.ensures)

pub returns-clause-turn : goal.returns-clause-turn
returns-clause-turn c text short stands =
    let old = c.args.self.now in
    let more = c.args.more.now in
    let none : refusal_in false more ≡ None = grind (arith, common_steps) in
    let read : old.place + old.seen ≡ length text = read_so_far old text (at-by old text c.requires.sound stands) in
    let place : c.saturating_add-self-inside.result ≡ c.self.inside.place + c.size_of-size.result = omega (arith, ap (λ (k : Kept). k.place) c.self.view_is) in
    record_turn old _ text more c.size_of-size.result c.piece_in-piece.result c.requires.sound stands
    (sym (ap (λ (k : Kept). k.is_head) c.self.view_is) ∙ c.if-self.false)
    (sym (ap (λ (k : Kept). k.seen) c.self.view_is) ∙ c.if-self-ne0.false)
    (omega arith) c.size_of-size.ensures (omega arith) none c.piece_in-piece.ensures
    (ap (λ n. record {
      place = n;
      is_head = c.self.inside.is_head;
      seen = c.self.inside.seen;
      front = c.self.inside.front.items;
      fault =
          c.self.inside.fault;
    }) place ∙ ap (λ (k : Kept). record k { place = k.place + c.size_of-size.result }) c.self.view_is)

pub returns-clause-ranges : goal.returns-clause-ranges
returns-clause-ranges c =
    let more = c.args.more.now in
    let none : refusal_in false more ≡ None = grind (arith, common_steps) in
    subst IsPieceInRange (sym c.piece_in-piece.ensures)
    (piece-in-range false more none (omega (arith, sound-packet more none (omega arith), c.size_of-size.ensures)))
