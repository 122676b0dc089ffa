use Rattle.std.proofs.Common.{◌≡◌, ◌+◌, arith, sym, ap, ◌∙◌, length, min, true, false, None, Some, Err, subst}
use Rattle.std.proofs.lemmas.Grind.{common_steps}
use Rattle.ntp_capture.specs.Cut.{size_of}
use Rattle.ntp_capture.specs.Grammar.{fault_at, refusal_in, piece_in}
use Rattle.ntp_capture.specs.Kept.{Kept, IsPieceInRange}
use Rattle.ntp_capture.specs.Steps.{unless_faulty, sound_answer}
use Rattle.ntp_capture.proofs.FieldLaws.{sound-packet, size-some, piece-in-range, kept-long}
use Rattle.ntp_capture.proofs.capture.Capture.judge.Goals as goal

pub returns-in-Some-clause-answer : goal.returns-in-Some-clause-answer
returns-in-Some-clause-answer c small =
    let u = c.self.inside.front.items in
    let r : refusal_in c.self.inside.is_head u ≡ Some (c.in-Some.begins, c.in-Some.why) =
    ap (refusal_in c.self.inside.is_head) (sym c.as_slice.ensures.value) ∙ sym c.refusal_in.ensures.refusal ∙ c.in-Some.is in
    let k = c.args.self.now in
    let now : refusal_in k.is_head k.front ≡ Some (c.in-Some.begins, c.in-Some.why) =
    subst (λ (k : Kept). refusal_in k.is_head k.front ≡ Some (c.in-Some.begins, c.in-Some.why)) c.self.view_is r in
    let at : c.saturating_add-at.result ≡ k.place + c.in-Some.begins = omega (arith, small, ap (λ k. k.place) c.self.view_is, c.in-Some.ensures.near) in
    ap (λ n. Err (record { at = n; why = c.in-Some.why })) at
    ∙ sym (ap (λ r. unless_faulty (fault_at k.place r) (sound_answer k)) now)

pub piece_in-piece-requires-clause-head : goal.piece_in-piece-requires-clause-head
unfolding size_of
piece_in-piece-requires-clause-head c is =
    let size : c.size_of.result ≡ size_of true c.as_slice-2.result.now = c.size_of.ensures ∙ ap (λ h. size_of h c.as_slice-2.result.now) is in
    let fits : length c.self.inside.front.items ≡ min c.self.inside.seen 59 = c.self.invariant in
    omega (arith, c.if-self-size_of.false, ap length c.as_slice-3.ensures.value)

pub piece_in-piece-requires-clause-packet : goal.piece_in-piece-requires-clause-packet
piece_in-piece-requires-clause-packet c is =
    let u = c.self.inside.front.items in
    let none : refusal_in false u ≡ None = grind (arith, common_steps) in
    let size : c.size_of.result ≡ size_of false u = c.size_of.ensures ∙ ap (λ h. size_of h c.as_slice-2.result.now) is
    ∙ ap (size_of false) c.as_slice-2.ensures.value in
    let fits : length u ≡ min c.self.inside.seen 59 = c.self.invariant in
    let some = size-some false u in
    let enough = sound-packet u none (omega (arith, c.if-self-size_of.false)) in
    omega (arith, c.if-self-size_of.false, ap length c.as_slice-3.ensures.value)

pub returns-clause-ranges : goal.returns-clause-ranges
returns-clause-ranges c =
    let h = c.self.inside.is_head in
    let u = c.self.inside.front.items in
    let none : refusal_in h u ≡ None = grind (arith, common_steps) in
    let size : c.size_of.result ≡ size_of h u = c.size_of.ensures ∙ ap (size_of h) c.as_slice-2.ensures.value in
    let fits : length u ≡ min c.self.inside.seen 59 = c.self.invariant in
    let piece : c.piece_in-piece.result ≡ piece_in h u = c.piece_in-piece.ensures ∙ ap (piece_in h) c.as_slice-3.ensures.value in
    subst IsPieceInRange (sym piece) (piece-in-range h u none (kept-long h u c.self.inside.seen none (omega (arith, c.if-self-size_of.false)) fits))
