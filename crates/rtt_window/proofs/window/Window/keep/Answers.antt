use Rattle.std.proofs.Common.{◌≡◌, ◌+◌, ◌∷◌, [], ◌++◌, ◌∙◌, sym, ap, subst, arith}
use Rattle.circular_buffer.specs.Buffer.{Buffer, buffer, keep_last}
use Rattle.min_lists.specs.Lists.{last_trips}
use Rattle.stamp_text.specs.Accepted.{accept_of, last_of}
use Rattle.stamp_text.specs.declared.lines.Stamp.{Stamp}
use Rattle.stamp_text.proofs.AcceptedLaws.{sound-by}
use Rattle.rtt_window.specs.Spans.{listed}
use Rattle.rtt_window.specs.Windows.{Kept, Holds, credit}
use Rattle.rtt_window.proofs.Keeping.{count-below, holds-push}
use Rattle.rtt_window.proofs.Listed.{credit-listed}
use Rattle.rtt_window.proofs.window.Window.keep.Goals as goal

pub trip-requires : goal.trip-requires
trip-requires g c =
    let accepted = ap (λ (k : Kept). accept_of (last_of k.stamps) c.args.s k.freq) c.self.view_is ∙ c.requires.accepted in
    (sound-by c.self.inside.freq (last_of c.self.inside.stamps.items) c.args.s accepted).counters

pub slide-requires-clause-few : goal.slide-requires-clause-few
slide-requires-clause-few g c =
    let w = c.self.inside in
    let accepted = ap (λ (k : Kept). accept_of (last_of k.stamps) c.args.s k.freq) c.self.view_is ∙ c.requires.accepted in
    omega (arith, count-below w.stamps.items w.count w.freq c.args.s c.self.invariant.few c.self.invariant.counted accepted, c.requires.timed.tf)

pub overflow_add-self : goal.overflow_add-self
overflow_add-self g c =
    let w = c.self.inside in
    let accepted = ap (λ (k : Kept). accept_of (last_of k.stamps) c.args.s k.freq) c.self.view_is ∙ c.requires.accepted in
    omega (arith, count-below w.stamps.items w.count w.freq c.args.s c.self.invariant.few c.self.invariant.counted accepted, c.requires.timed.tf)

pub invariant_of-self : goal.invariant_of-self
invariant_of-self g c =
    let w = c.self.inside in
    let holds = c.self.invariant in
    let accepted = ap (λ (k : Kept). accept_of (last_of k.stamps) c.args.s k.freq) c.self.view_is ∙ c.requires.accepted in
    let room : w.stamps ≡ buffer w.stamps.items 1024 = ap (buffer w.stamps.items) holds.capacity in
    let new : c.push_back.new.self ≡ buffer (keep_last 1024 (w.stamps.items ++ c.args.s ∷ [])) 1024 = c.push_back.ensures.items
    ∙ ap (λ n. buffer (keep_last n (w.stamps.items ++ c.args.s ∷ [])) n) holds.capacity in
    let before : Holds (buffer w.stamps.items 1024) w.lists w.count w.start w.freq = subst
    (λ (b : Buffer Stamp). Holds b w.lists w.count w.start w.freq) room holds in
    let slid = c.slide.ensures.kept ∙ ap (λ t. listed (last_trips (w.lists.trips ++ t ∷ [])) (w.count + 1) w.start) c.trip.ensures in
    subst (λ (b : Buffer Stamp). Holds b c.slide.new.lists (w.count + 1) w.start w.freq) (sym new)
    (holds-push w.stamps.items w.lists c.slide.new.lists w.count w.start w.freq c.args.s before c.requires.timed accepted slid)

pub returns-clause-credit : goal.returns-clause-credit
returns-clause-credit g c =
    let w = c.self.inside in
    let old = credit-listed (record { stamps = w.stamps.items; count = w.count; start = w.start; freq = w.freq }) w.lists c.self.invariant.listed
    ∙ ap credit c.self.view_is in
    let new = credit-listed (record { stamps = c.push_back.new.self.items; count = w.count + 1; start = w.start; freq = w.freq }) c.slide.new.lists
    (invariant_of-self g c).listed in
    omega (arith, c.slide.ensures.credit, old, new)
