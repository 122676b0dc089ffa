use Rattle.std.proofs.Common.{◌≡◌, Ok, ◌≤◌, sym, ap, ap₂, ◌∙◌, subst, arith}
use Rattle.stamp_text.specs.Accepted.{accept_of, accepted_with, last_of}
use Rattle.stamp_text.specs.Past.{Seen, accept_item, seen_of, seen_with, seen_after, stamps_of}
use Rattle.stamp_text.specs.declared.lines.Item.TheVariants as item
use Rattle.rtt_window.proofs.Keeping.{last-push}
use Rattle.ff_estimator.specs.Leaps.{AreFew}
use Rattle.ff_estimator.specs.Estimates.{fed_by}
use Rattle.ff_estimator.specs.Events.{with_leaps, full_behind}
use Rattle.ff_estimator.specs.Daemons.{Kept, StandsFor, IsTakenBounded, count_of}
use Rattle.ff_estimator.specs.declared.fulls.Fed.TheVariants as fed
use Rattle.ff_estimator.proofs.Bounds.{count_of-below}
use Rattle.ff_estimator.proofs.Daemons.{accepted-newest, reply-later, stamp-stands}
use Rattle.ff_estimator.proofs.Newest.{taken-stands, full-stands, newest-count}
use Rattle.ff_estimator.proofs.daemon.Daemon.feed.Goals as goal

pub add-base-requires-clause-accepted : goal.add-base-requires-clause-accepted
add-base-requires-clause-accepted g c = ap (accept_of (last_of c.self.inside.window.stamps) c.args.s) c.self.invariant.at
    ∙ accepted-newest c.self.inside.freq c.self.inside.past (last_of c.self.inside.window.stamps) c.args.s c.stamp.result c.self.invariant.newest
    c.stamp.ensures.test c.in_default.is

pub taken_at-self-inside-requires-clause-later : goal.taken_at-self-inside-requires-clause-later
taken_at-self-inside-requires-clause-later g c =
    let accepted = accepted-newest c.self.inside.freq c.self.inside.past (last_of c.self.inside.window.stamps) c.args.s c.stamp.result
    c.self.invariant.newest c.stamp.ensures.test c.in_default.is in
    omega (arith, c.newest_count-before.ensures.value, count_of-below (last_of c.self.inside.window.stamps) c.args.s c.self.inside.freq accepted)

pub invariant_of-self-2 : goal.invariant_of-self-2
invariant_of-self-2 g c =
    let holds = c.self.invariant in
    let newest = ap last_of c.add-base.ensures.kept ∙ last-push c.self.inside.window.stamps c.args.s in
    let past : c.stamp.new.self ≡ seen_with c.self.inside.past (item.Stamp c.args.s) = c.stamp.ensures.after
    ∙ ap (seen_after c.self.inside.past (item.Stamp c.args.s)) c.in_default.is in
    record {
      at = c.add-base.ensures.freq ∙ holds.at;
      low = holds.low;
      high = holds.high;
      bounded = subst (λ o. IsTakenBounded c.taken_at-self-inside.result (count_of o)) (sym newest) c.taken_at-self-inside.ensures.bounded;
      newest = ap (λ (p : Seen). p.stamp) past ∙ sym newest;
      latest = holds.latest ∙ sym (ap (λ (p : Seen). p.leap) past);
      few = subst (AreFew c.self.inside.leaps) (sym (ap (λ (p : Seen). p.leaps) past)) holds.few;
      hundred = subst (λ n. n ≤ 100) (sym (ap (λ (p : Seen). p.leaps) past)) holds.hundred;
    }

pub returns-clause-stands : goal.returns-clause-stands
returns-clause-stands g c freq items was =
    let s = c.args.s in
    let stood = subst (λ k. StandsFor k freq items) (sym c.self.view_is) was in
    let same = sym c.self.invariant.at ∙ stood.window.at in
    let passes : accept_item freq items (item.Stamp s) ≡ Ok tt = ap (λ f. accept_item f items (item.Stamp s)) (sym same)
    ∙ sym (c.stamp.ensures.answer items stood.past) ∙ c.in_default.is in
    let accepted = accepted-newest c.self.inside.freq c.self.inside.past (seen_of items).stamp s c.stamp.result
    (ap (λ (p : Seen). p.stamp) stood.past) c.stamp.ensures.test c.in_default.is in
    let stands = c.add-base.ensures.stands freq (stamps_of items) stood.window in
    let before : c.newest_count-before.result ≡ count_of (last_of (stamps_of items)) = c.newest_count-before.ensures.value
    ∙ newest-count c.self.inside.window freq (stamps_of items) stood.window in
    let taken = taken-stands c.add-base.new.self freq (stamps_of items) s c.add-base.result c.rates_at-rates.result c.newest_count-before.result
    c.self.inside.taken c.taken_at-self-inside.result stands (c.add-base.ensures.base freq (stamps_of items) stood.window)
    c.rates_at-rates.ensures.value before stood.taken c.taken_at-self-inside.ensures.value in
    let past = c.stamp.ensures.stands items stood.past ∙ ap (λ r. seen_of (accepted_with items (item.Stamp s) r)) c.in_default.is in
    let new : Kept = record { window = c.add-base.new.self; taken = c.taken_at-self-inside.result; past = c.stamp.new.self; leaps = c.self.inside.leaps } in
    subst (λ r. StandsFor new freq (accepted_with items (item.Stamp s) r)) (sym passes)
    (stamp-stands new freq items s stands taken past stood.leaps (reply-later (seen_of items).stamp s c.self.inside.freq accepted))

pub returns-clause-answer : goal.returns-clause-answer
unfolding full_behind
returns-clause-answer g c freq items was =
    let s = c.args.s in
    let stood = subst (λ k. StandsFor k freq items) (sym c.self.view_is) was in
    let same = sym c.self.invariant.at ∙ stood.window.at in
    let passes : accept_item freq items (item.Stamp s) ≡ Ok tt = ap (λ f. accept_item f items (item.Stamp s)) (sym same)
    ∙ sym (c.stamp.ensures.answer items stood.past) ∙ c.in_default.is in
    let accepted = accepted-newest c.self.inside.freq c.self.inside.past (seen_of items).stamp s c.stamp.result
    (ap (λ (p : Seen). p.stamp) stood.past) c.stamp.ensures.test c.in_default.is in
    let stands = c.add-base.ensures.stands freq (stamps_of items) stood.window in
    let before : c.newest_count-before.result ≡ count_of (last_of (stamps_of items)) = c.newest_count-before.ensures.value
    ∙ newest-count c.self.inside.window freq (stamps_of items) stood.window in
    let taken = taken-stands c.add-base.new.self freq (stamps_of items) s c.add-base.result c.rates_at-rates.result c.newest_count-before.result
    c.self.inside.taken c.taken_at-self-inside.result stands (c.add-base.ensures.base freq (stamps_of items) stood.window)
    c.rates_at-rates.ensures.value before stood.taken c.taken_at-self-inside.ensures.value in
    let full = full-stands c.add-base.new.self freq (stamps_of items) s c.add-base.result c.rates_at-rates.result c.taken_at-self-inside.result
    c.count-i.result c.full_of-full.result stands (c.add-base.ensures.base freq (stamps_of items) stood.window) c.rates_at-rates.ensures.value
    taken c.count-i.ensures c.full_of-full.ensures in
    let fields = c.fields_kept.ensures ∙ sym (stood.leaps s.tf (reply-later (seen_of items).stamp s c.self.inside.freq accepted)) in
    ap fed.Estimate (c.with_leaps.ensures ∙ ap₂ with_leaps fields full) ∙ ap (λ r. fed_by r (full_behind freq items s)) (sym passes)
