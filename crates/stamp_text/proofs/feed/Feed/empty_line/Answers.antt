use Rattle.std.proofs.Common.{◌≡◌, ap, get_or, arith}
use Rattle.std.proofs.lemmas.Grind.{common_steps}
use Rattle.stamp_text.specs.Kept.{Kept}
use Rattle.stamp_text.proofs.TurnLaws.{empty_turn}
use Rattle.stamp_text.proofs.feed.Feed.empty_line.Goals as goal

pub returns-clause-in_turn : goal.returns-clause-in_turn
returns-clause-in_turn c is =
    let old = c.args.self.now in
    let more = c.args.more.now in
    let before = c.is_before_entry.ensures in
    let at = c.if-not-is_before_entry.false in
    let feed : get_or more 0 0 ≡ 10 = c.if-more-ne10.false in
    empty_turn old _ more c.saturating_add-line.result (before.sound at) (before.empty at) (before.late at) (grind (arith, common_steps)) feed
    (omega (arith, c.saturating_add-line.ensures, ap (λ k. k.ended) c.self.view_is))
    (ap {A = Kept} (λ k. record k { ended = c.saturating_add-line.result }) c.self.view_is)
