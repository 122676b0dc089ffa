use Rattle.std.proofs.Common.{◌≡◌, Ok, ap, subst, get_or, arith}
use Rattle.std.proofs.lemmas.Grind.{common_steps}
use Rattle.stamp_text.specs.Kept.{Kept}
use Rattle.stamp_text.specs.Pieces.{BeginsWithLine}
use Rattle.stamp_text.proofs.TurnLaws.{stamp_turn}
use Rattle.stamp_text.proofs.feed.Feed.end_line.Goals as goal

pub returns-clause-in_turn : goal.returns-clause-in_turn
returns-clause-in_turn c =
    let old = c.args.self.now in
    let more = c.args.more.now in
    let n = c.args.count in
    let s = c.in_ok-stamp.stamp in
    let feed : get_or more n 0 ≡ 10 = omega (arith, c.if-more-count-ne10.false) in
    let is : c.args.answer ≡ Ok s = grind (arith, common_steps, c.in_ok-stamp.ensures.value, c.in_ok-stamp.was) in
    let line : BeginsWithLine old.second more (Ok s) n = subst (λ r. BeginsWithLine old.second more r n) is c.requires.begins in
    stamp_turn old _ more n c.saturating_add-line.result s c.requires.sound c.requires.empty c.requires.late (omega arith) feed line
    (omega (arith, c.saturating_add-line.ensures, ap (λ k. k.ended) c.self.view_is))
    (ap {A = Kept} (λ k. record k { ended = c.saturating_add-line.result }) c.self.view_is)
