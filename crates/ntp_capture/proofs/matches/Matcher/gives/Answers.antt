use Rattle.std.proofs.Common.{◌≡◌, Bool, Option, List, true, cond, take, length, ◌≤◌, None, Some, sym, ap, subst, ◌∙◌}
use Rattle.std.proofs.lemmas.List.{take_all}
use Rattle.std.specs.List.{find}
use Rattle.ntp_capture.specs.Packets.{is_reply, is_usable}
use Rattle.ntp_capture.specs.Matches.{fits, match_of, got_by, reply_gives}
use Rattle.ntp_capture.specs.declared.exchanges.Got.{Got}
use Rattle.ntp_capture.specs.declared.exchanges.Got.TheVariants as got
use Rattle.ntp_capture.specs.declared.matches.Request.{Request}
use Rattle.ntp_capture.proofs.MatchLaws.{no-reply}
use Rattle.ntp_capture.proofs.matches.Matcher.gives.Goals as goal

pub returns-in-Some-clause-answer : goal.returns-in-Some-clause-answer
unfolding got_by
returns-in-Some-clause-answer c =
    let r = c.args.r.now in
    let qs = c.args.self.now in
    let replies : is_reply r ≡ true = sym c.if-not-is_reply.ensures in
    let usable : is_usable r.packet ≡ true = sym c.if-not-is_usable.ensures in
    let few : take 16 qs ≡ qs = take_all 16 qs (subst (λ (xs : List Request). length xs ≤ 16) c.self.view_is c.self.invariant) in
    let found : find (fits r) qs ≡ Some c.in-Some.request = sym c.take_first.ensures.found ∙ c.in-Some.is in
    let gives : Option Request → Bool → Bool → Got = λ o replies usable. cond replies (reply_gives r (cond usable o None)) got.Nothing in
    ap got.Exchange c.exchange_of.ensures.value ∙ sym (
    ap (λ (xs : List Request). gives (find (fits r) xs) (is_reply r) (is_usable r.packet)) few
    ∙ ap (λ o. gives o (is_reply r) (is_usable r.packet)) found
    ∙ ap (λ b. gives (Some c.in-Some.request) b (is_usable r.packet)) replies
    ∙ ap (λ b. gives (Some c.in-Some.request) true b) usable)

pub returns-then-is_request-clause-answer : goal.returns-then-is_request-clause-answer
unfolding got_by
returns-then-is_request-clause-answer c =
    let r = c.args.r.now in
    sym (ap (λ b. cond b (reply_gives r (match_of c.args.self.now r)) got.Nothing) (no-reply r (sym c.if-is_request.ensures)))
