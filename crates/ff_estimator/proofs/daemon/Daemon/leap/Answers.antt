use Rattle.std.proofs.Common.{◌≡◌, Ok, sym, ap, ◌∙◌, subst, arith}
use mir.Val.{to_z, of_z}
use mir.Syntax.{w8}
use Rattle.std.proofs.lemmas.Grind.{common_steps}
use Rattle.stamp_text.specs.Accepted.{accepted_with}
use Rattle.stamp_text.specs.Past.{seen_of, seen_after, test_of}
use Rattle.stamp_text.specs.declared.lines.Item.TheVariants as item
use Rattle.ff_estimator.specs.Leaps.{leaps_with}
use Rattle.ff_estimator.specs.Daemons.{Kept, Holds, StandsFor}
use Rattle.ff_estimator.proofs.Daemons.{sign-back, leap-stands, leap-holds}
use Rattle.ff_estimator.proofs.daemon.Daemon.leap.Goals as goal

pub returns-in_err-leap-clause-answer : goal.returns-in_err-leap-clause-answer
returns-in_err-leap-clause-answer c freq items was =
    let stood = subst (λ k. StandsFor k freq items) (sym c.self.view_is) was in
    let said = c.leap.ensures.answer freq items stood.past in
    grind (arith, common_steps)

pub invariant_of-self-2 : goal.invariant_of-self-2
invariant_of-self-2 c =
    let sign : to_z w8 (of_z w8 c.args.leap) ≡ c.args.leap = sign-back c.args.leap c.requires.range.sign in
    let passed : c.leap.result ≡ Ok tt = grind (arith, common_steps) in
    leap-holds _ c.leap.new.self c.leaps_with-self-inside.result c.self.inside.freq c.args.count c.args.leap c.leap.result c.requires.range
    c.self.invariant (c.leap.ensures.test c.self.inside.freq
    ∙ ap (λ z. test_of c.self.inside.freq c.self.inside.past (item.Leap c.args.count z)) sign) passed
    (c.leap.ensures.after ∙ ap (λ z. seen_after c.self.inside.past (item.Leap c.args.count z) c.leap.result) sign)
    (c.leaps_with-self-inside.ensures ∙ ap (leaps_with c.self.inside.leaps c.args.count) sign)

pub returns-clause-stands : goal.returns-clause-stands
returns-clause-stands c freq items was =
    let sign : to_z w8 (of_z w8 c.args.leap) ≡ c.args.leap = sign-back c.args.leap c.requires.range.sign in
    let passed : c.leap.result ≡ Ok tt = grind (arith, common_steps) in
    let stood = subst (λ k. StandsFor k freq items) (sym c.self.view_is) was in
    let same = sym c.self.invariant.at ∙ stood.window.at in
    let old : Kept = record { window = c.self.inside.window; taken = c.self.inside.taken; past = c.self.inside.past; leaps = c.self.inside.leaps } in
    let holds : Holds old freq = subst (λ f. Holds old f) same c.self.invariant in
    leap-stands old c.leap.new.self c.leaps_with-self-inside.result freq items c.args.count c.args.leap c.leap.result holds stood
    (c.leap.ensures.test freq ∙ ap (λ z. test_of freq c.self.inside.past (item.Leap c.args.count z)) sign) passed
    (c.leap.ensures.stands items stood.past ∙ ap (λ z. seen_of (accepted_with items (item.Leap c.args.count z) c.leap.result)) sign)
    (c.leaps_with-self-inside.ensures ∙ ap (leaps_with c.self.inside.leaps c.args.count) sign)
