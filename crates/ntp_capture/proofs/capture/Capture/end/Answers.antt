use Rattle.std.proofs.Common.{◌≡◌, ◌⊎◌, inl, inr, ◌<◌, true, Some, sym, ap, ◌∙◌, arith}
use Rattle.ntp_capture.specs.Kept.{Kept}
use Rattle.ntp_capture.specs.declared.pieces.CapWhy.TheVariants as why
use Rattle.ntp_capture.proofs.EndLaws.{end_refused, end_cut, end_sound}
use Rattle.ntp_capture.proofs.TurnLaws.{at-by}
use Rattle.ntp_capture.proofs.capture.Capture.end.Goals.{then-self-via-then-self, then-self-via-else-self+then-self-gt0}
use Rattle.ntp_capture.proofs.capture.Capture.end.Goals as goal

pub returns-in-Some-clause-answer : goal.returns-in-Some-clause-answer
returns-in-Some-clause-answer c text short stands =
    end_refused c.args.self text c.in-Some.fault (sym (ap (λ (k : Kept). k.fault) c.self.view_is) ∙ c.in-Some.is) stands

pub returns-then-self-clause-answer : goal.returns-then-self-clause-answer
returns-then-self-clause-answer c text short stands =
    let at = at-by c.args.self text (sym (ap (λ (k : Kept). k.fault) c.self.view_is) ∙ c.in_default.is) stands in
    let left : (c.args.self.is_head ≡ true) ⊎ (0 < c.args.self.seen) = elim c.then-self.branch [
      | then-self-via-then-self w ↦ inl (sym (ap (λ (k : Kept). k.is_head) c.self.view_is) ∙ w.if-self.true)
      | then-self-via-else-self+then-self-gt0 w ↦ inr (omega (arith, ap (λ (k : Kept). k.seen) c.self.view_is, w.if-self-gt0.true))
    ] in
    end_cut c.args.self text at left ∙ ap (λ n. Some (record { at = n; why = why.Cut })) (sym (ap (λ (k : Kept). k.place) c.self.view_is))

pub returns-clause-answer : goal.returns-clause-answer
returns-clause-answer c text short stands =
    let at = at-by c.args.self text (sym (ap (λ (k : Kept). k.fault) c.self.view_is) ∙ c.in_default.is) stands in
    end_sound c.args.self text at (sym (ap (λ (k : Kept). k.is_head) c.self.view_is) ∙ c.if-self.false)
    (omega (arith, ap (λ (k : Kept). k.seen) c.self.view_is, c.if-self-gt0.false))
