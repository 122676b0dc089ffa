use Rattle.std.proofs.Common.{◌≡◌, ℕ, Bool, Option, List, get_or, set, true, false, [], None, Some, sym, ap, subst, ◌∙◌}
use Rattle.std.specs.List.{position}
use Rattle.ntp_capture.specs.Matches.{fits}
use Rattle.ntp_capture.specs.declared.matches.Request.{Request}
use Rattle.ntp_capture.proofs.MatchLaws.{FirstAt, first-at, first-none, place-some, place-none, written}
use Rattle.ntp_capture.proofs.matches.Matcher.take_first.Goals as goal

pub returns-in_err-at-clause-found : goal.returns-in_err-at-clause-found
returns-in_err-at-clause-found c =
    let none : position (fits c.args.reply.now) c.args.self.now ≡ None = sym c.place.ensures ∙ c.in_err-at.was in
    let no = first-none (fits c.args.reply.now) c.args.self.now (place-none _ _ none) in
    c.from_residual.ensures ∙ sym no.0

pub returns-in_err-at-clause-taken : goal.returns-in_err-at-clause-taken
returns-in_err-at-clause-taken c =
    let none : position (fits c.args.reply.now) c.args.self.now ≡ None = sym c.place.ensures ∙ c.in_err-at.was in
    let no = first-none (fits c.args.reply.now) c.args.self.now (place-none _ _ none) in
    sym no.1

-- what the place that was found says of the kept requests
first : (p : Request → Bool) (qs : List Request) (at : ℕ) (r : Option ℕ) → r ≡ position p qs → r ≡ Some at
    → FirstAt p qs at (record { count = 0; mark = []; taken = false })
first p qs at r is some =
    let here = place-some p qs at (sym is ∙ some) in
    subst (λ n. FirstAt p qs n (record { count = 0; mark = []; taken = false })) (sym here.0)
    (first-at p qs (record { count = 0; mark = []; taken = false }) here.1)

pub returns-clause-found : goal.returns-clause-found
returns-clause-found c =
    let at = c.in_ok-at.at in
    let it = first (fits c.args.reply.now) c.args.self.now at c.place.result c.place.ensures c.in_ok-at.was in
    let items : c.deref.result.now ≡ c.args.self.now = c.deref.ensures.0 ∙ c.self.view_is in
    ap (λ (xs : List Request). Some (get_or xs at (record { count = 0; mark = []; taken = false }))) items ∙ sym it.found

pub returns-clause-taken : goal.returns-clause-taken
returns-clause-taken c =
    let at = c.in_ok-at.at in
    let it = first (fits c.args.reply.now) c.args.self.now at c.place.result c.place.ensures c.in_ok-at.was in
    let xs = c.self.inside.recent.items in
    written xs c.deref_mut.result.now at _ c.deref_mut.ensures.value
    ∙ ap (λ (ys : List Request). set ys at (record (get_or c.deref_mut.result.now at (record { count = 0; mark = []; taken = false })) {
      taken =
          true;
    })) c.self.view_is ∙ ap (λ (ys : List Request). set c.args.self.now at
    (record (get_or ys at (record { count = 0; mark = []; taken = false })) { taken = true })) (c.deref_mut.ensures.value ∙ c.self.view_is) ∙ sym it.taken
