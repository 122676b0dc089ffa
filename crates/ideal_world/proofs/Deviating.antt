-- While the ticks are gone through.
use Rattle.std.proofs.Common.{◌≡◌, ℕ, ◌+◌, ◌<◌, ◌≤◌, ltb, Bool, true, false, List, slice_get, Some, refl, sym, ap, ◌∙◌, subst, arith}
use Rattle.std.proofs.lemmas.Bool.Decides.{nat_tests}
use Rattle.ff_hands.specs.declared.hands.Hands.{Hands}
use Rattle.clock_lines.specs.Values.{value_of, bound_of}
use Rattle.clock_lines.specs.declared.readings.Kind.TheVariants as kind
use Rattle.world_times.specs.declared.world.World.{World}
use Rattle.ideal_world.specs.Deviations.{off_by, deviating, IsFarthestBefore, DeviationsAreBounded}
use Rattle.ideal_world.specs.declared.deviations.Deviation.{Deviation}

-- the farthest of the ticks before one, and this one
module _ (w : World) (ticks : List Hands) (end : ℕ) (h : Hands) (there : slice_get ticks end ≡ Some h) where
  by_place : (P : Hands → Type 0) → ((n : ℕ) (g : Hands) → 2 ≤ n → n < end → slice_get ticks n ≡ Some g → P g) → P h → (n : ℕ) (g : Hands) → 2 ≤ n
      → n < end + 1 → slice_get ticks n ≡ Some g → P g
  by_place P earlier this n g late early at =
      let split : (b : Bool) → ltb n end ≡ b → P g =
      elim [
        | true ↦ λ e. earlier n g late (grind (arith, nat_tests)) at
        | false ↦ λ e.
            let here : n ≡ end = grind (arith, nat_tests) in
            let same : h ≡ g = (let e = sym there ∙ ap (slice_get ticks) (sym here) ∙ at in cc) in
            subst P same this
      ] in
      split (ltb n end) refl

  -- it stays, where this one is off by no more
  pub stays-farthest : (f : Deviation) (d : ℕ) → d ≡ off_by w h → IsFarthestBefore w ticks end f → d ≤ f.distance → IsFarthestBefore w ticks (end + 1) f
  stays-farthest f d off is less = record {
    behind = is.behind;
    before = (let b = is.before in omega arith);
    hands = is.hands;
    there = is.there;
    is = is.is;
    first = is.first;
    most = by_place (λ g. off_by w g ≤ f.distance) is.most (omega (arith, off));
  }

  -- else it is this one
  pub comes-farthest : (f : Deviation) → 2 ≤ end → IsFarthestBefore w ticks end f → f.distance < off_by w h
      → IsFarthestBefore w ticks (end + 1) (deviating w end h)
  comes-farthest f behind is more = record {
    behind = behind;
    before = omega arith;
    hands = h;
    there = there;
    is = refl;
    first = λ n g late early at. (let m = is.most n g late early at in omega arith);
    most = by_place (λ g. off_by w g ≤ off_by w h) (λ n g late early at. (let m = is.most n g late early at in omega arith)) (omega arith);
  }

  -- as it is where there is none before it
  pub comes-first : 2 ≤ end → end ≤ 2 → IsFarthestBefore w ticks (end + 1) (deviating w end h)
  comes-first behind none = record {
    behind = behind;
    before = omega arith;
    hands = h;
    there = there;
    is = refl;
    first = λ n g late early at. absurd (omega arith);
    most = by_place (λ g. off_by w g ≤ off_by w h) (λ n g late early at. absurd (omega (arith, none))) (omega arith);
  }

pub deviations-bounded : DeviationsAreBounded
unfolding value_of bound_of
deviations-bounded w ticks f h are is at sync =
    let same : is.hands ≡ h = (let e = sym is.there ∙ at in cc) in
    let off : f ≡ deviating w f.tick h = is.is ∙ ap (deviating w f.tick) same in
    let covered : (deviating w f.tick h).distance ≤ (deviating w f.tick h).bound = are f.tick h at sync kind.Fast h.count refl in
    subst (λ (f : Deviation). f.distance ≤ f.bound) (sym off) covered
