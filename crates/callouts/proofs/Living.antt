-- The places and the stack of spare ones, where a timer comes or goes.
use Rattle.std.proofs.Common.{◌≡◌, ◌≢◌, ℕ, ◌+◌, ◌-◌, ◌<◌, ◌≤◌, ◌^◌, cond, Option, Some, None, List, length, set, slice_index, refl, sym, ap, ◌∙◌, subst, arith, inl, inr, length-set, get_or-set_same, get_or-set_other}
use Rattle.std.specs.Option.{is_some, IsSome}
use Rattle.std.proofs.lemmas.Bool.{cases_eq}
use Rattle.std.proofs.lemmas.Option.{none-some, same_Some}
use Rattle.std.proofs.lemmas.List.Sums.{sum_by-set, count_by-le-length}
use Rattle.callouts.specs.declared.timers.Entry.{Entry}
use Rattle.callouts.specs.Timers.{timer_in, live_in}
use Rattle.callouts.specs.Wheels.{IsWheel}
use Rattle.callouts.proofs.Changing.{lives_within, set_cases}

pub some_is : (o : Option Entry) → IsSome o → (e : Entry) × (o ≡ Some e)
some_is None some = absurd (cc)
some_is (Some e) some = (e, refl)

abbrev pub one_if : Option Entry → ℕ
one_if o = cond (is_some o) 1 0

-- how many live where one comes or goes
pub live_more : (ps : List (Option Entry)) (p : ℕ) (e : Entry) → p < length ps → timer_in ps p ≡ None → live_in (set ps p (Some e)) ≡ live_in ps + 1
live_more ps p e within none =
    let was : one_if (timer_in ps p) ≡ 0 = ap one_if none in
    omega (arith, sum_by-set one_if ps p (Some e) None within)

live_less : (ps : List (Option Entry)) (p : ℕ) (e : Entry) → timer_in ps p ≡ Some e → live_in (set ps p None) + 1 ≡ live_in ps
live_less ps p e is =
    let was : one_if (timer_in ps p) ≡ 1 = ap one_if is in
    omega (arith, sum_by-set one_if ps p None None (lives_within ps p e is))

module _ (ps : List (Option Entry)) (spare : List ℕ) (live added : ℕ) (wheel : IsWheel ps spare live added) where
  pub within_stack : live ≤ length spare
  within_stack = omega (arith, count_by-le-length is_some ps, wheel.living, wheel.stack)

  -- a timer comes into the place on top of the stack
  module _ (place : ℕ) (some : live < length spare) (at : slice_index spare live ≡ place) where
    pub none_there : timer_in ps place ≡ None
    none_there = rw (← at) (wheel.free live (omega arith) some)

    pub there : place < length ps
    there = rw (← at) (wheel.within live (omega arith) some)

    -- the ids of all others are less
    pub only_there : (due p d : ℕ) → timer_in (set ps place (Some (record { id = added; due = due }))) p ≡ Some (record { id = added; due = d })
        → p ≡ place
    only_there due p d is = elim (set_cases ps place p (Some (record { id = added; due = due })) (record { id = added; due = d }) is) [
      | inl new ↦ new.0
      | inr was ↦ absurd (omega (arith, wheel.early p (record { id = added; due = d }) was))
    ]

    module _ (e : Entry) (id : e.id ≡ added) (due : e.due < 2 ^ 110) where
      is_set : (p : ℕ) (o : Entry) → timer_in (set ps place (Some e)) p ≡ Some o → (P : Entry → Type 0) → P e → (timer_in ps p ≡ Some o → P o) → P o
      is_set p o is P new old = elim (set_cases ps place p (Some e) o is) [
        | inl here ↦ subst P (same_Some e o here.1) new
        | inr was ↦ old was
      ]

      pub wheel_add : added < 2 ^ 63 → IsWheel (set ps place (Some e)) spare (live + 1) (added + 1)
      wheel_add many = record {
        few = omega (arith, wheel.few, length-set ps place (Some e));
        stack = wheel.stack ∙ sym (length-set ps place (Some e));
        living = live_more ps place e there none_there ∙ ap (λ n. n + 1) wheel.living;
        free = λ k l h. get_or-set_other ps place (slice_index spare k) (Some e) None
            (λ z. wheel.apart live k (omega arith) (omega arith) h (at ∙ sym z)) ∙ wheel.free k (omega arith) h;
        within = λ k l h. omega (arith, wheel.within k (omega arith) h, length-set ps place (Some e));
        apart = λ k l a b h. wheel.apart k l (omega arith) b h;
        early = λ p o is. is_set p o is (λ o. o.id < added + 1) (omega arith) (λ was. omega (arith, wheel.early p o was));
        due = λ p o is. is_set p o is (λ o. o.due < 2 ^ 110) due (wheel.due p o);
        many = omega arith;
      }

  -- a timer goes, and its place comes onto the stack
  module _ (place : ℕ) (e : Entry) (is : timer_in ps place ≡ Some e) where
    pub some_live : 0 < live
    some_live = omega (arith, live_less ps place e is, wheel.living)

    top : slice_index (set spare (live - 1) place) (live - 1) ≡ place
    top = get_or-set_same spare (live - 1) place 0 (omega (arith, some_live, within_stack))

    rest : (k : ℕ) → k ≢ live - 1 → slice_index (set spare (live - 1) place) k ≡ slice_index spare k
    rest k ne = get_or-set_other spare (live - 1) k place 0 ne

    long : length (set spare (live - 1) place) ≡ length spare
    long = length-set spare (live - 1) place

    -- a place that was spare isn't that of the timer
    was_spare : (k : ℕ) → live ≤ k → k < length spare → slice_index spare k ≢ place
    was_spare k l h z = none-some e (sym (wheel.free k l h) ∙ ap (timer_in ps) z ∙ is)

    left : (p : ℕ) (o : Entry) → timer_in (set ps place None) p ≡ Some o → timer_in ps p ≡ Some o
    left p o is_o = elim (set_cases ps place p None o is_o) [ inl none ↦ absurd (none-some o none.1) | inr was ↦ was ]

    pub wheel_remove : IsWheel (set ps place None) (set spare (live - 1) place) (live - 1) added
    wheel_remove = record {
      few = omega (arith, wheel.few, length-set ps place None);
      stack = long ∙ wheel.stack ∙ sym (length-set ps place None);
      living = omega (arith, live_less ps place e is, wheel.living);
      free = λ k l h. elim (cases_eq k (live - 1)) [
        | inl z ↦ ap (λ k. timer_in (set ps place None) (slice_index (set spare (live - 1) place) k)) z ∙ ap (timer_in (set ps place None)) top
            ∙ get_or-set_same ps place None None (lives_within ps place e is)
        | inr ne ↦
            let l' : live ≤ k = omega arith in
            let h' : k < length spare = omega (arith, long) in
            ap (timer_in (set ps place None)) (rest k ne) ∙ get_or-set_other ps place (slice_index spare k) None None (was_spare k l' h') ∙ wheel.free k l' h'
      ];
      within = λ k l h. elim (cases_eq k (live - 1)) [
        | inl z ↦ omega (arith, ap (slice_index (set spare (live - 1) place)) z, top, lives_within ps place e is, length-set ps place None)
        | inr ne ↦
            let l' : live ≤ k = omega arith in
            let h' : k < length spare = omega (arith, long) in
            omega (arith, rest k ne, wheel.within k l' h', length-set ps place None)
      ];
      apart = λ k l a b h.
          let ne_l : l ≢ live - 1 = λ z. omega arith in
          let h' : l < length spare = omega (arith, long) in
          elim (cases_eq k (live - 1)) [
            | inl z ↦ λ same. was_spare l (omega arith) h' (sym (rest l ne_l) ∙ sym same ∙ ap (slice_index (set spare (live - 1) place)) z ∙ top)
            | inr ne ↦ λ same. wheel.apart k l (omega arith) b h' (sym (rest k ne) ∙ same ∙ rest l ne_l)
          ];
      early = λ p o is_o. wheel.early p o (left p o is_o);
      due = λ p o is_o. wheel.due p o (left p o is_o);
      many = wheel.many;
    }
