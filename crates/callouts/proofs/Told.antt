-- What is told of the timers that fire at the ticks of a journal, as one list.
use Rattle.std.proofs.Common.{◌≡◌, ℕ, zero, suc, ◌+◌, ◌<◌, nat_eq, true, false, map, drop, List, [], ◌∷◌, ◌++◌, length, get_or, refl, sym, ap, ◌∙◌, arith, add-one}
use Rattle.std.specs.List.{prefix_len}
use Rattle.std.proofs.lemmas.Bool.Decides.{nat_tests}
use Rattle.ff_hands.specs.declared.hands.Hands.{Hands}
use Rattle.callouts.specs.declared.timers.Entry.{Entry}
use Rattle.callouts.specs.Firings.{firings, firing_of, firing_list, fired_at, is_at}

-- those of later ticks are not at this one
later : (tick n : ℕ) (ess : List (List Entry)) → tick < n → prefix_len (is_at tick) (firing_list n ess) ≡ 0
later tick n [] l = refl
later tick n ([] ∷ ess) l = later tick (n + 1) ess (omega arith)
later tick n ((e ∷ es) ∷ ess) l = let other : nat_eq n tick ≡ false = grind (arith, nat_tests) in rw other refl

-- those of a tick stand in front of them
pub front : (tick : ℕ) (es : List Entry) (ess : List (List Entry))
    → prefix_len (is_at tick) (map (firing_of tick) es ++ firing_list (tick + 1) ess) ≡ length (map (firing_of tick) es)
front tick [] ess = later tick (tick + 1) ess (omega arith)
front tick (e ∷ es) ess = let same : nat_eq tick tick ≡ true = grind (arith, nat_tests) in rw same (omega (arith, front tick es ess))

-- the rest of a journal's firings has those of the next tick in front
pub next : (n : ℕ) (ess : List (List Entry)) → firing_list n (drop n ess) ≡ fired_at ess n ++ firing_list (n + 1) (drop (n + 1) ess)
next n ess = next_from n n ess ∙ ap (λ k. fired_at ess n ++ firing_list (n + 1) (drop k ess)) (sym (add-one n))
  where
    next_from : (tick n : ℕ) (ess : List (List Entry))
        → firing_list tick (drop n ess) ≡ map (firing_of tick) (get_or ess n []) ++ firing_list (tick + 1) (drop (suc n) ess)
    next_from tick zero [] = refl
    next_from tick (suc n) [] = refl
    next_from tick zero (es ∷ ess) = refl
    next_from tick (suc n) (es ∷ ess) = next_from tick n ess

-- where no timers live none fire
pub none_fire : (n : ℕ) (hs : List Hands) → firing_list n (firings [] hs) ≡ []
unfolding firings
none_fire n [] = refl
none_fire n (h ∷ hs) = none_fire (n + 1) hs
