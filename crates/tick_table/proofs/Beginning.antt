-- The words at the start keep the rule.
use Rattle.std.proofs.Common.{◌≡◌, ℕ, zero, suc, ◌+◌, ◌-◌, ◌<◌, ◌≤◌, ◌≢◌, Bool, true, false, true≢false, ◌&&◌, List, [], ◌∷◌, drop, get_or, Some, None, sym, refl, ap, ◌∙◌, subst, inr, arith, lit<, le_refl}
use mathlib.Core.Option.{none, some, some-injective, some-ne-none}
use lib.ListN.{get_elem?}
use Rattle.std.proofs.lemmas.List.{get_or-drop}
use Rattle.atomic_table.specs.Table.{opening}
use Rattle.ff_hands.specs.declared.hands.Hands.{Hands}
use Rattle.tick_views.specs.declared.views.View.{View}
use Rattle.tick_views.specs.declared.views.View.TheVariants.{Pen, Crank}
use Rattle.tick_views.specs.declared.views.CrankView.{CrankView}
use Rattle.ff_hands.specs.Windups.{cold}
use Rattle.hand_words.specs.Words.{pack, unpack}
use Rattle.tick_table.proofs.Lists.{to_some}
use Rattle.tick_table.specs.Rule.{mark_at, field_at, world_of, SlotIs, number_in, Rule}
use Rattle.tick_views.specs.Worlds.{Fits}
use Rattle.tick_views.specs.Views.{pen_first}
use Rattle.tick_views.proofs.Grow.{in_list}
use Rattle.tick_table.proofs.PenKeeps.{no_crank, two_fields}

-- the words at the start: slot 0 has the cold hands
abbrev pub first_words : List ℕ
first_words = 0 ∷ 0 ∷ 2 ∷ 0 ∷ 0 ∷ 0 ∷ 0 ∷ 0 ∷ 0 ∷ 0 ∷ 0 ∷ 0 ∷ 0 ∷ 0 ∷ 0 ∷ 0 ∷ 0 ∷ 261 ∷ 0 ∷ 0 ∷ 0 ∷ 0 ∷ 0 ∷ 0 ∷ 0 ∷ 0 ∷ 0 ∷ 0 ∷ 0 ∷ 0 ∷ 0 ∷ 0 ∷ 0 ∷ 0
    ∷ 0 ∷ 0 ∷ 0 ∷ 0 ∷ 0 ∷ 0 ∷ 0 ∷ 0 ∷ 0 ∷ 0 ∷ 0 ∷ 0 ∷ 0 ∷ 0 ∷ 0 ∷ 0 ∷ 0 ∷ 0 ∷ 0 ∷ 0 ∷ 0 ∷ 0 ∷ 0 ∷ 0 ∷ 0 ∷ 0 ∷ 0 ∷ 0 ∷ 0 ∷ 0 ∷ 0 ∷ 0 ∷ 0 ∷ 0 ∷ 0 ∷ 0
    ∷ 0 ∷ 0 ∷ 0 ∷ 0 ∷ 0 ∷ 0 ∷ 0 ∷ 0 ∷ 0 ∷ 0 ∷ 0 ∷ 0 ∷ 0 ∷ 0 ∷ 0 ∷ 0 ∷ 0 ∷ 0 ∷ 0 ∷ 0 ∷ 0 ∷ 0 ∷ 0 ∷ 0 ∷ 0 ∷ 0 ∷ 0 ∷ 0 ∷ 0 ∷ 0 ∷ 0 ∷ 0 ∷ 0 ∷ 0 ∷ 0 ∷ 0
    ∷ 0 ∷ 0 ∷ 0 ∷ 0 ∷ 0 ∷ 0 ∷ 0 ∷ 0 ∷ 0 ∷ 0 ∷ 0 ∷ 0 ∷ 0 ∷ 0 ∷ 0 ∷ 0 ∷ 0 ∷ 0 ∷ 0 ∷ 0 ∷ 0 ∷ 0 ∷ 0 ∷ 0 ∷ 0 ∷ 0 ∷ 0 ∷ 0 ∷ 0 ∷ 0 ∷ 0 ∷ 0 ∷ 0 ∷ 0 ∷ 0 ∷ 0
    ∷ 0 ∷ 0 ∷ 0 ∷ 0 ∷ 0 ∷ 0 ∷ 0 ∷ 0 ∷ 0 ∷ 0 ∷ 0 ∷ 0 ∷ 0 ∷ 0 ∷ 0 ∷ 0 ∷ 0 ∷ 0 ∷ 0 ∷ 0 ∷ []

cold_words : (f x : ℕ) → f < 15 → get_elem? (pack cold) f ≡ some x → get_or first_words (field_at 0 f) 0 ≡ x
unfolding pack
cold_words zero x h e = some-injective 0 x e
cold_words (suc zero) x h e = some-injective 0 x e
cold_words (suc (suc zero)) x h e = some-injective 0 x e
cold_words (suc (suc (suc zero))) x h e = some-injective 0 x e
cold_words (suc (suc (suc (suc zero)))) x h e = some-injective 0 x e
cold_words (suc (suc (suc (suc (suc zero))))) x h e = some-injective 0 x e
cold_words (suc (suc (suc (suc (suc (suc zero)))))) x h e = some-injective 0 x e
cold_words (suc (suc (suc (suc (suc (suc (suc zero))))))) x h e = some-injective 0 x e
cold_words (suc (suc (suc (suc (suc (suc (suc (suc zero)))))))) x h e = some-injective 0 x e
cold_words (suc (suc (suc (suc (suc (suc (suc (suc (suc zero))))))))) x h e = some-injective 0 x e
cold_words (suc (suc (suc (suc (suc (suc (suc (suc (suc (suc zero)))))))))) x h e = some-injective 0 x e
cold_words (suc (suc (suc (suc (suc (suc (suc (suc (suc (suc (suc zero))))))))))) x h e = some-injective 0 x e
cold_words (suc (suc (suc (suc (suc (suc (suc (suc (suc (suc (suc (suc zero)))))))))))) x h e = some-injective 0 x e
cold_words (suc (suc (suc (suc (suc (suc (suc (suc (suc (suc (suc (suc (suc zero))))))))))))) x h e = some-injective 0 x e
cold_words (suc (suc (suc (suc (suc (suc (suc (suc (suc (suc (suc (suc (suc (suc zero)))))))))))))) x h e = some-injective 261 x e
cold_words (suc (suc (suc (suc (suc (suc (suc (suc (suc (suc (suc (suc (suc (suc (suc f))))))))))))))) x h e = absurd (omega arith)

-- behind the first slot nothing stands
abbrev is_zero : ℕ → Bool
is_zero zero = true
is_zero (suc x) = false

abbrev all_zero : List ℕ → Bool
all_zero [] = true
all_zero (x ∷ xs) = is_zero x && all_zero xs

zero_at : (xs : List ℕ) → all_zero xs ≡ true → (i : ℕ) → get_or xs i 0 ≡ 0
zero_at [] e i = refl
zero_at (x ∷ xs) e zero = first x (all_zero xs) e
  where
    first : (x : ℕ) (b : Bool) → (is_zero x && b) ≡ true → x ≡ 0
    first zero b e = refl
    first (suc x) b e = absurd (true≢false (sym e))
zero_at (x ∷ xs) e (suc i) = zero_at xs (rest (is_zero x) (all_zero xs) e) i
  where
    rest : (a b : Bool) → (a && b) ≡ true → b ≡ true
    rest true b e = e
    rest false b e = absurd (true≢false (sym e))

nothing_at : (i : ℕ) → 18 ≤ i → get_or first_words i 0 ≡ 0
nothing_at i above = let far : 18 + (i - 18) ≡ i = omega arith in ap (λ k. get_or first_words k 0) (sym far)
    ∙ (sym (get_or-drop 18 first_words (i - 18) 0) ∙ zero_at (drop 18 first_words) refl (i - 18))

cold_back : unpack (pack cold) ≡ cold
unfolding pack unpack
cold_back = refl

pub begins : Rule (opening first_words [] (Pen pen_first))
begins = record {
  pen = pen_first;
  last = 0;
  seated = refl;
  crank = 0;
  stands = record {
    wide = refl;
    long = refl;
    few = lit< tt;
    turn = refl;
    slots = record {
      slots = λ m h e. first_slot m h e;
      opened = λ e. absurd (true≢false (sym e));
      started = λ e. absurd (true≢false (sym e));
      finished = λ e. absurd (true≢false (sym e));
      stored = λ e. absurd (true≢false (sym e));
      bare = record { marks = λ m above low. nothing_at (mark_at m) (omega arith); fields = λ m f above low small. nothing_at (field_at m f) (omega arith) };
    };
    counter = record {
      small = lit< tt;
      ticks = λ m h e. first_count m h e;
      bound = le_refl 0;
      counted = λ i x e. absurd (some-ne-none x (sym e));
      closed = λ _. refl;
    };
    legal = record { first = refl; next = λ m g x a b. absurd (alone_at m x (to_some (cold ∷ []) (m + 1) x b)) };
    back = λ m h e. first_back m h e;
    kept = λ i k e. absurd (some-ne-none k (sym e));
  };
  tops = record { home = λ _. refl; away = λ e. absurd (true≢false (sym e)); only = λ j k e. absurd (alone_crank j k e) };
  numbers = record {
    one = λ i j u v n e f p q. alone_number i u n e p;
    apart = λ i k u q e f p. some-ne-none q (sym f);
    once = λ j k a b e f same. absurd (some-ne-none a (sym e));
    small = λ i u n e p. alone_number i u n e p;
    small_kept = λ k q e. absurd (some-ne-none q (sym e));
    every = λ n less. absurd (omega arith);
  };
  each = λ j v e far. alone j v e far;
}
  where
    cold_field : (f x : ℕ) → get_elem? (pack cold) f ≡ some x → get_or first_words (field_at 0 f) 0 ≡ x
    cold_field f x e = cold_words f x (two_fields cold f x e) e

    first_back : (m : ℕ) (h : Hands) → get_elem? (cold ∷ []) m ≡ some h → unpack (pack h) ≡ h
    first_back zero h e = subst (λ (g : Hands). unpack (pack g) ≡ g) (some-injective cold h e) cold_back
    first_back (suc m) h e = absurd (some-ne-none h (sym e))

    first_slot : (m : ℕ) (h : Hands) → get_elem? (cold ∷ []) m ≡ some h → SlotIs first_words 0 false m h
    first_slot zero h e = record {
      k = 0;
      mark = inr refl;
      same = refl;
      from = omega arith;
      top = omega arith;
      whole = λ _. refl;
      fields = λ _ f x at. cold_field f x (ap (λ (g : Hands). get_elem? (pack g) f) (some-injective cold h e) ∙ at);
    }
    first_slot (suc m) h e = absurd (some-ne-none h (sym e))

    alone_at : (m : ℕ) (x : Hands) → get_elem? (cold ∷ []) (m + 1) ≡ some x → ⊥
    alone_at m x b = let near = in_list (cold ∷ []) (m + 1) x b in omega arith

    first_count : (m : ℕ) (h : Hands) → get_elem? (cold ∷ []) m ≡ some h → h.count ≤ 0
    first_count zero h e = subst (λ (g : Hands). g.count ≤ 0) (some-injective cold h e) (le_refl 0)
    first_count (suc m) h e = absurd (some-ne-none h (sym e))

    alone_crank : (j : ℕ) (k : CrankView) → get_elem? (Pen pen_first ∷ []) j ≡ some (Crank k) → ⊥
    alone_crank zero k e = no_crank (Pen pen_first) k tt (some-injective _ _ e)
    alone_crank (suc j) k e = some-ne-none (Crank k) (sym e)

    not_some : (n : ℕ) → None ≡ Some n → ⊥
    not_some n e = cc

    alone_number : {P : Type 0} (i : ℕ) (u : View) (n : ℕ) → get_elem? (Pen pen_first ∷ []) i ≡ some u → number_in u ≡ Some n → P
    alone_number zero u n e p = let none : number_in u ≡ None = ap number_in (sym (some-injective (Pen pen_first) u e)) in absurd (not_some n (sym none ∙ p))
    alone_number (suc i) u n e p = absurd (some-ne-none u (sym e))

    alone : (j : ℕ) (v : View) → get_elem? (Pen pen_first ∷ []) j ≡ some v → 0 < j → Fits (world_of first_words pen_first 0) v
    alone zero v e far = absurd (omega arith)
    alone (suc j) v e far = absurd (some-ne-none v (sym e))
