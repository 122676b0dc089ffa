-- While texts of words are gathered.
use Rattle.std.proofs.Common.{◌≡◌, ℕ, ◌+◌, ◌<◌, List, [], ◌∷◌, ◌++◌, length, take, drop, map, get_or, refl, sym, ap, ap₂, ◌∙◌}
use Rattle.std.proofs.lemmas.List.{map-append, take_more}

pub texts-none : {X Z : Type 0} (f : X → Z) (xs : List X) → xs ≡ [] → map f xs ≡ []
texts-none f xs e = ap (map f) e

-- one more
pub texts-next : {X Y Z : Type 0} (f : X → Z) (g : Y → Z) (xs new : List X) (ys : List Y) (x : X) (y : Y) (i : ℕ) → i < length ys → new ≡ xs ++ x
    ∷ [] → map f xs ≡ map g (take i ys) → f x ≡ g y → y ≡ get_or ys i y → map f new ≡ map g (take (i + 1) ys)
texts-next f g xs new ys x y i within one before same at =
    ap (map f) one ∙ map-append f xs (x ∷ []) ∙ ap₂ (λ a b. a ++ b ∷ []) before (same ∙ ap g at)
    ∙ sym (map-append g (take i ys) (get_or ys i y ∷ [])) ∙ ap (map g) (sym (take_more ys i y within))

-- the words behind the first
behind : {Y Z : Type 0} (g : Y → Z) (words : List Y) → map g (drop 1 words) ≡ drop 1 (map g words)
behind g [] = refl
behind g (w ∷ ws) = refl

pub words-by : {X Y Z : Type 0} (f : X → Z) (g : Y → Z) (slice texts : List X) (ws words : List Y) → slice ≡ texts → map f texts ≡ map g ws
    → ws ≡ drop 1 words → map f slice ≡ drop 1 (map g words)
words-by f g slice texts ws words same all cut = ap (map f) same ∙ all ∙ ap (map g) cut ∙ behind g words
