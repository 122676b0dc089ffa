-- The values of options and flags, where each flag that is not given has one as well.
use Rattle.std.proofs.Common.{◌≡◌, ◌||◌, List, [], ◌∷◌, ◌++◌, Bool, true, false, Option, Some, None, codes, is_some, refl, ap, sym, ◌∙◌, fold, if◌then◌else◌, true≢false}
use Rattle.std.specs.Prelude.{unwrap_or}
use Rattle.std.specs.Str.{bytes_eq}
use Rattle.std.proofs.lemmas.Slice.Eq.{bytes_eq-Decides}
use Rattle.clock_words.specs.Rows.{Text, Row, Item, has, is_given, value_of}
use Rattle.clock_words.specs.Parts.{AreParts, nothing, flag, apart, joined, placed}
use Rattle.clock_words.specs.Apps.{flag_text, with_absent, with_flags}
use Rattle.clock_words.proofs.Bools.{or_false}

given_valued : (n : Text) (items : List Item) → is_given n items ≡ is_some (value_of n items)
given_valued n [] = refl
given_valued n (x ∷ xs) = by_name (bytes_eq x.0 n) refl (given_valued n xs)
  where
    by_name : (b : Bool) → bytes_eq x.0 n ≡ b → is_given n xs ≡ is_some (value_of n xs) → is_given n (x ∷ xs) ≡ is_some (value_of n (x ∷ xs))
    by_name true e more = rw e refl
    by_name false e more = rw e more

-- a value is the first one that a name has
abbrev with_value : Text → Text → Text → Option Text → Option Text
with_value n m v x = if is_some x then x else (if bytes_eq m n then Some v else None)

value_more : (n : Text) (items : List Item) (m v : Text) → value_of n (items ++ (m, v) ∷ []) ≡ with_value n m v (value_of n items)
value_more n [] m v = by_name (bytes_eq m n) refl
  where
    by_name : (b : Bool) → bytes_eq m n ≡ b → value_of n ((m, v) ∷ []) ≡ with_value n m v None
    by_name true e = rw e refl
    by_name false e = rw e refl
value_more n (x ∷ xs) m v = by_name (bytes_eq x.0 n) refl (value_more n xs m v)
  where
    by_name : (b : Bool) → bytes_eq x.0 n ≡ b → value_of n (xs ++ (m, v) ∷ []) ≡ with_value n m v (value_of n xs)
        → value_of n ((x ∷ xs) ++ (m, v) ∷ []) ≡ with_value n m v (value_of n (x ∷ xs))
    by_name true e more = rw e refl
    by_name false e more = rw e more

-- a flag that is not given changes no other value, and no value that is there
absent_other : (n m : Text) (items : List Item) → bytes_eq m n ≡ false → value_of n (with_absent items m) ≡ value_of n items
absent_other n m items e = by_given (is_given m items) refl
  where
    same : (x : Option Text) → (if is_some x then x else None) ≡ x
    same None = refl
    same (Some v) = refl

    by_given : (b : Bool) → is_given m items ≡ b → value_of n (with_absent items m) ≡ value_of n items
    by_given true f = rw f refl
    by_given false f = rw f (value_more n items m (flag_text false)
        ∙ ap (λ b. if is_some (value_of n items) then value_of n items else (if b then Some (flag_text false) else None)) e ∙ same (value_of n items))

absent_there : (n m v : Text) (items : List Item) → value_of n items ≡ Some v → value_of n (with_absent items m) ≡ Some v
absent_there n m v items e = by_given (is_given m items) refl
  where
    by_given : (b : Bool) → is_given m items ≡ b → value_of n (with_absent items m) ≡ Some v
    by_given true f = rw f e
    by_given false f = rw f (value_more n items m (flag_text false) ∙ ap (with_value n m (flag_text false)) e)

-- its own value is `false`
absent_own : (n : Text) (items : List Item) → value_of n (with_absent items n) ≡ Some (unwrap_or (value_of n items) (flag_text false))
absent_own n items = by_value (value_of n items) refl
  where
    by_value : (x : Option Text) → value_of n items ≡ x → value_of n (with_absent items n) ≡ Some (unwrap_or (value_of n items) (flag_text false))
    by_value (Some v) e = absent_there n n v items e ∙ sym (ap (λ x. Some (unwrap_or x (flag_text false))) e)
    by_value None e =
        ap (λ b. value_of n (if b then items else items ++ (n, flag_text false) ∷ [])) (given_valued n items ∙ ap is_some e)
        ∙ value_more n items n (flag_text false)
        ∙ ap (with_value n n (flag_text false)) e
        ∙ ap (λ b. if b then Some (flag_text false) else None) ((bytes_eq-Decides n n).1 refl)
        ∙ sym (ap (λ x. Some (unwrap_or x (flag_text false))) e)

stays_there : (n v : Text) (flags : List Text) (items : List Item) → value_of n items ≡ Some v → value_of n (fold with_absent items flags) ≡ Some v
stays_there n v [] items e = e
stays_there n v (m ∷ ms) items e = stays_there n v ms (with_absent items m) (absent_there n m v items e)

-- the value of a name that is no flag
pub option_value : (n : Text) (flags : List Text) (items : List Item) → has flags n ≡ false → value_of n (fold with_absent items flags) ≡ value_of n items
option_value n [] items e = refl
option_value n (m ∷ ms) items e = let p = or_false (bytes_eq m n) (has ms n) e in option_value n ms (with_absent items m) p.1 ∙ absent_other n m items p.0

-- and that of a flag
own_value : (n : Text) (flags : List Text) (items : List Item) → has flags n ≡ true
    → value_of n (fold with_absent items flags) ≡ Some (unwrap_or (value_of n items) (flag_text false))
own_value n [] items e = absurd (true≢false (sym e))
own_value n (m ∷ ms) items e = by_name (bytes_eq m n) refl (own_value n ms (with_absent items m))
  where
    by_name : (b : Bool) → bytes_eq m n ≡ b → (has ms n ≡ true → value_of n (fold with_absent (with_absent items m) ms) ≡ Some
        (unwrap_or (value_of n (with_absent items m)) (flag_text false)))
        → value_of n (fold with_absent items (m ∷ ms)) ≡ Some (unwrap_or (value_of n items) (flag_text false))
    by_name true f more =
        let same : m ≡ n = (bytes_eq-Decides m n).0 f in
        stays_there n _ ms (with_absent items m) (ap (λ k. value_of n (with_absent items k)) same ∙ absent_own n items)
    by_name false f more = more (sym (ap (λ b. b || has ms n) f) ∙ e) ∙ ap (λ x. Some (unwrap_or x (flag_text false))) (absent_other n m items f)

-- a flag that is given has the value `true`
abbrev IsTrue : Text → List Item → Type 0
IsTrue n items = value_of n items ≡ (if is_given n items then Some (flag_text true) else None)

one_more : (n m v : Text) (items : List Item) → (bytes_eq m n ≡ true → v ≡ flag_text true) → IsTrue n items → IsTrue n ((m, v) ∷ items)
one_more n m v items own more = by_name (bytes_eq m n) refl
  where
    by_name : (b : Bool) → bytes_eq m n ≡ b → IsTrue n ((m, v) ∷ items)
    by_name true e = rw e (ap (λ k. Some k) (own e))
    by_name false e = rw e more

is_true : (row : Row) (n : Text) → has row.options n ≡ false → (left words : List Text) (items : List Item) → AreParts row left words items
    → has left n ≡ false → IsTrue n items
is_true row n other left words items (nothing l) h = refl
is_true row n other left words items (flag m l ws is f rest) h = one_more n m (codes "true") is (λ e. refl) (is_true row n other l ws is rest h)
is_true row n other left words items (apart m v l ws is f u rest) h =
    one_more n m v is (λ e. absurd (true≢false (sym f ∙ ap (has row.options) ((bytes_eq-Decides m n).0 e) ∙ other))) (is_true row n other l ws is rest h)
is_true row n other left words items (joined m v l ws is f rest) h =
    one_more n m v is (λ e. absurd (true≢false (sym f ∙ ap (has row.options) ((bytes_eq-Decides m n).0 e) ∙ other))) (is_true row n other l ws is rest h)
is_true row n other left words items (placed m v l ws is u rest) h =
    let p = or_false (bytes_eq m n) (has l n) h in
    one_more n m v is (λ e. absurd (true≢false (sym e ∙ p.0))) (is_true row n other l ws is rest p.1)

-- the value of a flag says whether it is given
pub flag_value : (row : Row) (n : Text) (words : List Text) (items : List Item) → AreParts row row.places words items → has row.flags n ≡ true
    → has row.options n ≡ false → has row.places n ≡ false → value_of n (with_flags row items) ≡ Some (flag_text (is_given n items))
flag_value row n words items parts here option place = own_value n row.flags items here
    ∙ ap (λ x. Some (unwrap_or x (flag_text false))) (is_true row n option row.places words items parts place) ∙ by_given (is_given n items)
  where
    by_given : (b : Bool) → Some (unwrap_or (if b then Some (flag_text true) else None) (flag_text false)) ≡ Some (flag_text b)
    by_given true = refl
    by_given false = refl
