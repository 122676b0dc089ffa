-- How a line is read from left to right. A reader answers the value whose text the bytes begin with, and the bytes
-- behind it, if there is one.
use Rattle.std.specs.Prelude.{◌≡◌, ℕ, ◌<◌, ⊤, List, [], ◌∷◌, ◌++◌, length, take, drop, Option, None, Some, if◌then◌else◌}
use Rattle.std.specs.Borrow.{Bor}
use Rattle.std.specs.Option.{option_map}
use Rattle.std.specs.Str.{bytes_eq}

abbrev pub Reader : Type 0 → Type 0
Reader A = List ℕ → Option (A × List ℕ)

-- what a function of the code says of a text
abbrev pub told : {A : Type 0} → Option (A × Bor (List ℕ)) → Option (A × List ℕ)
told = option_map (λ x. (x.0, x.1.now))

infixl 10 ◌▹◌
abbrev pub ◌▹◌ : {A B : Type 0} → Option A → (A → Option B) → Option B
None ▹ f = None
(Some x) ▹ f = f x

-- what stands behind a word
abbrev pub stripped : List ℕ → List ℕ → Option (List ℕ)
stripped word text = if bytes_eq (take (length word) text) word then Some (drop (length word) text) else None

-- a value behind a word
abbrev pub led_at : {A : Type 0} → List ℕ → Reader A → Reader A
led_at word read text = stripped word text ▹ read

-- a value behind another
abbrev pub both_at : {A B : Type 0} → Reader A → Reader B → Reader (A × B)
both_at first second text = first text ▹ λ x. second x.1 ▹ λ y. Some ((x.0, y.0), y.1)

-- the same value, put together otherwise
abbrev pub as_at : {A B : Type 0} → (A → B) → Reader A → Reader B
as_at made read text = read text ▹ λ x. Some (made x.0, x.1)

-- the value of a word, or else what another reader says
abbrev pub or_else : {A : Type 0} → A → Option (A × List ℕ) → Option (List ℕ) → Option (A × List ℕ)
or_else a other None = other
or_else a other (Some rest) = Some (a, rest)

-- the value of the first word of a table that stands here
abbrev pub choice_at : {A : Type 0} → List (List ℕ × A) → Reader A
choice_at [] text = None
choice_at (w ∷ ws) text = or_else w.1 (choice_at ws text) (stripped w.0 text)

-- what one reader answers, or else another
abbrev pub first_of : {A : Type 0} → Option (A × List ℕ) → Option (A × List ℕ) → Option (A × List ℕ)
first_of None other = other
first_of (Some x) other = Some x

abbrev pub either_at : {A : Type 0} → Reader A → Reader A → Reader A
either_at read other text = first_of (read text) (other text)

-- what stands behind a value: nothing, or a byte below the digits
abbrev pub IsStop : List ℕ → Type 0
IsStop [] = ⊤
IsStop (b ∷ bs) = b < 48

-- the text of each value that fits is read as this value, and nothing else is read
pub record Reads {A : Type 0} (text : A → List ℕ) (Fits : A → Type 0) (read : Reader A) : Type 0 where
  pub again : (a : A) (rest : List ℕ) → Fits a → IsStop rest → read (text a ++ rest) ≡ Some (a, rest)
  pub takes : (bytes rest : List ℕ) (a : A) → read bytes ≡ Some (a, rest) → (bytes ≡ text a ++ rest) × Fits a
