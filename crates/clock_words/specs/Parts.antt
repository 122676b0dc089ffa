-- How the words behind the name of a command are written: options and flags in any order, each at
-- most once, and a value in each place.
use Rattle.std.specs.Prelude.{◌≡◌, ◌↔◌, ◌++◌, ◌&&◌, ◌==◌, Bool, true, false, not, List, [], ◌∷◌, Some, codes, map}
use Rattle.std.specs.List.{IsDistinct, list_all, list_any}
use Rattle.std.specs.Str.{bytes_eq}
use Rattle.clock_words.specs.Rows.{Text, Row, Item, has, is_value, items_in}

-- the word `--name`
abbrev pub dashed : Text → Text
dashed name = codes "--" ++ name

-- the word `--name=value`
abbrev pub dashed_with : Text → Text → Text
dashed_with name value = dashed name ++ codes "=" ++ value

-- the words are parts that give these items, each of them a flag, an option with its value in the
-- next word, an option with its value in the same word, or a value for the next of the places that
-- are left
pub data AreParts (row : Row) : List Text → List Text → List Item → Type 0 where
  nothing : (left : List Text) → AreParts row left [] []
  flag : (name : Text) (left words : List Text) (items : List Item) → has row.flags name ≡ true → AreParts row left words items
      → AreParts row left (dashed name ∷ words) ((name, codes "true") ∷ items)
  apart : (name value : Text) (left words : List Text) (items : List Item) → has row.options name ≡ true → is_value value ≡ true
      → AreParts row left words items → AreParts row left (dashed name ∷ value ∷ words) ((name, value) ∷ items)
  joined : (name value : Text) (left words : List Text) (items : List Item) → has row.options name ≡ true → AreParts row left words items
      → AreParts row left (dashed_with name value ∷ words) ((name, value) ∷ items)
  placed : (name value : Text) (left words : List Text) (items : List Item) → is_value value ≡ true → AreParts row left words items
      → AreParts row (name ∷ left) (value ∷ words) ((name, value) ∷ items)

-- each name is given at most once
abbrev pub AreOnce : List Item → Type 0
AreOnce items = IsDistinct bytes_eq (map (λ i. i.0) items)

-- the words behind a name are parts of its row, each at most once, and none is `--` alone
pub record AreWritten (row : Row) (words : List Text) (items : List Item) : Type 0 where
  pub parts : AreParts row row.places words items
  pub once : AreOnce items
  pub no_dashes : has words (codes "--") ≡ false

-- the names of a row can be told apart in words: none has a `=`, and no flag is an option
abbrev pub has_equals : Text → Bool
has_equals name = list_any (λ b. b == 61) name

abbrev pub is_clear : Row → Bool
is_clear row = list_all (λ n. not (has_equals n)) row.options && list_all (λ n. not (has_equals n)) row.flags
    && list_all (λ n. not (has row.options n)) row.flags

-- the items that words are for a row are those of the parts that they are written as
abbrev pub IsReadByParts : Row → Type 0
IsReadByParts row = (words : List Text) (items : List Item) → (items_in row words ≡ Some items) ↔ AreWritten row words items
