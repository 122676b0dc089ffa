-- The command `run`, in the values that its arguments have.
use Rattle.std.proofs.Common.{◌≡◌, ℕ, List, Bool, false, Option, Some, None, refl, ap, sym, ◌∙◌}
use Rattle.std.specs.Prelude.{option_map, option_and_then}
use Rattle.clock_words.specs.Rows.{Text, Item, is_given, items_in, value_of}
use Rattle.clock_words.specs.Lines.{run_row, ideal_name, number_name, count_name, most_ran, ideal_is_early, places_told, run_in, run_of}
use Rattle.clock_words.specs.Apps.{flag_text, with_flags}
use Rattle.clock_words.specs.declared.commands.Command.{Command}
use Rattle.clock_words.specs.declared.commands.Command.TheVariants as command
use Rattle.clock_words.proofs.Flags.{flag_value, option_value}
use Rattle.clock_words.proofs.Written.{written}

-- `run` by two numbers, where they are told, and its flag
abbrev run_by : Bool → Option (ℕ × ℕ) → Option Command
run_by ideal numbers = option_map (λ p. command.Run p.0 p.1 ideal) numbers

-- the words are `run` by what the arguments say
record IsSaid (words : List Text) (arguments : List Item) : Type 0 where
  ideal : Bool
  ideal_is : value_of ideal_name arguments ≡ Some (flag_text ideal)
  is : run_in words ≡ run_by ideal (places_told most_ran arguments)

said : (words : List Text) (arguments : List Item) → ideal_is_early words ≡ false
    → Some arguments ≡ option_map (with_flags run_row) (items_in run_row words) → IsSaid words arguments
said words arguments late e = by_items (items_in run_row words) refl
  where
    by_items : (x : Option (List Item)) → items_in run_row words ≡ x → IsSaid words arguments
    by_items None f = absurd (let q : Some arguments ≡ None = e ∙ rw f refl in cc)
    by_items (Some items) f =
        let same : arguments ≡ with_flags run_row items = (let q : Some arguments ≡ Some (with_flags run_row items) = e ∙ rw f refl in cc) in
        let number : value_of number_name arguments ≡ value_of number_name items = ap (value_of number_name) same
        ∙ option_value number_name run_row.flags items refl in
        let count : value_of count_name arguments ≡ value_of count_name items = ap (value_of count_name) same
        ∙ option_value count_name run_row.flags items refl in
        record {
          ideal = is_given ideal_name items;
          ideal_is = ap (value_of ideal_name) same ∙ flag_value run_row ideal_name words items ((written run_row refl words items).0 f).parts refl refl refl;
          is = rw late (ap (option_and_then run_of) f ∙ sym (rw (number, count) refl));
        }

-- numbers and a flag that are said make the command
pub is_run : (words : List Text) (arguments : List Item) → ideal_is_early words ≡ false
    → Some arguments ≡ option_map (with_flags run_row) (items_in run_row words)
    → (numbers : ℕ × ℕ) → Some numbers ≡ places_told most_ran arguments
    → (ideal : Bool) → ((given : Bool) → value_of ideal_name arguments ≡ Some (flag_text given) → ideal ≡ given)
    → Some (command.Run numbers.0 numbers.1 ideal) ≡ run_in words
is_run words arguments late e numbers told ideal given =
    let s = said words arguments late e in
    ap (λ f. Some (command.Run numbers.0 numbers.1 f)) (given s.ideal s.ideal_is)
    ∙ ap (run_by s.ideal) told
    ∙ sym s.is

-- and where a number is missing or not in its range there is none
pub is_no_run : (words : List Text) (arguments : List Item) → ideal_is_early words ≡ false
    → Some arguments ≡ option_map (with_flags run_row) (items_in run_row words)
    → None ≡ places_told most_ran arguments → None ≡ run_in words
is_no_run words arguments late e none =
    let s = said words arguments late e in
    ap (run_by s.ideal) none ∙ sym s.is
