-- The samples are journals, and which tick stands at which place.
use Rattle.std.proofs.Common.{◌≡◌, ℕ, zero, suc, ◌+◌, List, [], ◌∷◌, slice_get, Some, refl, ap, ◌∙◌, arith}
use Rattle.std.specs.Prelude.{⊤}
use Rattle.ff_hands.specs.Journals.{Follows, IsJournal}
use Rattle.ff_hands.specs.Windups.{cold, wind_of}
use Rattle.ff_hands.specs.Samples.{ticks, warm_ticks, steered_ticks, set, taken, on, guessed, jumped, jumped_on, steered, steered_on}
use Rattle.ff_hands.specs.declared.hands.Hands.{Hands}

-- each tick follows the one before it
abbrev pub Linked : Hands → List Hands → Type 0
Linked a [] = ⊤
Linked a (b ∷ rest) = Follows a b × Linked b rest

linked : (a : Hands) (rest : List Hands) → Linked a rest → (n : ℕ) (h next : Hands) → slice_get (a ∷ rest) n ≡ Some h → slice_get rest n ≡ Some next
    → Follows h next
linked a [] all n h next at then = absurd (grind arith)
linked a (b ∷ rest) all zero h next at then =
    let here : a ≡ h = grind arith in
    let there : b ≡ next = grind arith in
    rw here at (rw there at all.0)
linked a (b ∷ rest) all (suc n) h next at then = linked b rest all.1 n h next at then

pub journal_by : (rest : List Hands) → Linked cold rest → IsJournal (cold ∷ rest)
journal_by rest all = record {
  first = refl;
  next = λ n h next at then. linked cold rest all n h next at
      ((let e : suc n ≡ n + 1 = omega arith in ap (slice_get (cold ∷ rest)) e) ∙ then);
}

-- the plain ticks from one on
later : Linked (on 50) (on 60 ∷ on 70 ∷ on 80 ∷ on 90 ∷ on 100 ∷ on 110 ∷ on 120 ∷ on 130 ∷ on 140 ∷ [])
unfolding wind_of
later = (
  record { fits = refl; wound = refl },
  (
    record { fits = refl; wound = refl },
    (
      record { fits = refl; wound = refl },
      (
        record { fits = refl; wound = refl },
        (
          record { fits = refl; wound = refl },
          (
            record { fits = refl; wound = refl },
            (record { fits = refl; wound = refl }, (record { fits = refl; wound = refl }, (record { fits = refl; wound = refl }, tt))),
          ),
        ),
      ),
    ),
  ),
)

pub taken_journal : IsJournal ticks
unfolding wind_of
taken_journal = journal_by _ (record { fits = refl; wound = refl }, (record { fits = refl; wound = refl }, (record { fits = refl; wound = refl }, later)))

pub jumped_journal : IsJournal warm_ticks
unfolding wind_of
jumped_journal = journal_by _ (record { fits = refl; wound = refl }, (record { fits = refl; wound = refl }, (record { fits = refl; wound = refl }, tt)))

pub steered_journal : IsJournal steered_ticks
unfolding wind_of
steered_journal = journal_by _ (
  record { fits = refl; wound = refl },
  (
    record { fits = refl; wound = refl },
    (
      record { fits = refl; wound = refl },
      (
        record { fits = refl; wound = refl },
        (
          record { fits = refl; wound = refl },
          (record { fits = refl; wound = refl }, (record { fits = refl; wound = refl }, tt)),
        ),
      ),
    ),
  ),
)

-- the ticks by their places
pub at_one : slice_get ticks 1 ≡ Some set
at_one = refl

pub at_two : slice_get ticks 2 ≡ Some taken
at_two = refl

pub at_three : slice_get ticks 3 ≡ Some (on 50)
at_three = refl

pub jump_at_one : slice_get warm_ticks 1 ≡ Some guessed
jump_at_one = refl

pub jump_at_two : slice_get warm_ticks 2 ≡ Some jumped
jump_at_two = refl

pub jump_at_three : slice_get warm_ticks 3 ≡ Some jumped_on
jump_at_three = refl

pub steered_at_four : slice_get steered_ticks 4 ≡ Some steered
steered_at_four = refl

pub steered_at_five : slice_get steered_ticks 5 ≡ Some steered_on
steered_at_five = refl
