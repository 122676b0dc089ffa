-- A loose timer passes those that fire before it.
use Rattle.std.proofs.Common.{◌≡◌, ◌≢◌, ℕ, ◌-◌, ◌/◌, ◌<◌, ◌≤◌, nat_eq, if◌then◌else◌, List, sym, ◌∙◌, arith, inl, inr}
use Rattle.std.proofs.lemmas.Bool.{cases_eq, cases_lt}
use Rattle.std.proofs.lemmas.Bool.Decides.{nat_tests}
use Rattle.callouts.specs.declared.nodes.Node.{Node}
use Rattle.callouts.specs.Nodes.{key_at, held_at}
use Rattle.callouts.specs.Heaps.{AreApart, AreTorn, AreMelding}
use Rattle.callouts.proofs.Turning.{hung_already, IsTurned}

-- as long as what hangs from a hook fires before the loose timer, its key rises
abbrev pub left_to_pass : List Node → ℕ → ℕ → ℕ
left_to_pass ns kid loose = if nat_eq kid 0 then 0 else key_at ns loose - key_at ns kid

pub less_to_pass : (ns : List Node) (kid next loose : ℕ) → kid ≢ 0 → key_at ns kid < key_at ns loose
    → (next ≢ 0 → key_at ns kid < key_at ns next) → left_to_pass ns next loose < left_to_pass ns kid loose
less_to_pass ns kid next loose some lt after =
    elim (cases_eq next 0) [
      | inl z ↦ grind (arith, nat_tests)
      | inr full ↦ let later : key_at ns kid < key_at ns next = after full in grind (arith, nat_tests)
    ]

-- where one of two loose heaps isn't before the other, that one is
pub other_before : (ns : List Node) (h one other : ℕ) → AreApart ns → AreTorn ns h one other → one ≢ 0 → other ≢ 0
    → key_at ns other ≤ key_at ns one → key_at ns other < key_at ns one
other_before ns h one other apart torn some there le =
    elim (cases_lt (key_at ns other) (key_at ns one)) [
      | inl l ↦ l
      | inr m ↦ absurd (torn.apart some (apart one other (torn.loose_one some).lives (torn.loose_other there).lives (omega arith)))
    ]

-- a turn at a hook that holds the root already
pub passed : (ns : List Node) (h kid loose down : ℕ) → AreMelding ns h loose → kid ≡ held_at ns h → kid ≢ 0 → key_at ns kid < key_at ns loose
    → down / 2 ≡ kid → IsTurned ns ns h kid loose down
passed ns h kid loose down melding is full lt half = record {
  torn = rw is melding.torn;
  some = full;
  before = λ _. lt;
  up = hung_already ns h kid (sym is) (rw is (melding.knows (λ z. full (is ∙ z))));
  half = half;
}
