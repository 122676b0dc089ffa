-- What a reader does with bytes that are given one after the other.
use Rattle.std.specs.Prelude.{◌≡◌, ◌⊎◌, ℕ, List, [], ◌∷◌, ◌++◌, Option, None, Result, Ok}
use Rattle.stamp_text.specs.Kept.{Kept}
use Rattle.stamp_text.specs.FeedSteps.{unless_faulty, step_answer, step_kept}
use Rattle.stamp_text.specs.declared.lines.Line.{Line}
use Rattle.stamp_text.specs.declared.lines.LineFault.{LineFault}

-- nothing is answered to any of these bytes, and behind them this is kept
abbrev pub TakesSilently : Kept → List ℕ → Kept → Type 0
TakesSilently old [] new = new ≡ old
TakesSilently old (b ∷ bs) new = (step_answer old b ≡ Ok None) × TakesSilently (step_kept old b (Ok None)) bs new

-- nothing is answered to any of these bytes but the last, and to that one this
pub record AnswersLast (old : Kept) (bytes : List ℕ) (r : Result (Option Line) LineFault) (new : Kept) : Type 0 where
  pub front : List ℕ
  pub last : ℕ
  pub mid : Kept
  pub split : bytes ≡ front ++ last ∷ []
  pub silent : TakesSilently old front mid
  pub answer : r ≡ step_answer mid last
  pub after : new ≡ step_kept mid last r

-- the answer to bytes that are given in turn: to all of them nothing, or to the last of them this. With no
-- bytes, a fault that is kept is answered again.
abbrev pub AnswersInTurn : Kept → List ℕ → Result (Option Line) LineFault → Kept → Type 0
AnswersInTurn old bytes r new = (TakesSilently old bytes new × (r ≡ unless_faulty new.fault (Ok None))) ⊎ AnswersLast old bytes r new
