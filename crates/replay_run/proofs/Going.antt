-- The laps of a driver make the plan, step by step.
use Rattle.std.proofs.Common.{◌≡◌, ℕ, zero, suc, ◌+◌, ◌-◌, ◌*◌, ◌^◌, ◌<◌, ◌≤◌, max, true, List, [], ◌∷◌, ◌++◌, length, map, drop, get_or, slice_get, Option, None, Some, refl, sym, ap, ◌∙◌, subst, arith, append_assoc, length-append}
use Rattle.std.specs.Prelude.{IfSome, All}
use Rattle.std.proofs.Math.ListN.{drop_of_length-le}
use Rattle.std.proofs.Math.Nat.{mul-le-mul_left}
use Rattle.std.proofs.lemmas.List.{drop_more, get_or_push, length_push}
use Rattle.std.specs.List.{range_with_len}
use Rattle.std.proofs.lemmas.List.FromFn.{length-map-range_with_len, map-range_with_len_more}
use Rattle.std.proofs.lemmas.Option.{none-some, same_Some}
use Rattle.ff_hands.specs.Orders.{is_sane}
use Rattle.ff_hands.specs.Windups.{cold, wind_of}
use Rattle.ff_hands.specs.declared.hands.Hands.{Hands}
use Rattle.ff_hands.specs.declared.hands.Order.TheVariants as order
use Rattle.clock_lines.specs.Readings.{newest}
use Rattle.ff_estimator.specs.Events.{AreInTurn, IsLate, count_of_event, order_of_event}
use Rattle.ff_estimator.specs.declared.fulls.Event.{Event}
use Rattle.tick_desk.specs.Shows.{PenShows}
use Rattle.replay_run.specs.Drives.{StepsBy, IsDriven}
use Rattle.replay_run.specs.Fitting.{update_after, StepFits, PlanFits}
use Rattle.atomic_table.specs.Seated.{TableId}
use Rattle.replay_run.specs.Logs.{AreReady, HaveRun}
use Rattle.replay_run.specs.Plays.{HasPass}
use Rattle.replay_run.specs.declared.log.ReadLog.{ReadLog}
use Rattle.replay_run.specs.declared.plan.Options.{Options}
use Rattle.replay_run.specs.Laps.{MayFollow, WindsBy, IsAt, IsBehind, last_count, way_to, lap_of}
use Rattle.replay_run.specs.Plans.{event_step, plain_step, start_step, steps_between, steps_from, plan_of}
use Rattle.replay_run.specs.declared.plan.PlanStep.{PlanStep}
use Rattle.replay_run.proofs.Driving.{Drives, drives-first, drives-next, drives-done, newest-push}
use Rattle.replay_run.proofs.Fits.{between-fits, plan-fits, reset-sane, count-most, update-is, event-in_time, newer-by, first-newer, tail-turn, IsNewer}
use Rattle.replay_run.proofs.Steps.{steps_len}
use Rattle.replay_run.proofs.Playing.{update-wound}

-- the count of the estimate of a pen's newest tick
abbrev pub update_of : PenShows → ℕ
update_of p = (newest p.journal).est.update_ffcount

-- where one step was made
pub step-top : (s : PlanStep) (old new : PenShows) → StepsBy s old new → new.top ≡ s.to
step-top s old new by = ap (λ (p : PenShows). p.top) by.after

pub step-update : (s : PlanStep) (old new : PenShows) → StepsBy s old new → update_of new ≡ update_after (update_of old) s.order
step-update s old new by =
    ap update_of by.after ∙ ap (λ (h : Hands). h.est.update_ffcount) (newest-push old.journal (wind_of (newest old.journal) by.count s.order))
    ∙ update-wound (newest old.journal) by.count s.order

pub step-spare : (s : PlanStep) (old new : PenShows) → StepsBy s old new → new.spare ≡ old.spare - 1
step-spare s old new by = ap (λ (p : PenShows). p.spare) by.after

pub step-fits-on : (s : PlanStep) (ss : List PlanStep) (old new : PenShows) → PlanFits old.top (update_of old) (s ∷ ss) → StepsBy s old new
    → PlanFits new.top (update_of new) ss
step-fits-on s ss old new fits by =
    subst (λ u. PlanFits new.top u ss) (sym (step-update s old new by))
    (subst (λ n. PlanFits n (update_after (update_of old) s.order) ss) (sym (step-top s old new by)) fits.1)

-- steps behind steps
pub winds-append : (xs ys : List PlanStep) (a b c : PenShows) → WindsBy xs a b → WindsBy ys b c → WindsBy (xs ++ ys) a c
winds-append [] ys a b c one two = subst (λ p. WindsBy ys p c) one two
winds-append (x ∷ xs) ys a b c one two = (one.0, one.1, winds-append xs ys one.0 b c one.2 two)

pub winds-one : (s : PlanStep) (a b : PenShows) → StepsBy s a b → WindsBy (s ∷ []) a b
winds-one s a b by = (b, by, refl)

pub winds-fits : (xs ys : List PlanStep) (a b : PenShows) → PlanFits a.top (update_of a) (xs ++ ys) → WindsBy xs a b
    → PlanFits b.top (update_of b) ys
winds-fits [] ys a b fits winds = subst (λ (p : PenShows). PlanFits p.top (update_of p) ys) (sym winds) fits
winds-fits (x ∷ xs) ys a b fits winds = winds-fits xs ys winds.0 b (step-fits-on x (xs ++ ys) a winds.0 fits winds.1) winds.2

pub fits-front : (xs ys : List PlanStep) (before update : ℕ) → PlanFits before update (xs ++ ys) → PlanFits before update xs
fits-front [] ys before update fits = tt
fits-front (x ∷ xs) ys before update fits = (fits.0, fits-front xs ys x.to (update_after update x.order) fits.1)

pub winds-spare : (xs : List PlanStep) (a b : PenShows) → WindsBy xs a b → b.spare ≡ a.spare - length xs
winds-spare [] a b winds = ap (λ (p : PenShows). p.spare) winds ∙ omega arith
winds-spare (x ∷ xs) a b winds = omega (arith, step-spare x a winds.0 winds.1, winds-spare xs winds.0 b winds.2)

-- all steps of a plan, from a clock that was never set
winds-walk : (n : ℕ) (steps : List PlanStep) (old mid new : PenShows) (k : ℕ) → n + k ≡ length steps → Drives steps old mid k
    → WindsBy (drop k steps) mid new → IsDriven steps old new
winds-walk zero steps old mid new k at drives winds =
    let none : drop k steps ≡ [] = drop_of_length-le steps (omega arith) in
    let same : new ≡ mid = subst (λ ss. WindsBy ss mid new) none winds in
    subst (IsDriven steps old) (sym same) (drives-done steps old mid k (omega arith) (omega arith) drives)
winds-walk (suc n) steps old mid new k at drives winds =
    let d : PlanStep = record { to = 0; order = order.Plain } in
    let here : k < length steps = omega arith in
    let w : WindsBy (get_or steps k d ∷ drop (k + 1) steps) mid new = subst (λ ss. WindsBy ss mid new) (drop_more steps k d here) winds in
    winds-walk n steps old w.0 new (k + 1) (omega arith) (drives-next steps old mid w.0 k d here drives w.1) w.2

pub winds-all : (steps : List PlanStep) (old new : PenShows) → old.journal ≡ cold ∷ [] → old.top ≡ 0 → length steps ≤ old.spare → PlanFits 0 0 steps
    → WindsBy steps old new → IsDriven steps old new
winds-all steps old new journal top spare plan winds =
    winds-walk (length steps) steps old old new 0 (omega arith) (drives-first steps old journal top spare plan) winds

-- one event more makes a lap more
from-push : (freq : ℕ) (es : List Event) (e : Event) (ticks : ℕ)
    → steps_from freq (es ++ e ∷ []) ticks ≡ steps_from freq es ticks ++ lap_of freq ticks (last_count es) e
from-push freq [] e ticks = refl
from-push freq (x ∷ []) e ticks = refl
from-push freq (x ∷ (next ∷ es)) e ticks =
    let between : List PlanStep = steps_between ticks (count_of_event x) (count_of_event next) in
    ap (λ (ss : List PlanStep). event_step freq x ∷ (between ++ ss)) (from-push freq (next ∷ es) e ticks)
    ∙ ap (λ (ss : List PlanStep). event_step freq x ∷ ss) (sym (append_assoc between (steps_from freq (next ∷ es) ticks)
    (lap_of freq ticks (last_count (next ∷ es)) e)))

pub plan-push : (freq : ℕ) (es : List Event) (e : Event) (ticks : ℕ)
    → plan_of freq (es ++ e ∷ []) ticks ≡ plan_of freq es ticks ++ lap_of freq ticks (last_count es) e
unfolding plan_of
plan-push freq es e ticks = ap (λ (ss : List PlanStep). start_step freq ∷ ss) (from-push freq es e ticks)

pub last-push : (es : List Event) (e : Event) → last_count (es ++ e ∷ []) ≡ Some (count_of_event e)
last-push [] e = refl
last-push (x ∷ []) e = refl
last-push (x ∷ (next ∷ es)) e = last-push (next ∷ es) e

-- an event that may follow has a step that fits
event-step-fits : (freq : ℕ) (last : Option ℕ) (e : Event) (before update : ℕ) → MayFollow freq last e → before ≤ count_of_event e
    → IsNewer update e → StepFits before update (event_step freq e)
event-step-fits freq last e before update follows later newer = record {
  later = later;
  most = count-most freq e follows.sane;
  sane = follows.sane;
  in_time = event-in_time freq update e newer;
}

-- so its lap fits the clock
pub lap-fits : (freq ticks : ℕ) (last : Option ℕ) (e : Event) (p : PenShows) → IsBehind last p → MayFollow freq last e
    → PlanFits p.top (update_of p) (lap_of freq ticks last e)
lap-fits freq ticks None e p behind follows =
    let fits : PlanFits 0 0 (event_step freq e ∷ []) = (event-step-fits freq None e 0 0 follows (omega arith) (first-newer e follows.late), tt) in
    subst (λ n. PlanFits n (update_of p) (event_step freq e ∷ [])) (sym behind.top)
    (subst (λ u. PlanFits 0 u (event_step freq e ∷ [])) (sym behind.update) fits)
lap-fits freq ticks (Some from) e p behind follows =
    let rises : from < count_of_event e = follows.newer in
    let most : count_of_event e < 2 ^ 62 = count-most freq e follows.sane in
    let fits : PlanFits from from (lap_of freq ticks (Some from) e) = between-fits ticks from (count_of_event e) from ticks 1 from (event_step freq e ∷ [])
    (omega arith) most (omega arith) (omega arith)
    (λ count within. (event-step-fits freq (Some from) e count from follows within (newer-by from e rises), tt)) in
    subst (λ n. PlanFits n (update_of p) (lap_of freq ticks (Some from) e)) (sym behind.top)
    (subst (λ u. PlanFits from u (lap_of freq ticks (Some from) e)) (sym behind.update) fits)

-- behind the event's own step the clock is at its count
pub lap-behind : (freq : ℕ) (es : List Event) (e : Event) (old new : PenShows) → StepsBy (event_step freq e) old new
    → IsBehind (last_count (es ++ e ∷ [])) new
lap-behind freq es e old new by = subst (λ o. IsBehind o new) (sym (last-push es e)) (record {
  top = step-top (event_step freq e) old new by;
  update = step-update (event_step freq e) old new by ∙ update-is freq (update_of old) e;
})

-- events that come in turn may follow each other
last-of : (freq : ℕ) (es : List Event) (e : Event) (rest : List Event) → AreInTurn freq (es ++ e ∷ rest)
    → IfSome (last_count es) (λ c. c < count_of_event e)
last-of freq [] e rest turn = tt
last-of freq (x ∷ []) e rest turn = turn.rising 0 1 e (omega arith) (omega arith)
last-of freq (x ∷ (next ∷ es)) e rest turn = last-of freq (next ∷ es) e rest (tail-turn freq x ((next ∷ es) ++ e ∷ rest) turn)

at-turn : (freq : ℕ) (es : List Event) (e : Event) (rest : List Event) → AreInTurn freq (es ++ e ∷ rest)
    → (is_sane (order_of_event freq e) ≡ true) × IsLate e
at-turn freq [] e rest turn = (turn.sane 0 e (omega arith), turn.late 0 e (omega arith))
at-turn freq (x ∷ es) e rest turn = at-turn freq es e rest (tail-turn freq x (es ++ e ∷ rest) turn)

pub turn-follows : (freq : ℕ) (es : List Event) (e : Event) (rest : List Event) → AreInTurn freq (es ++ e ∷ rest) → MayFollow freq (last_count es) e
turn-follows freq es e rest turn =
    let at = at-turn freq es e rest turn in
    record { sane = at.0; late = at.1; newer = last-of freq es e rest turn }

-- how long a plan may become
pub lap-length : (freq ticks most : ℕ) (es : List Event) (e : Event) → length es < most
    → length (plan_of freq es ticks) + length (lap_of freq ticks (last_count es) e) ≤ 1 + most + ticks * (most - 1)
lap-length freq ticks most es e within =
    let long = steps_len freq (es ++ e ∷ []) ticks in
    let whole = ap length (plan-push freq es e ticks) in
    let parts = length-append (plan_of freq es ticks) (lap_of freq ticks (last_count es) e) in
    let one = length_push es e in
    let fewer : ticks * (length (es ++ e ∷ []) - 1) ≤ ticks * (most - 1) = mul-le-mul_left ticks (omega arith) in
    omega arith

-- the count of the last event is found at the end
pub last-some : (es : List Event) (e : Event) → Some e ≡ slice_get es (length es - 1) → Some (count_of_event e) ≡ last_count es
last-some [] e at = absurd (cc)
last-some (x ∷ []) e at = ap (λ (e : Event). Some (count_of_event e)) (same_Some e x at)
last-some (x ∷ (next ∷ es)) e at =
    let place : length (x ∷ (next ∷ es)) - 1 ≡ suc (length (next ∷ es) - 1) = omega arith in
    last-some (next ∷ es) e (at ∙ ap (slice_get (x ∷ (next ∷ es))) place)

pub last-none : (es : List Event) → None ≡ slice_get es (length es - 1) → None ≡ last_count es
last-none [] at = refl
last-none (x ∷ []) at = absurd (none-some x at)
last-none (x ∷ (next ∷ es)) at =
    let place : length (x ∷ (next ∷ es)) - 1 ≡ suc (length (next ∷ es) - 1) = omega arith in
    last-none (next ∷ es) (at ∙ ap (slice_get (x ∷ (next ∷ es))) place)

-- the first step
start-fits : (freq : ℕ) → 1000000 ≤ freq → StepFits 0 0 (start_step freq)
start-fits freq low = record { later = omega arith; most = omega arith; sane = reset-sane freq low; in_time = omega arith }

pub begin-fits : (freq : ℕ) (p : PenShows) (s : PlanStep) → 1000000 ≤ freq → p.journal ≡ cold ∷ [] → p.top ≡ 0 → s ≡ start_step freq
    → StepFits p.top (update_of p) s
begin-fits freq p s low journal top is =
    subst (StepFits p.top (update_of p)) (sym is)
    (subst (λ (ts : List Hands). StepFits p.top (newest ts).est.update_ffcount (start_step freq)) (sym journal)
    (subst (λ n. StepFits n 0 (start_step freq)) (sym top) (start-fits freq low)))

pub begin-winds : (freq : ℕ) (s : PlanStep) (a b : PenShows) → s ≡ start_step freq → StepsBy s a b → WindsBy (plan_of freq [] 0) a b
unfolding plan_of
begin-winds freq s a b is by = subst (λ (s : PlanStep). WindsBy (s ∷ []) a b) is (winds-one s a b by)

pub plan-none : (freq ticks : ℕ) → plan_of freq [] ticks ≡ plan_of freq [] 0
unfolding plan_of
plan-none freq ticks = refl

pub begin-at : (freq : ℕ) (s : PlanStep) (a b : PenShows) → s ≡ start_step freq → StepsBy s a b → IsAt 0 b
begin-at freq s a b is by = record {
  top = step-top s a b by ∙ ap (λ (s : PlanStep). s.to) is;
  update = step-update s a b by ∙ ap (λ (s : PlanStep). update_after (update_of a) s.order) is;
}

-- the plain steps that are left
go-split : (ticks from to part : ℕ) → part < ticks → map (plain_step ticks from to) (range_with_len (1 + part) (ticks - part))
    ≡ plain_step ticks from to (part + 1) ∷ map (plain_step ticks from to) (range_with_len (1 + (part + 1)) (ticks - (part + 1)))
go-split ticks from to part within =
    let fewer : ticks - part ≡ suc (ticks - (part + 1)) = omega arith in
    let here : 1 + part ≡ part + 1 = omega arith in
    let next : 1 + part + 1 ≡ 1 + (part + 1) = omega arith in
    ap (λ n. map (plain_step ticks from to) (range_with_len (1 + part) n)) fewer
    ∙ ap (λ n. plain_step ticks from to n ∷ map (plain_step ticks from to) (range_with_len (1 + part + 1) (ticks - (part + 1)))) here
    ∙ ap (λ n. plain_step ticks from to (part + 1) ∷ map (plain_step ticks from to) (range_with_len n (ticks - (part + 1)))) next

go-rest : (ticks from to part : ℕ) (p : PenShows) (s : PlanStep) → part < ticks → s ≡ plain_step ticks from to (part + 1)
    → PlanFits p.top (update_of p) (map (plain_step ticks from to) (range_with_len (1 + part) (ticks - part)))
    → PlanFits p.top (update_of p) (s ∷ map (plain_step ticks from to) (range_with_len (1 + (part + 1)) (ticks - (part + 1))))
go-rest ticks from to part p s within is fits =
    subst (λ (s : PlanStep). PlanFits p.top (update_of p) (s ∷ map (plain_step ticks from to) (range_with_len (1 + (part + 1)) (ticks - (part + 1))))) (sym is)
    (subst (PlanFits p.top (update_of p)) (go-split ticks from to part within) fits)

pub go-fits : (ticks from to part : ℕ) (p : PenShows) (s : PlanStep) → part < ticks → s ≡ plain_step ticks from to (part + 1)
    → PlanFits p.top (update_of p) (map (plain_step ticks from to) (range_with_len (1 + part) (ticks - part))) → StepFits p.top (update_of p) s
go-fits ticks from to part p s within is fits = (go-rest ticks from to part p s within is fits).0

pub go-on-fits : (ticks from to part : ℕ) (p q : PenShows) (s : PlanStep) → part < ticks → s ≡ plain_step ticks from to (part + 1)
    → PlanFits p.top (update_of p) (map (plain_step ticks from to) (range_with_len (1 + part) (ticks - part))) → StepsBy s p q
    → PlanFits q.top (update_of q) (map (plain_step ticks from to) (range_with_len (1 + (part + 1)) (ticks - (part + 1))))
go-on-fits ticks from to part p q s within is fits by =
    step-fits-on s (map (plain_step ticks from to) (range_with_len (1 + (part + 1)) (ticks - (part + 1)))) p q
    (go-rest ticks from to part p s within is fits) by

pub go-winds : (ticks from to part : ℕ) (first p q : PenShows) (s : PlanStep) → s ≡ plain_step ticks from to (part + 1)
    → WindsBy (map (plain_step ticks from to) (range_with_len 1 part)) first p → StepsBy s p q
    → WindsBy (map (plain_step ticks from to) (range_with_len 1 (part + 1))) first q
go-winds ticks from to part first p q s is winds by =
    let more = map-range_with_len_more (plain_step ticks from to) 1 part (part + 1) (omega arith) in
    subst (λ (ss : List PlanStep). WindsBy ss first q) (sym more)
    (subst (λ (s : PlanStep). WindsBy (map (plain_step ticks from to) (range_with_len 1 part) ++ s ∷ []) first q) is
    (winds-append (map (plain_step ticks from to) (range_with_len 1 part)) (s ∷ []) first p q winds (winds-one s p q by)))

-- how many steps the way to an event has
pub way-room : (ticks from to room : ℕ) (last : Option ℕ) → last ≡ Some from → length (way_to ticks last to) ≤ room → ticks ≤ room
way-room ticks from to room last is fits =
    let long : length (steps_between ticks from to) ≡ ticks = length-map-range_with_len _ 1 ticks in
    omega (arith, fits, ap (λ o. length (way_to ticks o to)) is, long)

-- a lap: the way, and the event's own step
module _ (freq ticks : ℕ) (es : List Event) (e : Event) (last : Option ℕ) (s : PlanStep) (old mid : PenShows) (behind : IsBehind (last_count es) old)
    (follows : MayFollow freq (last_count es) e) (last-is : last ≡ last_count es) (s-is : s ≡ event_step freq e) where
  way-is : way_to ticks last s.to ≡ way_to ticks (last_count es) (count_of_event e)
  way-is = ap (λ o. way_to ticks o s.to) last-is ∙ ap (λ (s : PlanStep). way_to ticks (last_count es) s.to) s-is

  whole : PlanFits old.top (update_of old) (way_to ticks last s.to ++ event_step freq e ∷ [])
  whole = subst (λ (ss : List PlanStep). PlanFits old.top (update_of old) (ss ++ event_step freq e ∷ [])) (sym way-is)
      (lap-fits freq ticks (last_count es) e old behind follows)

  pub way-fits : PlanFits old.top (update_of old) (way_to ticks last s.to)
  way-fits = fits-front (way_to ticks last s.to) (event_step freq e ∷ []) old.top (update_of old) whole

  pub way-room-one : length (lap_of freq ticks (last_count es) e) ≤ old.spare → length (way_to ticks last s.to) + 1 ≤ old.spare
  way-room-one fits = omega (arith, fits, ap length way-is, length-append (way_to ticks (last_count es) (count_of_event e)) (event_step freq e ∷ []))

  module _ (winds : WindsBy (way_to ticks last s.to) old mid) where
    pub own-fits : StepFits mid.top (update_of mid) s
    own-fits = subst (StepFits mid.top (update_of mid)) (sym s-is) (winds-fits (way_to ticks last s.to) (event_step freq e ∷ []) old mid whole winds).0

    pub own-room : length (lap_of freq ticks (last_count es) e) ≤ old.spare → 1 ≤ mid.spare
    own-room fits = omega (arith, way-room-one fits, winds-spare (way_to ticks last s.to) old mid winds)

    pub lap-winds : (new : PenShows) → StepsBy s mid new → WindsBy (lap_of freq ticks (last_count es) e) old new
    lap-winds new by =
        winds-append (way_to ticks (last_count es) (count_of_event e)) (event_step freq e ∷ []) old mid new
        (subst (λ (ss : List PlanStep). WindsBy ss old mid) way-is winds)
        (subst (λ (s : PlanStep). WindsBy (s ∷ []) mid new) s-is (winds-one s mid new by))

    pub own-behind : (new : PenShows) (got : List Event) → got ≡ es ++ e ∷ [] → StepsBy s mid new → IsBehind (last_count got) new
    own-behind new got is by =
        subst (λ (es : List Event). IsBehind (last_count es) new) (sym is)
        (lap-behind freq es e mid new (subst (λ (s : PlanStep). StepsBy s mid new) s-is by))

-- what was got, one event on
pub lap-on : (freq ticks : ℕ) (es got : List Event) (e : Event) (first old new : PenShows) → got ≡ es ++ e ∷ []
    → WindsBy (plan_of freq es ticks) first old → WindsBy (lap_of freq ticks (last_count es) e) old new → WindsBy (plan_of freq got ticks) first new
lap-on freq ticks es got e first old new is winds lap =
    subst (λ (es : List Event). WindsBy (plan_of freq es ticks) first new) (sym is)
    (subst (λ (ss : List PlanStep). WindsBy ss first new) (sym (plan-push freq es e ticks))
    (winds-append (plan_of freq es ticks) (lap_of freq ticks (last_count es) e) first old new winds lap))

pub lap-room-some : (freq ticks most : ℕ) (es : List Event) (e : Event) (first old : PenShows) → length es < most
    → 1 + most + ticks * (most - 1) ≤ first.spare → WindsBy (plan_of freq es ticks) first old → length (lap_of freq ticks (last_count es) e) ≤ old.spare
lap-room-some freq ticks most es e first old within fits winds =
    omega (arith, lap-length freq ticks most es e within, fits, winds-spare (plan_of freq es ticks) first old winds)

pub lap-room-rest : (freq ticks most : ℕ) (es : List Event) (e : Event) (room : ℕ) → length es < most
    → 1 + most + ticks * (most - 1) ≤ room + length (plan_of freq es ticks) → length (lap_of freq ticks (last_count es) e) ≤ room
lap-room-rest freq ticks most es e room within fits = omega (arith, lap-length freq ticks most es e within, fits)

pub lap-spare : (freq ticks most : ℕ) (es got : List Event) (e : Event) (old new : PenShows) → got ≡ es ++ e ∷ [] → length es < most
    → 1 + most + ticks * (most - 1) ≤ old.spare + length (plan_of freq es ticks) → WindsBy (lap_of freq ticks (last_count es) e) old new
    → 1 + most + ticks * (most - 1) ≤ new.spare + length (plan_of freq got ticks)
lap-spare freq ticks most es got e old new is within fits winds =
    let longer = ap (λ (es : List Event). length (plan_of freq es ticks)) is ∙ ap length (plan-push freq es e ticks) in
    let parts = length-append (plan_of freq es ticks) (lap_of freq ticks (last_count es) e) in
    omega (arith, fits, longer, parts, winds-spare (lap_of freq ticks (last_count es) e) old new winds, lap-length freq ticks most es e within)

-- what is known follows what was received
pub rest-follows : (freq : ℕ) (got received known rest all : List Event) (e : Event) → AreInTurn freq all → got ≡ received → received ++ known ≡ all
    → known ≡ e ∷ rest → MayFollow freq (last_count got) e
rest-follows freq got received known rest all e turn is whole next =
    subst (λ (es : List Event). MayFollow freq (last_count es) e) (sym is)
    (turn-follows freq received e rest (subst (AreInTurn freq) (sym whole ∙ ap (λ es. received ++ es) next) turn))

pub rest-whole : (received new known rest all : List Event) (e : Event) → received ++ known ≡ all → known ≡ e ∷ rest → new ≡ received ++ e ∷ []
    → new ++ rest ≡ all
rest-whole received new known rest all e whole next push =
    ap (λ es. es ++ rest) push ∙ append_assoc received (e ∷ []) rest ∙ ap (λ es. received ++ es) (sym next) ∙ whole

-- an event at which the driver stops is none of those that come in turn
pub never-stops : (freq : ℕ) (got received known all : List Event) (e : Event) → AreInTurn freq all → received ++ known ≡ all → received ≡ got ++ e ∷ []
    → (MayFollow freq (last_count got) e → ⊥) → ⊥
never-stops freq got received known all e turn whole is none =
    let split : got ++ e ∷ known ≡ all = sym (append_assoc got (e ∷ []) known) ∙ ap (λ es. es ++ known) (sym is) ∙ whole in
    none (turn-follows freq got e known (subst (AreInTurn freq) (sym split) turn))

-- there is room for a plan, and for the rest of it
pub plan-room : (freq ticks most : ℕ) (all : List Event) (room : ℕ) → most ≡ length all → length (plan_of freq all ticks) ≤ room
    → 1 + most + ticks * (most - 1) ≤ room
plan-room freq ticks most all room is fits =
    subst (λ n. 1 + n + ticks * (n - 1) ≤ room) (sym is) (omega (arith, steps_len freq all ticks, fits))

pub rest-room : (freq ticks most : ℕ) (got all : List Event) (first pen : PenShows) → most ≡ length all → length (plan_of freq all ticks) ≤ first.spare
    → WindsBy (plan_of freq got ticks) first pen → 1 + most + ticks * (most - 1) ≤ pen.spare + length (plan_of freq got ticks)
rest-room freq ticks most got all first pen is fits winds =
    omega (arith, plan-room freq ticks most all first.spare is fits, winds-spare (plan_of freq got ticks) first pen winds)

-- the whole plan was played
pub plan-driven : (freq ticks : ℕ) (got all : List Event) (old new : PenShows) → 1000000 ≤ freq → AreInTurn freq all → got ≡ all
    → old.journal ≡ cold ∷ [] → old.top ≡ 0 → length (plan_of freq all ticks) ≤ old.spare → WindsBy (plan_of freq got ticks) old new
    → IsDriven (plan_of freq all ticks) old new
plan-driven freq ticks got all old new low turn is journal top fits winds =
    winds-all (plan_of freq all ticks) old new journal top fits (plan-fits freq all ticks low turn)
    (subst (λ (es : List Event). WindsBy (plan_of freq es ticks) old new) is winds)

-- readers that have run have passes of the table
pub ran-have : (freq : ℕ) (options : Options) (table now : TableId) (before mid : List ReadLog) → now ≡ table → length mid ≡ length before
    → AreReady table options.reads before → HaveRun freq options before mid → All (HasPass now) mid
ran-have freq options table now before mid same many are ran k d within =
    let here : k < length before = omega (arith, many) in
    let run = ran k d here in
    let ready = are.ready k d here in
    record { pass = run.pass; has = run.has; table_is = run.table ready.pass ready.has ∙ are.belong k d here ready.pass ready.has ∙ sym same }
