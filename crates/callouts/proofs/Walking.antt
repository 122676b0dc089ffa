-- Each timer fires at the first tick at which its due time is reached, and the wheel fires in the order of the queue.
use Rattle.std.proofs.Common.{nat_le, map, drop, ◌++◌, append_assoc, add-one, drop-cons, ◌≡◌, ℕ, zero, suc, ◌+◌, ◌<◌, ◌≤◌, nat_lt, Bool, true, false, ◌&&◌, Some, None, List, [], ◌∷◌, length, replicate, get_or, slice_get, refl, sym, ap, ◌∙◌, subst, arith, inl, inr}
use Rattle.std.specs.List.{All, filter}
use Rattle.std.proofs.lemmas.Bool.{cases_Bool, cases_lt, lt-ltb, le-ltb}
use Rattle.std.proofs.lemmas.Option.{none-some, same_Some}
use Rattle.std.proofs.lemmas.Bool.Decides.{nat_tests}
use Rattle.std.proofs.lemmas.List.{append-nil, drop_all}
use Rattle.std.proofs.lemmas.List.Elements.{All-head, All-tail}
use Rattle.ff_hands.specs.declared.hands.Hands.{Hands}
use Rattle.callouts.specs.declared.firings.Firing.{Firing}
use Rattle.callouts.specs.declared.timers.Entry.{Entry}
use Rattle.callouts.specs.declared.timers.Fired.{Fired}
use Rattle.callouts.specs.Timers.{Kept, no_timers, timer_in, with_timer, without, room, Fires, NoneDue, fired_of}
use Rattle.callouts.specs.Queues.{placed, in_order, living, queue}
use Rattle.callouts.specs.Firings.{uptime_of, due_by, waiting, firings, fires_at, FiresAt, firing_of, firing_list}
use Rattle.callouts.proofs.Ordering.{placed_living, placed_more, all_living, first_heads}

filter_twice : (p q : Entry → Bool) (es : List Entry) → filter q (filter p es) ≡ filter (λ e. p e && q e) es
filter_twice p q [] = refl
filter_twice p q (e ∷ es) = let rest = filter_twice p q es in elim (cases_Bool (p e)) [
  | inl passes ↦ elim (cases_Bool (q e)) [
    | inl too ↦ rw (passes, too) (ap (λ xs. e ∷ xs) rest)
    | inr fails ↦ rw (passes, fails) rest
  ]
  | inr none ↦ rw none rest
]

-- what fires at a tick is what its test tells
pub fired_at : (es : List Entry) (ticks : List Hands) (n : ℕ) → n < length ticks → get_or (firings es ticks) n [] ≡ filter (fires_at ticks n) es
unfolding firings
fired_at es [] n l = absurd (omega arith)
fired_at es (h ∷ hs) zero l = refl
fired_at es (h ∷ hs) (suc n) l =
    fired_at (waiting (uptime_of h) es) hs n (omega arith) ∙ filter_twice (λ (e : Entry). nat_lt (uptime_of h) e.due) (fires_at hs n) es

first_more : (h : Hands) (hs : List Hands) (n : ℕ) (e : Entry) → uptime_of h < e.due
    → ((m : ℕ) (earlier : Hands) → m < n → slice_get hs m ≡ Some earlier → uptime_of earlier < e.due)
    → (m : ℕ) (earlier : Hands) → m < n + 1 → slice_get (h ∷ hs) m ≡ Some earlier → uptime_of earlier < e.due
first_more h hs n e here rest zero earlier l is = subst (λ t. uptime_of t < e.due) (same_Some h earlier is) here
first_more h hs n e here rest (suc m) earlier l is = rest m earlier (omega arith) is

-- the test tells of the first tick at which the due time is reached
pub fires_is : (ticks : List Hands) (n : ℕ) (e : Entry) → fires_at ticks n e ≡ true → FiresAt ticks n e
fires_is [] n e is = absurd (cc)
fires_is (h ∷ hs) zero e is = record { tick = h; is = refl; reached = grind (arith, nat_tests); first = λ m _ l. absurd (omega arith) }
fires_is (h ∷ hs) (suc n) e is = elim (cases_lt (uptime_of h) e.due) [
  | inl l ↦
      let rest = fires_is hs n e (sym (ap (λ b. b && fires_at hs n e) (lt-ltb (uptime_of h) e.due l)) ∙ is) in
      record { tick = rest.tick; is = rest.is; reached = rest.reached; first = λ m t less. first_more h hs n e l rest.first m t (omega arith) }
  | inr m ↦ let no : false ≡ true = sym (ap (λ b. b && fires_at hs n e) (le-ltb (uptime_of h) e.due m)) ∙ is in absurd (cc)
]

pub is_fires : (ticks : List Hands) (n : ℕ) (e : Entry) → FiresAt ticks n e → fires_at ticks n e ≡ true
is_fires [] n e at = absurd (none-some _ at.is)
is_fires (h ∷ hs) zero e at = let reached : e.due ≤ uptime_of h = subst (λ t. e.due ≤ uptime_of t) (sym (same_Some h at.tick at.is)) at.reached in
    grind (arith, nat_tests)
is_fires (h ∷ hs) (suc n) e at =
    ap (λ b. b && fires_at hs n e) (lt-ltb (uptime_of h) e.due (at.first zero h (omega arith) refl))
    ∙ is_fires hs n e (record { tick = at.tick; is = at.is; reached = at.reached; first = λ m t l. at.first (suc m) t (omega arith) })

-- what is added stands in the queue
pub queue_adds : (k : Kept) (p due : ℕ) → p < room k → timer_in k.places p ≡ None
    → queue (with_timer k p due) ≡ placed (record { id = k.added; due = due }) (queue k)
unfolding queue
queue_adds k p due l none = placed_more k.places p (record { id = k.added; due = due }) l none

-- what is cancelled stood in the queue
pub queue_loses : (k : Kept) (p : ℕ) (e : Entry) → timer_in k.places p ≡ Some e → queue k ≡ placed e (queue (without k p))
unfolding queue
queue_loses k p e is = placed_living k.places p e is

-- what fires is the head of the queue, and the rest is left
pub queue_fires : (old new : Kept) (now : ℕ) (f : Fired) → Fires old now f new → (e : Entry) × (queue old ≡ e ∷ queue new) × (e.due ≤ now) × (f ≡ fired_of e)
unfolding queue
queue_fires old new now f fires =
    (fires.timer, first_heads old.places fires.place fires.timer fires.first ∙ ap (λ (k : Kept). fires.timer ∷ queue k) (sym fires.gone), fires.due, fires.told)

-- where none fires, none of the queue is due
pub queue_waits : (k : Kept) (now : ℕ) → NoneDue k now → All (λ (e : Entry). now < e.due) (queue k)
unfolding queue
queue_waits k now none = all_living (λ (e : Entry). now < e.due) k.places none

none_living : (n : ℕ) → in_order (living (replicate n None)) ≡ []
none_living zero = refl
none_living (suc n) = none_living n

pub queue_new : (room : ℕ) → queue (no_timers room) ≡ []
unfolding queue
queue_new room = none_living room

-- one of the queue that is due is the first of those that are
pub due_more : (now : ℕ) (e : Entry) (es : List Entry) → e.due ≤ now → due_by now (e ∷ es) ≡ e ∷ due_by now es
due_more now e es le = let t : nat_le e.due now ≡ true = grind (arith, nat_tests) in rw t refl

pub waiting_more : (now : ℕ) (e : Entry) (es : List Entry) → e.due ≤ now → waiting now (e ∷ es) ≡ waiting now es
waiting_more now e es le = rw (le-ltb now e.due le) refl

-- where none is due
pub none_due : (now : ℕ) (es : List Entry) → All (λ (e : Entry). now < e.due) es → (due_by now es ≡ []) × (waiting now es ≡ es)
none_due now [] all = (refl, refl)
none_due now (e ∷ es) all =
    let later : now < e.due = All-head (λ (e : Entry). now < e.due) e es all in
    let rest = none_due now es (All-tail (λ (e : Entry). now < e.due) e es all) in
    let not_due : nat_le e.due now ≡ false = grind (arith, nat_tests) in
    (rw not_due rest.0, rw (lt-ltb now e.due later) (ap (λ xs. e ∷ xs) rest.1))

-- one more has fired at a tick
pub fires_on : (tick now : ℕ) (done more : List Firing) (e : Entry) (old new : List Entry) → old ≡ e ∷ new → e.due ≤ now → more ≡ done ++ firing_of tick e ∷ []
    → more ++ map (firing_of tick) (due_by now new) ≡ done ++ map (firing_of tick) (due_by now old)
fires_on tick now done more e old new is due adds =
    rw adds (append_assoc done (firing_of tick e ∷ []) (map (firing_of tick) (due_by now new)))
    ∙ ap (λ es. done ++ map (firing_of tick) es) (sym (ap (due_by now) is ∙ due_more now e new due))

-- one more tick is passed
pub walks_on : (n : ℕ) (done more : List Firing) (old new : List Entry) (ticks : List Hands) (d : Hands) → n < length ticks
    → more ≡ done ++ map (firing_of n) (due_by (uptime_of (get_or ticks n d)) old) → new ≡ waiting (uptime_of (get_or ticks n d)) old
    → more ++ firing_list (n + 1) (firings new (drop (n + 1) ticks)) ≡ done ++ firing_list n (firings old (drop n ticks))
unfolding firings
walks_on n done more old new ticks d l adds left =
    let cut : drop n ticks ≡ get_or ticks n d ∷ drop (n + 1) ticks = rw (add-one, drop-cons ticks n d) refl in
    rw (adds, left) (append_assoc done (map (firing_of n) (due_by (uptime_of (get_or ticks n d)) old)) _)
    ∙ ap (λ hs. done ++ firing_list n (firings old hs)) (sym cut)

-- all ticks are passed
pub walked : (n : ℕ) (done : List Firing) (es : List Entry) (ticks : List Hands) → length ticks ≤ n → done ++ firing_list n (firings es (drop n ticks)) ≡ done
unfolding firings
walked n done es ticks m = ap (λ hs. done ++ firing_list n (firings es hs)) (drop_all n ticks m) ∙ append-nil done
