-- While logs are opened, and given their passes.
use Rattle.std.proofs.Common.{◌≡◌, ◌≢◌, ◌⊎◌, inl, inr, ℕ, zero, suc, ◌+◌, ◌<◌, ◌≤◌, List, [], ◌∷◌, ◌++◌, length, get_or, set, drop, slice_get, Some, refl, sym, ap, ap₂, ◌∙◌, subst, arith, get_or-set_other, get_or-set_same}
use Rattle.std.proofs.lemmas.List.{length_push, drop_more, drop-drop}
use Rattle.std.proofs.lemmas.Bool.{cases_eq}
use Rattle.std.proofs.lemmas.Option.{slice_get_within, slice_get-get_or, get_or_from_slice_get}
use Rattle.atomic_table.specs.Seated.{TableId}
use Rattle.tick_table.specs.Sees.{PassSees}
use Rattle.tick_views.specs.Views.{new_pass}
use Rattle.tick_desk.specs.Shows.{new_passes}
use Rattle.replay_run.specs.Logs.{IsEmpty, AreEmpty, AreGiven, IsOpened, AreOpened, IsReady, BelongsTo, AreReady}
use Rattle.replay_run.specs.declared.log.ReadLog.{ReadLog}
use Rattle.replay_run.proofs.Places.{IsPlace, stays, comes, place}

empty-at : (reads n : ℕ) (logs : List ReadLog) (log : ReadLog) → AreEmpty n reads logs → IsEmpty reads n log
    → (i : ℕ) (l : ReadLog) → IsPlace logs log i l → IsEmpty reads i l
empty-at reads n logs log are is i l (stays w here) = are.each i l here
empty-at reads n logs log are is i l (comes here e) = subst (λ k. IsEmpty reads k l) (sym (here ∙ are.many)) (subst (IsEmpty reads n) (sym e) is)

pub empty-next : (reads n : ℕ) (logs logs' : List ReadLog) (log : ReadLog) → AreEmpty n reads logs → IsEmpty reads n log → logs' ≡ logs ++ log ∷ []
    → AreEmpty (n + 1) reads logs'
empty-next reads n logs logs' log are is grown =
    let made : AreEmpty (n + 1) reads (logs ++ log ∷ []) = record {
      many = omega (arith, length_push logs log, are.many);
      each = λ i l at. empty-at reads n logs log are is i l (place logs log i l at);
    } in
    subst (λ (ls : List ReadLog). AreEmpty (n + 1) reads ls) (sym grown) made

-- the first n logs have their passes
pub record Giving (start now : List ReadLog) (passes left : List PassSees) (n : ℕ) : Type 0 where
  pub rest : left ≡ drop n passes
  pub each : (i : ℕ) (d : ReadLog) (p : PassSees) → i < n → slice_get passes i ≡ Some p → get_or now i d ≡ record (get_or start i d) { pass = Some p }
  pub after : (i : ℕ) (d : ReadLog) → n ≤ i → get_or now i d ≡ get_or start i d

-- a place within a list holds the same whatever stands for places behind it
same-default : {X : Type 0} (xs : List X) (i : ℕ) (d e : X) → i < length xs → get_or xs i d ≡ get_or xs i e
same-default xs i d e within = get_or_from_slice_get xs i (get_or xs i e) d (slice_get-get_or xs i e within)

giving-next : (start now : List ReadLog) (passes left : List PassSees) (n : ℕ) (e : ReadLog) (p : PassSees) → n < length now
    → length now ≡ length start → Giving start now passes left n → slice_get passes n ≡ Some p
    → (left' : List PassSees) → left' ≡ drop (n + 1) passes → Giving start (set now n (record (get_or now n e) { pass = Some p })) passes left' (n + 1)
giving-next start now passes left n e p within long g at left' rest =
    let log = record (get_or now n e) { pass = Some p } in
    record {
      rest = rest;
      each = λ i d q low there. by_place i d q low there (cases_eq i n);
      after = λ i d later. (let other : i ≢ n = omega arith in get_or-set_other now n i log d other) ∙ g.after i d (omega arith);
    }
  where
    by_place : (i : ℕ) (d : ReadLog) (q : PassSees) → i < n + 1 → slice_get passes i ≡ Some q → (i ≡ n) ⊎ (i ≡ n → ⊥)
        → get_or (set now n (record (get_or now n e) { pass = Some p })) i d ≡ record (get_or start i d) { pass = Some q }
    by_place i d q low there (inl same) =
        let log = record (get_or now n e) { pass = Some p } in
        let is : p ≡ q = (let f = sym at ∙ ap (slice_get passes) (sym same) ∙ there in cc) in
        let here : get_or (set now n log) n d ≡ log = get_or-set_same now n log d within in
        let was : get_or now n e ≡ get_or start i d = g.after n e (omega arith) ∙ same-default start n e d (omega arith)
        ∙ ap (λ k. get_or start k d) (sym same) in
        ap (λ k. get_or (set now n log) k d) same ∙ here ∙ ap₂ (λ (l : ReadLog) (r : PassSees). record l { pass = Some r }) was is
    by_place i d q low there (inr other) = get_or-set_other now n i _ d other ∙ g.each i d q (omega arith) there

pub giving-more : (start now : List ReadLog) (passes left left' : List PassSees) (n : ℕ) (l : ReadLog) (p : PassSees) → n < length now
    → length now ≡ length start → length passes ≡ length start → Giving start now passes left n → l ≡ get_or now n l → p ≡ get_or left 0 p
    → left' ≡ drop 1 left → Giving start (set now n (record l { pass = Some p })) passes left' (n + 1)
giving-more start now passes left left' n l p within long many g is first rest =
    let next = drop_more passes n p (omega arith) in
    let value : p ≡ get_or passes n p = first ∙ ap (λ (xs : List PassSees). get_or xs 0 p) (g.rest ∙ next) in
    let at : slice_get passes n ≡ Some p = slice_get-get_or passes n p (omega arith) ∙ ap (λ (q : PassSees). Some q) (sym value) in
    let drops : left' ≡ drop (n + 1) passes = rest ∙ ap (drop 1) g.rest ∙ drop-drop 1 n passes in
    subst (λ (k : ReadLog). Giving start (set now n (record k { pass = Some p })) passes left' (n + 1)) (sym is)
    (giving-next start now passes left n l p within long g at left' drops)

pub giving-done : (start now : List ReadLog) (passes left : List PassSees) (n : ℕ) → length passes ≤ n → length now ≡ length start
    → Giving start now passes left n → AreGiven start now passes
giving-done start now passes left n ended long g = record {
  many = long;
  each = λ i d p at. (let w = slice_get_within passes i p at in g.each i d p (omega arith) at);
}

-- logs with room that were given their passes are opened
pub opened : (readers reads : ℕ) (start now : List ReadLog) (passes given : List PassSees) → AreEmpty readers reads start → AreGiven start now given
    → given ≡ passes → length passes ≡ readers → AreOpened reads passes now
opened readers reads start now passes given empty gives same many = record {
  many = gives.many ∙ empty.many ∙ sym many;
  each = λ i p l here at.
      let within = slice_get_within now i l at in
      let was : IsEmpty reads i (get_or start i l) = empty.each i (get_or start i l) (slice_get-get_or start i l (omega (arith, gives.many))) in
      let is : l ≡ record (get_or start i l) { pass = Some p } = sym (get_or_from_slice_get now i l l at)
      ∙ gives.each i l p (ap (λ (ps : List PassSees). slice_get ps i) same ∙ here) in
      let made : IsOpened reads i p (record (get_or start i l) { pass = Some p }) = record {
        reader = was.reader;
        items = was.items;
        room = was.room;
        pass = refl;
      } in
      subst (IsOpened reads i p) (sym is) made;
}

-- the first passes of a table
pub first-passes : (old new : List PassSees) (table : TableId) (made seen n : ℕ) → old ≡ [] → made ≡ 0 → new ≡ old ++ new_passes table made seen n
    → new ≡ new_passes table 0 seen n
first-passes old new table made seen n none first is = is ∙ ap₂ (λ (ps : List PassSees) (m : ℕ). ps ++ new_passes table m seen n) none first

-- a new pass
record IsNewAt (table : TableId) (seen i : ℕ) (p : PassSees) : Type 0 where
  number : p.view.number ≡ i
  unused : p.view.entries ≡ []
  table_is : p.table ≡ table

pub new-many : (table : TableId) (number seen n : ℕ) → length (new_passes table number seen n) ≡ n
new-many table number seen zero = refl
new-many table number seen (suc n) = omega (
  arith,
  length_push (new_passes table number seen n)
      (record { table = table; view = new_pass (number + n) seen }),
  new-many table number seen n,
)

new-at : (table : TableId) (seen n i : ℕ) (p : PassSees) → slice_get (new_passes table 0 seen n) i ≡ Some p → IsNewAt table seen i p
new-at table seen zero i p at = absurd (let w = slice_get_within [] i p at in omega arith)
new-at table seen (suc n) i p at = elim (place (new_passes table 0 seen n) (record { table = table; view = new_pass (0 + n) seen }) i p at) as
    (λ _. IsNewAt table seen i p) [
      | stays w here ↦ new-at table seen n i p here
      | comes here is ↦ record {
        number = (let e = ap (λ (q : PassSees). q.view.number) is in let m = new-many table 0 seen n in omega arith);
        unused = ap (λ (q : PassSees). q.view.entries) is;
        table_is = ap (λ (q : PassSees). q.table) is;
      }
    ]

record IsReadyAt (table : TableId) (reads i : ℕ) (l : ReadLog) : Type 0 where
  ready : IsReady reads l
  belong : BelongsTo table l
  number : l.reader ≡ i

-- so the logs of new passes are those of readers that have not run
pub new-ready : (table : TableId) (seen readers reads : ℕ) (logs : List ReadLog) → AreOpened reads (new_passes table 0 seen readers) logs
    → AreReady table reads logs
new-ready table seen readers reads logs are = record {
  ready = λ i d within. (at i (get_or logs i d) (slice_get-get_or logs i d within)).ready;
  belong = λ i d within. (at i (get_or logs i d) (slice_get-get_or logs i d within)).belong;
  numbered = λ i l here. (at i l here).number;
}
  where
    at : (i : ℕ) (l : ReadLog) → slice_get logs i ≡ Some l → IsReadyAt table reads i l
    at i l here =
        let passes : List PassSees = new_passes table 0 seen readers in
        let within = slice_get_within logs i l here in
        let p : PassSees = get_or passes i (record { table = table; view = new_pass i seen }) in
        let there : slice_get passes i ≡ Some p = slice_get-get_or passes i _ (omega (arith, are.many)) in
        let new = new-at table seen readers i p there in
        let o = are.each i p l there here in
        record {
          ready = record { empty = o.items; room = o.room; pass = p; has = o.pass; number = new.number ∙ sym o.reader; unused = new.unused };
          belong = λ q is. (let same : p ≡ q = (let e = sym o.pass ∙ is in cc) in sym (ap (λ (r : PassSees). r.table) same) ∙ new.table_is);
          number = o.reader;
        }
