-- While the passes of logs are taken in.
use Rattle.std.proofs.Common.{◌≡◌, ◌≢◌, ℕ, ◌+◌, ◌<◌, ◌≤◌, List, [], ◌∷◌, ◌++◌, length, get_or, set, slice_get, Some, refl, sym, ap, ◌∙◌, subst, arith, append-nil, append_assoc, get_or-set_other, get_or-set_same}
use Rattle.std.specs.List.{All}
use Rattle.std.proofs.lemmas.List.{length_push}
use Rattle.std.proofs.lemmas.Option.{slice_get_within, slice_get-get_or, get_or_from_slice_get}
use Rattle.clock_logs.specs.declared.noted.Kept.{Kept}
use Rattle.tick_desk.specs.Shows.{PenShows}
use Rattle.replay_run.specs.Plays.{HasPass, TakesIn, IsKeptOf, TakesAll}
use Rattle.replay_run.specs.declared.log.ReadLog.{ReadLog}
use Rattle.replay_run.proofs.Places.{IsPlace, stays, comes, place}

-- so far
pub record Taking (start now : List ReadLog) (old new : PenShows) (k : ℕ) : Type 0 where
  pub kept : List Kept
  pub many : length kept ≡ k
  pub pen : new ≡ record old { kept = old.kept ++ kept }
  pub each : (i : ℕ) (d : ReadLog) (q : Kept) → slice_get kept i ≡ Some q → IsKeptOf old (get_or start i d) (get_or now i d) q
  pub rest : (i : ℕ) (d : ReadLog) → k ≤ i → get_or now i d ≡ get_or start i d

pub taking-first : (start : List ReadLog) (old : PenShows) → Taking start start old old 0
taking-first start old = record {
  kept = [];
  many = refl;
  pen = ap (λ (ks : List Kept). record old { kept = ks }) (sym (append-nil old.kept));
  each = λ i d q at. absurd (let w = slice_get_within [] i q at in omega arith);
  rest = λ i d later. refl;
}

kept-place : (start now : List ReadLog) (old : PenShows) (k : ℕ) (log : ReadLog) (kept : List Kept) (q : Kept)
    → k < length now → length kept ≡ k
    → ((i : ℕ) (d : ReadLog) (q : Kept) → slice_get kept i ≡ Some q → IsKeptOf old (get_or start i d) (get_or now i d) q)
    → ((d : ReadLog) → IsKeptOf old (get_or start k d) log q)
    → (i : ℕ) (d : ReadLog) (r : Kept) → IsPlace kept q i r → IsKeptOf old (get_or start i d) (get_or (set now k log) i d) r
kept-place start now old k log kept q within many each next i d r (stays w here) =
    let other : i ≢ k = omega arith in
    subst (λ (l : ReadLog). IsKeptOf old (get_or start i d) l r) (sym (get_or-set_other now k i log d other)) (each i d r here)
kept-place start now old k log kept q within many each next i d r (comes here is) =
    let place : k ≡ i = omega arith in
    let new : IsKeptOf old (get_or start k d) (get_or (set now k log) k d) q = subst (λ (l : ReadLog). IsKeptOf old (get_or start k d) l q)
    (sym (get_or-set_same now k log d within)) (next d) in
    subst (λ n. IsKeptOf old (get_or start n d) (get_or (set now k log) n d) r) place
    (subst (IsKeptOf old (get_or start k d) (get_or (set now k log) k d)) (sym is) new)

pub taking-next : (start now : List ReadLog) (old mid new : PenShows) (k : ℕ) (e log : ReadLog) → k < length now → length now ≡ length start
    → Taking start now old mid k → TakesIn (get_or now k e) log mid new → Taking start (set now k log) old new (k + 1)
taking-next start now old mid new k e log within long t takes =
    let q : Kept = takes.kept in
    let was : IsKeptOf (record old { kept = old.kept ++ t.kept }) (get_or now k e) log q = subst
    (λ (p : PenShows). IsKeptOf p (get_or now k e) log q) t.pen takes.log in
    let same : (d : ReadLog) → get_or now k e ≡ get_or start k d = λ d. t.rest k e (omega arith)
    ∙ get_or_from_slice_get start k (get_or start k d) e (slice_get-get_or start k d (omega arith)) in
    let next : (d : ReadLog) → IsKeptOf old (get_or start k d) log q = λ d. (let s = same d in record {
      pass = was.pass;
      had = ap (λ (l : ReadLog). l.pass) (sym s) ∙ was.had;
      is = was.is;
      legal = was.legal;
      none = was.none;
      reader = was.reader ∙ ap (λ (l : ReadLog). l.reader) s;
      entries = was.entries ∙ ap (λ (l : ReadLog). l.entries.items) s;
    }) in
    record {
      kept = t.kept ++ q ∷ [];
      many = omega (arith, length_push t.kept q, t.many);
      pen = takes.pen ∙ ap (λ (p : PenShows). record p { kept = p.kept ++ q ∷ [] }) t.pen
          ∙ ap (λ (ks : List Kept). record old { kept = ks }) (append_assoc old.kept t.kept (q ∷ []));
      each = λ i d r at. kept-place start now old k log t.kept q within t.many t.each next i d r (place t.kept q i r at);
      rest = λ i d later. get_or-set_other now k i log d (omega arith) ∙ t.rest i d (omega arith);
    }

pub taking-done : (start now : List ReadLog) (old new : PenShows) (k : ℕ) → k ≡ length start → Taking start now old new k → TakesAll start now old new
taking-done start now old new k ended t = record { kept = t.kept; many = t.many ∙ ended; pen = t.pen; each = t.each }

-- the next log has its pass
pub next-has : (start now : List ReadLog) (old new : PenShows) (k : ℕ) (e : ReadLog) → k < length start → Taking start now old new k
    → All (HasPass old.table) start → HasPass new.table (get_or now k e)
next-has start now old new k e within t all =
    let here = subst (λ (l : ReadLog). HasPass old.table l) (sym (t.rest k e (omega arith))) (all k e within) in
    subst (λ id. HasPass id (get_or now k e)) (sym (ap (λ (p : PenShows). p.table) t.pen)) here
