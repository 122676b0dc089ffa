-- What a watched daemon has after one more stamp.
use Rattle.std.proofs.Common.{◌≡◌, ℕ, ◌≤◌, List, [], ◌∷◌, ◌++◌, length, Result, Ok, Err, refl, sym, subst, arith}
use Rattle.std.specs.List.{All}
use Rattle.std.proofs.lemmas.List.{length_push}
use Rattle.std.proofs.lemmas.List.Elements.{All-push}
use Rattle.ff_grain.specs.Grains.{number_of}
use Rattle.stamp_text.specs.Accepted.{IsInRange, AreAccepted, accepted_with}
use Rattle.stamp_text.specs.Past.{AreAcceptedItems, accept_item, stamps_of}
use Rattle.stamp_text.specs.declared.accepts.Refused.{Refused}
use Rattle.stamp_text.specs.declared.lines.Item.{Item}
use Rattle.stamp_text.specs.declared.lines.Item.TheVariants as item
use Rattle.stamp_text.specs.declared.lines.Stamp.{Stamp}
use Rattle.stamp_text.proofs.PastLaws.{item-push, stamps-push}
use Rattle.ff_estimator.specs.Daemons as daemons
use Rattle.ff_estimator.specs.Estimates.{full_at, fed_by}
use Rattle.ff_estimator.specs.Events.{full_behind, fed_of}
use Rattle.ff_estimator.specs.declared.fulls.Fed.TheVariants as fed
use Rattle.ff_estimator.specs.declared.fulls.Full.{Full}
use Rattle.ff_estimator.proofs.Newest.{count_at-push}
use Rattle.world_times.specs.Worlds.{LiesIn, distance}
use Rattle.world_times.specs.declared.world.World.{World}
use Rattle.world_laws.proofs.EstimatesHold.{spread-holds}
use Rattle.ideal_world.specs.Watching.{Holds}

-- one more stamp that lies in the world, if it is accepted
with-lie : (w : World) (items : List Item) (s : Stamp) (r : Result (Unit {0}) Refused) → LiesIn w s → All (LiesIn w) (stamps_of items)
    → All (LiesIn w) (stamps_of (accepted_with items (item.Stamp s) r))
with-lie w items s (Ok o) lies lie = subst (All (LiesIn w)) (sym (stamps-push items (item.Stamp s))) (All-push (LiesIn w) (stamps_of items) s lie lies)
with-lie w items s (Err why) lies lie = lie

with-accepted : (freq : ℕ) (items : List Item) (s : Stamp) (r : Result (Unit {0}) Refused) → accept_item freq items (item.Stamp s) ≡ r → IsInRange s
    → AreAcceptedItems freq items → AreAcceptedItems freq (accepted_with items (item.Stamp s) r)
with-accepted freq items s (Ok o) e timed are = item-push freq items (item.Stamp s) are timed e
with-accepted freq items s (Err why) e timed are = are

pub holds-next : (old new : daemons.Kept) (w : World) (freq : ℕ) (s : Stamp) → IsInRange s → LiesIn w s → Holds old w freq
    → ((freq : ℕ) (items : List Item) → daemons.StandsFor old freq items
    → daemons.StandsFor new freq (accepted_with items (item.Stamp s) (accept_item freq items (item.Stamp s)))) → Holds new w freq
holds-next old new w freq s timed lies holds stands =
    let items : List Item = holds.items in
    let r : Result (Unit {0}) Refused = accept_item freq items (item.Stamp s) in
    record {
      low = holds.low;
      high = holds.high;
      fits = holds.fits;
      items = accepted_with items (item.Stamp s) r;
      stands = stands freq items holds.stands;
      accepted = with-accepted freq items s r refl timed holds.accepted;
      lie = with-lie w items s r lies holds.lie;
    }

update-is : (freq : ℕ) (all : List Stamp) (s : Stamp) → (full_at freq (all ++ s ∷ []) (length all)).est.update_ffcount ≡ s.tf
unfolding full_at
update-is freq all s = count_at-push all s

-- of the time nothing is changed by what is told of leap seconds
behind-true : (w : World) (freq : ℕ) (items : List Item) (s : Stamp) → distance w
    (number_of (full_at freq (stamps_of items ++ s ∷ []) (length (stamps_of items))).est.update_time) s.tf ≤
    (full_at freq (stamps_of items ++ s ∷ []) (length (stamps_of items))).spread
    → distance w (number_of (full_behind freq items s).est.update_time) s.tf ≤ (full_behind freq items s).spread
unfolding full_behind
behind-true w freq items s h = h

pub estimate-true : (old : daemons.Kept) (w : World) (freq : ℕ) (s : Stamp) (full : Full) → IsInRange s → LiesIn w s → Holds old w freq
    → ((freq : ℕ) (items : List Item) → daemons.StandsFor old freq items → fed.Estimate full ≡ fed_of freq items s) → distance w
    (number_of full.est.update_time) s.tf ≤ full.spread
estimate-true old w freq s full timed lies holds answers = by_test (accept_item freq holds.items (item.Stamp s)) refl (answers freq holds.items holds.stands)
  where
    by_test : (r : Result (Unit {0}) Refused) → accept_item freq holds.items (item.Stamp s) ≡ r
        → fed.Estimate full ≡ fed_by r (full_behind freq holds.items s) → distance w (number_of full.est.update_time) s.tf ≤ full.spread
    by_test (Err why) e answer = absurd (cc)
    by_test (Ok o) e answer =
        let items : List Item = holds.items in
        let all : List Stamp = stamps_of items in
        let all' : List Stamp = all ++ s ∷ [] in
        let same : full_behind freq items s ≡ full = cc in
        let next : AreAcceptedItems freq (items ++ item.Stamp s ∷ []) = item-push freq items (item.Stamp s) holds.accepted timed e in
        let accepted : AreAccepted freq all' = subst (AreAccepted freq) (stamps-push items (item.Stamp s)) next.stamps in
        let within = spread-holds freq w all' holds.fits accepted (All-push (LiesIn w) all s holds.lie lies) (length all) (omega (arith, length_push all s)) in
        let at : distance w (number_of (full_at freq all' (length all)).est.update_time) s.tf ≤ (full_at freq all' (length all)).spread = subst
        (λ n. distance w (number_of (full_at freq all' (length all)).est.update_time) n ≤ (full_at freq all' (length all)).spread)
        (update-is freq all s) within in
        subst (λ (f : Full). distance w (number_of f.est.update_time) s.tf ≤ f.spread) same (behind-true w freq items s at)
