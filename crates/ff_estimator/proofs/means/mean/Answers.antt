use Rattle.std.proofs.Common.{[], ◌++◌, length, map, sym, ap, ◌∙◌, subst, arith, length-append, length-drop}
use Rattle.std.specs.List.{All}
use Rattle.std.proofs.lemmas.List.Elements.{All-append}
use Rattle.stamp_text.specs.Accepted.{IsInRange, IsPlausible}
use Rattle.offset_weights.specs.Means.{StandsFor, mean_of}
use Rattle.ff_estimator.specs.Terms.{term_of}
use Rattle.ff_estimator.proofs.WeighingLaws.{terms_at_rate, terms_bounded}
use Rattle.ff_estimator.proofs.means.mean.Goals as goal

pub weigh_all-requires-clause-few : goal.weigh_all-requires-clause-few
weigh_all-requires-clause-few c = omega (
  arith,
  c.new-sums.ensures.added,
  ap length c.from_place.ensures.value,
  length-append c.from_place.result.0.now c.from_place.result.1.now,
  length-drop c.args.from c.args.window.now.stamps,
)

pub weigh_all-requires-2-clause-few : goal.weigh_all-requires-2-clause-few
weigh_all-requires-2-clause-few c = omega (
  arith,
  c.weigh_all.ensures.added,
  c.new-sums.ensures.added,
  ap length c.from_place.ensures.value,
  length-append c.from_place.result.0.now c.from_place.result.1.now,
  length-drop c.args.from c.args.window.now.stamps,
)

pub at_rate-requires : goal.at_rate-requires
at_rate-requires c =
    let older = c.from_place.result.0.now in
    let newer = c.from_place.result.1.now in
    let sums = c.weigh_all-2.ensures.stands _ (c.weigh_all.ensures.stands [] (c.new-sums.ensures.none c.args.freq c.args.base c.args.now)) in
    let P = IsPlausible c.args.freq in
    let sound = subst (λ freq. All (IsPlausible freq) older × All (IsPlausible freq) newer) (sym c.requires.freq) c.from_place.ensures.sound in
    terms_bounded c.args.freq c.args.base c.args.now c.args.rate.now _ (older ++ newer) sums c.weigh_all-2.ensures.bounded c.requires.low c.requires.rate
    (All-append IsInRange older newer c.from_place.ensures.timed.0 c.from_place.ensures.timed.1) (All-append P older newer sound.0 sound.1)

pub returns-clause-mean : goal.returns-clause-mean
returns-clause-mean c =
    let sums = c.weigh_all-2.ensures.stands _ (c.weigh_all.ensures.stands [] (c.new-sums.ensures.none c.args.freq c.args.base c.args.now)) in
    let terms = terms_at_rate c.args.freq c.args.base c.args.now c.args.rate.now _ _ sums in
    let f = term_of c.args.freq c.args.base c.args.rate.now c.args.now in
    let stamps = c.from_place.result.0.now ++ c.from_place.result.1.now in
    c.time.ensures.mean (map f stamps) (subst (λ k. StandsFor k (map f stamps)) (sym c.at_rate.ensures) terms)
    ∙ ap (λ xs. mean_of (map f xs)) c.from_place.ensures.value
