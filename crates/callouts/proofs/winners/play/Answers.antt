use Rattle.std.proofs.Common.{◌≡◌, ◌+◌, ◌*◌, ◌<◌, ◌∙◌, arith}
use Rattle.callouts.specs.Winners.{first_of, winner_at}
use Rattle.callouts.proofs.Playing.{stale_on, none_stale}
use Rattle.callouts.proofs.Players.{game, players_on}
use Rattle.callouts.proofs.winners.play.Goals as goal

pub returns-then-winners-place : goal.returns-then-winners-place
returns-then-winners-place c =
    let ns = c.args.nodes.now in
    let ws = c.loop-place.winners in
    let place = c.loop-place.place in
    let stale = c.loop-place.invariant.stale in
    let below : place < 256 = omega (arith, c.loop-place.invariant.within) in
    let is : c.first_of-first.result ≡ first_of ns (winner_at ns ws (2 * place)) (winner_at ns ws (2 * place + 1)) = c.first_of-first.ensures.value
    ∙ game ns ws place c.loop-place.first c.loop-place.other c.requires.heaps c.requires.apart stale c.loop-place-test.true below
    (c.loop-place.invariant.players c.loop-place-test.true) in
    none_stale ns ws place c.first_of-first.result stale c.loop-place-test.true below is c.if-winners-place.true

pub loop-place-preserved : goal.loop-place-preserved
loop-place-preserved c =
    let ns = c.args.nodes.now in
    let ws = c.loop-place.winners in
    let place = c.loop-place.place in
    let first = c.first_of-first.result in
    let stale = c.loop-place.invariant.stale in
    let below : place < 256 = omega (arith, c.loop-place.invariant.within) in
    let is : first ≡ first_of ns (winner_at ns ws (2 * place)) (winner_at ns ws (2 * place + 1)) = c.first_of-first.ensures.value
    ∙ game ns ws place c.loop-place.first c.loop-place.other c.requires.heaps c.requires.apart stale c.loop-place-test.true below
    (c.loop-place.invariant.players c.loop-place-test.true) in
    record {
      stale = stale_on ns ws place first stale c.loop-place-test.true below is c.first_of-first.ensures.within;
      within = omega (arith, below);
      players = λ some. rw c.beside-in-loop-place.ensures (players_on ns ws place first stale.places some below);
    }
