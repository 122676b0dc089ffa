use Rattle.std.proofs.Common.{◌≡◌, ◌≤◌, length, take, refl, sym, ◌∙◌, arith}
use Rattle.rtt_window.proofs.Listed.{credit-none}
use Rattle.ff_estimator.specs.Events.{events_of}
use Rattle.est_lane.specs.Lanes.{room_of}
use Rattle.replay_run.proofs.Feeding.{item-ranged, item-accepted, events-none, sent-more, send-room, stands-more, paid-more, same-in}
use Rattle.replay_run.proofs.feeds.feed_all.Goals as goal

pub loop-x-init : goal.loop-x-init
loop-x-init g c = record {
  end = ((refl, refl, refl, refl), refl);
  sent = c.requires.unused ∙ sym (events-none c.args.freq);
  stands = c.requires.new;
  paid = omega (arith, credit-none c.args.daemon.now.window c.args.freq c.requires.new.window);
}

pub say-said-requires : goal.say-said-requires
say-said-requires g c = item-ranged c.args.freq c.args.items.now c.loop-x.x-index _ c.loop-x-test.true c.requires.items

pub send_said-requires : goal.send_said-requires
send_said-requires g c =
    let room : length (events_of c.args.freq c.args.items.now) ≤ room_of c.loop-x.input = omega (arith, c.requires.room, c.loop-x.invariant.end.1) in
    send-room c.args.freq c.args.items.now c.loop-x.x-index _ _ _ _ c.loop-x-test.true c.loop-x.invariant.sent
    (c.say-said.ensures.said c.args.freq (take c.loop-x.x-index c.args.items.now) c.loop-x.invariant.stands
    (item-accepted c.args.freq c.args.items.now c.loop-x.x-index _ c.loop-x-test.true c.requires.items)) room

pub loop-x-preserved : goal.loop-x-preserved
loop-x-preserved g c =
    let before = take c.loop-x.x-index c.args.items.now in
    let was = c.loop-x.invariant in
    record {
      end = same-in c.args.input.now c.loop-x.input c.send_said.new.input was.end c.send_said.ensures.end;
      sent = sent-more c.args.freq c.args.items.now c.loop-x.x-index _ _ _ _ c.loop-x-test.true was.sent
          (c.say-said.ensures.said c.args.freq before was.stands
          (item-accepted c.args.freq c.args.items.now c.loop-x.x-index _ c.loop-x-test.true c.requires.items)) c.send_said.ensures.sent;
      stands = stands-more c.args.freq c.args.items.now c.loop-x.x-index _ _ c.loop-x-test.true
          (c.say-said.ensures.stands c.args.freq before was.stands
          (item-accepted c.args.freq c.args.items.now c.loop-x.x-index _ c.loop-x-test.true c.requires.items));
      paid = paid-more c.args.items.now c.loop-x.x-index _ _ _ _ c.loop-x-test.true was.paid c.say-said.ensures.paid;
    }
