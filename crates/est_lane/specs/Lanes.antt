-- What a contract sees of the two ends of a lane.
use Rattle.std.specs.Prelude.{ℕ, List}
use Rattle.rtrb.specs.Ring.{sent, producer_capacity, received, known_items, IsPair, SameProducer, SameConsumer}
use Rattle.ff_estimator.specs.declared.fulls.Event.{Event}
use Rattle.est_lane.specs.declared.ends.LaneIn.{LaneIn}
use Rattle.est_lane.specs.declared.ends.LaneOut.{LaneOut}

-- all events that were ever sent, in order
abbrev pub sent_by : LaneIn → List Event
sent_by i = sent i.producer

-- how many events may be sent at most
abbrev pub room_of : LaneIn → ℕ
room_of i = producer_capacity i.producer

-- all events that were ever received, in order
abbrev pub received_by : LaneOut → List Event
received_by o = received o.consumer

-- the known events: those that are sent, and known to the output end, and not received yet, in order
abbrev pub known_to : LaneOut → List Event
known_to o = known_items o.consumer

-- the two are the ends of one lane
abbrev pub IsLane : LaneIn → LaneOut → Type 0
IsLane i o = IsPair i.producer o.consumer

-- the same input end of the same lane, at another time
abbrev pub SameIn : LaneIn → LaneIn → Type 0
SameIn a b = SameProducer a.producer b.producer

-- the same output end of the same lane, at another time
abbrev pub SameOut : LaneOut → LaneOut → Type 0
SameOut a b = SameConsumer a.consumer b.consumer
