use Rattle.std.proofs.Common.{refl}
use Rattle.ntp_capture.specs.Packets.{is_request, is_reply, is_usable}
use Rattle.ntp_capture.proofs.worked.packets_are_worked.Goals as goal

pub returns-clause-leap : goal.returns-clause-leap
unfolding is_request is_reply is_usable
returns-clause-leap c = refl

pub returns-clause-mode : goal.returns-clause-mode
unfolding is_request is_reply is_usable
returns-clause-mode c = refl

pub returns-clause-stratum : goal.returns-clause-stratum
unfolding is_request is_reply is_usable
returns-clause-stratum c = refl

pub returns-clause-origin : goal.returns-clause-origin
unfolding is_request is_reply is_usable
returns-clause-origin c = refl

pub returns-clause-receive : goal.returns-clause-receive
unfolding is_request is_reply is_usable
returns-clause-receive c = refl

pub returns-clause-transmit : goal.returns-clause-transmit
unfolding is_request is_reply is_usable
returns-clause-transmit c = refl

pub returns-clause-time : goal.returns-clause-time
unfolding is_request is_reply is_usable
returns-clause-time c = refl

pub returns-clause-down : goal.returns-clause-down
unfolding is_request is_reply is_usable
returns-clause-down c = refl

pub returns-clause-request : goal.returns-clause-request
unfolding is_request is_reply is_usable
returns-clause-request c = refl

pub returns-clause-of_client : goal.returns-clause-of_client
unfolding is_request is_reply is_usable
returns-clause-of_client c = refl

pub returns-clause-received : goal.returns-clause-received
unfolding is_request is_reply is_usable
returns-clause-received c = refl

pub returns-clause-reply : goal.returns-clause-reply
unfolding is_request is_reply is_usable
returns-clause-reply c = refl

pub returns-clause-of_server : goal.returns-clause-of_server
unfolding is_request is_reply is_usable
returns-clause-of_server c = refl

pub returns-clause-sent : goal.returns-clause-sent
unfolding is_request is_reply is_usable
returns-clause-sent c = refl

pub returns-clause-usable : goal.returns-clause-usable
unfolding is_request is_reply is_usable
returns-clause-usable c = refl

pub returns-clause-no_origin : goal.returns-clause-no_origin
unfolding is_request is_reply is_usable
returns-clause-no_origin c = refl

pub returns-clause-early_receive : goal.returns-clause-early_receive
unfolding is_request is_reply is_usable
returns-clause-early_receive c = refl

pub returns-clause-early_transmit : goal.returns-clause-early_transmit
unfolding is_request is_reply is_usable
returns-clause-early_transmit c = refl
