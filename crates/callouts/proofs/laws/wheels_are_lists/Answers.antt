use Rattle.callouts.proofs.Listing.{list_new, room_stays, list_count, list_has, list_is, list_adds, list_loses}
use Rattle.callouts.proofs.laws.wheels_are_lists.Goals as goal

pub returns-clause-new : goal.returns-clause-new
returns-clause-new c = list_new

pub returns-clause-room : goal.returns-clause-room
returns-clause-room c = room_stays

pub returns-clause-count : goal.returns-clause-count
returns-clause-count c = list_count

pub returns-clause-lives : goal.returns-clause-lives
returns-clause-lives c = λ k p e. (list_has k p e, list_is k p e)

pub returns-clause-add : goal.returns-clause-add
returns-clause-add c = list_adds

pub returns-clause-gone : goal.returns-clause-gone
returns-clause-gone c = list_loses
