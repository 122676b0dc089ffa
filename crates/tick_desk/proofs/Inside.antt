-- A call that goes on from what contracts see of a pass.
use Rattle.std.proofs.Common.{◌≡◌, List, subst}
use Rattle.tick_reads.specs.declared.loads.Load.{Load}
use Rattle.tick_views.specs.declared.views.PassView.{PassView}
use Rattle.tick_table.specs.Sees.{PassSees}
use Rattle.tick_laws.specs.Goes.{GoesOn}

pub from_inside : (was old : PassSees) (b : PassView) (ls : List Load) → old ≡ was → GoesOn old.view b ls → GoesOn was.view b ls
from_inside was old b ls same g = subst (λ (z : PassSees). GoesOn z.view b ls) same g
