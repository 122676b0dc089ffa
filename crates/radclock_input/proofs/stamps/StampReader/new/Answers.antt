use Rattle.std.proofs.Common.{refl, arith}
use Rattle.stamp_text.specs.Grammar.{given, fault_so_far}
use Rattle.radclock_input.proofs.stamps.StampReader.new.Goals as goal

pub returns : goal.returns
unfolding given fault_so_far
returns c = record {
  stands = c.new.ensures;
  sound = refl;
  gathers = record {
    head = refl;
    items = c.new-2.ensures.items;
    few = omega arith;
    ranged = tt;
    same = refl;
    counts = λ on. record { count = refl; seen = c.new-3.ensures; few = omega arith };
  };
}
