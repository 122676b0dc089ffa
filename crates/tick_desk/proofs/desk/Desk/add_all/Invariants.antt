use Rattle.std.proofs.Common.{◌≡◌, ◌+◌, ◌++◌, length}
use Rattle.std.specs.Vec.{vec_len, vec_capacity}
use Rattle.std.specs.Vec.Iter.{into_iter_items, into_iter_len}
use Rattle.tick_desk.specs.Shows.{new_passes}
use Rattle.tick_desk.proofs.desk.Desk.add_all.Given as goal

abbrev pub invariant-loop-share : goal.invariant-loop-share
invariant-loop-share l = record {
  all : l.yielded ++ into_iter_items l.share-iterator ≡ into_iter_items l.initial.share-iterator;
  left : into_iter_len l.share-iterator ≡ length (into_iter_items l.share-iterator);
  pen : l.self.pen ≡ record l.initial.self.pen { made = l.initial.self.pen.made + length l.yielded };
  passes : l.self.passes.items ≡ l.initial.self.passes.items ++ new_passes l.initial.self.pen.table l.initial.self.pen.made
      (length l.initial.self.pen.journal) (length l.yielded);
  room : vec_capacity l.self.passes ≡ vec_capacity l.initial.self.passes;
  many : vec_len l.self.passes ≡ vec_len l.initial.self.passes + length l.yielded;
}
