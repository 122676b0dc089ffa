use Rattle.std.proofs.Common.{◌≡◌, take}
use Rattle.tick_table.proofs.tests.store_fields.Given as goal

abbrev pub invariant-loop-f : goal.invariant-loop-f
invariant-loop-f l = record {
  table : l.pen.table ≡ l.initial.pen.table;
  view : l.pen.view ≡ record l.initial.pen.view { stored = take l.f l.words };
}
