use Rattle.std.proofs.Common.{◌≡◌, length, true}
use Rattle.tick_views.specs.Views.{scan_of}
use Rattle.tick_table.proofs.tests.load_fields.Given as goal

abbrev pub invariant-loop-f : goal.invariant-loop-f
invariant-loop-f l = record {
  table : l.pass.table ≡ l.initial.pass.table;
  calling : l.pass.view.calling ≡ true;
  tick : l.tick ≡ (scan_of l.pass.view).tick;
  wide : length l.fields ≡ 15;
}
