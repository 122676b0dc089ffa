use Rattle.std.proofs.Common.{◌≡◌, length, take}
use Rattle.tick_reads.specs.Looks.{fields_from}
use Rattle.tick_laws.specs.Goes.{GoesOn}
use Rattle.tick_desk.proofs.looks.load_fields.Given as goal

abbrev pub invariant-loop-f : goal.invariant-loop-f
invariant-loop-f l = record {
  table : l.seat.table ≡ l.initial.seat.table;
  wide : length l.fields ≡ 15;
  goes : GoesOn l.initial.seat.view l.seat.view (fields_from l.tick 0 (take l.f l.fields));
}
