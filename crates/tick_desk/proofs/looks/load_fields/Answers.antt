use Rattle.std.proofs.Common.{arith, length-set, ◌∙◌}
use Rattle.tick_laws.proofs.Going.{still_calling, at_tick, one_field_in}
use Rattle.tick_desk.proofs.looks.load_fields.Goals as goal

pub load_field-requires-clause-calling : goal.load_field-requires-clause-calling
load_field-requires-clause-calling c = still_calling _ _ c.args.tick _ c.requires.at c.loop-f.invariant.goes

pub load_field-requires-clause-tick : goal.load_field-requires-clause-tick
load_field-requires-clause-tick c = at_tick _ _ c.args.tick _ c.requires.at c.loop-f.invariant.goes

pub loop-f-preserved : goal.loop-f-preserved
loop-f-preserved c = let i = c.loop-f.invariant in record {
  table = c.load_field.ensures.table ∙ i.table;
  wide = length-set _ _ _ ∙ i.wide;
  goes = one_field_in _ _ _ c.args.tick _ _ _ c.requires.at i.goes (omega arith) c.load_field.ensures.view;
}
