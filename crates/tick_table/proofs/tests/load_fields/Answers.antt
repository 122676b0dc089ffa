use Rattle.std.proofs.Common.{◌≡◌, ℕ, true, ap, ◌∙◌, sym, length-set}
use Rattle.tick_reads.specs.declared.loads.Load.TheVariants.{Field}
use Rattle.tick_reads.specs.Scans.{Scan, fresh}
use Rattle.tick_reads.proofs.Runs.{run-snoc}
use Rattle.tick_views.specs.declared.views.PassView.{PassView}
use Rattle.tick_views.specs.Views.{field_loaded, scan_of}
use Rattle.tick_table.proofs.tests.load_fields.Goals as goal

stays_calling : (v w : PassView) (f x : ℕ) → w ≡ field_loaded f x v → w.calling ≡ true
stays_calling v w f x is = ap (λ (z : PassView). z.calling) is

stays_at_tick : (v w : PassView) (f x : ℕ) → w ≡ field_loaded f x v → (scan_of v).tick ≡ (scan_of w).tick
stays_at_tick v w f x is = sym (ap (λ (z : PassView). (scan_of z).tick) is
    ∙ ap (λ (s : Scan). s.tick) (run-snoc v.ask fresh v.loads (Field (scan_of v).tick f x)))

pub loop-f-preserved : goal.loop-f-preserved
loop-f-preserved c = let i = c.loop-f.invariant in record {
  table = c.load_field.ensures.table ∙ i.table;
  calling = stays_calling c.loop-f.pass.view c.load_field.new.self.view c.loop-f.f c.load_field.result c.load_field.ensures.view;
  tick = i.tick ∙ stays_at_tick c.loop-f.pass.view c.load_field.new.self.view c.loop-f.f c.load_field.result c.load_field.ensures.view;
  wide = length-set _ _ _ ∙ i.wide;
}
