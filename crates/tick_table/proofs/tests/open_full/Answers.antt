use Rattle.std.proofs.Common.{◌≡◌, ◌==◌, Bool, false, not, ap, ◌∙◌}
use Rattle.clock_lines.specs.declared.readings.Kind.TheVariants.{Abs}
use Rattle.tick_reads.specs.Scans.{Scan, is_even, opened}
use Rattle.tick_views.specs.declared.views.PassView.{PassView}
use Rattle.tick_views.specs.Views.{gained}
use Rattle.tick_table.proofs.tests.open_full.Goals as goal

pub returns-clause-over : goal.returns-clause-over
returns-clause-over c odd = let over : is_even c.open_call.result ≡ false = ap (λ k. k == 0) odd in let start : Bool
    → Scan = λ even. opened (not even) (record { kind = Abs; given = 0 }) c.open_call.result in
    ap (λ (v : PassView). v.entries) c.open_call.ensures.view ∙ (ap
    (λ even. gained c.args.pass.now.view.entries (start even).answer (start even).first) over
    ∙ ap (λ log. gained log (start false).answer (start false).first) c.requires.first)
