use Rattle.std.proofs.Common.{◌*◌, length, le_refl}
use Rattle.tick_views.proofs.Grow.{grow_entry}
use Rattle.tick_views.specs.Worlds.{published}
use Rattle.tick_table.proofs.PenKeeps.{goes_on}
use Rattle.tick_table.proofs.laws.ticks_keep_entries.Goals as goal

pub returns : goal.returns
returns c = λ w h o e may fits. grow_entry w (published w h)
    (goes_on w.journal h w.turn (2 * length w.journal) w.marks w.marks w.counter w.counter w.bound w.counter w.made may.0 (λ k near is_full. is_full)
    (le_refl w.counter) may.1) o e fits
