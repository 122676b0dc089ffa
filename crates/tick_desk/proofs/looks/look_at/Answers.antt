use Rattle.std.proofs.Common.{◌≢◌, ◌+◌, ◌*◌, ◌≤◌, subst, sym}
use Rattle.tick_reads.specs.Looks.{full_mark}
use Rattle.tick_laws.proofs.Going.{still_calling, at_tick, the_mark, learns_look}
use Rattle.tick_desk.proofs.looks.look_at.Goals as goal

pub load_mark-mark-requires-clause-calling : goal.load_mark-mark-requires-clause-calling
load_mark-mark-requires-clause-calling c = still_calling _ _ c.args.tick _ c.requires.at c.load_fields-fields.ensures.loads

pub load_mark-mark-requires-clause-tick : goal.load_mark-mark-requires-clause-tick
load_mark-mark-requires-clause-tick c = at_tick _ _ c.args.tick _ c.requires.at c.load_fields-fields.ensures.loads

pub returns-clause-loads : goal.returns-clause-loads
returns-clause-loads c = the_mark _ _ c.args.tick _ c.requires.at c.load_fields-fields.ensures.loads _ _ c.load_mark-mark.ensures.view
    c.load_mark-mark.ensures.later

pub returns-clause-hands : goal.returns-clause-hands
returns-clause-hands c = learns_look _ _ c.args.tick _ c.requires.at c.load_fields-fields.ensures.loads _ c.load_fields-fields.ensures.long
    c.load_mark-mark.ensures.hands

pub returns-clause-later : goal.returns-clause-later
returns-clause-later c = subst (λ t. c.load_mark-mark.result ≢ full_mark t → 2 * t + 21 ≤ c.load_mark-mark.result)
    (sym (at_tick _ _ c.args.tick _ c.requires.at c.load_fields-fields.ensures.loads)) c.load_mark-mark.ensures.later
