use Rattle.std.proofs.Common.{refl, arith}
use Rattle.radclock_input.proofs.Admitting.{admits-refused, admits-counted, spent-over}
use Rattle.radclock_input.proofs.quota.Quota.admit.Goals as goal

pub returns-in-Err-clause-ok : goal.returns-in-Err-clause-ok
returns-in-Err-clause-ok c = admits-refused _ _ c.args.freq c.args.item.now c.in-Err.field-0 refl refl c.in-Err.ensures.after c.in-Err.ensures.test

pub returns-in-Ok-count-clause-ok : goal.returns-in-Ok-count-clause-ok
returns-in-Ok-count-clause-ok c = admits-counted _ (record {
  limited = c.args.self.now.limited;
  past = c.accept_item.new.past;
  accepted = c.args.self.now.accepted;
}) _ c.args.freq c.args.item.now refl refl c.in-Ok.ensures.after c.in-Ok.ensures.test c.in-Ok-count.ensures.ok

pub returns-in-Err-count-clause-err : goal.returns-in-Err-count-clause-err
returns-in-Err-count-clause-err c = spent-over _ (record {
  limited = c.args.self.now.limited;
  past = c.accept_item.new.past;
  accepted = c.args.self.now.accepted;
}) c.args.freq c.args.item.now c.in-Err-count.stop (grind (arith)) refl c.in-Ok.ensures.test c.in-Err-count.ensures.err
