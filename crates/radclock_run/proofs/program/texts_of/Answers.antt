use Rattle.std.proofs.Common.{map, ap, ◌∙◌}
use Rattle.std.proofs.lemmas.List.{take_all}
use Rattle.std.specs.Prelude.{string_bytes}
use Rattle.radclock_run.proofs.Texts.{texts-none, texts-next}
use Rattle.radclock_run.proofs.program.texts_of.Goals as goal

pub loop-word-init : goal.loop-word-init
loop-word-init c = record { texts = texts-none (λ t. t.now) c.new-texts.result.items c.new-texts.ensures.items }

pub loop-word-preserved : goal.loop-word-preserved
loop-word-preserved c = record {
  texts = texts-next (λ t. t.now) string_bytes c.loop-word.texts.items c.push.new.self.items c.args.words.now
      c.as_str.result c.word-item.result c.loop-word.word-index c.loop-word-test.true c.in_ok-push.ensures.items c.loop-word.invariant.texts
      c.as_str.ensures.value c.word-item.is;
}

pub returns : goal.returns
returns c = c.loop-word.invariant.texts ∙ ap (map string_bytes) (take_all c.loop-word.word-index c.args.words.now c.loop-word-test.false)
