use Rattle.std.proofs.Common.{ℕ, List, Result, Ok, Err, map, subst}
use Rattle.std.specs.Prelude.{IfOk, string_bytes}
use Rattle.clock_words.specs.Lines.{command_in}
use Rattle.radclock_run.specs.Runs.{ByBlocks, Ran}
use Rattle.radclock_run.specs.Exits.{HasRun}
use Rattle.radclock_run.proofs.Texts.{words-by}
use Rattle.radclock_run.proofs.program.run_by_words.Goals as goal

ok-gives : {T E : Type 0} (r : Result T E) (P Q : T → Type 0) → ((t : T) → P t → Q t) → IfOk r P → IfOk r Q
ok-gives (Ok t) P Q f h = f t h
ok-gives (Err e) P Q f h = tt

pub returns-in-Ok-start-clause-ran : goal.returns-in-Ok-start-clause-ran
returns-in-Ok-start-clause-ran g c =
    let words = words-by (λ t. t.now) string_bytes c.deref.result.now c.in-Ok.texts.items c.words_behind.result.now c.args.words.now
    c.deref.ensures.value c.in-Ok.ensures c.words_behind.ensures in
    ok-gives c.run_in_blocks.result.0 _ (λ status. HasRun g.S.Source.pull_gives g.K.Sink.push_gives (map string_bytes c.args.words.now)
    c.args.source.now c.run_in_blocks.new.source c.args.sink c.run_in_blocks.result.1 status)
    (λ status ran. record {
      desk = c.in-Ok-start.desk;
      fresh = c.in-Ok-start.ensures.fresh;
      desk' = c.run_in_blocks.new.desk;
      ran = subst (λ (ws : List (List ℕ)). Ran g.S.Source.pull_gives (ByBlocks g.K.Sink.push_gives) (command_in ws) c.args.source.now
          c.run_in_blocks.new.source c.args.sink c.run_in_blocks.result.1 c.in-Ok-start.desk c.run_in_blocks.new.desk status) words ran;
    })
    c.run_in_blocks.ensures.ran
