use Rattle.std.proofs.Common.{◌≡◌, List, [], ◌∷◌, Option, None, Some, sym, ◌∙◌, ap, subst}
use Rattle.clock_words.specs.declared.commands.Command.{Command}
use Rattle.radclock_input.specs.Inputs.{stop_so_far, stop_of_file, head_of_file, items_of_file}
use Rattle.radclock_input.specs.Pulled.{ReadsTo}
use Rattle.radclock_run.specs.Asks.{takes_few}
use Rattle.report_text.specs.Text.{fault_text}
use Rattle.radclock_run.specs.Statuses.{fault_of, status_of}
use Rattle.radclock_run.specs.Endings.{EndsWith, Finishes}
use Rattle.radclock_run.specs.Runs.{ByLines, Ran}
use Rattle.stamp_text.specs.declared.lines.Head.{Head}
use Rattle.radclock_input.specs.declared.files.ItemLine.{ItemLine}
use Rattle.radclock_run.proofs.Running.{run-finished, run-made, run-no-line, run-short, run-stopped, run-summarised}
use Rattle.radclock_run.proofs.run.run.Goals as goal

pub returns-in-Ok-Some-Make : goal.returns-in-Ok-Some-Make
returns-in-Ok-Some-Make g c =
    let line = c.in-Ok-Some-Make in
    let is = sym line.ensures.value ∙ line.field-0-is ∙ ap (λ x. Some x) line.field-0-0-is in
    subst (λ (asked : Option Command). Ran g.S.Source.pull_gives (ByLines g.K.Sink.push_gives) asked c.args.source.now c.args.source.now
    c.args.sink.now c.make.new.sink c.args.desk.now c.args.desk.now c.make.result) (sym is)
    (run-made g.S.Source.pull_gives g.K.Sink.written g.K.Sink.faults g.K.Sink.push_gives line.number line.count _ _ _ _ _ c.make.ensures)

pub returns-in-Ok-Some-Run : goal.returns-in-Ok-Some-Run
returns-in-Ok-Some-Run g c =
    let line = c.in-Ok-Some-Run in
    let is = sym line.ensures.value ∙ line.field-0-is ∙ ap (λ x. Some x) line.field-0-0-is in
    subst (λ (asked : Option Command). Ran g.S.Source.pull_gives (ByLines g.K.Sink.push_gives) asked c.args.source.now c.args.source.now
    c.args.sink.now c.run_made.new.sink c.args.desk.now c.run_made.new.desk c.run_made.result) (sym is)
    (run-summarised g.S.Source.pull_gives g.K.Sink.written g.K.Sink.faults g.K.Sink.push_gives
    (record { number = line.number; count = line.count; ideal = line.ideal }) _ _ _ _ _ _ c.requires.fresh.journal c.run_made.ensures)

pub returns-in-Ok-None : goal.returns-in-Ok-None
returns-in-Ok-None g c =
    let is = sym c.in-Ok-None.ensures.value ∙ c.in-Ok-None.field-0-is in
    subst (λ (asked : Option Command). Ran g.S.Source.pull_gives (ByLines g.K.Sink.push_gives) asked c.args.source.now c.args.source.now
    c.args.sink.now c.refuse.new.sink c.args.desk.now c.args.desk.now c.refuse.result) (sym is)
    (run-no-line g.S.Source.pull_gives g.K.Sink.written g.K.Sink.faults g.K.Sink.push_gives _ _ _ _ _ c.refuse.ensures)

pub returns-in-Err : goal.returns-in-Err
returns-in-Err g c = run-short g.S.Source.pull_gives g.K.Sink.written g.K.Sink.faults g.K.Sink.push_gives _ _ _ _ _ _ c.requires.fresh.journal
    c.refuse-in-Err.ensures

pub returns-in-Ok : goal.returns-in-Ok
returns-in-Ok g c =
    let line = c.in-Ok-Some-Report in
    let asked = line.asked in
    let is = sym line.ensures.value ∙ line.field-0-is ∙ ap (λ x. Some x) line.field-0-0-is in
    let file = c.in-Ok.file in
    let ok = c.in-Ok.ensures.ok in
    let few : c.takes_few.result ≡ takes_few asked = c.takes_few.ensures in
    let finishes : Head → List ItemLine → Type 0 = λ head items. Finishes g.K.Sink.written g.K.Sink.faults g.K.Sink.push_gives asked head items
    c.args.sink.now c.args.desk.now c.finish.result c.finish.new.sink c.finish.new.desk in
    let told : finishes (head_of_file ok.text) (items_of_file ok.text) = subst (finishes (head_of_file ok.text)) ok.gave.items
    (subst (λ head. finishes head file.items.items) ok.gave.head c.finish.ensures) in
    let reads = subst (λ few. ReadsTo g.S.Source.pull_gives (stop_so_far few) (stop_of_file few) c.args.source.now ok.text None c.read_file.new.source) few
    ok.reads in
    let none = subst (λ few. stop_of_file few ok.text ≡ None) few ok.sound in
    subst (λ (asked : Option Command). Ran g.S.Source.pull_gives (ByLines g.K.Sink.push_gives) asked c.args.source.now c.read_file.new.source
    c.args.sink.now c.finish.new.sink c.args.desk.now c.finish.new.desk c.finish.result) (sym is)
    (run-finished g.S.Source.pull_gives g.K.Sink.written g.K.Sink.faults g.K.Sink.push_gives asked ok.text _ _ _ _ _ _ _ c.requires.fresh.journal reads none told)

pub returns-in-Err-read_file : goal.returns-in-Err-read_file
returns-in-Err-read_file g c =
    let line = c.in-Ok-Some-Report in
    let is = sym line.ensures.value ∙ line.field-0-is ∙ ap (λ x. Some x) line.field-0-0-is in
    let s = c.in-Err-read_file.stop in
    let err = c.in-Err-read_file.ensures.err in
    let reads = subst (λ few. ReadsTo g.S.Source.pull_gives (stop_so_far few) (stop_of_file few) c.args.source.now err.text (Some s)
    c.read_file.new.source) c.takes_few.ensures err.reads in
    let ends : EndsWith g.K.Sink.written g.K.Sink.faults g.K.Sink.push_gives c.args.sink.now (fault_text (fault_of s) ∷ []) (status_of s)
    c.refuse-in-Err-read_file.result c.refuse-in-Err-read_file.new.sink =
    rw (← c.status_of.ensures, ← c.fault_of.ensures) c.refuse-in-Err-read_file.ensures in
    subst (λ (asked : Option Command). Ran g.S.Source.pull_gives (ByLines g.K.Sink.push_gives) asked c.args.source.now c.read_file.new.source
    c.args.sink.now c.refuse-in-Err-read_file.new.sink c.args.desk.now c.args.desk.now c.refuse-in-Err-read_file.result) (sym is)
    (run-stopped g.S.Source.pull_gives g.K.Sink.written g.K.Sink.faults g.K.Sink.push_gives line.asked s err.text _ _ _ _ _ _ c.requires.fresh.journal
    reads err.taken ends)

pub returns-in-Ok-Some-Capture : goal.returns-in-Ok-Some-Capture
returns-in-Ok-Some-Capture g c =
    let line = c.in-Ok-Some-Capture in
    let is = sym line.ensures.value ∙ line.field-0-is ∙ ap (λ x. Some x) line.field-0-0-is in
    subst (λ (asked : Option Command). Ran g.S.Source.pull_gives (ByLines g.K.Sink.push_gives) asked c.args.source.now c.convert.new.source
    c.args.sink.now c.convert.new.sink c.args.desk.now c.args.desk.now c.convert.result) (sym is) (c.convert.ensures c.args.desk.now)
