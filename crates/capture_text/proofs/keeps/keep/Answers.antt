use Rattle.std.proofs.Common.{[], ◌∷◌, ◌++◌, refl, sym, subst, ◌∙◌, arith, append-nil, add-zero}
use Rattle.ntp_capture.specs.Matches.{IsGotInRange}
use Rattle.ntp_capture.specs.declared.exchanges.Got.TheVariants as got
use Rattle.ntp_capture.specs.declared.pieces.Piece.{Piece}
use Rattle.capture_text.specs.Inputs.{records_in}
use Rattle.capture_text.specs.Readings.{Gathers, PassesLimit}
use Rattle.capture_text.specs.declared.inputs.CaptureFile.{CaptureFile}
use Rattle.capture_text.specs.declared.inputs.CaptureStop.TheVariants as stop
use Rattle.capture_text.proofs.GatherLaws.{gathers-freq, gathers-record, passes-limit, few-records}
use Rattle.capture_text.proofs.Pieces.{on-ok}
use Rattle.capture_text.proofs.keeps.keep.Goals as goal

pub returns-in-Freq-clause-ok : goal.returns-in-Freq-clause-ok
returns-in-Freq-clause-ok c ps short was =
    let new : CaptureFile = record c.args.file.now { freq = c.in-Freq.freq } in
    subst (λ (p : Piece). Gathers new c.args.matcher.now (ps ++ p ∷ [])) (sym c.in-Freq.is) (gathers-freq c.args.file.now new c.args.matcher.now ps c.in-Freq.freq was refl)

pub returns-in-Nothing-clause-ok : goal.returns-in-Nothing-clause-ok
returns-in-Nothing-clause-ok c ps short was =
    let few = few-records ps in
    let new : CaptureFile = record c.args.file.now { records = c.saturating_add-file.result } in
    subst (λ (p : Piece). Gathers new c.give-got.new.self (ps ++ p ∷ [])) (sym c.in-Record.is)
    (gathers-record c.args.file.now new c.args.matcher.now c.give-got.new.self ps c.in-Record.record got.Nothing (subst IsGotInRange c.in-Nothing.is c.give-got.ensures.ranges) was
    (sym c.in-Nothing.is ∙ c.give-got.ensures.answer (records_in ps) was.matches) (c.give-got.ensures.after (records_in ps) was.matches)
    refl (omega (arith, was.records, c.saturating_add-file.ensures)) (sym (append-nil c.args.file.now.answers.items)) (sym (add-zero c.args.file.now.exchanges)) (omega (arith, was.exchanges, was.few)))

pub returns-in-Unused-clause-ok : goal.returns-in-Unused-clause-ok
returns-in-Unused-clause-ok c =
    on-ok _ _ _ _ _ c.push_answer.result c.push_answer.ensures.ok c.push_answer.ensures.freq c.push_answer.ensures.records c.push_answer.ensures.exchanges
    (λ items freq records exchanges ps short was.
    let few = few-records ps in
    subst (λ (p : Piece). Gathers c.push_answer.new.file c.give-got.new.self (ps ++ p ∷ [])) (sym c.in-Record.is)
    (gathers-record c.args.file.now c.push_answer.new.file c.args.matcher.now c.give-got.new.self ps c.in-Record.record got.Unused (subst IsGotInRange c.in-Unused.is c.give-got.ensures.ranges) was
    (sym c.in-Unused.is ∙ c.give-got.ensures.answer (records_in ps) was.matches) (c.give-got.ensures.after (records_in ps) was.matches)
    freq (omega (arith, records, was.records, c.saturating_add-file.ensures)) items (exchanges ∙ sym (add-zero c.args.file.now.exchanges)) (omega (arith, exchanges, was.exchanges, was.few))))

pub returns-else-file-ge-MOST_EXCHANGES-clause-ok : goal.returns-else-file-ge-MOST_EXCHANGES-clause-ok
returns-else-file-ge-MOST_EXCHANGES-clause-ok c =
    on-ok _ _ _ _ _ c.push_answer-in-Exchange.result c.push_answer-in-Exchange.ensures.ok c.push_answer-in-Exchange.ensures.freq c.push_answer-in-Exchange.ensures.records c.push_answer-in-Exchange.ensures.exchanges
    (λ items freq records exchanges ps short was.
    let few = few-records ps in
    subst (λ (p : Piece). Gathers c.push_answer-in-Exchange.new.file c.give-got.new.self (ps ++ p ∷ [])) (sym c.in-Record.is)
    (gathers-record c.args.file.now c.push_answer-in-Exchange.new.file c.args.matcher.now c.give-got.new.self ps c.in-Record.record (got.Exchange c.in-Exchange.exchange) (subst IsGotInRange c.in-Exchange.is c.give-got.ensures.ranges) was
    (sym c.in-Exchange.is ∙ c.give-got.ensures.answer (records_in ps) was.matches) (c.give-got.ensures.after (records_in ps) was.matches)
    freq (omega (arith, records, was.records, c.saturating_add-file.ensures)) items exchanges (omega (arith, exchanges, c.if-file-ge-MOST_EXCHANGES.false))))

pub returns-then-file-ge-MOST_EXCHANGES-clause-err : goal.returns-then-file-ge-MOST_EXCHANGES-clause-err
returns-then-file-ge-MOST_EXCHANGES-clause-err c ps short was =
    subst (λ (p : Piece). PassesLimit (stop.ManyExchanges) (ps ++ p ∷ [])) (sym c.in-Record.is)
    (passes-limit c.args.file.now c.args.matcher.now ps c.in-Record.record c.in-Exchange.exchange was (sym c.in-Exchange.is ∙ c.give-got.ensures.answer (records_in ps) was.matches) (omega (arith, c.if-file-ge-MOST_EXCHANGES.true)))
