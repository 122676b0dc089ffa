use Rattle.std.proofs.Common.{◌≡◌, ◌∙◌, codes, decimal, subst}
use Rattle.report_text.specs.Text.{written_text}
use Rattle.capture_text.specs.Text.{exchange_row, exchange_text}
use Rattle.capture_text.proofs.LineLaws.{exchange_made}
use Rattle.capture_text.proofs.lines.exchange_line.Goals as goal

pub returns : goal.returns
unfolding exchange_row exchange_text
returns g c =
    let e = c.args.e.now in
    let made : c.number.new.self ≡ exchange_text e =
    rw (
      c.number.ensures.text,
      c.word-3.ensures,
      c.written-2.ensures.text,
      c.word-2.ensures,
      c.written.ensures.text,
      c.column-3.ensures.text,
      c.column-2.ensures.text,
      c.column.ensures.text,
      c.word.ensures,
      c.clear.ensures,
      c.from-2.ensures,
      c.from.ensures,
    )
    (exchange_made (codes " ") (decimal e.ta) (written_text e.tb) (written_text e.te) (decimal e.tf) (decimal e.stratum) (decimal e.leap) (codes "\n")) in
    subst (λ text. g.K.Sink.push_gives c.args.sink.now text c.push.result c.push.new.self) (c.bytes.ensures ∙ made) c.push.ensures.once
