use Rattle.std.proofs.Common.{◌≡◌, codes, decimal, ◌∙◌, subst}
use Rattle.report_text.specs.Text.{flag_text, base_text}
use Rattle.report_text.proofs.LineLaws.{base_made}
use Rattle.report_text.proofs.lines.base_line.Goals as goal

pub returns : goal.returns
unfolding base_text
returns g c =
    let b = c.args.b.now in
    let made : c.word-3.new.self ≡ base_text c.args.i c.args.rtt c.args.b.now =
    rw (
      c.word-3.ensures,
      c.number.ensures.text,
      c.column-3.ensures.text,
      c.column-2.ensures.text,
      c.column.ensures.text,
      c.word-2.ensures,
      c.flag.ensures.text,
      c.word.ensures,
      c.clear.ensures,
    )
    (base_made (codes " ") (codes "base ") (decimal c.args.i) (decimal c.args.rtt) (decimal b.base) (decimal b.start) (flag_text b.shifted) (codes "\n")) in
    subst (λ text. g.K.Sink.push_gives c.args.sink.now text c.push.result c.push.new.self) (c.bytes.ensures ∙ made) c.push.ensures.once
