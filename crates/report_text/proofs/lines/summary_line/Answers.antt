use Rattle.std.proofs.Common.{◌≡◌, codes, decimal, ◌∙◌, subst}
use Rattle.report_text.specs.Text.{summary_text}
use Rattle.report_text.proofs.LineLaws.{summary_made}
use Rattle.report_text.proofs.lines.summary_line.Goals as goal

pub returns : goal.returns
unfolding summary_text
returns g c =
    let s = c.args.s.now in
    let made : c.word-6.new.self ≡ summary_text c.args.s.now =
    rw (
      c.word-6.ensures,
      c.number-5.ensures.text,
      c.word-5.ensures,
      c.number-4.ensures.text,
      c.word-4.ensures,
      c.number-3.ensures.text,
      c.word-3.ensures,
      c.number-2.ensures.text,
      c.word-2.ensures,
      c.number.ensures.text,
      c.word.ensures,
      c.new-line.ensures,
    )
    (summary_made (codes "summary accepted ") (codes " refused ") (codes " shifts ") (codes " predicted ") (codes " local ") (decimal s.accepted)
    (decimal s.refused) (decimal s.shifts) (decimal s.predicted) (decimal s.local) (codes "\n")) in
    subst (λ text. g.K.Sink.push_gives c.args.sink.now text c.push.result c.push.new.self) (c.bytes.ensures ∙ made) c.push.ensures.once
