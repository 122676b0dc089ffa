use Rattle.std.proofs.Common.{◌≡◌, codes, decimal, ◌∙◌, subst}
use Rattle.report_text.specs.Text.{count_text, end_text}
use Rattle.report_text.proofs.LineLaws.{end_made}
use Rattle.report_text.proofs.lines.end_line.Goals as goal

pub returns : goal.returns
unfolding end_text
returns g c =
    let e = c.args.e.now in
    let made : c.word-3.new.self ≡ end_text e =
    rw (
      c.word-3.ensures,
      c.number-2.ensures.text,
      c.word-2.ensures,
      c.number.ensures.text,
      c.count-3.ensures.text,
      c.count-2.ensures.text,
      c.count.ensures.text,
      c.word.ensures,
      c.new-line.ensures,
    )
    (end_made (codes "end accepted ") (codes " refused ") (decimal e.accepted) (decimal e.refused) (count_text (codes " ticks ") e.ticks)
    (count_text (codes " entries ") e.entries) (count_text (codes " fired ") e.fired) (codes "\n")) in
    subst (λ text. g.K.Sink.push_gives c.args.sink.now text c.push.result c.push.new.self) (c.bytes.ensures ∙ made) c.push.ensures.once
