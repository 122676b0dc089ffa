use Rattle.std.proofs.Common.{◌≡◌, ◌-◌, codes, decimal, ◌∙◌, subst}
use Rattle.report_text.specs.Text.{time_text, server_part, stamp_text}
use Rattle.report_text.proofs.LineLaws.{stamp_made}
use Rattle.report_text.proofs.lines.stamp_line.Goals as goal

pub returns : goal.returns
unfolding stamp_text
returns g c =
    let s = c.args.s.now in
    let made : c.word-2.new.self ≡ stamp_text c.args.i c.args.s.now c.args.version =
    rw (
      c.word-2.ensures,
      c.number.ensures.text,
      c.column-3.ensures.text,
      c.time_column-2.ensures.text,
      c.time_column.ensures.text,
      c.column-2.ensures.text,
      c.column.ensures.text,
      c.add_server_part.ensures.text,
      c.word.ensures,
      c.clear.ensures,
    )
    (stamp_made (codes " ") (codes "stamp ") (decimal c.args.i) (decimal s.ta) (time_text s.tb) (time_text s.te) (decimal s.tf)
    (decimal (s.tf - s.ta)) (server_part c.args.version s) (codes "\n")) in
    subst (λ text. g.K.Sink.push_gives c.args.sink.now text c.push.result c.push.new.self) (c.bytes.ensures ∙ made) c.push.ensures.once
