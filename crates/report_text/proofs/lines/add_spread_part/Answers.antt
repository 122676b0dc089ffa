use Rattle.std.proofs.Common.{codes, decimal}
use Rattle.report_text.specs.Text.{letter_text, spread_part}
use Rattle.report_text.proofs.LineLaws.{spread_made}
use Rattle.report_text.proofs.lines.add_spread_part.Goals as goal

pub returns-clause-text : goal.returns-clause-text
unfolding spread_part
returns-clause-text c =
    let f = c.args.f.now in
    rw (
      c.wide.ensures.text,
      c.column-2.ensures.text,
      c.column.ensures.text,
      c.word.ensures,
      c.letter-3.ensures.text,
      c.letter-2.ensures.text,
      c.letter.ensures.text,
    )
    (spread_made (codes " ") (decimal f.spread) (decimal f.rate.low) (decimal f.rate.high) (letter_text (codes "S") f.shifted)
    (letter_text (codes "L") f.local) (letter_text (codes "P") f.predicted) c.args.line.now)
