use Rattle.std.proofs.Common.{codes, decimal}
use Rattle.report_text.specs.Text.{time_text, kind_name, reading_part}
use Rattle.report_text.proofs.LineLaws.{reading_made}
use Rattle.report_text.proofs.entries.add_reading_part.Goals as goal

pub returns-clause-text : goal.returns-clause-text
unfolding reading_part
returns-clause-text c =
    let r = c.args.r.now in
    rw (
      c.word-2.ensures,
      c.kind_name.ensures.name,
      c.column-2.ensures.text,
      c.column.ensures.text,
      c.time_column.ensures.text,
      c.word.ensures,
      c.wide.ensures.text,
    )
    (reading_made (codes " ") (kind_name r.kind) (decimal r.tick) (decimal r.count) (time_text r.time) (decimal r.bound) c.args.line.now)
