use Rattle.std.proofs.Common.{codes, decimal}
use Rattle.report_text.specs.Text.{time_text, marks_text, time_part}
use Rattle.report_text.proofs.LineLaws.{estimate_made}
use Rattle.report_text.proofs.lines.add_time_part.Goals as goal

pub returns-clause-text : goal.returns-clause-text
unfolding time_part
returns-clause-text c =
    let e = c.args.e.now in
    rw (
      c.number.ensures.text,
      c.time_column.ensures.text,
      c.column-3.ensures.text,
      c.column-2.ensures.text,
      c.from-2.ensures,
      c.column.ensures.text,
      c.from.ensures,
      c.word.ensures,
      c.add_marks.ensures.text,
    )
    (estimate_made (codes " ") (decimal e.update_ffcount) (time_text e.update_time) (decimal e.period) (decimal e.errb_abs) (decimal e.errb_rate)
    (marks_text e.status) c.args.line.now)
