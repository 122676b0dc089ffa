use Rattle.std.proofs.Common.{codes, decimal}
use Rattle.report_text.specs.Text.{time_text, marks_text, how_name, clock_part}
use Rattle.report_text.proofs.LineLaws.{clock_made}
use Rattle.report_text.proofs.lines.add_clock_part.Goals as goal

pub returns-clause-text : goal.returns-clause-text
unfolding clock_part
returns-clause-text c =
    let h = c.args.h.now in
    rw (
      c.add_how.ensures.text,
      c.column-2.ensures.text,
      c.time_column-3.ensures.text,
      c.time_column-2.ensures.text,
      c.column.ensures.text,
      c.time_column.ensures.text,
      c.word.ensures,
      c.add_marks.ensures.text,
    )
    (clock_made (codes " ") (how_name h.how) (decimal h.count) (time_text h.time) (time_text h.lerp) (decimal h.period_lerp) (time_text h.boot)
    (marks_text h.kstatus) c.args.line.now)
