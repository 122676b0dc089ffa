use Rattle.std.proofs.Common.{length, decimal, drop, ap, arith, length-append, length-drop}
use Rattle.report_text.proofs.Digits.{most_digits}
use Rattle.report_text.proofs.line.LineText.number.Goals as goal

pub write_digits-self-inside-requires : goal.write_digits-self-inside-requires
write_digits-self-inside-requires c =
    let most = most_digits c.args.n (omega (arith, c.ranges.n.fits)) in (
      omega (arith, most, c.requires, ap length c.self.view_is, length-drop c.self.inside.start c.self.inside.bytes, c.self.told),
      omega (arith, c.self.invariant, c.self.told),
    )

pub returns-clause-short : goal.returns-clause-short
returns-clause-short c =
    let most = most_digits c.args.n (omega (arith, c.ranges.n.fits)) in
    omega (
      arith,
      most,
      ap length c.self.view_is,
      ap length c.write_digits-self-inside.ensures.written,
      length-append (decimal c.args.n) (drop c.self.inside.start c.self.inside.bytes),
    )
