use Rattle.std.proofs.Common.{length, decimal, ap, arith, length-append}
use Rattle.report_text.proofs.Digits.{few_digits}
use Rattle.report_text.proofs.line.LineText.nanos.Goals as goal

pub leading_zeros-requires : goal.leading_zeros-requires
leading_zeros-requires c =
    omega (
      arith,
      few_digits c.from.result (omega (arith, c.from.ensures, c.requires.below)),
      c.len.ensures,
      c.len-behind.ensures,
      ap length c.number.ensures.text,
      length-append (decimal c.from.result) c.args.self.now,
    )
