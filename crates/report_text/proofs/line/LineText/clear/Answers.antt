use Rattle.std.proofs.Common.{arith}
use Rattle.std.proofs.lemmas.List.{drop_all}
use Rattle.report_text.proofs.line.LineText.clear.Goals as goal

pub returns : goal.returns
returns c = drop_all 640 c.self.inside.bytes (omega (arith, c.self.told))
