use Rattle.stamp_text.specs.declared.lines.Line.TheVariants as gives
use Rattle.stamp_text.proofs.AcceptedLaws.{accepted-line}
use Rattle.stamp_text.proofs.laws.accepted_stamps_grow.Goals as goal

pub returns : goal.returns
returns c = record {
  stamp = λ freq n lines s. accepted-line freq lines (gives.Stamp n s);
  head = λ freq lines h. accepted-line freq lines (gives.Head h);
}
