use Rattle.std.proofs.Common.{ap, ◌∙◌}
use Rattle.stamp_text.specs.Past.{accepted_items, accepted_of}
use Rattle.stamp_text.specs.declared.lines.Line.TheVariants as gives
use Rattle.stamp_text.proofs.PastLaws.{item-line, item-one}
use Rattle.stamp_text.proofs.laws.accepted_items_grow.Goals as goal

pub returns : goal.returns
returns c = record {
  item = λ freq lines line x is. item-line freq lines line ∙ ap (accepted_items freq (accepted_of freq lines)) (item-one line x is);
  head = λ freq lines h. item-line freq lines (gives.Head h);
}
