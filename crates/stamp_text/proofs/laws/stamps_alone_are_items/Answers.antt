use Rattle.std.proofs.Common.{[]}
use Rattle.stamp_text.proofs.PlainItems.{stamps-alone, stamps-are-items}
use Rattle.stamp_text.proofs.laws.stamps_alone_are_items.Goals as goal

pub returns : goal.returns
returns c = record {
  tested = λ freq stamps plain. stamps-alone freq [] stamps plain;
  accepted = stamps-are-items;
}
