use Rattle.stamp_text.proofs.PlaceLaws.{cut_pieces}
use Rattle.stamp_text.proofs.stamps.cut_piece.Goals as goal

pub returns : goal.returns
returns c = cut_pieces c.args.text.now c.cut_at.result c.cut_at.ensures.none c.cut_at.ensures.found c.cut_at.ensures.before c.cut_at.ensures.behind
