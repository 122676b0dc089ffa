use Rattle.std.proofs.Common.{◌-◌, ℕ, List, ◌++◌, length, ap, sym, ◌∙◌, take, drop, subst, arith, length-take, length-drop}
use Rattle.std.proofs.lemmas.List.{take_all}
use Rattle.capture_text.specs.Inputs.{stop_within}
use Rattle.capture_text.specs.Readings.{Reads}
use Rattle.capture_text.proofs.Pieces.{more_read, all_read, as_long, stop-weaker}
use Rattle.capture_text.proofs.keeps.take_piece.Goals as goal

pub loop-read-preserved : goal.loop-read-preserved
loop-read-preserved c =
    let piece = c.args.piece.now in
    let i = c.loop-read.read in
    let n = c.in-Ok.count in
    let was = c.loop-read.invariant in
    record {
      within = omega (arith, was.within, c.in-Ok.ensures.within, length-take (length piece - i) (drop i piece), length-drop i piece);
      reads = λ text short at. subst (Reads c.take_unit.new.capture c.take_unit.new.matcher c.take_unit.new.file) (more_read text piece i n) (c.in-Ok.ensures.ok (text ++ take i piece) (omega (arith, as_long text piece i was.within)) (was.reads text short at));
    }

pub returns-clause-ok : goal.returns-clause-ok
returns-clause-ok c text short was =
    let piece = c.args.piece.now in
    subst (Reads c.loop-read.capture c.loop-read.matcher c.loop-read.file) (ap (λ (bs : List ℕ). text ++ bs) (take_all c.loop-read.read piece (omega arith))) (c.loop-read.invariant.reads text short was)

pub returns-in-Err-clause-err : goal.returns-in-Err-clause-err
returns-in-Err-clause-err c =
    let piece = c.args.piece.now in
    let i = c.loop-read.read in
    let s = c.in-Err.stop in
    stop-weaker s _ _ (λ stops text short was. ap stop_within (sym (all_read text piece i)) ∙ stops (text ++ take i piece) (omega (arith, as_long text piece i c.loop-read.invariant.within)) (c.loop-read.invariant.reads text short was)) c.in-Err.ensures.err
