use Rattle.std.proofs.Common.{◌-◌, ℕ, List, ◌++◌, length, ap, sym, ◌∙◌, take, drop, subst, arith, length-take, length-drop}
use Rattle.std.proofs.lemmas.List.{take_all}
use Rattle.radclock_input.specs.Inputs.{stop_within}
use Rattle.radclock_input.specs.Readings.{Reads}
use Rattle.radclock_input.proofs.Gathering.{IsInputStop-weaker}
use Rattle.radclock_input.proofs.Pieces.{more_read, all_read, as_long}
use Rattle.radclock_input.proofs.stamps.take_piece.Goals as goal

pub take_line-requires : goal.take_line-requires
take_line-requires c =
    let at = c.requires in
    let piece = c.args.piece.now in
    let i = c.loop-read.read in
    record {
      limited = at.limited;
      text = at.text ++ take i piece;
      short = omega (arith, at.short, as_long at.text piece i c.loop-read.invariant.within);
      reads = c.loop-read.invariant.reads at.limited at.text at.short at.reads;
    }

pub loop-read-preserved : goal.loop-read-preserved
loop-read-preserved c =
    let piece = c.args.piece.now in
    let i = c.loop-read.read in
    let n = c.in-Ok.count in
    let was = c.loop-read.invariant in
    record {
      within = omega (arith, was.within, c.in-Ok.ensures.within, length-take (length piece - i) (drop i piece), length-drop i piece);
      reads = λ limited text short at. subst (Reads limited c.take_line.new.feed c.take_line.new.file c.take_line.new.quota)
          (more_read text piece i n) (c.in-Ok.ensures.ok limited (text ++ take i piece) (omega (arith, as_long text piece i was.within))
          (was.reads limited text short at));
    }

pub returns-clause-ok : goal.returns-clause-ok
returns-clause-ok c limited text short was =
    let piece = c.args.piece.now in
    subst (Reads limited c.loop-read.feed c.loop-read.file c.loop-read.quota)
    (ap (λ (bs : List ℕ). text ++ bs) (take_all c.loop-read.read piece (omega arith))) (c.loop-read.invariant.reads limited text short was)

pub returns-in-Err-clause-err : goal.returns-in-Err-clause-err
returns-in-Err-clause-err c =
    let piece = c.args.piece.now in
    let i = c.loop-read.read in
    let s = c.in-Err.stop in
    IsInputStop-weaker s _ _ (λ stops limited text short was. ap (stop_within limited) (sym (all_read text piece i))
    ∙ stops limited (text ++ take i piece) (omega (arith, as_long text piece i c.loop-read.invariant.within))
    (c.loop-read.invariant.reads limited text short was)) c.in-Err.ensures.err
