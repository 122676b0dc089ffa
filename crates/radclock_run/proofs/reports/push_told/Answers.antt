use Rattle.std.proofs.Common.{◌≡◌, ℕ, ◌+◌, ◌≤◌, ◌&&◌, List, [], ◌∷◌, ◌++◌, pos, refl, sym, ap, ◌∙◌, subst, arith, append_assoc, zero-add, is_ok, is_err, get_or, drop, length}
use Rattle.std.proofs.lemmas.Result.{err_from_is_err_and}
use Rattle.rad_io.specs.Pushes.{Wrote, Broke}
use Rattle.rad_io.proofs.Chains.{wrote_nothing, wrote_more, broke}
use Rattle.stamp_text.specs.Accepted.{accepted_with}
use Rattle.stamp_text.specs.Past.{test_of}
use Rattle.stamp_text.specs.declared.lines.Item.TheVariants as item
use Rattle.report_text.specs.Text.{head_text}
use Rattle.radclock_input.specs.declared.files.ItemLine.{ItemLine}
use Rattle.radclock_run.specs.Reports.{outcomes, is_stamp, is_taken}
use Rattle.radclock_run.specs.Tellings.{told, told_of, told_text}
use Rattle.radclock_run.specs.Tallies.{CountsAll}
use Rattle.radclock_run.proofs.Progress.{answer_to, lines-next, count-next, counted, one-answer, lines-done, count-done}
use Rattle.radclock_run.proofs.reports.push_told.Goals as goal

-- the item that stands for none
none : ItemLine
none = record {
  line = 0;
  item = item.Stamp (record {
    ta = 0;
    tb = record { sec = pos 0; frac = 0 };
    te = record { sec = pos 0; frac = 0 };
    tf = 0;
    stratum = 0;
    leap = 0;
  });
}

pub returns-in_err-head_line-clause-lines : goal.returns-in_err-head_line-clause-lines
returns-in_err-head_line-clause-lines g c =
    let sink = g.met.K.Sink in
    let once = c.in_err-head_line.ensures in
    let p = err_from_is_err_and c.from_residual.result c.from_residual.ensures.1 in
    rw p.1 (broke _ _ _ _ _ _ [] (head_text c.args.head.now) _ (sink.appends _ _ _ _ once) (sink.cause _ _ _ _ once) (wrote_nothing _ _ _ _) once)

pub loop-x-init : goal.loop-x-init
loop-x-init g c =
    let sink = g.met.K.Sink in
    let once = c.in_ok-head_line.ensures in
    let head = head_text c.args.head.now in
    record {
      few = omega arith;
      progress = record {
        front = head ∷ [];
        accepted = [];
        at = record { stood = c.requires.fresh; count = refl; seen = c.new.ensures };
        wrote = wrote_more _ _ _ _ _ _ [] head (sink.appends _ _ _ _ once) (sink.cause _ _ _ _ once) (wrote_nothing _ _ _ _) once;
        lines = refl;
        taken = sym (zero-add _);
        left_out = sym (zero-add _);
      };
    }

pub returns-in_err-push_item-clause-lines : goal.returns-in_err-push_item-clause-lines
unfolding none
returns-in_err-push_item-clause-lines g c =
    let sink = g.met.K.Sink in
    let pr = c.loop-x.invariant.progress in
    let once = c.in_err-push_item.ensures.line pr.accepted pr.at in
    let p = err_from_is_err_and c.from_residual-in_err-push_item.result c.from_residual-in_err-push_item.ensures.1 in
    let freq = c.args.file.now.head.freq in
    let says = g.T.Telling.says c.args.file.now.head in
    let items = c.deref-x-items.result.now in
    let i = c.loop-x.x-index in
    let x = get_or items i none in
    let answer = answer_to freq pr.accepted x in
    let line = told_of says pr.accepted x.line x.item answer in
    let later = accepted_with pr.accepted x.item answer in
    let rest = told says later (outcomes freq later (drop (i + 1) items)) in
    let next : told_text c.args.head.now says (outcomes freq [] items) ≡ pr.front ++ (line ∷ rest) = pr.lines
    ∙ ap (λ (ls : List (List ℕ)). pr.front ++ ls) (lines-next says freq pr.accepted items i none c.loop-x-test.true) in
    let stopped = broke _ _ _ c.args.sink.now c.loop-x.sink c.push_item.new.sink pr.front line rest (sink.appends _ _ _ _ once)
    (sink.cause _ _ _ _ once) pr.wrote once in
    let here : Broke g.K.Sink.written g.K.Sink.faults g.K.Sink.push_gives c.args.sink.now (told_text c.args.head.now says (outcomes freq [] items))
    c.push_item.new.sink = subst (λ ls. Broke g.K.Sink.written g.K.Sink.faults g.K.Sink.push_gives c.args.sink.now ls c.push_item.new.sink)
    (sym next) stopped in
    let told : Broke g.K.Sink.written g.K.Sink.faults g.K.Sink.push_gives c.args.sink.now
    (told_text c.args.head.now says (outcomes freq [] c.args.file.now.items.items)) c.push_item.new.sink =
    subst (λ xs. Broke g.K.Sink.written g.K.Sink.faults g.K.Sink.push_gives c.args.sink.now
    (told_text c.args.head.now says (outcomes freq [] xs)) c.push_item.new.sink) c.deref-x-items.ensures.value here in
    rw p.1 told

pub loop-x-preserved : goal.loop-x-preserved
unfolding none
loop-x-preserved g c =
    let sink = g.met.K.Sink in
    let pr = c.loop-x.invariant.progress in
    let once = c.in_ok-push_item.ensures.line pr.accepted pr.at in
    let freq = c.args.file.now.head.freq in
    let says = g.T.Telling.says c.args.file.now.head in
    let items = c.deref-x-items.result.now in
    let i = c.loop-x.x-index in
    let x = get_or items i none in
    let answer = answer_to freq pr.accepted x in
    let line = told_of says pr.accepted x.line x.item answer in
    let later = accepted_with pr.accepted x.item answer in
    let rest = told says later (outcomes freq later (drop (i + 1) items)) in
    let counts = c.in_ok-push_item.ensures.counts in
    let was = test_of freq c.loop-x.tally.past x.item in
    let same : answer ≡ was = ap (λ seen. test_of freq seen x.item) (sym pr.at.seen) in
    record {
      few = omega (arith, one-answer x.item was, counts.accepted, counts.refused, c.loop-x.invariant.few);
      progress = record {
        front = pr.front ++ line ∷ [];
        accepted = later;
        at = c.in_ok-push_item.ensures.next pr.accepted pr.at;
        wrote = wrote_more _ _ _ c.args.sink.now c.loop-x.sink c.push_item.new.sink pr.front line (sink.appends _ _ _ _ once)
            (sink.cause _ _ _ _ once) pr.wrote once;
        lines = pr.lines ∙ ap (λ (ls : List (List ℕ)). pr.front ++ ls) (lines-next says freq pr.accepted items i none c.loop-x-test.true)
            ∙ sym (append_assoc pr.front (line ∷ []) rest);
        taken = counted _ _ _ _ _ _ _ (ap (λ r. is_stamp x.item && is_ok r) same) pr.taken
            (count-next is_taken freq pr.accepted items i none c.loop-x-test.true) counts.accepted;
        left_out = counted _ _ _ _ _ _ _ (ap is_err same) pr.left_out
            (count-next (λ o. is_err o.answer) freq pr.accepted items i none c.loop-x-test.true) counts.refused;
      };
    }

pub returns-clause-lines : goal.returns-clause-lines
returns-clause-lines g c =
    let pr = c.loop-x.invariant.progress in
    let freq = c.args.file.now.head.freq in
    let says = g.T.Telling.says c.args.file.now.head in
    let items = c.deref-x-items.result.now in
    let ended : length items ≤ c.loop-x.x-index = omega arith in
    let whole : pr.front ≡ told_text c.args.head.now says (outcomes freq [] items) = lines-done says freq pr.accepted items c.loop-x.x-index _
    pr.front ended pr.lines in
    let here : Wrote g.K.Sink.written g.K.Sink.faults g.K.Sink.push_gives c.args.sink.now (told_text c.args.head.now says (outcomes freq [] items))
    c.loop-x.sink = subst (λ ls. Wrote g.K.Sink.written g.K.Sink.faults g.K.Sink.push_gives c.args.sink.now ls c.loop-x.sink) whole pr.wrote in
    subst (λ xs. Wrote g.K.Sink.written g.K.Sink.faults g.K.Sink.push_gives c.args.sink.now (told_text c.args.head.now says (outcomes freq [] xs))
    c.loop-x.sink) c.deref-x-items.ensures.value here

pub returns-clause-counts : goal.returns-clause-counts
returns-clause-counts g c =
    let pr = c.loop-x.invariant.progress in
    let freq = c.args.file.now.head.freq in
    let items = c.deref-x-items.result.now in
    let ended : length items ≤ c.loop-x.x-index = omega arith in
    let accepted = count-done is_taken freq pr.accepted items c.loop-x.x-index _ c.loop-x.tally.accepted ended pr.taken in
    let refused = count-done (λ o. is_err o.answer) freq pr.accepted items c.loop-x.x-index _ c.loop-x.tally.refused ended pr.left_out in
    let here : CountsAll c.loop-x.tally (outcomes freq [] items) = record { accepted = accepted; refused = refused } in
    subst (λ xs. CountsAll c.loop-x.tally (outcomes freq [] xs)) c.deref-x-items.ensures.value here
