use Rattle.std.proofs.Common.{◌≡◌, ℕ, suc, ◌<◌, [], ◌∷◌, Ok, Err, sym, ap, ◌∙◌, subst, arith}
use Rattle.std.proofs.lemmas.Result.{err_from_is_err_and}
use Rattle.rad_io.specs.Pushes.{Wrote}
use Rattle.rad_io.proofs.Chains.{wrote_nothing, wrote_more, broke}
use Rattle.stamp_maker.specs.MadeStamps.{made}
use Rattle.stamp_maker.specs.declared.made.Made.{Made}
use Rattle.report_text.specs.Text.{made_text}
use Rattle.report_text.specs.MadeFiles.{file_lines_of}
use Rattle.radclock_run.proofs.Filing.{Filing, filing-breaks, filing-done, filing-more}
use Rattle.radclock_run.proofs.make.push_made.Goals as goal

pub returns-in_err-push : goal.returns-in_err-push
unfolding file_lines_of
returns-in_err-push g c =
    let sink = g.met.K.Sink in
    let once = c.in_err-push.ensures.once in
    let p = err_from_is_err_and c.from_residual.result c.from_residual.ensures.1 in
    rw p.1 (broke _ _ _ _ _ _ [] _ _ (sink.appends _ _ _ _ once) (sink.cause _ _ _ _ once) (wrote_nothing _ _ _ _) once)

pub returns-in_err-push-2 : goal.returns-in_err-push-2
unfolding file_lines_of
returns-in_err-push-2 g c =
    let sink = g.met.K.Sink in
    let once = c.in_ok-push.ensures.once in
    let twice = c.in_err-push-2.ensures.once in
    let p = err_from_is_err_and c.from_residual-in_err-push-2.result c.from_residual-in_err-push-2.ensures.1 in
    rw p.1 (broke _ _ _ _ _ _ (_ ∷ []) _ _ (sink.appends _ _ _ _ twice) (sink.cause _ _ _ _ twice)
    (wrote_more _ _ _ _ _ _ [] _ (sink.appends _ _ _ _ once) (sink.cause _ _ _ _ once) (wrote_nothing _ _ _ _) once) twice)

pub loop-made-init : goal.loop-made-init
unfolding file_lines_of
loop-made-init g c =
    let sink = g.met.K.Sink in
    let once = c.in_ok-push.ensures.once in
    let twice = c.in_ok-push-2.ensures.once in
    let new = c.new-maker.ensures in
    let head = wrote_more _ _ _ _ _ _ (_ ∷ []) _ (sink.appends _ _ _ _ twice) (sink.cause _ _ _ _ twice)
    (wrote_more _ _ _ _ _ _ [] _ (sink.appends _ _ _ _ once) (sink.cause _ _ _ _ once) (wrote_nothing _ _ _ _) once) twice in
    let none : 0 ≡ c.new-maker.result.made = sym (ap (λ m. m.made) new) in
    record {
      of = (ap (λ m. m.number) new, ap (λ m. m.count) new);
      within = omega (arith, none);
      filing = subst (λ (i : ℕ). Filing g.K.Sink.written g.K.Sink.faults g.K.Sink.push_gives c.args.number c.args.count i c.args.sink.now
          c.push-2.new.self) none head;
    }

pub loop-made-preserved : goal.loop-made-preserved
loop-made-preserved g c =
    let sink = g.met.K.Sink in
    let inv = c.loop-made.invariant in
    let i = c.loop-made.maker.made in
    let told = c.in-Some.ensures.made in
    let is : c.in-Some.made ≡ made c.args.number c.args.count i = told ∙ ap (λ (n : ℕ). made n c.loop-made.maker.count i) inv.of.0
    ∙ ap (λ (n : ℕ). made c.args.number n i) inv.of.1 in
    let once = subst (λ (m : Made). g.K.Sink.push_gives c.loop-made.sink (made_text m) (Ok tt) c.made_line.new.sink) is c.in_ok-made_line.ensures in
    let next : suc i ≡ c.next.new.self.made = omega (arith, ap (λ m. m.made) c.in-Some.ensures.counted) in
    let less : i < c.args.count = omega (arith, c.in-Some.ensures.left, inv.of.1) in
    record {
      of = (ap (λ m. m.number) c.in-Some.ensures.counted ∙ inv.of.0, ap (λ m. m.count) c.in-Some.ensures.counted ∙ inv.of.1);
      within = omega (arith, less, next);
      filing = subst (λ (n : ℕ). Filing g.K.Sink.written g.K.Sink.faults g.K.Sink.push_gives c.args.number c.args.count n c.args.sink.now
          c.made_line.new.sink) next
          (filing-more _ _ _ c.args.number c.args.count i c.args.sink.now c.loop-made.sink c.made_line.new.sink less (sink.appends _ _ _ _ once)
          (sink.cause _ _ _ _ once) inv.filing once);
    }

pub returns-in_err-made_line : goal.returns-in_err-made_line
returns-in_err-made_line g c =
    let sink = g.met.K.Sink in
    let inv = c.loop-made.invariant in
    let i = c.loop-made.maker.made in
    let told = c.in-Some.ensures.made in
    let is : c.in-Some.made ≡ made c.args.number c.args.count i = told ∙ ap (λ (n : ℕ). made n c.loop-made.maker.count i) inv.of.0
    ∙ ap (λ (n : ℕ). made c.args.number n i) inv.of.1 in
    let once = subst (λ (m : Made). g.K.Sink.push_gives c.loop-made.sink (made_text m) (Err (record {})) c.made_line.new.sink) is c.in_err-made_line.ensures in
    let p = err_from_is_err_and c.from_residual-in_err-made_line.result c.from_residual-in_err-made_line.ensures.1 in
    rw p.1 (filing-breaks _ _ _ c.args.number c.args.count i c.args.sink.now c.loop-made.sink c.made_line.new.sink
    (omega (arith, c.in-Some.ensures.left, inv.of.1)) (sink.appends _ _ _ _ once) (sink.cause _ _ _ _ once) inv.filing once)

pub returns : goal.returns
returns g c =
    let inv = c.loop-made.invariant in
    let ended : c.loop-made.maker.made ≡ c.args.count = c.in_default.ensures.made ∙ inv.of.1 in
    subst (λ ls. Wrote g.K.Sink.written g.K.Sink.faults g.K.Sink.push_gives c.args.sink.now ls c.loop-made.sink)
    (filing-done c.args.number c.args.count c.loop-made.maker.made ended) inv.filing
