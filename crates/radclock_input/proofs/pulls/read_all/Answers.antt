use Rattle.std.proofs.Common.{◌≡◌, ◌-◌, ◌<◌, ◌≤◌, ℕ, List, [], ◌++◌, length, take, Some, Ok, refl, sym, ap, ◌∙◌, subst, arith, length-append, length-take}
use Rattle.std.proofs.lemmas.Grind.{common_steps}
use Rattle.std.proofs.lemmas.Result.{IfOk-weaker, IfErr-weaker}
use Rattle.rad_io.specs.Pulls.{Pulled}
use Rattle.rad_io.proofs.Chains.{took_nothing, took_more}
use Rattle.report_text.specs.declared.lines.Limit.TheVariants as limit
use Rattle.radclock_input.specs.declared.stops.Stop.TheVariants as stop
use Rattle.radclock_input.specs.Pulled.{front_stop, HasRead, IsInputStop}
use Rattle.radclock_input.proofs.Pulling.{front_stop-short, piece-stops, bytes-stop, reaches-end, reads-whole, breaks-off, stops-in, stops-end, input_stop-short}
use Rattle.radclock_input.proofs.pulls.read_all.Goals as goal

-- the bytes of a piece that are read
front-of : (room : List ℕ) (n count : ℕ) → n ≤ count → take n room ≡ take n (take count room)
front-of room n count h = grind (arith, common_steps)

pub loop-count-init : goal.loop-count-init
loop-count-init g c = record {
  few = omega arith;
  sized = refl;
  underway = λ rules fresh. record { text = []; took = took_nothing _ _ _ _ _; bytes = refl; read = fresh };
}

pub take-requires : goal.take-requires
take-requires g c =
    let u = c.loop-count.invariant.underway c.requires.fresh.0 c.requires.fresh.1 in
    record {
      rules = c.requires.fresh.0;
      text = u.text;
      short = omega (arith, u.bytes, length-take c.min-within.result c.pull.new.room, c.min-within.ensures, c.requires.most);
      read = u.read.read;
    }

pub end-requires : goal.end-requires
end-requires g c =
    let u = c.loop-count.invariant.underway c.requires.fresh.0 c.requires.fresh.1 in
    record { rules = c.requires.fresh.0; text = u.text; short = omega (arith, u.bytes, c.requires.most); read = u.read.read }

pub returns-in-Err-clause-err : goal.returns-in-Err-clause-err
returns-in-Err-clause-err g c rules fresh =
    let u = c.loop-count.invariant.underway rules fresh in
    let sound = front_stop-short c.args.most (g.I.Intake.within rules) u.text (omega (arith, u.bytes, c.loop-count.invariant.few)) ∙ u.read.sound in
    breaks-off _ _ _ _ _ _ c.loop-count.source c.pull.new.self u.text c.loop-count.room c.pull.new.room _ u.took sound c.loop-count.invariant.sized
    (omega (arith, c.pull.auto.room, c.loop-count.invariant.sized)) c.in-Err.ensures.once u.bytes

pub returns-then-count-eq0-clause-ok : goal.returns-then-count-eq0-clause-ok
returns-then-count-eq0-clause-ok g c =
    let once = subst (λ n. g.S.Source.pull_gives c.loop-count.source c.loop-count.room (Ok n) c.pull.new.room c.pull.new.self) c.if-count-eq0.true
    c.in-Ok.ensures.once in
    IfOk-weaker c.end.result _ _ (λ given ok rules fresh.
    let u = c.loop-count.invariant.underway rules fresh in
    let few : length u.text ≤ c.args.most = omega (arith, u.bytes, c.loop-count.invariant.few) in
    let is = ok rules u.text (omega (arith, few, c.requires.most)) u.read.read in
    let sound = front_stop-short c.args.most (g.I.Intake.within rules) u.text few ∙ u.read.sound in
    let whole = input_stop-short c.args.most (g.I.Intake.within rules) (g.I.Intake.whole rules) u.text few ∙ is.0 in
    record {
      text = u.text;
      reads = reaches-end _ _ _ _ _ _ c.loop-count.source c.pull.new.self u.text c.loop-count.room c.pull.new.room _ u.took sound
          c.loop-count.invariant.sized (omega (arith, c.pull.auto.room, c.loop-count.invariant.sized)) once (reads-whole _ _ u.text whole);
      sound = whole;
      gave = is.1;
    }) c.end.ensures.ok

pub returns-then-count-eq0-clause-err : goal.returns-then-count-eq0-clause-err
returns-then-count-eq0-clause-err g c =
    let once = subst (λ n. g.S.Source.pull_gives c.loop-count.source c.loop-count.room (Ok n) c.pull.new.room c.pull.new.self) c.if-count-eq0.true
    c.in-Ok.ensures.once in
    IfErr-weaker c.end.result _ _ (λ s h rules fresh.
    let u = c.loop-count.invariant.underway rules fresh in
    let few : length u.text ≤ c.args.most = omega (arith, u.bytes, c.loop-count.invariant.few) in
    let sound = front_stop-short c.args.most (g.I.Intake.within rules) u.text few ∙ u.read.sound in
    stops-end _ _ _ _ _ _ c.loop-count.source c.pull.new.self u.text c.loop-count.room c.pull.new.room s _ u.took sound c.loop-count.invariant.sized
    (omega (arith, c.pull.auto.room, c.loop-count.invariant.sized)) once
    (λ stops. input_stop-short c.args.most (g.I.Intake.within rules) (g.I.Intake.whole rules) u.text few
    ∙ stops rules u.text (omega (arith, few, c.requires.most)) u.read.read) h) c.end.ensures.err

pub returns-in-Err-take-clause-err : goal.returns-in-Err-take-clause-err
returns-in-Err-take-clause-err g c rules fresh =
    let u = c.loop-count.invariant.underway rules fresh in
    let source = g.met.S.Source in
    let once = c.in-Ok.ensures.once in
    let room = c.pull.new.room in
    let count = c.in-Ok.count in
    let n = c.min-within.result in
    let piece = take count room in
    let full : length piece ≡ count = length-take count room ∙ omega (arith, source.within _ _ _ _ _ once) in
    let sound = front_stop-short c.args.most (g.I.Intake.within rules) u.text (omega (arith, u.bytes, c.loop-count.invariant.few)) ∙ u.read.sound in
    let last : Pulled g.S.Source.pull_gives 4096 c.loop-count.source (Ok count) piece
    c.pull.new.self = record { room = c.loop-count.room; filled = room; sized = c.loop-count.invariant.sized; gives = once; front = refl } in
    let front = front-of room n count (omega (arith, c.min-within.ensures)) in
    stops-in _ _ _ _ _ _ c.loop-count.source c.pull.new.self u.text piece count c.in-Err-take.stop _ u.took sound (omega arith) last
    (omega (arith, c.pull.auto.room, c.loop-count.invariant.sized))
    (λ stops. piece-stops c.args.most (g.I.Intake.within rules) u.text piece n c.in-Err-take.stop (omega (arith, full, c.min-within.ensures))
    (omega (arith, u.bytes, c.min-within.ensures, c.loop-count.invariant.few)) (λ cut. omega (arith, cut, full, u.bytes, c.min-within.ensures, c.loop-count.invariant.few))
    (ap (λ (bs : List ℕ). g.I.Intake.within rules (u.text ++ bs)) (sym front)
    ∙ stops rules u.text (omega (arith, u.bytes, length-take n room, c.min-within.ensures, c.requires.most)) u.read.read)) c.in-Err-take.ensures.err

pub returns-then-within-count-clause-err : goal.returns-then-within-count-clause-err
returns-then-within-count-clause-err g c rules fresh =
    let u = c.loop-count.invariant.underway rules fresh in
    let source = g.met.S.Source in
    let once = c.in-Ok.ensures.once in
    let room = c.pull.new.room in
    let count = c.in-Ok.count in
    let n = c.min-within.result in
    let piece = take count room in
    let full : length piece ≡ count = length-take count room ∙ omega (arith, source.within _ _ _ _ _ once) in
    let sound = front_stop-short c.args.most (g.I.Intake.within rules) u.text (omega (arith, u.bytes, c.loop-count.invariant.few)) ∙ u.read.sound in
    let last : Pulled g.S.Source.pull_gives 4096 c.loop-count.source (Ok count) piece
    c.pull.new.self = record { room = c.loop-count.room; filled = room; sized = c.loop-count.invariant.sized; gives = once; front = refl } in
    let front = front-of room n count (omega (arith, c.min-within.ensures)) in
    let read = c.in-Ok-take.ensures.ok rules u.text (omega (arith, u.bytes, length-take n room, c.min-within.ensures, c.requires.most)) u.read.read in
    let stops = bytes-stop c.args.most (g.I.Intake.within rules) u.text piece n (omega (arith, u.bytes, c.min-within.ensures, c.loop-count.invariant.few, c.if-within-count.true))
    (omega (arith, full, c.if-within-count.true)) (ap (λ (bs : List ℕ). g.I.Intake.within rules (u.text ++ bs)) (sym front) ∙ read.sound) in
    stops-in _ _ _ _ _ _ c.loop-count.source c.pull.new.self u.text piece count (stop.Large limit.Bytes) _ u.took sound (omega arith) last
    (omega (arith, c.pull.auto.room, c.loop-count.invariant.sized)) (λ found. found) stops

pub loop-count-preserved : goal.loop-count-preserved
loop-count-preserved g c =
    let source = g.met.S.Source in
    let once = c.in-Ok.ensures.once in
    let room = c.pull.new.room in
    let count = c.in-Ok.count in
    let n = c.min-within.result in
    let whole : n ≡ count = omega (arith, c.min-within.ensures) in
    record {
      few = omega (arith, c.min-within.ensures);
      sized = omega (arith, c.pull.auto.room, c.loop-count.invariant.sized);
      underway = λ rules fresh.
          let u = c.loop-count.invariant.underway rules fresh in
          record {
            text = u.text ++ take count room;
            took = took_more _ _ _ _ c.args.source.now c.loop-count.source c.pull.new.self u.text c.loop-count.room room count
                (source.consumes _ _ _ _ _ once) (source.cause _ _ _ _ _ once) u.took (omega arith) c.loop-count.invariant.sized once;
            bytes = length-append u.text (take count room) ∙ omega (arith, u.bytes, length-take count room, source.within _ _ _ _ _ once);
            read = subst (λ n. HasRead g.I.Intake.within g.I.Intake.reads rules c.take.new.self (u.text ++ take n room)) whole
                (c.in-Ok-take.ensures.ok rules u.text (omega (arith, u.bytes, length-take n room, c.min-within.ensures, c.requires.most)) u.read.read);
          };
    }
