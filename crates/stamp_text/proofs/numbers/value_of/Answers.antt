use Rattle.std.proofs.Common.{◌≡◌, ◌+◌, ◌-◌, ◌*◌, ◌^◌, min, get_or, drop, sym, ap, ◌∙◌, arith}
use Rattle.std.proofs.lemmas.List.{at_drop_more, at_drop_all}
use Rattle.stamp_text.specs.Digits.{value_from}
use Rattle.stamp_text.proofs.DigitLaws.{value_from_capped}
use Rattle.stamp_text.proofs.numbers.value_of.Goals as goal

pub loop-digit-preserved : goal.loop-digit-preserved
loop-digit-preserved c =
    let v = c.loop-digit.value in
    let ds = c.args.digits.now in
    let i = c.loop-digit.digit-index in
    let d = get_or ds i 0 in
    let step = at_drop_more (value_from v) ds i 0 (omega arith) in
    let next : c.saturating_add-value.result ≡ min (v * 10 + (d - 48)) (2 ^ 64 - 1) = omega arith in (
      omega arith,
      ap (λ n. min (value_from n (drop (i + 1) ds)) (2 ^ 64 - 1)) next
          ∙ value_from_capped (2 ^ 64 - 1) (v * 10 + (d - 48)) (drop (i + 1) ds) ∙ ap (λ n. min n (2 ^ 64 - 1)) (sym step) ∙ c.loop-digit.invariant.1,
    )

pub returns : goal.returns
returns c =
    let ends = at_drop_all (value_from c.loop-digit.value) c.args.digits.now c.loop-digit.digit-index (omega arith) in
    omega (arith, ends, c.loop-digit.invariant.1)
