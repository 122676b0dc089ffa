use Rattle.std.proofs.Common.{◌≡◌, ℕ, List, ◌+◌, ◌-◌, ◌≤◌, ◌++◌, min, length, take, sym, ap, ◌∙◌, arith}
use Rattle.std.proofs.Math.Seq.{take-append-add}
use Rattle.std.proofs.lemmas.List.{take_min, length-take}
use Rattle.std.proofs.lemmas.Grind.{common_steps}
use Rattle.ntp_capture.specs.Steps.{with_bytes}
use Rattle.ntp_capture.proofs.capture.Capture.add.Goals as goal

take-room : (xs ys : List ℕ) (room : ℕ) → length xs ≤ 59 → room ≡ min (59 - length xs) (length ys) → xs ++ take room ys ≡ take 59 (xs ++ ys)
take-room xs ys room short is =
    ap (λ n. xs ++ take n ys) is
    ∙ ap (λ (zs : List ℕ). xs ++ zs) (take_min (59 - length xs) ys)
    ∙ sym (take-append-add xs ys (59 - length xs))
    ∙ ap (λ n. take n (xs ++ ys)) (let n : length xs + (59 - length xs) ≡ 59 = omega arith in n)

pub returns-clause-bytes : goal.returns-clause-bytes
returns-clause-bytes c short =
    let xs = c.self.inside.front.items in
    let room : c.min-room.result ≡ min (59 - length xs) (length c.args.more.now) = grind (arith, common_steps) in
    let fits = length-take c.min-room.result c.args.more.now in
    let front : c.try_extend_from_slice-fits.new.self.items ≡ xs ++ take c.min-room.result c.args.more.now = grind (arith, common_steps) in
    let is : c.try_extend_from_slice-fits.new.self.items ≡ take 59 (xs ++ c.args.more.now) = front
    ∙ take-room xs c.args.more.now c.min-room.result (omega (arith, c.self.invariant)) room in
    let seen : c.saturating_add-self-inside.result ≡ c.self.inside.seen + length c.args.more.now = omega (arith, short, ap (λ k. k.seen) c.self.view_is) in
    ap (λ n. record {
      place = c.self.inside.place;
      is_head = c.self.inside.is_head;
      seen = n;
      front =
          c.try_extend_from_slice-fits.new.self.items;
      fault = c.self.inside.fault;
    }) seen
    ∙ ap (λ (front : List ℕ). record {
      place = c.self.inside.place;
      is_head = c.self.inside.is_head;
      seen =
          c.self.inside.seen + length c.args.more.now;
      front = front;
      fault = c.self.inside.fault;
    }) is
    ∙ ap (λ k. with_bytes k c.args.more.now) c.self.view_is
