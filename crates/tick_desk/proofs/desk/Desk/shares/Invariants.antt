use Rattle.std.proofs.Common.{◌≡◌, length, All}
use Rattle.std.specs.Vec.{vec_len, vec_capacity}
use Rattle.tick_desk.proofs.desk.Desk.shares.Given as goal

abbrev pub invariant-loop : goal.invariant-loop
invariant-loop l = record {
  room : vec_capacity l.shares ≡ vec_capacity l.initial.shares;
  many : length l.shares.items ≡ l.counter;
  shares : All (λ t. t ≡ l.self.pen.table) l.shares.items;
}
