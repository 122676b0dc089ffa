use Rattle.std.proofs.Common.{arith}
use Rattle.rate_pair.proofs.RateLaws.{forward_rises, backward_rises}
use Rattle.rate_pair.proofs.rates.between.Goals as goal

-- src/rates.rt:92:19
pub overflow_sub-forward : goal.overflow_sub-forward
overflow_sub-forward c = omega (
  arith,
  c.grains_of.ensures.value,
  c.grains_of-2.ensures.value,
  forward_rises c.args.j.now c.args.k.now c.args.freq c.requires.first c.requires.second c.requires.first_sound c.requires.follows,
)

-- src/rates.rt:93:20
pub overflow_sub-backward : goal.overflow_sub-backward
overflow_sub-backward c = omega (
  arith,
  c.grains_of-3.ensures.value,
  c.grains_of-4.ensures.value,
  backward_rises c.args.j.now c.args.k.now c.args.freq c.requires.first c.requires.second c.requires.second_sound c.requires.follows,
)
