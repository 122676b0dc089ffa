use Rattle.std.proofs.Common.{refl, arith}
use Rattle.clock_lines.specs.Values.{value_of, bound_of}
use Rattle.ff_hands.specs.Samples.{ticks}
use Rattle.ff_hands.proofs.Samples.{at_one, at_two, at_three}
use Rattle.clock_logs.specs.Samples.{every}
use Rattle.clock_logs.proofs.Samples.{legal_by}
use Rattle.clock_logs.proofs.refusals.logs_are_allowed.Goals as goal

pub returns-clause-every : goal.returns-clause-every
unfolding value_of bound_of
returns-clause-every c = legal_by ticks every (
  search (at_two, arith),
  (
    search (at_two, arith),
    (
      search (at_two, arith),
      (
        search (at_two, arith),
        (
          search (at_two, arith),
          (
            search (at_two, arith),
            (
              search (at_one, arith),
              (
                search arith,
                (
                  search arith,
                  (
                    search arith,
                    (
                      record {
                        tick = 3;
                        some = omega arith;
                        hands = _;
                        at = refl;
                        oldest_is = refl;
                        not_after = search arith;
                        made = search arith;
                      },
                      (omega arith, tt),
                    ),
                  ),
                ),
              ),
            ),
          ),
        ),
      ),
    ),
  ),
) refl refl

pub returns-clause-past_falls : goal.returns-clause-past_falls
unfolding value_of bound_of
returns-clause-past_falls c = legal_by ticks _ (search (at_two, arith), (search (at_one, arith), tt)) refl refl

pub returns-clause-past_behind : goal.returns-clause-past_behind
unfolding value_of bound_of
returns-clause-past_behind c = legal_by ticks _ (search (at_three, arith), (search (at_two, arith), (search (at_three, arith), tt))) refl refl
