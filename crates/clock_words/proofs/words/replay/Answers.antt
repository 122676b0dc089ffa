use Rattle.std.proofs.Common.{map, rules}
use Rattle.clock_words.proofs.Replays.{both_said, replayed, not_replayed}
use Rattle.clock_words.proofs.words.replay.Goals as goal
use Rattle.clock_words.proofs.words.replay.Goals.{in_default-2-via-in-Some+in-Some+in_default, in_default-2-via-in-Some+in_default, in_default-2-via-in_default}

pub returns-in-Some-Some-Some-clause-value : goal.returns-in-Some-Some-Some-clause-value
returns-in-Some-Some-Some-clause-value c = replayed (map (λ w. w.now) c.args.words.now) c.in-Some.arguments (search rules) _ _ _ (search rules)
    (search rules) (search rules) _ _ _ _ c.flag.ensures c.flag-crank.ensures c.flag-in-Some-Some-Some.ensures c.flag-lane.ensures
    (search rules)

pub returns-then-lane-clause-value : goal.returns-then-lane-clause-value
returns-then-lane-clause-value c = both_said (map (λ w. w.now) c.args.words.now) c.in-Some.arguments (search rules) _ _ c.flag-crank.ensures c.flag-lane.ensures
    (search rules)

pub returns-clause-value : goal.returns-clause-value
returns-clause-value c = not_replayed (map (λ w. w.now) c.args.words.now) c.in-Some.arguments (search rules)
    (elim c.in_default-2.branch [
      | in_default-2-via-in-Some+in-Some+in_default w ↦ (search rules)
      | in_default-2-via-in-Some+in_default w ↦
          (search rules)
      | in_default-2-via-in_default w ↦ (search rules)
    ])
