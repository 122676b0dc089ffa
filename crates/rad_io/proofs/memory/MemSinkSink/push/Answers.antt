use Rattle.std.proofs.Common.{◌/◌, length, arith, rules}
use Rattle.rad_io.proofs.memory.MemSinkSink.push.Goals as goal

pub returns-then-contains : goal.returns-then-contains
returns-then-contains c = record {
  once = record {
    fails = search rules;
    bytes = (length c.args.piece.now / 2, omega arith, search rules);
    part = search rules;
    cause = search rules;
    rose = search rules;
    number = search rules;
    room = search rules;
    failing = search rules;
  };
}
