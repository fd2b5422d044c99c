use Rattle.bit_gates.proofs.Cuts.{cut_push}
use Rattle.bit_gates.proofs.emission.push_each.Goals as goal

pub returns-in-Err : goal.returns-in-Err
returns-in-Err c = cut_push _ c.in-Err.end c.args.clauses.now c.push.new.self c.loop-c.clauses c.args.list.now c.loop-c.c-index _ c.loop-c-test.true c.loop-c.invariant c.in-Err.ensures.0 c.in-Err.ensures.1
