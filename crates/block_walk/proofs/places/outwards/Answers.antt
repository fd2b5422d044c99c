use Rattle.std.proofs.Common.{IfOk, sym, subst}
use Rattle.block_rule.specs.Rule.{outwards}
use Rattle.walk_states.specs.Known.{plan_of}
use Rattle.walk_states.specs.Walks.{Finds, state_of, ways_of}
use Rattle.walk_states.specs.declared.state.Ways.{Ways}
use Rattle.block_walk.proofs.places.outwards.Goals as goal

pub returns-in-Fails-clause-means : goal.returns-in-Fails-clause-means
returns-in-Fails-clause-means c =
    subst
    (λ (x : Ways). IfOk c.both_fail.result
    (Finds c.args.new.now c.args.walk
    (outwards c.args.old.now.terms (plan_of c.args.known.now) (state_of c.args.walk) c.args.guard (ways_of c.args.old.now x))))
    (sym c.in-Fails.is) c.both_fail.ensures.means
