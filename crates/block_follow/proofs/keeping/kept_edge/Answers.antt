use Rattle.std.proofs.Common.{rules, refl, ◌≡◌, true}
use Rattle.block_rule.specs.Plans.{matters}
use Rattle.walk_states.specs.Known.{plan_of}
use Rattle.block_follow.proofs.Leaving.{one-copy}
use Rattle.block_follow.proofs.keeping.kept_edge.Goals as goal

pub returns-clause-copies : goal.returns-clause-copies
returns-clause-copies c =
    let plan = plan_of c.args.known.now in
    let alive : matters plan c.args.edge.now.to.0 ≡ true = search rules in
    one-copy c.args.old.now c.args.new.now plan c.args.node c.args.at c.args.edge.now c.if-edge-node.false alive (c.if-not-is_same_edge.ensures.same refl)
