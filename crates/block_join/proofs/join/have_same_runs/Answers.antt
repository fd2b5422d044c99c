use Rattle.walk_states.specs.Known.{plan_of}
use Rattle.block_back_laws.proofs.Runs.{block_paths_come_back}
use Rattle.join_laws.proofs.Errors.{blocks_keep}
use Rattle.join_laws.proofs.Visits.{blocks_keep_live, blocks_keep_loops, plans_mark_needed}
use Rattle.block_follow.proofs.Growing.{both, weaken}
use Rattle.block_join.specs.Made.{tested}
use Rattle.block_join.proofs.join.have_same_runs.Goals as goal

pub returns-clause-stays : goal.returns-clause-stays
returns-clause-stays c =
    weaken c.follows_rule.result _ _
    (λ b is t. record { nodes = (is t).nodes; cells = (is t).cells; entry = (is t).entry; loops = (is t).loops })
    c.follows_rule.ensures.blocked

pub returns-clause-visits : goal.returns-clause-visits
returns-clause-visits c =
    weaken c.follows_rule.result _ _
    (λ b is t. blocks_keep_loops c.args.graph.now c.args.blocked.now (plan_of c.args.known.now) c.entry-entry.ensures.flow c.entry-start.ensures.flow (is t))
    c.follows_rule.ensures.blocked

pub returns-clause-marked : goal.returns-clause-marked
returns-clause-marked c =
    weaken c.follows_rule.result _ _
    (λ b is t. blocks_keep_live c.args.graph.now c.args.blocked.now (plan_of c.args.known.now) c.entry-entry.ensures.flow c.entry-start.ensures.flow (is t))
    c.follows_rule.ensures.blocked

pub returns-clause-needed : goal.returns-clause-needed
returns-clause-needed c =
    weaken c.follows_rule.result _ _
    (λ b is t. plans_mark_needed c.args.graph.now c.args.blocked.now (plan_of c.args.known.now) (is t))
    c.follows_rule.ensures.blocked

pub returns-clause-keeps : goal.returns-clause-keeps
returns-clause-keeps c =
    weaken c.follows_rule.result _ _
    (λ b is t. blocks_keep c.args.graph.now c.args.blocked.now (plan_of c.args.known.now) c.entry-entry.ensures.flow c.entry-start.ensures.flow (is t))
    c.follows_rule.ensures.blocked

pub returns-clause-back : goal.returns-clause-back
returns-clause-back c =
    let g = c.args.graph.now in
    let h = c.args.blocked.now in
    let plan = plan_of c.args.known.now in
    weaken c.follows_rule.result _ _
    (λ b is t.
    let exact = is.1 t in
    (exact.weight, (block_paths_come_back g h plan c.entry-entry.ensures.flow c.entry-start.ensures.flow (is.0 t) exact, exact.few)))
    (both c.follows_rule.result _ _ c.follows_rule.ensures.blocked c.follows_rule.ensures.exact)

pub returns-clause-made : goal.returns-clause-made
unfolding tested
returns-clause-made c = c.follows_rule.ensures.made
