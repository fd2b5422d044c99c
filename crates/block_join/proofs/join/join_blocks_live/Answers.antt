use Rattle.std.proofs.Common.{List, None, Some, Vec, ap, length, refl, sym, ◌∙◌}
use Rattle.std.specs.Global.{Global}
use Rattle.c_graph.specs.declared.graph.NodeId.{NodeId}
use Rattle.join_laws.specs.Keeping.{KeepsErrors}
use Rattle.join_laws.specs.Visits.{KeepsMarked, KeepsVisits}
use Rattle.walk_states.specs.Known.{plan_of}
use Rattle.block_join.specs.Joined.{BlocksReturn, Stays}
use Rattle.block_follow.specs.Made.{lists_of}
use Rattle.block_join.specs.Made.{tested}
use Rattle.block_join.proofs.Coming.{blocks-come, chains-come}
use Rattle.block_join.proofs.Joining.{joined-else, joined-where}
use Rattle.block_join.proofs.Keeping.{kept-on, stays-on, stores-visit, visits-on}
use Rattle.block_join.proofs.Marking.{live-needed, live-read, live-within, marked-on, stores-marked}
use Rattle.block_join.proofs.join.join_blocks_live.Goals as goal

pub returns-in_ok-graph-clause-stays : goal.returns-in_ok-graph-clause-stays
returns-in_ok-graph-clause-stays c =
    let b = c.in_ok-made.made.graph in
    let first : Stays c.args.graph b = c.in_ok-are_same.ensures.stays c.if-are_same.true in
    stays-on c.args.graph b c.in_ok-graph.graph first c.in_ok-graph.ensures.stays

pub returns-in_ok-graph-clause-keeps : goal.returns-in_ok-graph-clause-keeps
returns-in_ok-graph-clause-keeps c =
    let b = c.in_ok-made.made.graph in
    let first : KeepsErrors c.args.graph b = c.in_ok-are_same.ensures.keeps c.if-are_same.true in
    kept-on c.args.graph b c.in_ok-graph.graph first c.in_ok-graph.ensures.keeps

pub returns-in_ok-graph-clause-visits : goal.returns-in_ok-graph-clause-visits
returns-in_ok-graph-clause-visits c =
    let b = c.in_ok-made.made.graph in
    let stays : Stays c.args.graph b = c.in_ok-are_same.ensures.stays c.if-are_same.true in
    let first : KeepsVisits c.args.graph b = c.in_ok-are_same.ensures.visits c.if-are_same.true in
    visits-on c.args.graph b c.in_ok-graph.graph stays.loops first c.in_ok-graph.ensures.visits

pub returns-in_ok-graph-clause-marked : goal.returns-in_ok-graph-clause-marked
returns-in_ok-graph-clause-marked c =
    let b = c.in_ok-made.made.graph in
    let marks = (plan_of c.in_ok-made.made.known).live in
    let stays : Stays c.args.graph b = c.in_ok-are_same.ensures.stays c.if-are_same.true in
    let first : KeepsMarked marks c.args.graph b = c.in_ok-are_same.ensures.marked c.if-are_same.true in
    live-read (record { count = length c.cells-count.result.now; known = Some c.in_ok-made.made.known }) c.args.graph c.in_ok-graph.graph (marked-on marks c.args.graph b c.in_ok-graph.graph stays.loops first c.in_ok-graph.ensures.visits)

pub returns-in_ok-graph-clause-within : goal.returns-in_ok-graph-clause-within
returns-in_ok-graph-clause-within c = live-within (record { count = length c.cells-count.result.now; known = Some c.in_ok-made.made.known }) c.args.graph.cells (ap length c.cells-count.ensures.value)

pub returns-in_ok-graph-clause-needed : goal.returns-in_ok-graph-clause-needed
returns-in_ok-graph-clause-needed c =
    live-needed (record { count = length c.cells-count.result.now; known = Some c.in_ok-made.made.known }) c.args.graph (ap length c.cells-count.ensures.value)
    (c.in_ok-are_same.ensures.needed c.if-are_same.true)

pub returns-in_ok-graph-clause-back : goal.returns-in_ok-graph-clause-back
returns-in_ok-graph-clause-back c =
    let b = c.in_ok-made.made.graph in
    let first : BlocksReturn c.args.graph b = c.in_ok-are_same.ensures.back c.if-are_same.true in
    blocks-come c.args.graph b c.in_ok-graph.graph first c.in_ok-graph.ensures.back

pub returns-in_ok-graph-2-clause-visits : goal.returns-in_ok-graph-2-clause-visits
returns-in_ok-graph-2-clause-visits c = stores-visit c.args.graph c.in_ok-graph-2.graph c.in_ok-graph-2.ensures.visits

pub returns-in_ok-graph-2-clause-marked : goal.returns-in_ok-graph-2-clause-marked
returns-in_ok-graph-2-clause-marked c = live-read (record { count = length c.cells-count.result.now; known = None }) c.args.graph c.in_ok-graph-2.graph (stores-marked _ c.args.graph c.in_ok-graph-2.graph c.in_ok-graph-2.ensures.visits)

pub returns-in_ok-graph-2-clause-within : goal.returns-in_ok-graph-2-clause-within
returns-in_ok-graph-2-clause-within c = live-within (record { count = length c.cells-count.result.now; known = None }) c.args.graph.cells (ap length c.cells-count.ensures.value)

pub returns-in_ok-graph-2-clause-needed : goal.returns-in_ok-graph-2-clause-needed
returns-in_ok-graph-2-clause-needed c =
    live-needed (record { count = length c.cells-count.result.now; known = None }) c.args.graph (ap length c.cells-count.ensures.value)
    (λ draws k l after there run cell lt needed. refl)

pub returns-in_ok-graph-2-clause-back : goal.returns-in_ok-graph-2-clause-back
returns-in_ok-graph-2-clause-back c = chains-come c.args.graph c.in_ok-graph-2.graph c.in_ok-graph-2.ensures.back

pub returns-in_ok-graph-clause-one : goal.returns-in_ok-graph-clause-one
returns-in_ok-graph-clause-one c =
    let same = ap (λ (ms : List (Vec NodeId Global)). tested c.args.graph c.in_ok-made.made.graph c.in_ok-made.made.known (lists_of ms)) c.deref.ensures.value in
    joined-where c.args.graph c.in_ok-made.made.graph c.in_ok-graph.graph (sym c.in_ok-are_same.ensures.made ∙ c.if-are_same.true) (same ∙ c.in_ok-made.ensures.test)
    c.in_ok-made.ensures.made c.in_ok-graph.ensures.made

pub returns-in_ok-graph-2-clause-one : goal.returns-in_ok-graph-2-clause-one
returns-in_ok-graph-2-clause-one c =
    let same = ap (λ (ms : List (Vec NodeId Global)). tested c.args.graph c.in_ok-made.made.graph c.in_ok-made.made.known (lists_of ms)) c.deref.ensures.value in
    joined-else c.args.graph c.in_ok-graph-2.graph (sym c.in_ok-are_same.ensures.made ∙ c.if-are_same.false) (same ∙ c.in_ok-made.ensures.test) c.in_ok-graph-2.ensures.made
