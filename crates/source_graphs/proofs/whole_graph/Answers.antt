use Rattle.std.proofs.Common.{◌≡◌, inl, subst}
use Rattle.std.proofs.lemmas.Result.{err_from_is_err_and}
use Rattle.c_typed.specs.Facts.{IsTyped}
use Rattle.c_typed.specs.Parts.{tree_of}
use Rattle.cfg_build.specs.Built.{built}
use Rattle.cfg_build.specs.Graphs.{program_setting}
use Rattle.program_visits.specs.Visiting.{VisitsFollow}
use Rattle.witness_visit_laws.specs.Visited.{CellsStand}
use Rattle.source_graphs.proofs.Standing.{answer_comes_back, answer_follows, answer_is, answer_refused, answer_visits, answer_within, parts_refused}
use Rattle.source_graphs.proofs.whole_graph.Goals as goal

pub returns-clause-one : goal.returns-clause-one
returns-clause-one c =
    let t = c.args.examined.now.typed in
    let order = c.args.examined.now.order in
    let typed : IsTyped (tree_of t) = subst (λ x. IsTyped (tree_of x)) c.typed-typed.ensures.value c.model-model.ensures.typed in
    let passes = c.typed_code_passes.ensures t order typed c.order-order.ensures.examined.ordered in
    let follows = c.in_ok-graphs.ensures.whole c.following_makes_flows.ensures passes in
    let is : c.in_ok-graphs.graphs ≡ built t order = c.in_ok-graphs.ensures.one c.following_makes_flows.ensures passes in
    answer_is t order c.in_ok-graphs.graphs c.inline.result c.order-order.ensures.examined.walked is
    (c.inline.ensures.one (c.built_is_sparse.ensures t order c.in_ok-graphs.graphs (inl follows)))

pub returns-clause-follow : goal.returns-clause-follow
returns-clause-follow c =
    let t = c.args.examined.now.typed in
    let order = c.args.examined.now.order in
    let typed : IsTyped (tree_of t) = subst (λ x. IsTyped (tree_of x)) c.typed-typed.ensures.value c.model-model.ensures.typed in
    let follows = c.in_ok-graphs.ensures.whole c.following_makes_flows.ensures (c.typed_code_passes.ensures t order typed c.order-order.ensures.examined.ordered) in
    answer_follows t order c.in_ok-graphs.graphs c.inline.result typed
    (c.orders_agree.ensures (tree_of t) order c.order-order.ensures.examined.ordered)
    c.main-main.ensures.flows follows (c.inline.ensures.whole (c.built_is_sparse.ensures t order c.in_ok-graphs.graphs (inl follows)))

pub returns-clause-back : goal.returns-clause-back
returns-clause-back c =
    let t = c.args.examined.now.typed in
    let order = c.args.examined.now.order in
    let typed : IsTyped (tree_of t) = subst (λ x. IsTyped (tree_of x)) c.typed-typed.ensures.value c.model-model.ensures.typed in
    let follows = c.in_ok-graphs.ensures.whole c.following_makes_flows.ensures (c.typed_code_passes.ensures t order typed c.order-order.ensures.examined.ordered) in
    answer_comes_back t order c.in_ok-graphs.graphs c.inline.result typed
    (c.orders_agree.ensures (tree_of t) order c.order-order.ensures.examined.ordered)
    c.main-main.ensures.flows follows (c.inline.ensures.whole (c.built_is_sparse.ensures t order c.in_ok-graphs.graphs (inl follows)))

pub returns-clause-visits : goal.returns-clause-visits
returns-clause-visits c =
    let t = c.args.examined.now.typed in
    let order = c.args.examined.now.order in
    let typed : IsTyped (tree_of t) = subst (λ x. IsTyped (tree_of x)) c.typed-typed.ensures.value c.model-model.ensures.typed in
    let follows = c.in_ok-graphs.ensures.whole c.following_makes_flows.ensures (c.typed_code_passes.ensures t order typed c.order-order.ensures.examined.ordered) in
    let ordered = c.orders_agree.ensures (tree_of t) order c.order-order.ensures.examined.ordered in
    answer_visits c.in_ok-graphs.graphs (VisitsFollow (program_setting t order) (tree_of t)) c.inline.result
    (λ g is. c.inlined_visits_follow.ensures t order c.in_ok-graphs.graphs g typed ordered c.main-main.ensures.flows follows is)
    (c.inline.ensures.whole (c.built_is_sparse.ensures t order c.in_ok-graphs.graphs (inl follows)))

pub returns-clause-cells : goal.returns-clause-cells
returns-clause-cells c =
    let t = c.args.examined.now.typed in
    let order = c.args.examined.now.order in
    let typed : IsTyped (tree_of t) = subst (λ x. IsTyped (tree_of x)) c.typed-typed.ensures.value c.model-model.ensures.typed in
    let follows = c.in_ok-graphs.ensures.whole c.following_makes_flows.ensures (c.typed_code_passes.ensures t order typed c.order-order.ensures.examined.ordered) in
    answer_visits c.in_ok-graphs.graphs (λ g. CellsStand (program_setting t order) g.cells) c.inline.result
    (λ g is. c.inlined_cells_stand.ensures t order c.in_ok-graphs.graphs g follows is)
    (c.inline.ensures.whole (c.built_is_sparse.ensures t order c.in_ok-graphs.graphs (inl follows)))

pub returns-clause-within : goal.returns-clause-within
returns-clause-within c =
    let t = c.args.examined.now.typed in
    let order = c.args.examined.now.order in
    let typed : IsTyped (tree_of t) = subst (λ x. IsTyped (tree_of x)) c.typed-typed.ensures.value c.model-model.ensures.typed in
    let passes = c.typed_code_passes.ensures t order typed c.order-order.ensures.examined.ordered in
    let is : c.in_ok-graphs.graphs ≡ built t order = c.in_ok-graphs.ensures.one c.following_makes_flows.ensures passes in
    answer_within t order c.in_ok-graphs.graphs c.inline.result c.order-order.ensures.examined.walked is c.in_ok-graphs.ensures.within c.inline.ensures.few

pub returns-clause-limits : goal.returns-clause-limits
returns-clause-limits c =
    let t = c.args.examined.now.typed in
    let order = c.args.examined.now.order in
    let typed : IsTyped (tree_of t) = subst (λ x. IsTyped (tree_of x)) c.typed-typed.ensures.value c.model-model.ensures.typed in
    let passes = c.typed_code_passes.ensures t order typed c.order-order.ensures.examined.ordered in
    let is : c.in_ok-graphs.graphs ≡ built t order = c.in_ok-graphs.ensures.one c.following_makes_flows.ensures passes in
    answer_refused t order c.in_ok-graphs.graphs c.inline.result c.order-order.ensures.examined.walked is
    (c.orders_agree.ensures (tree_of t) order c.order-order.ensures.examined.ordered)
    c.in_ok-graphs.ensures.within (c.in_ok-graphs.ensures.whole c.following_makes_flows.ensures passes) c.inline.ensures.limit

pub returns-in_err-graphs-clause-limits : goal.returns-in_err-graphs-clause-limits
returns-in_err-graphs-clause-limits c =
    let t = c.args.examined.now.typed in
    let order = c.args.examined.now.order in
    let p = err_from_is_err_and c.from_residual.result c.from_residual.ensures.1 in
    rw (p.1, p.2) (parts_refused t order _ c.order-order.ensures.examined.walked (c.orders_agree.ensures (tree_of t) order c.order-order.ensures.examined.ordered) c.in_err-graphs.ensures.limits)
