use Rattle.std.proofs.Common.{◌≡◌, ◌<◌, ◌∙◌, ℕ, List, ap, sym, subst, length, arith, reverse, slice_get}
use Rattle.bv_term.specs.declared.term.TermId.{TermId}
use Rattle.c_graph.specs.declared.graph.Node.{Node}
use Rattle.reach_tree.specs.declared.vertex.Vertex.{Vertex}
use Rattle.reach_tree.specs.Trees.{vertex_at}
use Rattle.cover_engine.specs.Unwindings.{Unwound}
use Rattle.cover_engine.specs.Units.{CanRefine}
use Rattle.loop_journey.specs.Chains.{IsChain}
use Rattle.loop_journey.specs.Loop.{IsErrorNode, vertex}
use Rattle.loop_journey.proofs.Labels.{can_refine, from_some}
use Rattle.loop_journey.proofs.journey.Journey.refine.Goals as goal

pub refined-requires-clause-terms : goal.refined-requires-clause-terms
refined-requires-clause-terms c =
    let last : ℕ = c.self.invariant.graph.0 in
    let chain : IsChain last c.self.inside.unwinding.vertices (vertex c.args.v) (reverse c.in-Some.upwards.items) =
    subst (λ (vs : List Vertex). IsChain last vs (vertex c.args.v) (reverse c.in-Some.upwards.items)) c.vertices-3.ensures.value (from_some _ c.in_ok-upwards.field-0 c.in-Some.upwards c.in-Some.is c.in_ok-upwards.ensures last) in
    let fs : c.new.result ≡ reverse c.in-Some.upwards.items = c.new.ensures ∙ c.in_ok-formulas.ensures ∙ ap reverse c.deref.ensures.value in
    let node : IsErrorNode (slice_get c.self.inside.graph.nodes (vertex_at c.self.inside.unwinding.vertices c.args.v).node.0) =
    subst (λ (ns : List Node). IsErrorNode (slice_get ns (vertex_at c.self.inside.unwinding.vertices c.args.v).node.0)) c.nodes.ensures.value
    (subst (λ (vs : List Vertex). IsErrorNode (slice_get c.nodes.result.now (vertex_at vs c.args.v).node.0)) c.vertices-2.ensures.value (c.is_error_at-is_error.ensures c.if-not-is_error.false)) in
    let can : CanRefine c.self.inside.graph c.self.inside.unwinding (vertex c.args.v) c.new.result = can_refine c.self.inside.graph c.self.inside.unwinding (vertex c.args.v) c.new.result last c.self.invariant.graph.1 c.self.invariant.terms
    (omega (arith, c.if-v-vertices.false, ap length c.vertices.ensures.value)) (sym c.open_leaf.ensures ∙ c.if-not-open_leaf.false) node
    (subst (λ (ts : List TermId). IsChain last c.self.inside.unwinding.vertices (vertex c.args.v) ts) (sym fs) chain) in
    can.terms

pub invariant_of-self-2 : goal.invariant_of-self-2
invariant_of-self-2 c =
    let last : ℕ = c.self.invariant.graph.0 in
    let chain : IsChain last c.self.inside.unwinding.vertices (vertex c.args.v) (reverse c.in-Some.upwards.items) =
    subst (λ (vs : List Vertex). IsChain last vs (vertex c.args.v) (reverse c.in-Some.upwards.items)) c.vertices-3.ensures.value (from_some _ c.in_ok-upwards.field-0 c.in-Some.upwards c.in-Some.is c.in_ok-upwards.ensures last) in
    let fs : c.new.result ≡ reverse c.in-Some.upwards.items = c.new.ensures ∙ c.in_ok-formulas.ensures ∙ ap reverse c.deref.ensures.value in
    let node : IsErrorNode (slice_get c.self.inside.graph.nodes (vertex_at c.self.inside.unwinding.vertices c.args.v).node.0) =
    subst (λ (ns : List Node). IsErrorNode (slice_get ns (vertex_at c.self.inside.unwinding.vertices c.args.v).node.0)) c.nodes.ensures.value
    (subst (λ (vs : List Vertex). IsErrorNode (slice_get c.nodes.result.now (vertex_at vs c.args.v).node.0)) c.vertices-2.ensures.value (c.is_error_at-is_error.ensures c.if-not-is_error.false)) in
    let can : CanRefine c.self.inside.graph c.self.inside.unwinding (vertex c.args.v) c.new.result = can_refine c.self.inside.graph c.self.inside.unwinding (vertex c.args.v) c.new.result last c.self.invariant.graph.1 c.self.invariant.terms
    (omega (arith, c.if-v-vertices.false, ap length c.vertices.ensures.value)) (sym c.open_leaf.ensures ∙ c.if-not-open_leaf.false) node
    (subst (λ (ts : List TermId). IsChain last c.self.inside.unwinding.vertices (vertex c.args.v) ts) (sym fs) chain) in
    record {
      graph = c.self.invariant.graph;
      terms = ap (λ (u : Unwound). u.terms) c.in_ok-refined.ensures.done ∙ c.self.invariant.terms;
      legal = c.refined.ensures.legal c.self.invariant.legal can;
    }
