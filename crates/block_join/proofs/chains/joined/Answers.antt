use Rattle.std.proofs.Common.{rules, ◌≡◌, ◌∙◌, List, subst}
use Rattle.c_graph.specs.declared.graph.LoopAt.{LoopAt}
use Rattle.c_graph.specs.declared.graph.Node.{Node}
use Rattle.edge_chains.specs.Joining.{IsJoined}
use Rattle.block_join.proofs.Keeping.{chained, joined-made, weaken, whole-cases}
use Rattle.block_join.proofs.chains.joined.Goals as goal

pub returns-clause-joined : goal.returns-clause-joined
returns-clause-joined c =
    let g = c.args.graph.now in
    let nodes : c.in_ok-nodes.nodes.items ≡ c.nodes.result.now = search rules in
    let cells : c.in_ok-cells.cells.items ≡ c.cells.result.now = search rules in
    let loops : c.in_ok-loops.loops.items ≡ c.loops.result.now = search rules in
    let at_nodes : IsJoined c.in_ok-nodes.nodes.items c.deref-2.result.now c.entry-entry.result c.in_ok-edges.edges.items c.in_ok-joined.joined.items =
    subst (λ (xs : List Node). IsJoined xs c.deref-2.result.now c.entry-entry.result c.in_ok-edges.edges.items c.in_ok-joined.joined.items)
    c.deref.ensures.value c.in_ok-joined.ensures.joined in
    let joined : IsJoined c.in_ok-nodes.nodes.items c.in_ok-loops.loops.items c.entry-entry.result c.in_ok-edges.edges.items c.in_ok-joined.joined.items =
    subst (λ (xs : List LoopAt). IsJoined c.in_ok-nodes.nodes.items xs c.entry-entry.result c.in_ok-edges.edges.items c.in_ok-joined.joined.items)
    c.deref-2.ensures.value at_nodes in
    weaken c.graph_of.result _ _
    (λ h is. chained g h c.in_ok-nodes.nodes.items c.in_ok-edges.edges.items c.in_ok-joined.joined.items c.in_ok-cells.cells.items
    c.in_ok-terms.terms c.entry-entry.result c.in_ok-loops.loops.items (nodes ∙ c.nodes.ensures.value) (c.in_ok-edges.ensures ∙ c.edges.ensures.value)
    (cells ∙ c.cells.ensures.value) (c.in_ok-terms.ensures ∙ c.terms.ensures.value) c.entry-entry.ensures.value (loops ∙ c.loops.ensures.value) joined
    (whole-cases _ h is))
    c.graph_of.ensures.made

pub returns-clause-made : goal.returns-clause-made
returns-clause-made c =
    let nodes : c.in_ok-nodes.nodes.items ≡ c.nodes.result.now = search rules in
    let cells : c.in_ok-cells.cells.items ≡ c.cells.result.now = search rules in
    let loops : c.in_ok-loops.loops.items ≡ c.loops.result.now = search rules in
    weaken c.graph_of.result _ _
    (λ h is. is ∙ joined-made c.args.graph.now c.in_ok-nodes.nodes.items c.deref.result.now c.in_ok-edges.edges.items c.in_ok-joined.joined.items c.in_ok-cells.cells.items
    c.in_ok-terms.terms c.entry-entry.result c.in_ok-loops.loops.items c.deref-2.result.now c.deref.ensures.value c.deref-2.ensures.value (nodes ∙ c.nodes.ensures.value) (c.in_ok-edges.ensures ∙ c.edges.ensures.value)
    (cells ∙ c.cells.ensures.value) (c.in_ok-terms.ensures ∙ c.terms.ensures.value) c.entry-entry.ensures.value (loops ∙ c.loops.ensures.value)
    c.in_ok-joined.ensures.made)
    c.graph_of.ensures.made
