use Rattle.block_follow.proofs.Growing.{carried, grown}
use Rattle.std.proofs.Common.{◌≡◌, ◌++◌, ℕ, List, ap, refl, sym, ◌∙◌}
use Rattle.bv_term.specs.WellFormed.{Table}
use Rattle.bv_term.specs.declared.term.Term.{Term}
use Rattle.c_graph.specs.declared.graph.Cell.{Cell}
use Rattle.c_graph.specs.declared.graph.Node.{Node}
use Rattle.c_graph.specs.declared.graph.NodeId.{NodeId}
use Rattle.block_follow.proofs.growth.grows.Goals as goal

pub returns-clause-tells : goal.returns-clause-tells
returns-clause-tells c = λ t.
    let g = c.args.old.now in
    let h = c.args.new.now in
    let number : NodeId → ℕ = λ v. v.0 in
    let entry : g.entry.0 ≡ h.entry.0 = sym (ap number c.entry.ensures.value) ∙ c.if-entry.false ∙ ap number c.entry-2.ensures.value in
    let loops : h.loops ≡ g.loops = sym c.loops-2.ensures.value ∙ c.if-not-same_loops.ensures.tells refl ∙ c.loops.ensures.value in
    let nodes : (more : List Node) × (h.nodes ≡ g.nodes ++ more) =
    carried c.nodes.result.now c.nodes-2.result.now g.nodes h.nodes c.nodes.ensures.value c.nodes-2.ensures.value (c.if-not-more_nodes.ensures.tells refl) in
    let cells : (more : List Cell) × (h.cells ≡ g.cells ++ more) =
    carried c.cells.result.now c.cells-2.result.now g.cells h.cells c.cells.ensures.value c.cells-2.ensures.value (c.if-not-more_cells.ensures.tells refl) in
    let part : Table → List Term = λ x. x.terms in
    let terms : (more : List Term) × (h.terms.terms ≡ g.terms.terms ++ more) =
    carried c.terms.result.now.terms c.terms-2.result.now.terms g.terms.terms h.terms.terms (ap part c.terms.ensures.value) (ap part c.terms-2.ensures.value)
    (c.more_terms.ensures.tells t) in
    grown g h c.entry.ensures.flow c.entry-2.ensures.flow entry loops nodes cells terms
