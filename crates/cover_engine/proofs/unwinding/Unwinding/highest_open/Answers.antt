use Rattle.std.proofs.Common.{Option, sym, subst}
use Rattle.reach_tree.specs.declared.vertex.VertexId.{VertexId}
use Rattle.cover_engine.specs.Openings.{IsHighestLeaf}
use Rattle.cover_engine.proofs.Waits.{highest_at}
use Rattle.cover_engine.proofs.unwinding.Unwinding.highest_open.Goals as goal
use Rattle.cover_engine.proofs.unwinding.Unwinding.highest_open.Goals.{in-Known, in-Unknown}

pub returns-then-not-are_ends-clause-highest : goal.returns-then-not-are_ends-clause-highest
returns-then-not-are_ends-clause-highest c =
    highest_at c.args.graph.now c.self.inside.tree.vertices c.self.inside.tree.terms c.self.inside.pairs c.self.inside.journal.items c.self.inside.apart.items c.args.self.now c.nodes-nodes.result.now c.self.inside.covers.items c.deref-then-not-are_ends.result.now c.highest_by_number.result
    c.self.view_is c.nodes-nodes.ensures.value c.deref-then-not-are_ends.ensures.value c.self.invariant.0.counts_are c.highest_by_number.ensures

pub returns-clause-highest : goal.returns-clause-highest
returns-clause-highest c = elim c.match-found.branch [
  | in-Known w ↦ subst (λ (leaf : Option VertexId). IsHighestLeaf c.args.graph.now c.args.self.now leaf) (sym w.result-is)
      (highest_at c.args.graph.now c.self.inside.tree.vertices c.self.inside.tree.terms c.self.inside.pairs c.self.inside.journal.items c.self.inside.apart.items c.args.self.now c.nodes-nodes.result.now c.self.inside.covers.items c.deref-2.result.now w.in-Known.leaf c.self.view_is c.nodes-nodes.ensures.value c.deref-2.ensures.value c.self.invariant.0.counts_are w.in-Known.ensures.found)
  | in-Unknown w ↦ subst (λ (leaf : Option VertexId). IsHighestLeaf c.args.graph.now c.args.self.now leaf) (sym w.result-is)
      (highest_at c.args.graph.now c.self.inside.tree.vertices c.self.inside.tree.terms c.self.inside.pairs c.self.inside.journal.items c.self.inside.apart.items c.args.self.now c.nodes-nodes.result.now c.self.inside.covers.items w.deref-in-Unknown.result.now w.highest_by_number-in-Unknown.result c.self.view_is c.nodes-nodes.ensures.value w.deref-in-Unknown.ensures.value c.self.invariant.0.counts_are w.highest_by_number-in-Unknown.ensures)
]
