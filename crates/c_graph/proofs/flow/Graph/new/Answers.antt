use Rattle.std.proofs.Common.{ℕ, List, ◌<◌, length, sym, subst, arith}
use Rattle.c_graph.specs.declared.graph.Edge.{Edge}
use Rattle.c_graph.specs.Chains.{source_of}
use Rattle.c_graph.proofs.Chaining.{flow_sources}
use Rattle.c_graph.proofs.flow.Graph.new.Goals as goal

pub links-requires-clause-sources : goal.links-requires-clause-sources
links-requires-clause-sources c =
    let P : List Edge → Type 0 = λ es. (k : ℕ) → k < length es → source_of es k < length c.args.nodes.items in
    let h : (k : ℕ) → k < length c.deref.result.now → source_of c.deref.result.now k < length c.args.nodes.items = subst P (sym c.deref.ensures.value) (flow_sources _ _ _ c.requires.edges) in
    λ k lt. omega (arith, h k lt)
