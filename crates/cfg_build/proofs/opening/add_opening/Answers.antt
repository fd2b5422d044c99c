use Rattle.std.proofs.Common.{refl, ap, ◌∙◌, ◌∷◌, []}
use Rattle.c_graph.specs.declared.graph.NodeId.{NodeId}
use Rattle.cfg_build.specs.Steps.{edge, node_id, next_of}
use Rattle.cfg_build.proofs.Adding.{adds-twice, edges-equal, next-more}
use Rattle.cfg_build.proofs.Laying.{opened}
use Rattle.cfg_build.proofs.opening.add_opening.Goals as goal

pub returns-clause-built : goal.returns-clause-built
returns-clause-built c = λ h.
    let m = c.in_ok-ops.ensures.does h in
    let n = next_of c.args.draft.now in (
      m.grows,
      record {
        nodes = _;
        edges = _;
        adds = edges-equal _ _ _ _ _
            (ap (λ (from : NodeId). edge from c.in_ok-to.to c.in_ok-ops.ops.items ∷ []) c.in_ok-from.ensures.number
            ∙ ap (λ (to : NodeId). edge (node_id n) to c.in_ok-ops.ops.items ∷ []) (c.in_ok-to.ensures ∙ ap node_id (next-more _ _ _ _ c.in_ok-from.ensures.adds)))
            (adds-twice _ _ _ _ _ _ _ c.in_ok-from.ensures.adds c.in_ok-edge.ensures);
        form = record { ops = c.in_ok-ops.ops.items; does = m.does; nodes_are = refl; edges_are = refl };
      },
    )

pub returns-clause-made : goal.returns-clause-made
returns-clause-made c =
    let n = next_of c.args.draft.now in
    opened c.args.draft.now c.edge.new.self _ c.in_ok-ops.ops.items _ c.in_ok-ops.ensures.made
    (edges-equal _ _ _ _ _
    (ap (λ (from : NodeId). edge from c.in_ok-to.to c.in_ok-ops.ops.items ∷ []) c.in_ok-from.ensures.number
    ∙ ap (λ (to : NodeId). edge (node_id n) to c.in_ok-ops.ops.items ∷ []) (c.in_ok-to.ensures ∙ ap node_id (next-more _ _ _ _ c.in_ok-from.ensures.adds)))
    (adds-twice _ _ _ _ _ _ _ c.in_ok-from.ensures.adds c.in_ok-edge.ensures))
