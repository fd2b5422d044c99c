use Rattle.std.proofs.Common.{ap, ◌∷◌, []}
use Rattle.c_graph.specs.declared.graph.NodeId.{NodeId}
use Rattle.cfg_build.specs.Steps.{edge}
use Rattle.cfg_build.proofs.Adding.{adds-twice, edges-equal}
use Rattle.cfg_build.proofs.draft.Draft.error.Goals as goal

pub returns : goal.returns
returns c =
    edges-equal _ _ _ _ _ (ap (λ (to : NodeId). edge c.args.from to (c.args.first ∷ []) ∷ []) c.in_ok-error.ensures.number)
    (adds-twice _ _ _ _ _ _ _ c.in_ok-error.ensures.adds c.in_ok-edge_if.ensures)
