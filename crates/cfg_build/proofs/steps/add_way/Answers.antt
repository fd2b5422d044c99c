use Rattle.std.proofs.Common.{refl, ap, ◌∷◌, []}
use Rattle.c_graph.specs.declared.graph.NodeId.{NodeId}
use Rattle.cfg_build.specs.Steps.{edge}
use Rattle.cfg_build.proofs.Adding.{adds-twice, edges-equal}
use Rattle.cfg_build.proofs.Drawing.{way-drawn}
use Rattle.cfg_build.proofs.steps.add_way.Goals as goal

pub returns-clause-built : goal.returns-clause-built
returns-clause-built c = record {
  nodes = _;
  edges = _;
  adds = edges-equal _ _ _ _ _ (ap (λ (from : NodeId). edge from c.args.to [] ∷ []) c.in_ok-from.ensures.number) (adds-twice _ _ _ _ _ _ _ c.in_ok-from.ensures.adds c.in_ok-plain_edge.ensures);
  form = (refl, refl);
}

pub returns-clause-made : goal.returns-clause-made
returns-clause-made c = λ w. way-drawn w _ _ _ _ _ c.in_ok-from.ensures.number c.in_ok-from.ensures.adds c.in_ok-plain_edge.ensures
