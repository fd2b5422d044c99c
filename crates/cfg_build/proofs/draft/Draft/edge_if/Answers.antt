use Rattle.std.proofs.Common.{ap, ◌∙◌, ◌∷◌, [], ◌++◌, List}
use Rattle.c_graph.specs.declared.graph.Operation.{Operation}
use Rattle.cfg_build.specs.Steps.{edge}
use Rattle.cfg_build.proofs.Adding.{edges-equal}
use Rattle.cfg_build.proofs.draft.Draft.edge_if.Goals as goal

pub returns : goal.returns
returns c =
    edges-equal _ _ _ _ _ (ap (λ (ops : List Operation). edge c.args.from c.args.to ops ∷ []) (c.in_ok-push.ensures.items ∙ ap (λ (ops : List Operation). ops ++ c.args.first ∷ []) c.new-ops.ensures.items)) c.in_ok-edge.ensures
