use Rattle.std.proofs.Common.{sym, ap, ◌∙◌, ◌∷◌, [], ◌++◌, List}
use Rattle.std.proofs.lemmas.List.{append-nil}
use Rattle.c_graph.specs.declared.graph.Operation.{Operation}
use Rattle.cfg_build.specs.Steps.{edge}
use Rattle.cfg_build.proofs.draft.Draft.edge.Goals as goal

pub returns : goal.returns
returns c = record {
  nodes_are = sym (append-nil c.args.self.now.nodes.items);
  edges_are = c.in_ok-push.ensures.items ∙ ap (λ (ops : List Operation). c.args.self.now.edges.items ++ edge c.args.from c.args.to ops ∷ []) c.new.ensures;
}
