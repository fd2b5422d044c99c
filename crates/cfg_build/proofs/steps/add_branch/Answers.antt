use Rattle.std.proofs.Common.{refl, ap, ◌∷◌, [], List, ℕ}
use Rattle.c_graph.specs.declared.graph.NodeId.{NodeId}
use Rattle.c_graph.specs.declared.graph.Operation.TheVariants.{Assume}
use Rattle.code_moves.proofs.Doing.{tells-later}
use Rattle.cfg_build.specs.Steps.{edge}
use Rattle.cfg_build.proofs.Adding.{adds-twice, edges-equal}
use Rattle.cfg_build.proofs.Drawing.{branch-drawn}
use Rattle.cfg_build.proofs.steps.add_branch.Goals as goal

pub returns-clause-built : goal.returns-clause-built
returns-clause-built c = λ f t.
    let z = λ (s : List ℕ). c.in_ok-not.ensures.shows s 1 _ (t s) in
    let g = (z []).grows in (
      g,
      record {
        nodes = _;
        edges = _;
        adds = edges-equal _ _ _ _ _ (ap (λ (from : NodeId). edge from c.args.to (Assume c.args.test ∷ []) ∷ edge from c.args.other (Assume c.in_ok-not.not ∷ []) ∷ []) c.in_ok-from.ensures.number)
            (adds-twice _ _ _ _ _ _ _ (adds-twice _ _ _ _ _ _ _ c.in_ok-from.ensures.adds c.in_ok-edge_if.ensures) c.in_ok-edge_if-2.ensures);
        form = record { test = c.args.test; turned = c.in_ok-not.not; tells = tells-later _ _ _ 1 f g t; turns = λ s. (z s).shows; nodes_are = refl; edges_are = refl };
      },
    )

pub returns-clause-made : goal.returns-clause-made
returns-clause-made c =
    branch-drawn c.args.words.now _ _ _ _ _ _ _ _ c.args.test _ c.in_ok-from.ensures.number c.in_ok-from.ensures.adds c.in_ok-edge_if.ensures c.in_ok-not.ensures.made c.in_ok-edge_if-2.ensures
