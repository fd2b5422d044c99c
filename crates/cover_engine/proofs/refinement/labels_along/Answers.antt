use Rattle.std.proofs.Common.{◌≡◌, ◌<◌, ◌∙◌, ap, sym, subst, suc, length, List, All, arith, ℕ}
use Rattle.reach_tree.specs.declared.vertex.Vertex.{Vertex}
use Rattle.cover_engine.specs.Unwindings.{path_of}
use Rattle.cover_engine.proofs.Labelling.{Falls, falls_inside, path_falls}
use Rattle.cover_engine.proofs.refinement.labels_along.Goals as goal

pub new_labels-requires-clause-inside : goal.new_labels-requires-clause-inside
new_labels-requires-clause-inside c =
    let path : c.deref.result.now ≡ path_of c.args.tree.now.vertices c.args.v = c.deref.ensures.value ∙ c.in_ok-path.ensures ∙ ap (λ (vs : List Vertex). path_of vs c.args.v) c.vertices.ensures.value in
    let falls : Falls (suc c.args.v.0) (path_of c.args.tree.now.vertices c.args.v) = path_falls c.args.tree.now.vertices c.requires.family (length c.args.tree.now.vertices) c.args.v.0 c.requires.inside in
    subst (λ (xs : List ℕ). All (λ x. x < length c.args.tree.now.vertices) xs) (sym path) (falls_inside (path_of c.args.tree.now.vertices c.args.v) (suc c.args.v.0) (length c.args.tree.now.vertices) (omega arith) falls)
