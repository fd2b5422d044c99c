use Rattle.std.proofs.Common.{◌≡◌, ◌∙◌, List, ap, subst}
use Rattle.std.specs.Prelude.{All, Contains}
use Rattle.std.proofs.lemmas.List.{get_or_default}
use Rattle.bv_term.specs.declared.term.TermId.{TermId}
use Rattle.reach_tree.specs.declared.vertex.Vertex.{Vertex}
use Rattle.reach_tree.specs.Trees.{root_at, vertex_at}
use Rattle.loop_journey.proofs.journey.has_label_of.Goals as goal

pub returns : goal.returns
returns c = λ yes'.
    let left : c.as_slice.result.now ≡ (vertex_at c.args.vertices.now c.args.v).label = c.as_slice.ensures ∙ ap (λ (x : Vertex). x.label) (get_or_default c.args.vertices.now c.args.v c.index-vertices-v.result (root_at (record { 0 = 0 })) c.requires.left) in
    let right : c.as_slice-2.result.now ≡ (vertex_at c.args.vertices.now c.args.w).label = c.as_slice-2.ensures ∙ ap (λ (x : Vertex). x.label) (get_or_default c.args.vertices.now c.args.w c.index-vertices-w.result (root_at (record { 0 = 0 })) c.requires.right) in
    subst (λ (ts : List TermId). All (Contains ts) (vertex_at c.args.vertices.now c.args.w).label) left (subst (λ (ts : List TermId). All (Contains c.as_slice.result.now) ts) right (c.has_all.ensures yes'))
