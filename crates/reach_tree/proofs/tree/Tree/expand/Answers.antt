use Rattle.std.proofs.Common.{◌≡◌, ◌<◌, ◌^◌, List, arith, ap, length, subst}
use Rattle.reach_tree.specs.declared.vertex.Vertex.{Vertex}
use Rattle.reach_tree.specs.Trees.{AreLabelled}
use Rattle.reach_tree.proofs.Labels.{labels_are, labels_expanded}
use Rattle.reach_tree.proofs.Growth.{outs-there, expanded-at}
use Rattle.reach_tree.proofs.tree.Tree.expand.Goals as goal

pub new_leaves-requires : goal.new_leaves-requires
new_leaves-requires c = outs-there c.args.graph.now _ _ _ _ c.deref.ensures.value c.in_ok-edges.ensures c.edges.ensures.value

pub invariant_of-self-2 : goal.invariant_of-self-2
invariant_of-self-2 c =
    let same : length c.self.inside.vertices.items ≡ length c.args.self.now.vertices = ap (λ t. length t.vertices) c.self.view_is in
    let lt : c.args.v.0 < length c.self.inside.vertices.items = omega (arith, same, c.requires.0) in
    let first : c.len-first.result ≡ length c.self.inside.vertices.items = omega (arith, c.len-first.ensures) in
    let count : c.len-2.result ≡ length c.deref.result.now = omega (arith, c.len-2.ensures, c.deref.ensures.len) in
    let r = expanded-at c.args.graph.now c.self.inside.vertices.items c.in_ok-leaves.leaves.items c.append.new.self.items c.set_children.new.vertices.items c.args.self.now.vertices c.args.v c.deref.result.now c.in_ok-edges.edges.items c.index.result.now c.in_ok-children.children.items c.new.result c.len-first.result c.len-2.result
    lt (ap (λ t. t.vertices) c.self.view_is) c.index.ensures c.deref.ensures.value c.in_ok-edges.ensures first count c.in_ok-children.ensures c.new.ensures c.edges.result.now c.edges.ensures.value c.in_ok-leaves.ensures c.in_ok-append.ensures.items c.set_children.ensures in
    let n : length c.set_children.new.vertices.items < 2 ^ 32 = omega (arith, r.1, c.if-len-first.false, c.len.ensures, c.deref.ensures.len, first, c.self.invariant.0) in
    let all : AreLabelled c.self.inside.terms c.args.self.now.vertices =
    subst (λ (vs : List Vertex). AreLabelled c.self.inside.terms vs) (ap (λ t. t.vertices) c.self.view_is) c.self.invariant.1 in
    (n, labels_are c.self.inside.terms _ _ r.0 (labels_expanded c.self.inside.terms c.args.graph.now c.args.self.now.vertices c.args.v all))

pub returns-clause-expanded : goal.returns-clause-expanded
returns-clause-expanded c =
    let same : length c.self.inside.vertices.items ≡ length c.args.self.now.vertices = ap (λ t. length t.vertices) c.self.view_is in
    let lt : c.args.v.0 < length c.self.inside.vertices.items = omega (arith, same, c.requires.0) in
    let first : c.len-first.result ≡ length c.self.inside.vertices.items = omega (arith, c.len-first.ensures) in
    let count : c.len-2.result ≡ length c.deref.result.now = omega (arith, c.len-2.ensures, c.deref.ensures.len) in
    (expanded-at c.args.graph.now c.self.inside.vertices.items c.in_ok-leaves.leaves.items c.append.new.self.items c.set_children.new.vertices.items c.args.self.now.vertices c.args.v c.deref.result.now c.in_ok-edges.edges.items c.index.result.now c.in_ok-children.children.items c.new.result c.len-first.result c.len-2.result
    lt (ap (λ t. t.vertices) c.self.view_is) c.index.ensures c.deref.ensures.value c.in_ok-edges.ensures first count c.in_ok-children.ensures c.new.ensures c.edges.result.now c.edges.ensures.value c.in_ok-leaves.ensures c.in_ok-append.ensures.items c.set_children.ensures).0
