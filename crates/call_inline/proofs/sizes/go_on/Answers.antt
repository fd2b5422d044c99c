use Rattle.std.proofs.Common.{arith, ◌≡◌, min, ℕ, List, ap, ◌∙◌}
use Rattle.c_graph.specs.declared.graph.Node.{Node}
use Rattle.call_inline.specs.Sizes.{nodes_among, nodes_with, size_in}
use Rattle.call_inline.proofs.Sizing.{set-sizes}
use Rattle.call_inline.proofs.sizes.go_on.Goals as goal

pub returns : goal.returns
returns c = λ sized.
    let old : List ℕ = c.args.sizes.now.items in
    let k : ℕ = c.args.visit.function in
    let raw : c.sum-nodes.result ≡ min (nodes_among (size_in c.deref.result.now) c.own_nodes-own.result.now) 18446744073709551615 = c.sum-nodes.ensures in
    let nodes : nodes_among (size_in c.deref.result.now) c.own_nodes-own.result.now ≡ nodes_with c.args.graphs.now (size_in old) k =
    ap (λ (vs : List Node). nodes_among (size_in c.deref.result.now) vs) c.own_nodes-own.ensures ∙ ap (λ (s : List ℕ). nodes_with c.args.graphs.now (size_in s) k) c.deref.ensures.value in
    set-sizes c.args.graphs.now old c.set_size.new.sizes.items c.set_size.result k c.sum-nodes.result c.set_size.ensures.raised c.set_size.ensures.same (omega (arith, raw, nodes)) sized
