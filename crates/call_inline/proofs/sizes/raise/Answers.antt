use Rattle.std.proofs.Common.{arith, ◌≡◌, ◌≤◌, ◌<◌, min, length, ℕ, List, ap, ◌∙◌, subst, sym}
use Rattle.c_graph.specs.declared.graph.Node.{Node}
use Rattle.call_inline.specs.Sizes.{IsSettled, nodes_among, nodes_with, size_in}
use Rattle.call_inline.proofs.Sizing.{set-sizes, set-room}
use Rattle.call_inline.proofs.sizes.raise.Goals as goal

pub returns : goal.returns
returns c =
    let old : List ℕ = c.args.sizes.now.items in
    let new : List ℕ = c.set_size.new.sizes.items in
    let k : ℕ = c.args.function in
    let n : ℕ = c.min-few.result in
    let raw : c.sum-nodes.result ≡ min (nodes_among (size_in c.deref.result.now) c.own_nodes.result.now) 18446744073709551615 = c.sum-nodes.ensures in
    let nodes : nodes_among (size_in c.deref.result.now) c.own_nodes.result.now ≡ nodes_with c.args.graphs.now (size_in old) k =
    ap (λ (vs : List Node). nodes_among (size_in c.deref.result.now) vs) c.own_nodes.ensures ∙ ap (λ (s : List ℕ). nodes_with c.args.graphs.now (size_in s) k) c.deref.ensures.value in
    let some : n ≡ min c.sum-nodes.result 65537 = c.min-few.ensures in
    let is : n ≡ min (nodes_with c.args.graphs.now (size_in old) k) 65537 = omega (arith, raw, nodes, some) in
    let lt : k < length old = (let there : k < length c.args.graphs.now = c.requires.there in let count : length old ≡ length c.args.graphs.now = c.requires.sizes.count in omega (arith, there, count)) in
    record {
      sizes = set-sizes c.args.graphs.now old new c.set_size.result k n c.set_size.ensures.raised c.set_size.ensures.same (omega (arith, is)) c.requires.sizes;
      raised = λ yes. set-room old new k n (c.set_size.ensures.raised yes) (omega (arith, is));
      same = c.set_size.ensures.same;
      settled = λ no.
          let enough : n ≤ size_in old k = c.set_size.ensures.enough no lt in
          let at : IsSettled c.args.graphs.now old k = omega (arith, is, enough) in
          subst (λ (s : List ℕ). IsSettled c.args.graphs.now s k) (sym (c.set_size.ensures.same no)) at;
    }
