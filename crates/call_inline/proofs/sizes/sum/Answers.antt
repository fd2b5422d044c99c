use Rattle.std.proofs.Common.{rules, ◌≤◌, ℕ, suc, ◌≡◌, ◌+◌, List, length, drop, min, arith, ap}
use Rattle.std.proofs.lemmas.List.{drop_all}
use Rattle.std.specs.Prelude.{slice_index_or}
use Rattle.c_graph.specs.declared.graph.Node.{Node}
use Rattle.c_graph.specs.declared.graph.Node.TheVariants.{Plain}
use Rattle.call_inline.specs.Sizes.{nodes_among, nodes_at, size_in}
use Rattle.call_inline.proofs.Sizing.{from-place, behind-next}
use Rattle.call_inline.proofs.sizes.sum.Goals as goal

pub loop-node-preserved : goal.loop-node-preserved
loop-node-preserved c =
    let k : ℕ = c.loop-node.node-index in
    let ns : List Node = c.args.own.now in
    let size = size_in c.args.sizes.now in
    let one : c.with_copy.result ≡ min (nodes_at size (slice_index_or ns k Plain)) 18446744073709551615 = c.with_copy.ensures in
    let more : c.saturating_add-nodes.result ≡ min (c.loop-node.nodes + c.with_copy.result) 18446744073709551615 = c.saturating_add-nodes.ensures in
    let split : nodes_among size (drop k ns) ≡ nodes_at size (slice_index_or ns k Plain) + nodes_among size (drop (suc k) ns) = from-place size ns k c.loop-node-test.true in
    let next : nodes_among size (drop (k + 1) ns) ≡ nodes_among size (drop (suc k) ns) = behind-next size ns k in
    let before : min (c.loop-node.nodes + nodes_among size (drop k ns)) 18446744073709551615 ≡ min (nodes_among size ns) 18446744073709551615 = c.loop-node.invariant.summed in
    record { summed = omega (arith, one, more, split, next, before); fits = omega (arith, more) }

pub returns : goal.returns
returns c =
    let ns : List Node = c.args.own.now in
    let size = size_in c.args.sizes.now in
    let le : length ns ≤ c.loop-node.node-index = search rules in
    let none : nodes_among size (drop c.loop-node.node-index ns) ≡ 0 = ap (nodes_among size) (drop_all c.loop-node.node-index ns le) in
    let all : min (c.loop-node.nodes + nodes_among size (drop c.loop-node.node-index ns)) 18446744073709551615 ≡ min (nodes_among size ns) 18446744073709551615 = c.loop-node.invariant.summed in
    let fits : c.loop-node.nodes ≤ 18446744073709551615 = c.loop-node.invariant.fits in
    omega (arith, none, all, fits)
