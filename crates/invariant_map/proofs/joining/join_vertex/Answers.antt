use Rattle.std.proofs.Common.{rules, ◌≡◌, ◌<◌, ℕ, length, slice_index_or, true, false, None, sym, ap, ◌∙◌, arith}
use Rattle.reach_tree.specs.declared.vertex.Vertex.{Vertex}
use Rattle.reach_tree.specs.Trees.{vertex_at}
use Rattle.invariant_map.specs.Labels.{counts}
use Rattle.invariant_map.proofs.Joins.{term_stays, vertex_read, counts_below, part_term, parts_passed, parts_joined}
use Rattle.invariant_map.proofs.joining.join_vertex.Goals as goal

pub returns-then-not-counts-clause-parts : goal.returns-then-not-counts-clause-parts
returns-then-not-counts-clause-parts c =
    let off : c.counts.result ≡ false = search rules in
    parts_passed c.args.unwinding.now c.args.number c.args.terms.now c.args.parts.now (sym c.counts.ensures ∙ off) c.requires.parts

pub put_further-requires-clause-before : goal.put_further-requires-clause-before
put_further-requires-clause-before c =
    let on : c.counts.result ≡ true = search rules in
    let co : counts c.args.unwinding.now (length c.args.parts.now) c.args.number ≡ true = sym c.counts.ensures ∙ on in
    let e = vertex_read _ _ _ c.index-vertices-number.result c.vertices.ensures.value c.requires.there in
    let n : ℕ = (slice_index_or c.vertices.result.now c.args.number c.index-vertices-number.result).node.0 in
    let same : n ≡ (vertex_at c.args.unwinding.now.vertices c.args.number).node.0 = ap (λ (y : Vertex). y.node.0) e in
    let lt : n < length c.args.parts.now = omega (arith, same, counts_below c.args.unwinding.now (length c.args.parts.now) c.args.number co) in
    term_stays _ _ (slice_index_or c.args.parts.now n None) c.put_label.ensures.extends
    (part_term c.args.unwinding.now (length c.args.parts.now) n c.args.number c.args.terms.now (slice_index_or c.args.parts.now n None) (c.requires.parts n lt))

pub returns-clause-parts : goal.returns-clause-parts
returns-clause-parts c =
    let on : c.counts.result ≡ true = search rules in
    let co : counts c.args.unwinding.now (length c.args.parts.now) c.args.number ≡ true = sym c.counts.ensures ∙ on in
    let e = vertex_read _ _ _ c.index-vertices-number.result c.vertices.ensures.value c.requires.there in
    let n : ℕ = (slice_index_or c.vertices.result.now c.args.number c.index-vertices-number.result).node.0 in
    let same : n ≡ (vertex_at c.args.unwinding.now.vertices c.args.number).node.0 = ap (λ (y : Vertex). y.node.0) e in
    let lt : n < length c.args.parts.now = omega (arith, same, counts_below c.args.unwinding.now (length c.args.parts.now) c.args.number co) in
    parts_joined c.args.unwinding.now c.args.number n c.args.terms.now c.put_label.new.terms c.put_further.new.terms c.args.parts.now c.in_ok-label.label c.in_ok-joined.joined
    co (sym same) lt c.put_label.ensures.extends c.put_further.ensures.extends c.in_ok-label.ensures.label c.in_ok-joined.ensures.bit c.in_ok-joined.ensures.holds c.requires.parts
