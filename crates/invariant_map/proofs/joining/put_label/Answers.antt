use Rattle.std.proofs.Common.{rules, ◌≡◌, ◌<◌, ◌↔◌, ℕ, List, length, slice_index_or, All, sym, ap, subst, ◌∙◌, take}
use Rattle.std.proofs.lemmas.Bool.{eqb-true}
use Rattle.bv_term.specs.declared.term.TermId.{TermId}
use Rattle.bv_term.specs.Values.{Holds, IsStore}
use Rattle.c_graph.specs.Shape.{HasWidth}
use Rattle.reach_tree.specs.declared.vertex.Vertex.{Vertex}
use Rattle.reach_tree.specs.Trees.{vertex_at}
use Rattle.invariant_map.specs.Labels.{IsLabel, IsPlaced}
use Rattle.invariant_map.proofs.Copies.{extends_none, extends_twice}
use Rattle.invariant_map.proofs.Joins.{empty_label, first_label, more_label, placed_stays, placed_bit, vertex_read, same_default}
use Rattle.invariant_map.proofs.joining.put_label.Goals as goal

pub returns-then-is_empty-clause-label : goal.returns-then-is_empty-clause-label
returns-then-is_empty-clause-label c =
    let e : c.as_slice-label.result.now ≡ (vertex_at c.args.unwinding.now.vertices c.args.number).label =
    c.as_slice-label.ensures ∙ ap (λ (y : Vertex). y.label) (vertex_read _ _ _ _ c.vertices.ensures.value c.requires.there) in
    let n : length c.as_slice-label.result.now ≡ 0 = eqb-true (length c.as_slice-label.result.now) 0 (sym c.is_empty.ensures ∙ c.if-is_empty.true) in
    empty_label _ c.args.unwinding.now.terms c.put_term.new.terms (vertex_at c.args.unwinding.now.vertices c.args.number).label c.put_term.ensures.table (ap length (sym e) ∙ n) c.put_term.ensures.named

pub loop-at-init : goal.loop-at-init
loop-at-init c =
    let ts : List TermId = c.as_slice-label.result.now in
    let e : ts ≡ (vertex_at c.args.unwinding.now.vertices c.args.number).label =
    c.as_slice-label.ensures ∙ ap (λ (y : Vertex). y.label) (vertex_read _ _ _ _ c.vertices.ensures.value c.requires.there) in
    let placed : All (IsPlaced c.args.unwinding.now.terms c.args.terms.now c.args.places.now) ts =
    subst (λ (w : List TermId). All (IsPlaced c.args.unwinding.now.terms c.args.terms.now c.args.places.now) w) (sym e) c.requires.placed in
    let some : 0 < length ts = search rules in
    let t : TermId = slice_index_or ts 0 (record { 0 = 0 }) in
    record {
      extends = extends_none _;
      label = subst (λ (x : TermId). IsLabel c.args.unwinding.now.terms c.args.terms.now (take 1 ts) x) (sym c.place-joined.ensures)
          (first_label c.args.unwinding.now.terms c.args.terms.now c.args.places.now ts t some (same_default ts 0 (record { 0 = 0 }) t some) (placed 0 (record { 0 = 0 }) some));
    }

pub put_and-requires-clause-right : goal.put_and-requires-clause-right
put_and-requires-clause-right c =
    let ts : List TermId = c.as_slice-label.result.now in
    let e : ts ≡ (vertex_at c.args.unwinding.now.vertices c.args.number).label =
    c.as_slice-label.ensures ∙ ap (λ (y : Vertex). y.label) (vertex_read _ _ _ _ c.vertices.ensures.value c.requires.there) in
    let placed : All (IsPlaced c.args.unwinding.now.terms c.args.terms.now c.args.places.now) ts =
    subst (λ (w : List TermId). All (IsPlaced c.args.unwinding.now.terms c.args.terms.now c.args.places.now) w) (sym e) c.requires.placed in
    let t : TermId = slice_index_or ts c.loop-at.at (record { 0 = 0 }) in
    let now : IsPlaced c.args.unwinding.now.terms c.loop-at.terms c.args.places.now t = placed_stays _ _ _ _ _ c.loop-at.invariant.extends (placed c.loop-at.at (record { 0 = 0 }) c.loop-at-test.true) in
    subst (λ (x : TermId). HasWidth c.loop-at.terms x 1) (sym c.place.ensures) (placed_bit _ _ _ _ now)

pub loop-at-preserved : goal.loop-at-preserved
loop-at-preserved c =
    let ts : List TermId = c.as_slice-label.result.now in
    let e : ts ≡ (vertex_at c.args.unwinding.now.vertices c.args.number).label =
    c.as_slice-label.ensures ∙ ap (λ (y : Vertex). y.label) (vertex_read _ _ _ _ c.vertices.ensures.value c.requires.there) in
    let placed : All (IsPlaced c.args.unwinding.now.terms c.args.terms.now c.args.places.now) ts =
    subst (λ (w : List TermId). All (IsPlaced c.args.unwinding.now.terms c.args.terms.now c.args.places.now) w) (sym e) c.requires.placed in
    let t : TermId = slice_index_or ts c.loop-at.at (record { 0 = 0 }) in
    let now : IsPlaced c.args.unwinding.now.terms c.loop-at.terms c.args.places.now t = placed_stays _ _ _ _ _ c.loop-at.invariant.extends (placed c.loop-at.at (record { 0 = 0 }) c.loop-at-test.true) in
    let P : TermId → Type 0 = λ x. (store : List ℕ) → IsStore c.put_and.new.terms.cells store → (Holds c.put_and.new.terms store c.in_ok-joined.joined) ↔ ((Holds c.loop-at.terms store c.loop-at.joined) × (Holds c.loop-at.terms store x)) in
    record {
      extends = extends_twice _ _ _ c.loop-at.invariant.extends c.put_and.ensures.extends;
      label = more_label c.args.unwinding.now.terms c.loop-at.terms c.put_and.new.terms c.args.places.now ts c.loop-at.at t c.loop-at.joined c.in_ok-joined.joined
          c.loop-at-test.true (same_default ts c.loop-at.at (record { 0 = 0 }) t c.loop-at-test.true) now c.put_and.ensures.extends c.in_ok-joined.ensures.bit
          (subst P c.place.ensures c.in_ok-joined.ensures.holds) c.loop-at.invariant.label;
    }
