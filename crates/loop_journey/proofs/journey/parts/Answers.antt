use Rattle.std.proofs.Common.{◌≡◌, ◌<◌, ◌∙◌, ℕ, List, ap, sym, subst, length, get_or, arith}
use Rattle.std.specs.Prelude.{All}
use Rattle.std.proofs.lemmas.List.{get_or_default}
use Rattle.bv_term.specs.declared.term.TermId.{TermId}
use Rattle.bv_term.specs.WellFormed.{Table}
use Rattle.bv_term.specs.Values.{IsStore, values}
use Rattle.reach_tree.specs.declared.vertex.Vertex.{Vertex}
use Rattle.reach_tree.specs.Trees.{root_at, vertex_at}
use Rattle.loop_journey.proofs.Labels.{not_both}
use Rattle.loop_journey.proofs.journey.parts.Goals as goal

pub returns : goal.returns
returns c = λ apart.
    let cells : c.deref.result.now ≡ c.args.store.now = c.deref.ensures.value ∙ c.in_ok-cells.ensures in
    let known : (x : List ℕ) → x ≡ c.in_ok-values.values.items → x ≡ values c.args.unwinding.now.terms c.args.store.now = λ x is.
    is ∙ c.in_ok-values.ensures ∙ ap (λ (t : Table). values t c.deref-2.result.now) c.terms-terms.ensures ∙ ap (values c.args.unwinding.now.terms) (c.deref-2.ensures.value ∙ c.in_ok-cells.ensures) in
    let read : (k : ℕ) (x : Vertex) → k < length c.vertices-vertices.result.now → (get_or c.vertices-vertices.result.now k x).label ≡ (vertex_at c.args.unwinding.now.vertices k).label = λ k x lt.
    ap (λ (v : Vertex). v.label) (get_or_default c.vertices-vertices.result.now k x (root_at (record { 0 = 0 })) lt ∙ ap (λ (vs : List Vertex). vertex_at vs k) c.vertices-vertices.ensures.value) in
    let left : c.as_slice.result.now ≡ (vertex_at c.args.unwinding.now.vertices c.args.v).label = c.as_slice.ensures ∙ read c.args.v c.index-vertices-v.result (omega (arith, c.requires.left, ap length c.vertices-vertices.ensures.value)) in
    let right : c.as_slice-2.result.now ≡ (vertex_at c.args.unwinding.now.vertices c.args.w).label = c.as_slice-2.ensures ∙ read c.args.w c.index-vertices-w.result (omega (arith, c.requires.right, ap length c.vertices-vertices.ensures.value)) in
    record {
      whole = record {
        length = omega (arith, c.if-len-cells.false, c.len.ensures, ap length c.in_ok-cells.ensures, ap length c.cells.ensures.value, ap (λ (t : Table). length t.cells) c.terms-terms.ensures);
        fits = subst (λ (t : Table). IsStore t.cells c.args.store.now) c.terms-terms.ensures (subst (λ (xs : List ℕ). IsStore c.terms-terms.result.now.cells xs) cells (c.is_store.ensures.0 c.if-not-is_store.false));
      };
      meets = subst (λ (xs : List ℕ). All (λ (t : TermId). get_or xs t.0 0 ≡ 1) (vertex_at c.args.unwinding.now.vertices c.args.v).label) (known c.deref-3.result.now c.deref-3.ensures.value)
          (subst (λ (ts : List TermId). All (λ (t : TermId). get_or c.deref-3.result.now t.0 0 ≡ 1) ts) left (c.meets.ensures.0 c.if-not-meets.false));
      misses = λ m. not_both c.meets-2.result apart (c.meets-2.ensures.1
          (subst (λ (ts : List TermId). All (λ (t : TermId). get_or c.deref-4.result.now t.0 0 ≡ 1) ts) (sym right)
          (subst (λ (xs : List ℕ). All (λ (t : TermId). get_or xs t.0 0 ≡ 1) (vertex_at c.args.unwinding.now.vertices c.args.w).label) (sym (known c.deref-4.result.now c.deref-4.ensures.value)) m)));
    }
