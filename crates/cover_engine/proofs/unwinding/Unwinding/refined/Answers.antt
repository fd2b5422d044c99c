use Rattle.std.proofs.Common.{◌≡◌, ◌<◌, ◌≤◌, ◌∙◌, [], true, false, ap, sym, subst, suc, length, List, All, refl, arith, ℕ, reverse}
use Rattle.bv_term.specs.declared.term.TermId.{TermId}
use Rattle.reach_tree.specs.declared.vertex.Vertex.{Vertex}
use Rattle.reach_tree.specs.declared.vertex.NewLabel.{NewLabel}
use Rattle.bv_term.specs.WellFormed.{Table}
use Rattle.reach_tree.specs.Trees.{IsLabel, relabelled, vertex_at}
use Rattle.cover_engine.specs.declared.unit.UnitDone.TheVariants.{Refine}
use Rattle.cover_engine.specs.Unwindings.{Pair, Unwound, path_of, some_false}
use Rattle.cover_engine.specs.Units.{pairs_but_onto, refined_along, strengthened_along}
use Rattle.cover_engine.specs.Caches.{SameShape, below_lefts, pairs_onto, times}
use Rattle.cover_engine.specs.Keeping.{labelled, new_labels_of}
use Rattle.cover_engine.proofs.Labelling.{Falls, falls_inside, labels_inside, labels_refine, labels_strengthen, path_falls, refined_false, refined_nodes, refined_shape}
use Rattle.cover_engine.specs.Openings.{AreWaiting, waits}
use Rattle.cover_engine.proofs.LastSettled.{refines_few}
use Rattle.cover_engine.proofs.LabelTerms.{labels_labelled}
use Rattle.cover_engine.proofs.Waits.{waiting_falls}
use Rattle.cover_engine.proofs.Kept.{kept_refined, refine_enough, refine_lowers}
use Rattle.cover_engine.proofs.UnitLemmas.{legal-after, made_refine}
use Rattle.cover_engine.proofs.unwinding.Unwinding.refined.Goals as goal

pub labels_along-requires-clause-versions : goal.labels_along-requires-clause-versions
labels_along-requires-clause-versions c = λ k. omega (arith, c.self.invariant.0.versions k)

pub lower-requires-clause-inside : goal.lower-requires-clause-inside
lower-requires-clause-inside c =
    let lv : c.args.v.0 < length c.self.inside.tree.vertices = subst (λ (u : Unwound). c.args.v.0 < length u.vertices) (sym c.self.view_is) c.requires.vertex in
    let falls : Falls (suc c.args.v.0) (path_of c.self.inside.tree.vertices c.args.v) = path_falls c.self.inside.tree.vertices c.self.invariant.0.family (length c.self.inside.tree.vertices) c.args.v.0 lv in
    let labels : c.in_ok-labels.labels.items ≡ new_labels_of c.self.inside.tree.terms c.self.inside.tree.vertices (path_of c.self.inside.tree.vertices c.args.v) (reverse c.args.formulas) = c.in_ok-labels.ensures ∙ ap (λ (fs : List TermId). new_labels_of c.self.inside.tree.terms c.self.inside.tree.vertices (path_of c.self.inside.tree.vertices c.args.v) (reverse fs)) c.as_slice.ensures in
    let strong : c.deref-2.result.now ≡ strengthened_along c.self.inside.tree.terms c.self.inside.tree.vertices (path_of c.self.inside.tree.vertices c.args.v) (reverse c.args.formulas) =
    c.deref-2.ensures.value ∙ c.in_ok-strengthened.ensures ∙ ap labelled (c.deref.ensures.value ∙ labels) ∙ labels_strengthen c.self.inside.tree.terms c.self.inside.tree.vertices (path_of c.self.inside.tree.vertices c.args.v) (reverse c.args.formulas) (suc c.args.v.0) falls in
    let low : c.deref-5.result.now ≡ below_lefts c.self.inside.tree.vertices (pairs_onto (strengthened_along c.self.inside.tree.terms c.self.inside.tree.vertices (path_of c.self.inside.tree.vertices c.args.v) (reverse c.args.formulas)) c.self.inside.pairs) =
    c.deref-5.ensures.value ∙ c.in_ok-lowered.ensures ∙ ap (λ (vs : List Vertex). below_lefts vs c.deref-3.result.now) c.vertices.ensures.value
    ∙ ap (below_lefts c.self.inside.tree.vertices) (c.deref-3.ensures.value ∙ c.in_ok-fallen.ensures ∙ ap (λ (ws : List ℕ). pairs_onto ws c.self.inside.pairs) strong) in
    refine_lowers c.self.inside.tree.vertices c.self.inside.pairs c.self.inside.journal.items c.self.inside.apart.items c.self.inside.covers.items c.self.inside.refines c.self.inside.settled c.self.invariant.0 (strengthened_along c.self.inside.tree.terms c.self.inside.tree.vertices (path_of c.self.inside.tree.vertices c.args.v) (reverse c.args.formulas)) c.deref-5.result.now low

pub lower-requires-clause-enough : goal.lower-requires-clause-enough
lower-requires-clause-enough c =
    let lv : c.args.v.0 < length c.self.inside.tree.vertices = subst (λ (u : Unwound). c.args.v.0 < length u.vertices) (sym c.self.view_is) c.requires.vertex in
    let falls : Falls (suc c.args.v.0) (path_of c.self.inside.tree.vertices c.args.v) = path_falls c.self.inside.tree.vertices c.self.invariant.0.family (length c.self.inside.tree.vertices) c.args.v.0 lv in
    let labels : c.in_ok-labels.labels.items ≡ new_labels_of c.self.inside.tree.terms c.self.inside.tree.vertices (path_of c.self.inside.tree.vertices c.args.v) (reverse c.args.formulas) = c.in_ok-labels.ensures ∙ ap (λ (fs : List TermId). new_labels_of c.self.inside.tree.terms c.self.inside.tree.vertices (path_of c.self.inside.tree.vertices c.args.v) (reverse fs)) c.as_slice.ensures in
    let strong : c.deref-2.result.now ≡ strengthened_along c.self.inside.tree.terms c.self.inside.tree.vertices (path_of c.self.inside.tree.vertices c.args.v) (reverse c.args.formulas) =
    c.deref-2.ensures.value ∙ c.in_ok-strengthened.ensures ∙ ap labelled (c.deref.ensures.value ∙ labels) ∙ labels_strengthen c.self.inside.tree.terms c.self.inside.tree.vertices (path_of c.self.inside.tree.vertices c.args.v) (reverse c.args.formulas) (suc c.args.v.0) falls in
    let low : c.deref-5.result.now ≡ below_lefts c.self.inside.tree.vertices (pairs_onto (strengthened_along c.self.inside.tree.terms c.self.inside.tree.vertices (path_of c.self.inside.tree.vertices c.args.v) (reverse c.args.formulas)) c.self.inside.pairs) =
    c.deref-5.ensures.value ∙ c.in_ok-lowered.ensures ∙ ap (λ (vs : List Vertex). below_lefts vs c.deref-3.result.now) c.vertices.ensures.value
    ∙ ap (below_lefts c.self.inside.tree.vertices) (c.deref-3.ensures.value ∙ c.in_ok-fallen.ensures ∙ ap (λ (ws : List ℕ). pairs_onto ws c.self.inside.pairs) strong) in
    refine_enough c.self.inside.tree.vertices c.self.inside.pairs c.self.inside.journal.items c.self.inside.apart.items c.self.inside.covers.items c.self.inside.refines c.self.inside.settled c.self.invariant.0 (strengthened_along c.self.inside.tree.terms c.self.inside.tree.vertices (path_of c.self.inside.tree.vertices c.args.v) (reverse c.args.formulas)) c.deref-5.result.now low

pub relabel-requires-clause-there : goal.relabel-requires-clause-there
relabel-requires-clause-there c =
    let lv : c.args.v.0 < length c.self.inside.tree.vertices = subst (λ (u : Unwound). c.args.v.0 < length u.vertices) (sym c.self.view_is) c.requires.vertex in
    let falls : Falls (suc c.args.v.0) (path_of c.self.inside.tree.vertices c.args.v) = path_falls c.self.inside.tree.vertices c.self.invariant.0.family (length c.self.inside.tree.vertices) c.args.v.0 lv in
    let labels : c.in_ok-labels.labels.items ≡ new_labels_of c.self.inside.tree.terms c.self.inside.tree.vertices (path_of c.self.inside.tree.vertices c.args.v) (reverse c.args.formulas) = c.in_ok-labels.ensures ∙ ap (λ (fs : List TermId). new_labels_of c.self.inside.tree.terms c.self.inside.tree.vertices (path_of c.self.inside.tree.vertices c.args.v) (reverse fs)) c.as_slice.ensures in
    subst (λ (ls : List NewLabel). All (λ (l : NewLabel). l.vertex.0 < length c.self.inside.tree.vertices) ls) (sym labels) (labels_inside c.self.inside.tree.terms c.self.inside.tree.vertices (path_of c.self.inside.tree.vertices c.args.v) (reverse c.args.formulas) (length c.self.inside.tree.vertices) (falls_inside (path_of c.self.inside.tree.vertices c.args.v) (suc c.args.v.0) (length c.self.inside.tree.vertices) (omega arith) falls))

pub relabel-requires-clause-labels : goal.relabel-requires-clause-labels
relabel-requires-clause-labels c =
    let labels : c.in_ok-labels.labels.items ≡ new_labels_of c.self.inside.tree.terms c.self.inside.tree.vertices (path_of c.self.inside.tree.vertices c.args.v) (reverse c.args.formulas) = c.in_ok-labels.ensures ∙ ap (λ (fs : List TermId). new_labels_of c.self.inside.tree.terms c.self.inside.tree.vertices (path_of c.self.inside.tree.vertices c.args.v) (reverse fs)) c.as_slice.ensures in
    let terms : IsLabel c.self.inside.tree.terms c.args.formulas = subst (λ (u : Unwound). IsLabel u.terms c.args.formulas) (sym c.self.view_is) c.requires.terms in
    subst (λ (ls : List NewLabel). All (λ (l : NewLabel). IsLabel c.self.inside.tree.terms l.label) ls) (sym labels) (labels_labelled c.self.inside.tree.terms c.self.inside.tree.vertices (path_of c.self.inside.tree.vertices c.args.v) c.args.formulas c.vertices.ensures.labelled terms)

pub overflow_add-self : goal.overflow_add-self
overflow_add-self c = let few = refines_few c.self.inside.journal.items in omega (arith, few, c.self.invariant.0.settlings.number)

pub invariant_of-self-2 : goal.invariant_of-self-2
invariant_of-self-2 c =
    let lv : c.args.v.0 < length c.self.inside.tree.vertices = subst (λ (u : Unwound). c.args.v.0 < length u.vertices) (sym c.self.view_is) c.requires.vertex in
    let falls : Falls (suc c.args.v.0) (path_of c.self.inside.tree.vertices c.args.v) = path_falls c.self.inside.tree.vertices c.self.invariant.0.family (length c.self.inside.tree.vertices) c.args.v.0 lv in
    let labels : c.in_ok-labels.labels.items ≡ new_labels_of c.self.inside.tree.terms c.self.inside.tree.vertices (path_of c.self.inside.tree.vertices c.args.v) (reverse c.args.formulas) = c.in_ok-labels.ensures ∙ ap (λ (fs : List TermId). new_labels_of c.self.inside.tree.terms c.self.inside.tree.vertices (path_of c.self.inside.tree.vertices c.args.v) (reverse fs)) c.as_slice.ensures in
    let strong : c.deref-2.result.now ≡ strengthened_along c.self.inside.tree.terms c.self.inside.tree.vertices (path_of c.self.inside.tree.vertices c.args.v) (reverse c.args.formulas) =
    c.deref-2.ensures.value ∙ c.in_ok-strengthened.ensures ∙ ap labelled (c.deref.ensures.value ∙ labels) ∙ labels_strengthen c.self.inside.tree.terms c.self.inside.tree.vertices (path_of c.self.inside.tree.vertices c.args.v) (reverse c.args.formulas) (suc c.args.v.0) falls in
    let kept : c.drop_onto.new.self ≡ pairs_but_onto (strengthened_along c.self.inside.tree.terms c.self.inside.tree.vertices (path_of c.self.inside.tree.vertices c.args.v) (reverse c.args.formulas)) c.self.inside.pairs =
    c.drop_onto.ensures ∙ ap (λ (ws : List ℕ). pairs_but_onto ws c.self.inside.pairs) (c.deref-6.ensures.value ∙ sym c.deref-2.ensures.value ∙ strong) in
    let low : c.deref-5.result.now ≡ below_lefts c.self.inside.tree.vertices (pairs_onto (strengthened_along c.self.inside.tree.terms c.self.inside.tree.vertices (path_of c.self.inside.tree.vertices c.args.v) (reverse c.args.formulas)) c.self.inside.pairs) =
    c.deref-5.ensures.value ∙ c.in_ok-lowered.ensures ∙ ap (λ (vs : List Vertex). below_lefts vs c.deref-3.result.now) c.vertices.ensures.value
    ∙ ap (below_lefts c.self.inside.tree.vertices) (c.deref-3.ensures.value ∙ c.in_ok-fallen.ensures ∙ ap (λ (ws : List ℕ). pairs_onto ws c.self.inside.pairs) strong) in
    let after : c.relabel.new.self.vertices ≡ refined_along c.self.inside.tree.terms c.self.inside.tree.vertices (path_of c.self.inside.tree.vertices c.args.v) (reverse c.args.formulas) =
    c.relabel.ensures.vertices ∙ ap (relabelled c.self.inside.tree.vertices) labels ∙ labels_refine c.self.inside.tree.terms c.self.inside.tree.vertices (path_of c.self.inside.tree.vertices c.args.v) (reverse c.args.formulas) (suc c.args.v.0) falls in
    let shape : SameShape c.self.inside.tree.vertices c.relabel.new.self.vertices =
    subst (SameShape c.self.inside.tree.vertices) (sym after) (refined_shape c.self.inside.tree.terms c.self.inside.tree.vertices (path_of c.self.inside.tree.vertices c.args.v) (reverse c.args.formulas)) in
    let nodes : (k : ℕ) → (vertex_at c.relabel.new.self.vertices k).node ≡ (vertex_at c.self.inside.tree.vertices k).node =
    subst (λ (ws : List Vertex). (k : ℕ) → (vertex_at ws k).node ≡ (vertex_at c.self.inside.tree.vertices k).node) (sym after) (refined_nodes c.self.inside.tree.terms c.self.inside.tree.vertices (path_of c.self.inside.tree.vertices c.args.v) (reverse c.args.formulas)) in
    let fine : (k : ℕ) → some_false c.self.inside.tree.terms (vertex_at c.relabel.new.self.vertices k).label ≡ false → some_false c.self.inside.tree.terms (vertex_at c.self.inside.tree.vertices k).label ≡ false =
    subst (λ (ws : List Vertex). (k : ℕ) → some_false c.self.inside.tree.terms (vertex_at ws k).label ≡ false → some_false c.self.inside.tree.terms (vertex_at c.self.inside.tree.vertices k).label ≡ false) (sym after)
    (refined_false c.self.inside.tree.terms c.self.inside.tree.vertices (path_of c.self.inside.tree.vertices c.args.v) (reverse c.args.formulas)) in
    let waiting : AreWaiting c.relabel.new.self.vertices c.self.inside.tree.terms c.lower.new.counts.items c.self.inside.ends.items c.wait_for_leaves.new.waiting =
    waiting_falls c.self.inside.tree.terms c.self.inside.tree.vertices c.relabel.new.self.vertices c.self.inside.covers.items c.lower.new.counts.items c.deref-5.result.now c.self.inside.ends.items c.self.inside.waiting c.wait_for_leaves.new.waiting
    shape.sized c.self.invariant.0.counts_are.sized shape.children nodes fine c.lower.ensures.lowered c.self.invariant.1 c.wait_for_leaves.ensures.kept
    (subst (λ (xs : List ℕ). (k : ℕ) → 1 ≤ times k xs → (vertex_at c.self.inside.tree.vertices k).children ≡ [] → waits c.wait_for_leaves.new.waiting k ≡ true) (c.deref-4.ensures.value ∙ sym c.deref-5.ensures.value)
    (subst (λ (vs : List Vertex). (k : ℕ) → 1 ≤ times k c.deref-4.result.now → (vertex_at vs k).children ≡ [] → waits c.wait_for_leaves.new.waiting k ≡ true) c.vertices-2.ensures.value c.in_ok-wait_for_leaves.ensures.there)) in (
      kept_refined c.self.inside.tree.terms c.self.inside.tree.vertices c.relabel.new.self.vertices c.self.inside.pairs c.drop_onto.new.self (pairs_onto (strengthened_along c.self.inside.tree.terms c.self.inside.tree.vertices (path_of c.self.inside.tree.vertices c.args.v) (reverse c.args.formulas)) c.self.inside.pairs) c.self.inside.journal.items c.push.new.self.items c.self.inside.apart.items c.self.inside.covers.items c.lower.new.counts.items c.deref-5.result.now
          c.self.inside.refines c.self.inside.settled c.args.v c.args.formulas (reverse c.args.formulas) c.self.invariant.0 lv (omega arith) after c.in_ok-push.ensures.items kept refl low c.lower.ensures.sized c.lower.ensures.lowered,
      subst (λ (table : Table). AreWaiting c.relabel.new.self.vertices table c.lower.new.counts.items c.self.inside.ends.items c.wait_for_leaves.new.waiting) (sym c.relabel.ensures.terms) waiting,
    )

pub returns-clause-legal : goal.returns-clause-legal
returns-clause-legal c =
    let lv : c.args.v.0 < length c.self.inside.tree.vertices = subst (λ (u : Unwound). c.args.v.0 < length u.vertices) (sym c.self.view_is) c.requires.vertex in
    let falls : Falls (suc c.args.v.0) (path_of c.self.inside.tree.vertices c.args.v) = path_falls c.self.inside.tree.vertices c.self.invariant.0.family (length c.self.inside.tree.vertices) c.args.v.0 lv in
    let labels : c.in_ok-labels.labels.items ≡ new_labels_of c.self.inside.tree.terms c.self.inside.tree.vertices (path_of c.self.inside.tree.vertices c.args.v) (reverse c.args.formulas) = c.in_ok-labels.ensures ∙ ap (λ (fs : List TermId). new_labels_of c.self.inside.tree.terms c.self.inside.tree.vertices (path_of c.self.inside.tree.vertices c.args.v) (reverse fs)) c.as_slice.ensures in
    let strong : c.deref-2.result.now ≡ strengthened_along c.self.inside.tree.terms c.self.inside.tree.vertices (path_of c.self.inside.tree.vertices c.args.v) (reverse c.args.formulas) =
    c.deref-2.ensures.value ∙ c.in_ok-strengthened.ensures ∙ ap labelled (c.deref.ensures.value ∙ labels) ∙ labels_strengthen c.self.inside.tree.terms c.self.inside.tree.vertices (path_of c.self.inside.tree.vertices c.args.v) (reverse c.args.formulas) (suc c.args.v.0) falls in
    let kept : c.drop_onto.new.self ≡ pairs_but_onto (strengthened_along c.self.inside.tree.terms c.self.inside.tree.vertices (path_of c.self.inside.tree.vertices c.args.v) (reverse c.args.formulas)) c.self.inside.pairs =
    c.drop_onto.ensures ∙ ap (λ (ws : List ℕ). pairs_but_onto ws c.self.inside.pairs) (c.deref-6.ensures.value ∙ sym c.deref-2.ensures.value ∙ strong) in
    let after : c.relabel.new.self.vertices ≡ refined_along c.self.inside.tree.terms c.self.inside.tree.vertices (path_of c.self.inside.tree.vertices c.args.v) (reverse c.args.formulas) =
    c.relabel.ensures.vertices ∙ ap (relabelled c.self.inside.tree.vertices) labels ∙ labels_refine c.self.inside.tree.terms c.self.inside.tree.vertices (path_of c.self.inside.tree.vertices c.args.v) (reverse c.args.formulas) (suc c.args.v.0) falls in
    λ h can. legal-after c.args.graph.now c.args.self.now _ (Refine c.args.v c.args.formulas) h can (made_refine c.self.inside.tree.vertices c.relabel.new.self.vertices c.self.inside.tree.terms c.relabel.new.self.terms c.self.inside.pairs c.drop_onto.new.self c.self.inside.journal.items c.push.new.self.items c.self.inside.apart.items c.args.v c.args.formulas c.args.self.now c.self.view_is after c.relabel.ensures.terms kept c.in_ok-push.ensures.items)

pub returns-clause-done : goal.returns-clause-done
returns-clause-done c =
    let lv : c.args.v.0 < length c.self.inside.tree.vertices = subst (λ (u : Unwound). c.args.v.0 < length u.vertices) (sym c.self.view_is) c.requires.vertex in
    let falls : Falls (suc c.args.v.0) (path_of c.self.inside.tree.vertices c.args.v) = path_falls c.self.inside.tree.vertices c.self.invariant.0.family (length c.self.inside.tree.vertices) c.args.v.0 lv in
    let labels : c.in_ok-labels.labels.items ≡ new_labels_of c.self.inside.tree.terms c.self.inside.tree.vertices (path_of c.self.inside.tree.vertices c.args.v) (reverse c.args.formulas) = c.in_ok-labels.ensures ∙ ap (λ (fs : List TermId). new_labels_of c.self.inside.tree.terms c.self.inside.tree.vertices (path_of c.self.inside.tree.vertices c.args.v) (reverse fs)) c.as_slice.ensures in
    let strong : c.deref-2.result.now ≡ strengthened_along c.self.inside.tree.terms c.self.inside.tree.vertices (path_of c.self.inside.tree.vertices c.args.v) (reverse c.args.formulas) =
    c.deref-2.ensures.value ∙ c.in_ok-strengthened.ensures ∙ ap labelled (c.deref.ensures.value ∙ labels) ∙ labels_strengthen c.self.inside.tree.terms c.self.inside.tree.vertices (path_of c.self.inside.tree.vertices c.args.v) (reverse c.args.formulas) (suc c.args.v.0) falls in
    let kept : c.drop_onto.new.self ≡ pairs_but_onto (strengthened_along c.self.inside.tree.terms c.self.inside.tree.vertices (path_of c.self.inside.tree.vertices c.args.v) (reverse c.args.formulas)) c.self.inside.pairs =
    c.drop_onto.ensures ∙ ap (λ (ws : List ℕ). pairs_but_onto ws c.self.inside.pairs) (c.deref-6.ensures.value ∙ sym c.deref-2.ensures.value ∙ strong) in
    let after : c.relabel.new.self.vertices ≡ refined_along c.self.inside.tree.terms c.self.inside.tree.vertices (path_of c.self.inside.tree.vertices c.args.v) (reverse c.args.formulas) =
    c.relabel.ensures.vertices ∙ ap (relabelled c.self.inside.tree.vertices) labels ∙ labels_refine c.self.inside.tree.terms c.self.inside.tree.vertices (path_of c.self.inside.tree.vertices c.args.v) (reverse c.args.formulas) (suc c.args.v.0) falls in
    made_refine c.self.inside.tree.vertices c.relabel.new.self.vertices c.self.inside.tree.terms c.relabel.new.self.terms c.self.inside.pairs c.drop_onto.new.self c.self.inside.journal.items c.push.new.self.items c.self.inside.apart.items c.args.v c.args.formulas c.args.self.now c.self.view_is after c.relabel.ensures.terms kept c.in_ok-push.ensures.items
