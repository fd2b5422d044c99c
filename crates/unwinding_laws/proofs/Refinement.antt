-- A Refine keeps an unwinding well labelled.
use Rattle.std.proofs.Common.{◌≡◌, ℕ, ◌<◌, true, false, List, [], length, Option, Some, None, ◌⊎◌, inl, inr, refl, sym, ap, ◌∙◌, subst, arith, suc, slice_get, slice_index_or, reverse}
use Rattle.std.specs.List.{All}
use Rattle.std.proofs.lemmas.Bool.{cases_Bool, both_ways}
use Rattle.bv_term.specs.declared.term.TermId.{TermId}
use Rattle.bv_term.specs.WellFormed.{Table}
use Rattle.bv_term.specs.Values.{Holds}
use Rattle.c_graph.specs.declared.graph.NodeId.{NodeId}
use Rattle.c_graph.specs.declared.graph.EdgeId.{EdgeId}
use Rattle.c_graph.specs.Shape.{Flow, outs}
use Rattle.reach_tree.specs.declared.vertex.VertexId.{VertexId}
use Rattle.reach_tree.specs.declared.vertex.Vertex.{Vertex}
use Rattle.reach_tree.specs.Trees.{vertex_at}
use Rattle.needed_cells.specs.Formulas.{is_true_term}
use Rattle.cover_engine.specs.Unwindings.{Unwound, Pair, any_of, has, path_of, is_left}
use Rattle.cover_engine.specs.Units.{Meets, CanRefine, after_refine, refined_along, strengthened_along, pairs_but_onto}
use Rattle.cover_engine.specs.WellLabelled.{ChildFollows, LedBy, IsWholeFamily, PairHolds}
use Rattle.unwinding_laws.proofs.Vertices.{meets_none}
use Rattle.unwinding_laws.proofs.Paths.{Path, path_is, path_falls, any_of_fewer}
use Rattle.unwinding_laws.proofs.Formulas.{formula_of, Up, up_of_links, formula_above, ends_true, root_formula, up_length}
use Rattle.unwinding_laws.proofs.Refining.{adds, shown, refined_length, at_refined, listed_where_added}
use Rattle.unwinding_laws.proofs.Units.{Good, Alike, family_alike, path_alike, led_alike, shown_meets, shown_formula, shown_met, shown_parent, shown_by, shown_node, shown_children, left_fewer_onto, each_onto}

some_or_none : (o : Option TermId) → (o ≡ None) ⊎ ((f : TermId) × (o ≡ Some f))
some_or_none None = inl refl
some_or_none (Some f) = inr (f, refl)

shown_none : (table : Table) (x : Vertex) (o : Option TermId) → o ≡ None → (shown table x o).label ≡ x.label
shown_none table x o e = rw e refl

shown_not : (table : Table) (x : Vertex) (f : TermId) (o : Option TermId) → o ≡ Some f → adds table x f ≡ false → (shown table x o).label ≡ x.label
shown_not table x f o e n = rw (e, n) refl

true_adds_not : (table : Table) (x : Vertex) (f : TermId) → is_true_term table f ≡ true → adds table x f ≡ false
true_adds_not table x f t = rw t refl

module _ (g : Flow) (u : Unwound) (v : VertexId) (fs : List TermId) (good : Good g u) (can : CanRefine g u v fs) where
  up : List ℕ
  up = path_of u.vertices v

  made : List Vertex
  made = refined_along u.terms u.vertices (path_of u.vertices v) (reverse fs)

  path : Path u.vertices v.0 up
  unfolding up
  path = path_is u.vertices good.family (length u.vertices) v.0 can.vertex can.vertex

  chain : Up g u.terms u.vertices up (reverse fs)
  unfolding up
  chain = up_of_links g u.terms u.vertices (path_of u.vertices v) fs can.links

  at : (k : ℕ) → vertex_at made k ≡ shown u.terms (vertex_at u.vertices k) (formula_of up (reverse fs) k)
  unfolding up made
  at k = at_refined u.terms u.vertices (path_of u.vertices v) (reverse fs) (suc v.0) k (path_falls path) (omega (arith, can.vertex))

  alike : Alike u.vertices made
  unfolding made
  alike = record {
    size = refined_length u.terms u.vertices (path_of u.vertices v) (reverse fs);
    parent = λ k. ap (λ (x : Vertex). x.parent) (at k) ∙ shown_parent u.terms (vertex_at u.vertices k) (formula_of up (reverse fs) k);
    by = λ k. ap (λ (x : Vertex). x.by) (at k) ∙ shown_by u.terms (vertex_at u.vertices k) (formula_of up (reverse fs) k);
    node = λ k. ap (λ (x : Vertex). x.node) (at k) ∙ shown_node u.terms (vertex_at u.vertices k) (formula_of up (reverse fs) k);
    children = λ k. ap (λ (x : Vertex). x.children) (at k) ∙ shown_children u.terms (vertex_at u.vertices k) (formula_of up (reverse fs) k);
  }

  root : (vertex_at made 0).label ≡ []
  root =
      let label : (vertex_at made 0).label ≡ (shown u.terms (vertex_at u.vertices 0) (formula_of up (reverse fs) 0)).label = ap (λ (x : Vertex). x.label) (at 0) in
      elim (some_or_none (formula_of up (reverse fs) 0)) [
        | inl e ↦ label ∙ shown_none u.terms (vertex_at u.vertices 0) (formula_of up (reverse fs) 0) e ∙ good.root
        | inr s ↦
            let t = root_formula u.terms (suc v.0) up (reverse fs) s.0 (path_falls path) (up_length g u.terms u.vertices up (reverse fs) chain) (ends_true u.terms fs can.first) s.1 in
            label ∙ shown_not u.terms (vertex_at u.vertices 0) s.0 (formula_of up (reverse fs) 0) s.1 (true_adds_not u.terms (vertex_at u.vertices 0) s.0 t) ∙ good.root
      ]

  -- what meets a new label meets the old one, and its formula
  meets_old : (k : ℕ) (store : List ℕ) → Meets u.terms store (vertex_at made k).label → Meets u.terms store (vertex_at u.vertices k).label
  meets_old k store m = shown_meets u.terms store (vertex_at u.vertices k) (formula_of up (reverse fs) k) (subst (λ (x : Vertex). Meets u.terms store x.label) (at k) m)

  meets_formula : (k : ℕ) (f : TermId) (store : List ℕ) → formula_of up (reverse fs) k ≡ Some f → Meets u.terms store (vertex_at made k).label → Holds u.terms store f
  meets_formula k f store e m = shown_formula u.terms store (vertex_at u.vertices k) f (subst (λ (o : Option TermId). Meets u.terms store (shown u.terms (vertex_at u.vertices k) o).label) e (subst (λ (x : Vertex). Meets u.terms store x.label) (at k) m))

  follows : (w : VertexId) (c : VertexId) → (vertex_at u.vertices c.0).parent ≡ Some w → ChildFollows g u w c → ChildFollows g (after_refine u v fs) w c
  unfolding made
  follows w c par old = (
    old.0,
    alike.by c.0 ∙ old.1,
    λ edge store draws after ge whole m leads.
        let was = old.2 edge store draws after ge whole (meets_old w.0 store m) leads in
        let new = shown_met u.terms after (vertex_at u.vertices c.0) (formula_of up (reverse fs) c.0) was (λ h is.
        let (f, above, link) = formula_above g u.terms u.vertices (reverse fs) c.0 w h path chain is par in
        let se : Some old.0 ≡ Some link.0 = sym old.1 ∙ link.1 in
        let same : old.0 ≡ link.0 = cc in
        link.2 edge store draws after (subst (λ (e : EdgeId). slice_get g.edges e.0 ≡ Some edge) same ge) whole (meets_formula w.0 f store above m) leads) in
        subst (λ (x : Vertex). Meets u.terms after x.label) (sym (at c.0)) new,
  )

  -- a label onto which a pair is kept is as it was
  kept_label : (w : VertexId) → has w.0 (strengthened_along u.terms u.vertices up (reverse fs)) ≡ false → (vertex_at made w.0).label ≡ (vertex_at u.vertices w.0).label
  kept_label w n =
      let label : (vertex_at made w.0).label ≡ (shown u.terms (vertex_at u.vertices w.0) (formula_of up (reverse fs) w.0)).label = ap (λ (x : Vertex). x.label) (at w.0) in
      elim (some_or_none (formula_of up (reverse fs) w.0)) [
        | inl e ↦ label ∙ shown_none u.terms (vertex_at u.vertices w.0) (formula_of up (reverse fs) w.0) e
        | inr s ↦ elim (cases_Bool (adds u.terms (vertex_at u.vertices w.0) s.0)) [
          | inl y ↦ absurd (both_ways (has w.0 (strengthened_along u.terms u.vertices up (reverse fs))) n (listed_where_added u.terms u.vertices up (reverse fs) (suc v.0) w.0 s.0 (path_falls path) s.1 y))
          | inr y ↦ label ∙ shown_not u.terms (vertex_at u.vertices w.0) s.0 (formula_of up (reverse fs) w.0) s.1 y
        ]
      ]

  pair_kept : (p : Pair) → (p.0.0 < length u.vertices) × (p.1.0 < length u.vertices) → PairHolds g u p.0 p.1 → has p.1.0 (strengthened_along u.terms u.vertices up (reverse fs)) ≡ false → PairHolds g (after_refine u v fs) p.0 p.1
  unfolding up made
  pair_kept p lt old n =
      let same : path_of made p.1 ≡ path_of u.vertices p.1 = path_alike u.vertices made alike good.family p.1 lt.1 in (
        alike.node p.0.0 ∙ old.0 ∙ sym (alike.node p.1.0),
        (λ store whole m. subst (λ (l : List TermId). Meets u.terms store l) (sym (kept_label p.1 n)) (old.1 store whole (meets_old p.0.0 store m))),
        ap (any_of (is_left (pairs_but_onto (strengthened_along u.terms u.vertices up (reverse fs)) u.pairs))) same ∙ any_of_fewer (is_left (pairs_but_onto (strengthened_along u.terms u.vertices up (reverse fs)) u.pairs)) (is_left u.pairs) (path_of u.vertices p.1) (λ x. left_fewer_onto (strengthened_along u.terms u.vertices up (reverse fs)) u.pairs x) old.2,
        ap (has p.0.0) same ∙ old.3,
      )

  family_kept : (w : VertexId) → IsWholeFamily g u w → IsWholeFamily g (after_refine u v fs) w
  unfolding made
  family_kept w old = elim old [
    | inl e ↦ inl (alike.children w.0 ∙ e)
    | inr q ↦ inr (
      subst (λ (cs : List VertexId). LedBy made cs (outs g (vertex_at made w.0).node)) (sym (alike.children w.0)) (subst (λ (n : NodeId). LedBy made (vertex_at u.vertices w.0).children (outs g n)) (sym (alike.node w.0)) (led_alike u.vertices made alike (vertex_at u.vertices w.0).children (outs g (vertex_at u.vertices w.0).node) q.0)),
      ap (λ (n : NodeId). slice_get g.nodes n.0) (alike.node w.0) ∙ q.1,
    )
  ]

  pub good_refine : Good g (after_refine u v fs)
  unfolding up made
  good_refine =
      let In : Pair → Type 0 = λ p. (p.0.0 < length u.vertices) × (p.1.0 < length u.vertices) in
      let In2 : Pair → Type 0 = λ p. (p.0.0 < length made) × (p.1.0 < length made) in
      let Both : Pair → Type 0 = λ p. In p × PairHolds g u p.0 p.1 in
      let New : Pair → Type 0 = λ p. PairHolds g (after_refine u v fs) p.0 p.1 in
      let both : All Both u.pairs = λ k d lt. (good.inside k d lt, good.well.pairs k d lt) in
      let ws : List ℕ = strengthened_along u.terms u.vertices up (reverse fs) in
      record {
        family = family_alike u.vertices made alike good.family;
        root = root;
        inside = each_onto In In2 ws u.pairs good.inside (λ p q n. (omega (arith, q.0, alike.size), omega (arith, q.1, alike.size)));
        well = record {
          root = λ store whole. subst (λ (l : List TermId). Meets u.terms store l) (sym root) (meets_none u.terms store);
          follows = λ w lt.
              let old = good.well.follows w (omega (arith, lt, alike.size)) in
              let kid = good.family.kids w (omega (arith, lt, alike.size)) in
              let P : VertexId → Type 0 = λ c. ChildFollows g (after_refine u v fs) w c in
              let moved : All P (vertex_at u.vertices w.0).children = λ k d l. follows w (slice_index_or (vertex_at u.vertices w.0).children k d) (kid k d l).1 (old k d l) in
              subst (All P) (sym (alike.children w.0)) moved;
          families = λ w lt. family_kept w (good.well.families w (omega (arith, lt, alike.size)));
          pairs = each_onto Both New ws u.pairs both (λ p q n. pair_kept p q.0 q.1 n);
        };
      }
