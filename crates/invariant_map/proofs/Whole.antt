-- The map as a whole.
use Rattle.std.proofs.Common.{◌≡◌, ℕ, ◌<◌, Bool, List, [], ◌∷◌, length, refl, sym, ◌∙◌, subst, arith, Option, Some, None, slice_get, slice_index_or, ◌↔◌, zero, suc}
use Rattle.bv_term.specs.declared.term.TermId.{TermId}
use Rattle.bv_term.specs.WellFormed.{Table}
use Rattle.bv_term.specs.Values.{Holds, IsStore}
use Rattle.bv_term.specs.Laws.{Extends}
use Rattle.c_graph.specs.Shape.{Flow, HasWidth, widths_of}
use Rattle.c_graph.specs.Runs.{IsMapOf}
use Rattle.reach_tree.specs.Trees.{vertex_at}
use Rattle.cover_engine.specs.Unwindings.{Unwound}
use Rattle.invariant_map.specs.Copies.{AreCopies}
use Rattle.invariant_map.specs.Labels.{AreLabels, AreLabelsMarked, ArePlaced, AreParts, IsPart, AreTerms, IsTermOrNone, AreFilled, IsFilled, SomeMet, SaysLabels}
use Rattle.invariant_map.proofs.Joins.{part_term}

-- labels that are marked and whose terms are copied have places
pub labels_placed : (u : Unwound) (nodes : ℕ) (new : Table) (marks : List Bool) (ps : List TermId) → AreLabels u → length marks ≡ length u.terms.terms → length ps ≡ length marks
    → AreLabelsMarked u nodes marks (length u.vertices) → AreCopies u.terms new marks ps → ArePlaced u nodes new ps
labels_placed u nodes new marks ps fit size many marked copies k lt c i d l =
    let t : TermId = slice_index_or (vertex_at u.vertices k).label i d in
    let w : HasWidth u.terms t 1 = fit k i d l in
    let below : t.0 < length ps = omega (arith, w.0, size, many) in
    record { below = below; width = w; copy = copies t.0 (record { 0 = 0 }) below (marked k lt c i d l) }

term_at : (table : Table) (ps : List (Option TermId)) (k : ℕ) → (k < length ps → IsTermOrNone table (slice_index_or ps k None)) → IsTermOrNone table (slice_index_or ps k None)
term_at table [] k f = tt
term_at table (p ∷ ps) zero f = f (omega arith)
term_at table (p ∷ ps) (suc k) f = term_at table ps k (λ lt. f (omega (arith, lt)))

pub parts_terms : (u : Unwound) (n : ℕ) (new : Table) (parts : List (Option TermId)) → AreParts u n new parts → AreTerms new parts
parts_terms u n new parts h v = term_at new parts v (λ lt. part_term u (length parts) v n new (slice_index_or parts v None) (h v lt))

formula_told : (u : Unwound) (nodes v n : ℕ) (a b : Table) (o : Option TermId) (t : TermId) (store : List ℕ) → Extends a b → IsStore b.cells store → IsPart u nodes v n a o → IsFilled a b o t
    → (Holds b store t) ↔ (SomeMet u nodes v n store)
formula_told u nodes v n a b None t store g st p f = ((λ h. absurd (f.1 store h)), (λ m. absurd (p store m)))
formula_told u nodes v n a b (Some x) t store g st p f =
    let s : IsStore a.cells store = subst (λ (cs : List ℕ). IsStore cs store) g.0 st in
    let e = f.1 store in
    ((λ h. (p.told store s).0 (sym e ∙ h)), (λ m. e ∙ (p.told store s).1 m))

get_index : (ts : List TermId) (k : ℕ) (d : TermId) → k < length ts → slice_get ts k ≡ Some (slice_index_or ts k d)
get_index [] k d lt = absurd (omega (arith, lt))
get_index (t ∷ ts) zero d lt = refl
get_index (t ∷ ts) (suc k) d lt = get_index ts k d (omega (arith, lt))

filled_width : (a b : Table) (o : Option TermId) (t : TermId) → IsFilled a b o t → HasWidth b t 1
filled_width a b None t h = h.0
filled_width a b (Some f) t h = h.0

pub map_says : (g : Flow) (u : Unwound) (a b : Table) (parts : List (Option TermId)) (ts : List TermId) → length parts ≡ length g.nodes → length ts ≡ length parts
    → Extends a b → AreParts u (length u.vertices) a parts → AreFilled a b parts ts → SaysLabels g u (record { terms = b; at = ts })
map_says g u a b parts ts size many ext p f v store lt st =
    let inside : v.0 < length ts = omega (arith, lt, size, many) in
    let none : TermId = record { 0 = 0 } in
    let part : IsPart u (length g.nodes) v.0 (length u.vertices) a (slice_index_or parts v.0 None) =
    subst (λ (n : ℕ). IsPart u n v.0 (length u.vertices) a (slice_index_or parts v.0 None)) size (p v.0 (omega (arith, lt, size))) in
    let t : TermId = slice_index_or ts v.0 none in
    let r = formula_told u (length g.nodes) v.0 (length u.vertices) a b (slice_index_or parts v.0 None) t store ext st part (f v.0 none inside) in
    let at : slice_get ts v.0 ≡ Some t = get_index ts v.0 none inside in (
      (λ h. r.0 (h t at)),
      (λ m x is.
          let q : Some t ≡ Some x = sym at ∙ is in
          let e : t ≡ x = cc in
          subst (λ (y : TermId). Holds b store y) e (r.1 m)),
    )

pub map_is : (g : Flow) (a b : Table) (parts : List (Option TermId)) (ts : List TermId) → b.cells ≡ widths_of g.cells → length parts ≡ length g.nodes → length ts ≡ length parts
    → AreFilled a b parts ts → IsMapOf g (record { terms = b; at = ts })
map_is g a b parts ts cells size many f = record {
  cells = cells;
  nodes = many ∙ size;
  formulas = λ k d lt. filled_width a b (slice_index_or parts k None) (slice_index_or ts k d) (f k d lt);
}
