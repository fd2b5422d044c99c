-- Where a path has no more formulas.
use Rattle.std.proofs.Common.{◌≡◌, ℕ, ◌-◌, ◌<◌, ◌≤◌, length, List, [], ◌∷◌, ◌++◌, ap, sym, ◌∙◌, refl, drop, zero, suc, arith, Option, Some, None, append_assoc}
use Rattle.std.proofs.lemmas.List.{drop_all, append-nil}
use Rattle.bv_term.specs.declared.term.TermId.{TermId}
use Rattle.bv_term.specs.WellFormed.{Table}
use Rattle.reach_tree.specs.declared.vertex.VertexId.{VertexId}
use Rattle.reach_tree.specs.declared.vertex.Vertex.{Vertex}
use Rattle.reach_tree.specs.Trees.{vertex_at}
use Rattle.cover_engine.specs.Unwindings.{path_up}
use Rattle.reach_tree.specs.declared.vertex.NewLabel.{NewLabel}
use Rattle.cover_engine.specs.Keeping.{new_labels_of}

labels-nil : (table : Table) (vs : List Vertex) (xs : List ℕ) → new_labels_of table vs xs [] ≡ []
labels-nil table vs [] = refl
labels-nil table vs (x ∷ xs) = refl

pub labels-end : (table : Table) (vs : List Vertex) (acc whole : List NewLabel) (xs : List ℕ) (fs : List TermId) (n : ℕ) → length fs ≤ n
    → acc ++ new_labels_of table vs xs (drop n fs) ≡ whole → acc ≡ whole
labels-end table vs acc whole xs fs n le h =
    sym (append-nil acc)
    ∙ sym (ap (λ (z : List NewLabel). acc ++ z) (ap (λ (z : List TermId). new_labels_of table vs xs z) (drop_all n fs le) ∙ labels-nil table vs xs))
    ∙ h

-- a path goes on at the parent
path-climbs : (vs : List Vertex) (n v : ℕ) (p : VertexId) → 0 < n → Some p ≡ (vertex_at vs v).parent → path_up vs n v ≡ v ∷ path_up vs (n - 1) p.0
path-climbs vs zero v p lt e = absurd (omega arith)
path-climbs vs (suc n) v p lt e =
    let z : suc n - 1 ≡ n = omega arith in
    ap (λ (xs : List ℕ). v ∷ xs) (up (vertex_at vs v).parent e ∙ ap (λ (m : ℕ). path_up vs m p.0) (sym z))
  where
    up : (r : Option VertexId) → Some p ≡ r → elim r [ None ↦ [] | Some q ↦ path_up vs n q.0 ] ≡ path_up vs n p.0
    up None q = absurd (cc)
    up (Some x) q = let same : x ≡ p = cc in ap (λ (y : VertexId). path_up vs n y.0) same

pub path-more : (vs : List Vertex) (acc new whole : List ℕ) (n v : ℕ) (p : VertexId) → 0 < n → Some p ≡ (vertex_at vs v).parent
    → new ≡ acc ++ v ∷ [] → acc ++ path_up vs n v ≡ whole → new ++ path_up vs (n - 1) p.0 ≡ whole
path-more vs acc new whole n v p lt e is h =
    ap (λ (z : List ℕ). z ++ path_up vs (n - 1) p.0) is
    ∙ append_assoc acc (v ∷ []) (path_up vs (n - 1) p.0)
    ∙ ap (λ (z : List ℕ). acc ++ z) (sym (path-climbs vs n v p lt e))
    ∙ h
