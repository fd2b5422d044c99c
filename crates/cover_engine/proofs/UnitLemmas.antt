-- What the calls of an unwinding need and keep.
use Rattle.std.proofs.Common.{◌≡◌, ◌<◌, ◌∙◌, ℕ, ap, length, slice_index_or, ◌++◌, reverse, List, [], ◌∷◌, sym, refl, subst, Bool, true, false, not, ◌&&◌, ◌==◌}
use Rattle.c_graph.specs.Shape.{Flow}
use Rattle.reach_tree.specs.declared.vertex.VertexId.{VertexId}
use Rattle.std.proofs.lemmas.List.{get_or_default}
use Rattle.reach_tree.specs.declared.vertex.Vertex.{Vertex}
use Rattle.reach_tree.specs.Trees.{root_at, vertex_at}
use Rattle.cover_engine.specs.declared.unit.UnitDone.{UnitDone}
use Rattle.cover_engine.specs.Unwindings.{Pair, Unwound, has, is_above, is_covered, may_pair, path_of, is_none, is_open_leaf, same, yes_since}
use Rattle.bv_term.specs.declared.term.TermId.{TermId}
use Rattle.bv_term.specs.WellFormed.{Table}
use Rattle.cover_engine.specs.declared.unit.Apart.{Apart}
use Rattle.cover_engine.specs.declared.unit.UnitDone.TheVariants.{CoverYes, Refine}
use Rattle.cover_engine.specs.Units.{Can, Legal, after, after_cover, after_refine, pairs_but_onto, pairs_but_under, refined_along, strengthened_along}
use Rattle.cover_engine.proofs.Legality.{legal-unit}

and-left : (a b : Bool) → (a && b) ≡ true → a ≡ true
and-left true b h = refl
and-left false b h = absurd (cc)

and-right : (a b : Bool) → (a && b) ≡ true → b ≡ true
and-right true b h = h
and-right false b h = absurd (cc)

none-nil : {A : Type 0} (xs : List A) → is_none xs ≡ true → xs ≡ []
none-nil [] h = refl
none-nil (x ∷ xs) h = absurd (cc)

-- an open leaf has no children
pub open-childless : (g : Flow) (u : Unwound) (v : VertexId) → is_open_leaf g u v ≡ true → (vertex_at u.vertices v.0).children ≡ []
open-childless g u v h = none-nil (vertex_at u.vertices v.0).children (and-left _ _ h)

-- what a unit makes of a legal unwinding is legal, under another name
pub legal-after : (g : Flow) (old new : Unwound) (x : UnitDone) → Legal g old → Can g old x → new ≡ after g old x → Legal g new
legal-after g old new x h can e = let P : Unwound → Type 0 = Legal g in subst P (sym e) (legal-unit g old x h can)

pub legal-same : (g : Flow) (old new : Unwound) → Legal g old → new ≡ old → Legal g new
legal-same g old new h e = let P : Unwound → Type 0 = Legal g in subst P (sym e) h

-- what is read at a vertex
pub vertex-read : (us vs : List Vertex) (x : Vertex) (k : ℕ) → us ≡ vs → k < length vs → slice_index_or us k x ≡ vertex_at vs k
vertex-read us vs x k same lt = ap (λ (ws : List Vertex). slice_index_or ws k x) same ∙ get_or_default vs k x (root_at (record { 0 = 0 })) lt

-- parts that are those of a unit make its unwinding

made : (vs : List Vertex) (table : Table) (ps qs : List Pair) (js ks : List UnitDone) (others : List Apart) → ps ≡ qs → js ≡ ks
    → (let u : Unwound = record { vertices = vs; terms = table; pairs = ps; journal = js; apart = others } in u) ≡ record { vertices = vs; terms = table; pairs = qs; journal = ks; apart = others }
made vs table ps qs js ks others a b =
    ap (λ (x : List Pair). let u : Unwound = record { vertices = vs; terms = table; pairs = x; journal = js; apart = others } in u) a
    ∙ ap (λ (y : List UnitDone). let u : Unwound = record { vertices = vs; terms = table; pairs = qs; journal = y; apart = others } in u) b

pub made_cover : (vs : List Vertex) (table : Table) (ps kept : List Pair) (js ks : List UnitDone) (others : List Apart) (v w : VertexId) (old : Unwound)
    → record { vertices = vs; terms = table; pairs = ps; journal = js; apart = others } ≡ old → kept ≡ pairs_but_under vs v ps ++ (v, w) ∷ [] → ks ≡ js ++ CoverYes v w ∷ []
    → record { vertices = vs; terms = table; pairs = kept; journal = ks; apart = others } ≡ after_cover old v w
made_cover vs table ps kept js ks others v w old is ke ends =
    made vs table kept (pairs_but_under vs v ps ++ (v, w) ∷ []) ks (js ++ CoverYes v w ∷ []) others ke ends ∙ ap (λ (u : Unwound). after_cover u v w) is

pub made_refine : (vs ws : List Vertex) (table table' : Table) (ps kept : List Pair) (js ks : List UnitDone) (others : List Apart) (v : VertexId) (fs : List TermId) (old : Unwound)
    → record { vertices = vs; terms = table; pairs = ps; journal = js; apart = others } ≡ old
    → ws ≡ refined_along table vs (path_of vs v) (reverse fs) → table' ≡ table → kept ≡ pairs_but_onto (strengthened_along table vs (path_of vs v) (reverse fs)) ps → ks ≡ js ++ Refine v fs ∷ []
    → record { vertices = ws; terms = table'; pairs = kept; journal = ks; apart = others } ≡ after_refine old v fs
made_refine vs ws table table' ps kept js ks others v fs old is a t ke ends =
    ap (λ (x : List Vertex). let u : Unwound = record { vertices = x; terms = table'; pairs = kept; journal = ks; apart = others } in u) a
    ∙ ap (λ (y : Table). let u : Unwound = record { vertices = refined_along table vs (path_of vs v) (reverse fs); terms = y; pairs = kept; journal = ks; apart = others } in u) t
    ∙ made (refined_along table vs (path_of vs v) (reverse fs)) table kept (pairs_but_onto (strengthened_along table vs (path_of vs v) (reverse fs)) ps) ks (js ++ Refine v fs ∷ []) others ke ends
    ∙ ap (λ (u : Unwound). after_refine u v fs) is

-- the left side of a pair is no ancestor of the right
pub pair-apart : (u : Unwound) (v w : VertexId) → may_pair u v w ≡ true → has v.0 (path_of u.vertices w) ≡ false
pair-apart u v w h =
    let five = and-right (not (same v w)) _ h in
    let four = and-right ((vertex_at u.vertices v.0).node.0 == (vertex_at u.vertices w.0).node.0) _ five in
    let three = and-right (not (is_covered u v)) _ four in
    let two = and-right (not (is_covered u w)) _ three in
    above (has v.0 (path_of u.vertices w)) (and-left (not (is_above u.vertices v w)) (not (yes_since false u.journal v w)) two)
  where
    above : (b : Bool) → not b ≡ true → b ≡ false
    above true e = absurd (cc)
    above false e = refl
