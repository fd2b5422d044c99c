-- Vertices of a tree after a change, and stores that meet labels.
use Rattle.std.proofs.Common.{◌≡◌, ◌≢◌, ℕ, ◌+◌, ◌<◌, Bool, true, false, List, [], ◌∷◌, ◌++◌, length, slice_get, slice_index, Some, inl, inr, sym, ◌∙◌, subst, arith, zero, suc, nat_eq, length-append, ◌&&◌}
use Rattle.std.proofs.lemmas.List.{length-set, get_or-set_same, get_or-set_other, get_or_append_left, get_or-append-add}
use Rattle.std.proofs.lemmas.List.Elements.{All-push}
use Rattle.std.proofs.lemmas.Bool.{eqb-true, or_cases}
use Rattle.bv_term.specs.declared.term.TermId.{TermId}
use Rattle.bv_term.specs.declared.term.Term.{Term}
use Rattle.bv_term.specs.declared.term.Term.TheVariants.{Constant}
use Rattle.bv_term.specs.WellFormed.{Table, width_in}
use Rattle.bv_term.specs.Values.{Holds, value_in, values_after}
use Rattle.bv_term.proofs.Staying.{values-keep}
use Rattle.reach_tree.specs.declared.vertex.Vertex.{Vertex}
use Rattle.reach_tree.specs.Trees.{vertex_at, changed, root_at}
use Rattle.needed_cells.specs.Formulas.{is_bit, is_true_term}
use Rattle.cover_engine.specs.Unwindings.{has}
use Rattle.cover_engine.specs.Units.{Meets, numbers_of}

pub nobody : Vertex
nobody = root_at (record { 0 = 0 })

-- the vertex that was changed, and any other
pub changed_same : (vs : List Vertex) (k : ℕ) (f : Vertex → Vertex) → k < length vs → vertex_at (changed vs k f) k ≡ f (vertex_at vs k)
changed_same vs k f lt = get_or-set_same vs k (f (vertex_at vs k)) (root_at (record { 0 = 0 })) lt

pub changed_other : (vs : List Vertex) (k j : ℕ) (f : Vertex → Vertex) → j ≢ k → vertex_at (changed vs k f) j ≡ vertex_at vs j
changed_other vs k j f ne = get_or-set_other vs k j (f (vertex_at vs k)) (root_at (record { 0 = 0 })) ne

pub changed_length : (vs : List Vertex) (k : ℕ) (f : Vertex → Vertex) → length (changed vs k f) ≡ length vs
changed_length vs k f = length-set vs k (f (vertex_at vs k))

pub vertex_front : (vs ws : List Vertex) (k : ℕ) → k < length vs → vertex_at (vs ++ ws) k ≡ vertex_at vs k
vertex_front vs ws k lt = get_or_append_left vs ws (root_at (record { 0 = 0 })) k lt

pub vertex_back : (vs ws : List Vertex) (k : ℕ) → vertex_at (vs ++ ws) (length vs + k) ≡ vertex_at ws k
vertex_back vs ws k = get_or-append-add vs ws k (root_at (record { 0 = 0 }))

-- labels

pub meets_none : (table : Table) (store : List ℕ) → Meets table store []
meets_none table store k d lt = absurd (omega (arith, lt))

pub meets_more : (table : Table) (store : List ℕ) (label : List TermId) (f : TermId) → Meets table store label → Holds table store f → Meets table store (label ++ f ∷ [])
meets_more table store label f m h = All-push (Holds table store) label f m h

pub meets_front : (table : Table) (store : List ℕ) (label : List TermId) (f : TermId) → Meets table store (label ++ f ∷ []) → Meets table store label
meets_front table store label f m k d lt = subst (Holds table store) (get_or_append_left label (f ∷ []) d k lt) (m k d (omega (arith, lt, length-append label (f ∷ []))))

pub meets_last : (table : Table) (store : List ℕ) (label : List TermId) (f : TermId) → Meets table store (label ++ f ∷ []) → Holds table store f
meets_last table store label f m = subst (Holds table store) (get_or-append-add label (f ∷ []) 0 f) (m (length label + 0) f (omega (arith, length-append label (f ∷ []))))

-- a conjunct of a label that is met holds
pub meets_has : (table : Table) (store : List ℕ) (label : List TermId) (f : TermId) → has f.0 (numbers_of label) ≡ true → Meets table store label → Holds table store f
meets_has table store [] f h m = absurd cc
meets_has table store (t ∷ label) f h m = elim (or_cases (nat_eq t.0 f.0) (has f.0 (numbers_of label)) h) [
  | inl a ↦ let e : t.0 ≡ f.0 = eqb-true t.0 f.0 a in subst (λ (n : ℕ). Holds table store (record { 0 = n })) e (m 0 t (omega arith))
  | inr b ↦ meets_has table store label f b (λ k d lt. m (suc k) d (omega (arith, lt)))
]

-- the term true holds in each store
true_bit : (t : Term) → is_bit 1 (Some t) ≡ true → (store ws vs : List ℕ) → value_in store ws vs t ≡ 1
true_bit (Constant w v) h store ws vs = eqb-true v 1 (and_second (nat_eq w 1) (nat_eq v 1) h)
  where
    and_second : (a b : Bool) → a && b ≡ true → b ≡ true
    and_second true b e = e
    and_second false b e = absurd cc
true_bit _ h store ws vs = absurd cc

true_value : (cells store ws vs : List ℕ) (ts : List Term) (k : ℕ) → is_bit 1 (slice_get ts k) ≡ true → slice_index (values_after cells store ws vs ts) (length vs + k) ≡ 1
true_value cells store ws vs [] k h = absurd cc
true_value cells store ws vs (t ∷ ts) zero h =
    let z : length vs + 0 ≡ length vs = omega arith in
    let lt : length vs < length (vs ++ value_in store ws vs t ∷ []) = omega (arith, length-append vs (value_in store ws vs t ∷ [])) in
    subst (λ n. slice_index (values_after cells store ws vs (t ∷ ts)) n ≡ 1) (sym z)
    (values-keep cells store (ws ++ width_in cells ws t ∷ []) (vs ++ value_in store ws vs t ∷ []) ts (length vs) lt
    ∙ subst (λ n. slice_index (vs ++ value_in store ws vs t ∷ []) n ≡ value_in store ws vs t) z (get_or-append-add vs (value_in store ws vs t ∷ []) 0 0)
    ∙ true_bit t h store ws vs)
true_value cells store ws vs (t ∷ ts) (suc k) h =
    let e : length (vs ++ value_in store ws vs t ∷ []) + k ≡ length vs + suc k = omega (arith, length-append vs (value_in store ws vs t ∷ [])) in
    subst (λ n. slice_index (values_after cells store (ws ++ width_in cells ws t ∷ []) (vs ++ value_in store ws vs t ∷ []) ts) n ≡ 1) e (true_value cells store (ws ++ width_in cells ws t ∷ []) (vs ++ value_in store ws vs t ∷ []) ts k h)

pub true_holds : (table : Table) (store : List ℕ) (t : TermId) → is_true_term table t ≡ true → Holds table store t
true_holds table store t h = subst (λ n. slice_index (values_after table.cells store [] [] table.terms) n ≡ 1) (omega arith) (true_value table.cells store [] [] table.terms t.0 h)
