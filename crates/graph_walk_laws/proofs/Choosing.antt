-- Which edge a walk takes.
use Rattle.std.proofs.Common.{◌≡◌, ℕ, ◌+◌, ◌<◌, true, false, List, [], ◌∷◌, ◌++◌, Option, Some, None, refl, sym, ap, ◌∙◌, subst, zero, suc, length, length-append, arith, slice_get, slice_index, nat_eq, ◌⊎◌, inl, inr}
use Rattle.std.proofs.lemmas.Bool.{cases_Bool, eqb-true, eq-eqb, ne_eqb}
use Rattle.std.proofs.lemmas.List.{get_or-append-add}
use Rattle.bv_term.specs.declared.term.TermId.{TermId}
use Rattle.bv_term.specs.declared.term.Term.{Term}
use Rattle.bv_term.specs.declared.term.Term.TheVariants.{Not}
use Rattle.bv_term.specs.Numbers.{complement_in}
use Rattle.bv_term.specs.WellFormed.{Table, IsTable, Fits, AllFit, width_in, widths_after, widths}
use Rattle.bv_term.specs.Values.{value, values_after, value_in}
use Rattle.bv_term.proofs.Staying.{values-keep, widths-keep}
use Rattle.c_graph.specs.declared.graph.NodeId.{NodeId}
use Rattle.c_graph.specs.declared.graph.EdgeId.{EdgeId}
use Rattle.c_graph.specs.declared.graph.Edge.{Edge}
use Rattle.c_graph.specs.declared.graph.Operation.{Operation}
use Rattle.c_graph.specs.declared.graph.Operation.TheVariants.{Assume}
use Rattle.c_graph.specs.Shape.{Flow, outs_from}
use Rattle.c_graph.specs.Steps.{Moment, operated, operated_all}
use Rattle.graph_walk_laws.specs.Walks.{BeginsWith, AreComplements, Splits, Place, arrived, along, or_else, first_along}

-- an edge is one of these
abbrev pub Listed : EdgeId → List EdgeId → Type 0
Listed e [] = ⊥
Listed e (x ∷ xs) = (e ≡ x) ⊎ Listed e xs

-- edges that lead from a node
pub is_out : (n : ℕ) (es : List Edge) (v : NodeId) (k : ℕ) (edge : Edge) (e : EdgeId) → e.0 ≡ n + k → slice_get es k ≡ Some edge → edge.from ≡ v → Listed e (outs_from n es v)
is_out n [] v k edge e i s f = absurd cc
is_out n (x ∷ es) v zero edge e i s f =
    let q : x ≡ edge = cc in
    let y : nat_eq x.from.0 v.0 ≡ true = eq-eqb x.from.0 v.0 (ap (λ (w : Edge). w.from.0) q ∙ ap (λ (w : NodeId). w.0) f) in
    let F : ℕ → EdgeId = λ m. record { 0 = m } in
    let same : e ≡ F n = ap F (let z : e.0 ≡ n = omega (arith, i) in z) in
    rw y (inl same)
is_out n (x ∷ es) v (suc k) edge e i s f =
    let ih = is_out (n + 1) es v k edge e (omega (arith, i)) s f in
    elim (cases_Bool (nat_eq x.from.0 v.0)) [ inl y ↦ rw y (inr ih) | inr m ↦ rw m ih ]

pub out_is : (n : ℕ) (es : List Edge) (v : NodeId) (e : EdgeId) → Listed e (outs_from n es v) → (k : ℕ) × (edge : Edge) × (e.0 ≡ n + k) × (slice_get es k ≡ Some edge) × (edge.from.0 ≡ v.0)
out_is n [] v e l = absurd l
out_is n (x ∷ es) v e l = elim (cases_Bool (nat_eq x.from.0 v.0)) [
  | inl y ↦
      let F : ℕ → EdgeId = λ m. record { 0 = m } in
      let h : (e ≡ F n) ⊎ Listed e (outs_from (n + 1) es v) = rw y at l in
      elim h [
        | inl q ↦ (0, x, (let z : e.0 ≡ n = ap (λ (w : EdgeId). w.0) q in omega (arith, z)), refl, eqb-true x.from.0 v.0 y)
        | inr r ↦ let (k, edge, i, s, f) = out_is (n + 1) es v e r in (suc k, edge, omega (arith, i), s, f)
      ]
  | inr m ↦ let h : Listed e (outs_from (n + 1) es v) = rw m at l in let (k, edge, i, s, f) = out_is (n + 1) es v e h in (suc k, edge, omega (arith, i), s, f)
]

-- the value of a complement
not_value : (cells store ws vs : List ℕ) (ts : List Term) (t : TermId) (k : ℕ) → length ws ≡ length vs → AllFit cells ws ts → slice_get ts k ≡ Some (Not t)
    → slice_index (values_after cells store ws vs ts) (length vs + k) ≡ complement_in (slice_index (widths_after cells ws ts) t.0) (slice_index (values_after cells store ws vs ts) t.0)
not_value cells store ws vs [] t k l f s = absurd cc
not_value cells store ws vs (x ∷ ts) t zero l f s =
    let q : x ≡ Not t = cc in
    let w : List ℕ = vs ++ value_in store ws vs x ∷ [] in
    let there : t.0 < length ws = (subst (λ (y : Term). Fits cells ws y) q f.0) in
    let lt : t.0 < length vs = omega (arith, there, l) in
    let z : length vs + 0 ≡ length vs = omega arith in
    let at : slice_index (values_after cells store ws vs (x ∷ ts)) (length vs + 0) ≡ value_in store ws vs x =
    subst (λ (n : ℕ). slice_index (values_after cells store ws vs (x ∷ ts)) n ≡ value_in store ws vs x) (sym z)
    (values-keep cells store (ws ++ width_in cells ws x ∷ []) (vs ++ value_in store ws vs x ∷ []) ts (length vs) (omega (arith, length-append vs (value_in store ws vs x ∷ [])))
    ∙ subst (λ (n : ℕ). slice_index (vs ++ value_in store ws vs x ∷ []) n ≡ value_in store ws vs x) z (get_or-append-add vs (value_in store ws vs x ∷ []) 0 0)) in
    let val : slice_index (values_after cells store ws vs (x ∷ ts)) t.0 ≡ slice_index vs t.0 = values-keep cells store ws vs (x ∷ ts) t.0 lt in
    let wid : slice_index (widths_after cells ws (x ∷ ts)) t.0 ≡ slice_index ws t.0 = widths-keep cells ws (x ∷ ts) t.0 there in
    at ∙ ap (value_in store ws vs) q ∙ ap (λ a. complement_in a (slice_index vs t.0)) (sym wid) ∙ ap (λ b. complement_in (slice_index (widths_after cells ws (x ∷ ts)) t.0) b) (sym val)
not_value cells store ws vs (x ∷ ts) t (suc k) l f s =
    let e : length (vs ++ value_in store ws vs x ∷ []) + k ≡ length vs + suc k = omega (arith, length-append vs (value_in store ws vs x ∷ [])) in
    let l2 : length (ws ++ width_in cells ws x ∷ []) ≡ length (vs ++ value_in store ws vs x ∷ []) = omega (arith, l, length-append vs (value_in store ws vs x ∷ []), length-append ws (width_in cells ws x ∷ [])) in
    subst (λ (n : ℕ). slice_index (values_after cells store ws vs (x ∷ ts)) n ≡ complement_in (slice_index (widths_after cells ws (x ∷ ts)) t.0) (slice_index (values_after cells store ws vs (x ∷ ts)) t.0)) e
    (not_value cells store (ws ++ width_in cells ws x ∷ []) (vs ++ value_in store ws vs x ∷ []) ts t k l2 f.1 s)

-- where the complement is 1 the term is not
complement_off : (table : Table) (store : List ℕ) (t s : TermId) → IsTable table → AreComplements table t s → value table store s ≡ 1 → nat_eq (value table store t) 1 ≡ false
complement_off table store t s is c one =
    let v = not_value table.cells store [] [] table.terms t s.0 refl is.terms c.1 in
    let w : value table store s ≡ complement_in 1 (value table store t) = subst (λ (n : ℕ). slice_index (values_after table.cells store [] [] table.terms) n ≡ complement_in (slice_index (widths table) t.0) (value table store t)) (let z : 0 + s.0 ≡ s.0 = omega arith in z) v ∙ ap (λ a. complement_in a (value table store t)) c.0.1 in
    ne_eqb (value table store t) 1 (λ e. off (value table store t) e (sym one ∙ w))
  where
    off : (n : ℕ) → n ≡ 1 → 1 ≡ complement_in 1 n → ⊥
    off n e h = let q : 1 ≡ complement_in 1 1 = h ∙ ap (complement_in 1) e in cc

none_stays : (table : Table) (ops : List Operation) → operated_all table ops None ≡ None
none_stays table [] = refl
none_stays table (op ∷ ops) = refl

-- an edge that leads on passes its first Assume
passed : (g : Flow) (e : EdgeId) (t : TermId) (m : Moment) (p : Place) → BeginsWith g e t → along g (slice_get g.edges e.0) m ≡ Some p → value g.terms m.store t ≡ 1
passed g e t m p b h =
    let (edge, tail) = b in
    let (rest, s, o) = tail in
    let h1 : arrived edge.to (operated_all g.terms edge.ops (Some m)) ≡ Some p = rw s at h in
    let h2 : arrived edge.to (operated_all g.terms rest (operated g.terms (Assume t) m)) ≡ Some p = rw o at h1 in
    elim (cases_Bool (nat_eq (value g.terms m.store t) 1)) [
      | inl y ↦ eqb-true (value g.terms m.store t) 1 y
      | inr n ↦ absurd (let h3 : arrived edge.to (operated_all g.terms rest None) ≡ Some p = rw n at h2 in let h4 : None ≡ Some p = sym (ap (arrived edge.to) (none_stays g.terms rest)) ∙ h3 in cc)
    ]

blocked : (g : Flow) (e : EdgeId) (t : TermId) (m : Moment) → BeginsWith g e t → nat_eq (value g.terms m.store t) 1 ≡ false → along g (slice_get g.edges e.0) m ≡ None
blocked g e t m b n =
    let (edge, tail) = b in
    let (rest, s, o) = tail in
    let stop : operated g.terms (Assume t) m ≡ None = rw n refl in
    rw (s, o) (ap (λ w. arrived edge.to (operated_all g.terms rest w)) stop ∙ ap (arrived edge.to) (none_stays g.terms rest))

-- of edges that leave no choice, the first that leads on is any that does
pub chosen : (g : Flow) (es : List EdgeId) (e : EdgeId) (m : Moment) (p : Place) → IsTable g.terms → Splits g es → Listed e es → along g (slice_get g.edges e.0) m ≡ Some p → first_along g es m ≡ Some p
chosen g [] e m p is s l h = absurd l
chosen g (x ∷ []) e m p is s l h = elim l [
  | inl q ↦ let h2 : along g (slice_get g.edges x.0) m ≡ Some p = subst (λ (w : EdgeId). along g (slice_get g.edges w.0) m ≡ Some p) q h in ap (λ o. or_else o None) h2
  | inr r ↦ absurd r
]
chosen g (x ∷ y ∷ []) e m p is s l h = elim l [
  | inl q ↦ let h2 : along g (slice_get g.edges x.0) m ≡ Some p = subst (λ (w : EdgeId). along g (slice_get g.edges w.0) m ≡ Some p) q h in ap (λ o. or_else o (first_along g (y ∷ []) m)) h2
  | inr r ↦ elim r [
    | inl q ↦
        let h2 : along g (slice_get g.edges y.0) m ≡ Some p = subst (λ (w : EdgeId). along g (slice_get g.edges w.0) m ≡ Some p) q h in
        let (t, others) = s in
        let (u, b, c, k) = others in
        let one = passed g y u m p c h2 in
        let off = complement_off g.terms m.store t u is k one in
        ap (λ o. or_else o (first_along g (y ∷ []) m)) (blocked g x t m b off) ∙ ap (λ o. or_else o None) h2
    | inr z ↦ absurd z
  ]
]
chosen g (x ∷ y ∷ z ∷ es) e m p is s l h = absurd s

-- what is taken leads on
pub taken_leads : (g : Flow) (es : List EdgeId) (m : Moment) (p : Place) → first_along g es m ≡ Some p → (e : EdgeId) × Listed e es × (along g (slice_get g.edges e.0) m ≡ Some p)
taken_leads g [] m p h = absurd cc
taken_leads g (x ∷ es) m p h = elim (some_or_none (along g (slice_get g.edges x.0) m)) [
  | inl n ↦ let h2 : first_along g es m ≡ Some p = rw n at h in let (e, l, a) = taken_leads g es m p h2 in (e, inr l, a)
  | inr s ↦ let h2 : Some s.0 ≡ Some p = rw s.1 at h in (x, inl refl, s.1 ∙ h2)
]
  where
    some_or_none : (o : Option Place) → (o ≡ None) ⊎ ((q : Place) × (o ≡ Some q))
    some_or_none None = inl refl
    some_or_none (Some q) = inr (q, refl)
