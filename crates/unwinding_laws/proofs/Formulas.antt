-- The formulas of a chain, each at its vertex, from the leaf up.
use Rattle.std.proofs.Common.{◌≡◌, ℕ, ◌<◌, true, false, cond, List, [], ◌∷◌, ◌++◌, length, Option, Some, None, inl, inr, refl, sym, ap, ◌∙◌, subst, arith, suc, nat_eq, reverse, append_assoc}
use Rattle.std.proofs.lemmas.List.{reverse-reverse, reverse-append}
use Rattle.std.proofs.lemmas.Bool.{eqb-true, eq-eqb, cases_Bool, ne_eqb}
use Rattle.bv_term.specs.declared.term.TermId.{TermId}
use Rattle.bv_term.specs.WellFormed.{Table}
use Rattle.c_graph.specs.declared.graph.EdgeId.{EdgeId}
use Rattle.c_graph.specs.Shape.{Flow}
use Rattle.reach_tree.specs.declared.vertex.VertexId.{VertexId}
use Rattle.reach_tree.specs.declared.vertex.Vertex.{Vertex}
use Rattle.reach_tree.specs.Trees.{vertex_at}
use Rattle.needed_cells.specs.Formulas.{EdgeImplies, begins_true, is_true_term}
use Rattle.cover_engine.specs.Units.{Links}
use Rattle.unwinding_laws.proofs.Paths.{Path, Path.top, Path.step, Falls, falls_wider, path_falls}

-- the formula at a number of a list
abbrev pub formula_of : List ℕ → List TermId → ℕ → Option TermId
formula_of [] fs y = None
formula_of (x ∷ xs) [] y = None
formula_of (x ∷ xs) (f ∷ fs) y = cond (nat_eq x y) (Some f) (formula_of xs fs y)

module _ (g : Flow) (table : Table) (vs : List Vertex) where
  -- the formula above with the edge to this vertex implies the formula here
  abbrev pub Link : ℕ → TermId → TermId → Type 0
  Link y f h = (e : EdgeId) × ((vertex_at vs y).by ≡ Some e) × EdgeImplies g table e f h

  -- a chain read downwards, and upwards
  abbrev pub Down : List ℕ → List TermId → Type 0
  Down [] fs = ⊥
  Down (x ∷ xs) [] = ⊥
  Down (x ∷ []) (f ∷ []) = Unit {0}
  Down (x ∷ []) (f ∷ h ∷ fs) = ⊥
  Down (x ∷ y ∷ xs) (f ∷ []) = ⊥
  Down (x ∷ y ∷ xs) (f ∷ h ∷ fs) = Link y f h × Down (y ∷ xs) (h ∷ fs)

  abbrev pub Up : List ℕ → List TermId → Type 0
  Up [] fs = ⊥
  Up (y ∷ ys) [] = ⊥
  Up (y ∷ []) (h ∷ []) = Unit {0}
  Up (y ∷ []) (h ∷ f ∷ fs) = ⊥
  Up (y ∷ x ∷ xs) (h ∷ []) = ⊥
  Up (y ∷ x ∷ xs) (h ∷ f ∷ fs) = Link y f h × Up (x ∷ xs) (f ∷ fs)

  down_of : (xs : List ℕ) (fs : List TermId) → Links g table vs xs fs → Down xs fs
  down_of [] fs l = l
  down_of (x ∷ xs) [] l = l
  down_of (x ∷ []) (f ∷ []) l = tt
  down_of (x ∷ []) (f ∷ h ∷ fs) l = l
  down_of (x ∷ y ∷ xs) (f ∷ []) l = l
  down_of (x ∷ y ∷ xs) (f ∷ h ∷ fs) l = (l.0, down_of (y ∷ xs) (h ∷ fs) l.1)

  turn : {A : Type 0} (x : A) (xs acc : List A) → reverse (x ∷ xs) ++ acc ≡ reverse xs ++ (x ∷ acc)
  turn x xs acc = ap (λ w. w ++ acc) (reverse-append (x ∷ []) xs) ∙ append_assoc (reverse xs) (x ∷ []) acc

  up_onto : (x : ℕ) (xs acc : List ℕ) (f : TermId) (fs facc : List TermId) → Down (x ∷ xs) (f ∷ fs) → Up (x ∷ acc) (f ∷ facc) → Up (reverse xs ++ (x ∷ acc)) (reverse fs ++ (f ∷ facc))
  up_onto x [] acc f [] facc d u = u
  up_onto x [] acc f (h ∷ fs) facc d u = absurd d
  up_onto x (y ∷ xs) acc f [] facc d u = absurd d
  up_onto x (y ∷ xs) acc f (h ∷ fs) facc d u =
      let ih = up_onto y xs (x ∷ acc) h fs (f ∷ facc) d.1 (d.0, u) in
      subst (λ w. Up w (reverse (h ∷ fs) ++ (f ∷ facc))) (sym (turn y xs (x ∷ acc))) (subst (λ w. Up (reverse xs ++ (y ∷ x ∷ acc)) w) (sym (turn h fs (f ∷ facc))) ih)

  up_of_down : (xs : List ℕ) (fs : List TermId) → Down xs fs → Up (reverse xs) (reverse fs)
  up_of_down [] fs d = absurd d
  up_of_down (x ∷ xs) [] d = absurd d
  up_of_down (x ∷ xs) (f ∷ fs) d =
      let u : Up (x ∷ []) (f ∷ []) = tt in
      subst (λ w. Up w (reverse (f ∷ fs))) (sym (reverse-append (x ∷ []) xs)) (subst (λ w. Up (reverse xs ++ (x ∷ [])) w) (sym (reverse-append (f ∷ []) fs)) (up_onto x xs [] f fs [] d u))

  -- the formulas of a legal Refine, read from the leaf up
  pub up_of_links : (up : List ℕ) (fs : List TermId) → Links g table vs (reverse up) fs → Up up (reverse fs)
  up_of_links up fs l = subst (λ w. Up w (reverse fs)) (reverse-reverse up) (up_of_down (reverse up) fs (down_of (reverse up) fs l))

  up_nil : {x : ℕ} {xs : List ℕ} → Path vs x xs → Up xs [] → ⊥
  up_nil (top e) u = u
  up_nil (step e b q) u = u

  up_short : {x : ℕ} {xs : List ℕ} (v : ℕ) (k : TermId) → Path vs x xs → Up (v ∷ xs) (k ∷ []) → ⊥
  up_short v k (top e) u = u
  up_short v k (step e b q) u = u

  up_tail : {x : ℕ} {xs : List ℕ} (v : ℕ) (k l : TermId) (rf : List TermId) → Path vs x xs → Up (v ∷ xs) (k ∷ l ∷ rf) → Link v l k × Up xs (l ∷ rf)
  up_tail v k l rf (top e) u = u
  up_tail v k l rf (step e b q) u = u

  formula_head : {x : ℕ} {xs : List ℕ} (l : TermId) (rf : List TermId) → Path vs x xs → formula_of xs (l ∷ rf) x ≡ Some l
  formula_head {x} l rf (top e) = let y : nat_eq x x ≡ true = eq-eqb x x refl in rw y refl
  formula_head {x} l rf (step e b q) = let y : nat_eq x x ≡ true = eq-eqb x x refl in rw y refl

  -- a formula stands at a number of the list
  pub formula_low : (xs : List ℕ) (fs : List TermId) (y b : ℕ) (f : TermId) → Falls b xs → formula_of xs fs y ≡ Some f → y < b
  formula_low [] fs y b f l is = absurd cc
  formula_low (x ∷ xs) [] y b f l is = absurd cc
  formula_low (x ∷ xs) (h ∷ fs) y b f l is = elim (cases_Bool (nat_eq x y)) [
    | inl e ↦ let q : x ≡ y = eqb-true x y e in omega (arith, l.0, q)
    | inr n ↦ let r : formula_of xs fs y ≡ Some f = rw n at is in let z = formula_low xs fs y x f l.1 r in omega (arith, z, l.0)
  ]

  pub formula_skip : (x : ℕ) (xs : List ℕ) (h : TermId) (fs : List TermId) (y : ℕ) (f : TermId) → y < x → formula_of xs fs y ≡ Some f → formula_of (x ∷ xs) (h ∷ fs) y ≡ Some f
  formula_skip x xs h fs y f lt is = let n : nat_eq x y ≡ false = ne_eqb x y (λ e. omega (arith, lt, e)) in rw n is

  -- at a vertex of a path with a parent: the parent has a formula too, which with the edge implies the vertex's own
  pub formula_above : {v : ℕ} {up : List ℕ} (rf : List TermId) (c : ℕ) (p : VertexId) (h : TermId) → Path vs v up → Up up rf → formula_of up rf c ≡ Some h → (vertex_at vs c).parent ≡ Some p → (f : TermId) × (formula_of up rf p.0 ≡ Some f) × Link c f h
  formula_above [] c p h w u is par = absurd (up_nil w u)
  formula_above {v} (k ∷ []) c p h (top e) u is par = elim (cases_Bool (nat_eq v c)) [
    | inl y ↦ let q : v ≡ c = eqb-true v c y in absurd (let z : None ≡ Some p = sym e ∙ ap (λ (w : ℕ). (vertex_at vs w).parent) q ∙ par in cc)
    | inr n ↦ absurd (let z : None ≡ Some h = rw n at is in cc)
  ]
  formula_above (k ∷ l ∷ rf) c p h (top e) u is par = absurd u
  formula_above {v} (k ∷ []) c p h (step e b q) u is par = absurd (up_short v k q u)
  formula_above {v} (k ∷ l ∷ rf) c p h (step {p = r} {up = up} e b q) u is par =
      let t = up_tail v k l rf q u in
      elim (cases_Bool (nat_eq v c)) [
        | inl y ↦
            let same : v ≡ c = eqb-true v c y in
            let hk : Some k ≡ Some h = rw y at is in
            let kh : k ≡ h = cc in
            let sp : Some r ≡ Some p = sym e ∙ ap (λ (w : ℕ). (vertex_at vs w).parent) same ∙ par in
            let rp : r ≡ p = cc in
            let low : p.0 < v = subst (λ (w : VertexId). w.0 < v) rp b in
            let at : formula_of up (l ∷ rf) p.0 ≡ Some l = subst (λ (w : VertexId). formula_of up (l ∷ rf) w.0 ≡ Some l) rp (formula_head l rf q) in
            (l, formula_skip v up k (l ∷ rf) p.0 l low at, subst (λ w. Link w l h) same (subst (λ w. Link v l w) kh t.0))
        | inr n ↦
            let is2 : formula_of up (l ∷ rf) c ≡ Some h = rw n at is in
            let (f, at, link) = formula_above (l ∷ rf) c p h q t.1 is2 par in
            let falls : Falls v up = falls_wider up (suc r.0) v (omega (arith, b)) (path_falls q) in
            (f, formula_skip v up k (l ∷ rf) p.0 f (formula_low up (l ∷ rf) p.0 v f falls at) at, link)
      ]

-- the last formula of a list is true
abbrev pub EndsTrue : Table → List TermId → Type 0
EndsTrue table [] = ⊥
EndsTrue table (f ∷ []) = is_true_term table f ≡ true
EndsTrue table (f ∷ h ∷ fs) = EndsTrue table (h ∷ fs)

ends_snoc : (table : Table) (fs : List TermId) (f : TermId) → is_true_term table f ≡ true → EndsTrue table (fs ++ (f ∷ []))
ends_snoc table [] f h = h
ends_snoc table (k ∷ []) f h = h
ends_snoc table (k ∷ l ∷ fs) f h = ends_snoc table (l ∷ fs) f h

pub ends_true : (table : Table) (fs : List TermId) → begins_true table fs ≡ true → EndsTrue table (reverse fs)
ends_true table [] h = absurd cc
ends_true table (f ∷ fs) h = subst (EndsTrue table) (sym (reverse-append (f ∷ []) fs)) (ends_snoc table (reverse fs) f h)

-- the root has the last formula
pub root_formula : (table : Table) (b : ℕ) (xs : List ℕ) (fs : List TermId) (f : TermId) → Falls b xs → length xs ≡ length fs → EndsTrue table fs → formula_of xs fs 0 ≡ Some f → is_true_term table f ≡ true
root_formula table b [] fs f l e t is = absurd cc
root_formula table b (x ∷ xs) [] f l e t is = absurd cc
root_formula table b (x ∷ []) (h ∷ []) f l e t is = elim (cases_Bool (nat_eq x 0)) [
  | inl y ↦ let s : Some h ≡ Some f = rw y at is in let q : h ≡ f = cc in subst (λ w. is_true_term table w ≡ true) q t
  | inr n ↦ absurd (let z : None ≡ Some f = rw n at is in cc)
]
root_formula table b (x ∷ []) (h ∷ k ∷ fs) f l e t is = absurd (omega (arith, e))
root_formula table b (x ∷ y ∷ xs) (h ∷ []) f l e t is = absurd (omega (arith, e))
root_formula table b (x ∷ y ∷ xs) (h ∷ k ∷ fs) f l e t is =
    let n : nat_eq x 0 ≡ false = ne_eqb x 0 (λ q. omega (arith, q, l.1.0)) in
    let r : formula_of (y ∷ xs) (k ∷ fs) 0 ≡ Some f = rw n at is in
    root_formula table x (y ∷ xs) (k ∷ fs) f l.1 (omega (arith, e)) t r

-- a chain has a formula for each vertex
pub up_length : (g : Flow) (table : Table) (vs : List Vertex) (xs : List ℕ) (fs : List TermId) → Up g table vs xs fs → length xs ≡ length fs
up_length g table vs [] fs u = absurd u
up_length g table vs (x ∷ xs) [] u = absurd u
up_length g table vs (x ∷ []) (f ∷ []) u = refl
up_length g table vs (x ∷ []) (f ∷ h ∷ fs) u = absurd u
up_length g table vs (x ∷ y ∷ xs) (f ∷ []) u = absurd u
up_length g table vs (x ∷ y ∷ xs) (f ∷ h ∷ fs) u = let ih = up_length g table vs (y ∷ xs) (h ∷ fs) u.1 in omega (arith, ih)
