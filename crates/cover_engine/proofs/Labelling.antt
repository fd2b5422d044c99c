-- The labels that a Refine gives, put all at once, make what its unit makes vertex by vertex.
use Rattle.std.proofs.Common.{◌≡◌, ◌≢◌, ℕ, ◌+◌, ◌<◌, ◌≤◌, Bool, true, false, not, ◌&&◌, ◌||◌, List, [], ◌∷◌, ◌++◌, length, inl, inr, refl, sym, ap, ◌∙◌, subst, arith, zero, suc, get_or, if◌then◌else◌}
use Rattle.std.specs.List.{All}
use Rattle.std.proofs.lemmas.Bool.{cases_eq, cases_lt, or_parts}
use Rattle.std.proofs.lemmas.List.{length-set, get_or-set_same, get_or-set_other}
use Rattle.std.proofs.Math.ListN.{get_or-eq_default}
use Rattle.bv_term.specs.declared.term.TermId.{TermId}
use Rattle.bv_term.specs.WellFormed.{Table}
use Rattle.reach_tree.specs.declared.vertex.Vertex.{Vertex}
use Rattle.reach_tree.specs.declared.vertex.NewLabel.{NewLabel}
use Rattle.reach_tree.specs.Trees.{vertex_at, changed, relabelled, root_at, strengthened, with_conjunct}
use Rattle.needed_cells.specs.Formulas.{is_false_term, is_true_term}
use Rattle.cover_engine.specs.Unwindings.{has, path_up, some_false}
use Rattle.cover_engine.specs.Units.{numbers_of, refined_along, strengthened_along, strengthens}
use Rattle.cover_engine.specs.Caches.{IsFamily, SameShape}
use Rattle.cover_engine.specs.Settlings.{version_at}
use Rattle.cover_engine.specs.Keeping.{label_with, labelled, new_labels_of}
use Rattle.cover_engine.proofs.Subtrees.{parent_cases, path_none, path_some}

-- numbers that fall, all below a bound
abbrev pub Falls : ℕ → List ℕ → Type 0
Falls b [] = Unit {0}
Falls b (x ∷ xs) = (x < b) × Falls x xs

falls_wider : (xs : List ℕ) (a b : ℕ) → a ≤ b → Falls a xs → Falls b xs
falls_wider [] a b le f = tt
falls_wider (x ∷ xs) a b le f = (omega (arith, f.0, le), f.1)

pub path_falls : (vs : List Vertex) → IsFamily vs → (n z : ℕ) → z < length vs → Falls (suc z) (path_up vs n z)
path_falls vs f zero z lz = tt
path_falls vs f (suc n) z lz = elim (parent_cases vs z) [
  | inl e ↦ subst (Falls (suc z)) (sym (path_none vs n z e)) (omega arith, tt)
  | inr w ↦
      let low : w.0.0 < z = f.lower z w.0 lz w.1 in
      let rest : Falls z (path_up vs n w.0.0) = falls_wider (path_up vs n w.0.0) (suc w.0.0) z (omega (arith, low)) (path_falls vs f n w.0.0 (omega (arith, low, lz))) in
      subst (Falls (suc z)) (sym (path_some vs n z w.0 w.1)) (omega arith, rest)
]

pub falls_inside : (xs : List ℕ) (b m : ℕ) → b ≤ m → Falls b xs → All (λ x. x < m) xs
falls_inside [] b m le f = λ k d lt. absurd (omega (arith, lt))
falls_inside (x ∷ xs) b m le f =
    let rest : All (λ y. y < m) xs = falls_inside xs x m (omega (arith, f.0, le)) f.1 in
    λ k d lt. elim k as (λ j. j < suc (length xs) → get_or (x ∷ xs) j d < m) [ zero ↦ (λ _. omega (arith, f.0, le)) | suc j ↦ (λ l. rest j d (omega (arith, l))) ] lt

-- a changed vertex, and the others

change_other : (vs : List Vertex) (x k : ℕ) (f : Vertex → Vertex) → k ≢ x → vertex_at (changed vs x f) k ≡ vertex_at vs k
change_other vs x k f ne = get_or-set_other vs x k (f (vertex_at vs x)) (root_at (record { 0 = 0 })) ne

change_sized : (vs : List Vertex) (x : ℕ) (f : Vertex → Vertex) → length (changed vs x f) ≡ length vs
change_sized vs x f = length-set vs x (f (vertex_at vs x))

change_same : (vs : List Vertex) (x : ℕ) (f : Vertex → Vertex) → x < length vs → vertex_at (changed vs x f) x ≡ f (vertex_at vs x)
change_same vs x f lt = get_or-set_same vs x (f (vertex_at vs x)) (root_at (record { 0 = 0 })) lt

-- what a change of labels leaves
change_part : {A : Type 0} (r : Vertex → A) (vs : List Vertex) (x : ℕ) (f : Vertex → Vertex) → ((y : Vertex) → r (f y) ≡ r y) → (k : ℕ) → r (vertex_at (changed vs x f) k) ≡ r (vertex_at vs k)
change_part r vs x f h k = elim (cases_eq k x) [
  | inr ne ↦ ap r (change_other vs x k f ne)
  | inl is ↦ elim (cases_lt x (length vs)) [
    | inl lt ↦ ap (λ (j : ℕ). r (vertex_at (changed vs x f) j)) is ∙ ap r (change_same vs x f lt) ∙ h (vertex_at vs x) ∙ ap (λ (j : ℕ). r (vertex_at vs j)) (sym is)
    | inr le ↦ ap r (get_or-eq_default (changed vs x f) (root_at (record { 0 = 0 })) (omega (arith, le, is, change_sized vs x f)) ∙ sym (get_or-eq_default vs (root_at (record { 0 = 0 })) (omega (arith, le, is))))
  ]
]

-- the vertices of a path, strengthened one after another

-- one vertex strengthened, or not
abbrev pub first_of_path : Table → List Vertex → ℕ → TermId → List Vertex
first_of_path table vs x f = if strengthens table vs x f then strengthened vs (record { 0 = x }) f else vs

first_other : (table : Table) (vs : List Vertex) (x k : ℕ) (f : TermId) → k ≢ x → vertex_at (first_of_path table vs x f) k ≡ vertex_at vs k
first_other table vs x k f ne = by (strengthens table vs x f)
  where
    by : (b : Bool) → vertex_at (if b then strengthened vs (record { 0 = x }) f else vs) k ≡ vertex_at vs k
    by true = change_other vs x k (with_conjunct f) ne
    by false = refl

first_shape : (table : Table) (vs : List Vertex) (x : ℕ) (f : TermId) → SameShape vs (first_of_path table vs x f)
first_shape table vs x f = by (strengthens table vs x f)
  where
    by : (b : Bool) → SameShape vs (if b then strengthened vs (record { 0 = x }) f else vs)
    by true = record {
      sized = change_sized vs x (with_conjunct f);
      parents = change_part (λ y. y.parent) vs x (with_conjunct f) (λ y. refl);
      children = change_part (λ y. y.children) vs x (with_conjunct f) (λ y. refl);
    }
    by false = record { sized = refl; parents = λ k. refl; children = λ k. refl }

pub shape_trans : (us vs ws : List Vertex) → SameShape us vs → SameShape vs ws → SameShape us ws
shape_trans us vs ws a b = record {
  sized = b.sized ∙ a.sized;
  parents = λ k. b.parents k ∙ a.parents k;
  children = λ k. b.children k ∙ a.children k;
}

pub refined_shape : (table : Table) (vs : List Vertex) (xs : List ℕ) (fs : List TermId) → SameShape vs (refined_along table vs xs fs)
refined_shape table vs [] fs = record { sized = refl; parents = λ k. refl; children = λ k. refl }
refined_shape table vs (x ∷ xs) [] = record { sized = refl; parents = λ k. refl; children = λ k. refl }
refined_shape table vs (x ∷ xs) (f ∷ fs) =
    shape_trans vs (first_of_path table vs x f) (refined_along table (first_of_path table vs x f) xs fs) (first_shape table vs x f) (refined_shape table (first_of_path table vs x f) xs fs)

first_version : (table : Table) (vs : List Vertex) (x : ℕ) (f : TermId) → (version_at vs x ≤ version_at (first_of_path table vs x f) x) × (version_at (first_of_path table vs x f) x ≤ version_at vs x + 1)
first_version table vs x f = by (strengthens table vs x f)
  where
    by : (b : Bool) → (version_at vs x ≤ version_at (if b then strengthened vs (record { 0 = x }) f else vs) x) × (version_at (if b then strengthened vs (record { 0 = x }) f else vs) x ≤ version_at vs x + 1)
    by false = (omega arith, omega arith)
    by true = elim (cases_lt x (length vs)) [
      | inl lt ↦ (let e : version_at (strengthened vs (record { 0 = x }) f) x ≡ version_at vs x + 1 = ap (λ (y : Vertex). y.version) (change_same vs x (with_conjunct f) lt) in (omega (arith, e), omega (arith, e)))
      | inr le ↦ (let e : version_at (strengthened vs (record { 0 = x }) f) x ≡ version_at vs x = ap (λ (y : Vertex). y.version) (get_or-eq_default (changed vs x (with_conjunct f)) (root_at (record { 0 = 0 })) (omega (arith, le, change_sized vs x (with_conjunct f))) ∙ sym (get_or-eq_default vs (root_at (record { 0 = 0 })) le)) in (omega (arith, e), omega (arith, e)))
    ]

-- a version is raised by one at the most
pub refined_versions : (table : Table) (vs : List Vertex) (xs : List ℕ) (fs : List TermId) (b : ℕ) → Falls b xs → (k : ℕ)
    → (version_at vs k ≤ version_at (refined_along table vs xs fs) k) × (version_at (refined_along table vs xs fs) k ≤ version_at vs k + 1) × (b ≤ k → version_at (refined_along table vs xs fs) k ≡ version_at vs k)
refined_versions table vs [] fs b falls k = (omega arith, omega arith, λ le. refl)
refined_versions table vs (x ∷ xs) [] b falls k = (omega arith, omega arith, λ le. refl)
refined_versions table vs (x ∷ xs) (f ∷ fs) b falls k =
    let ws : List Vertex = first_of_path table vs x f in
    let ih = refined_versions table (first_of_path table vs x f) xs fs x falls.1 k in
    elim (cases_eq k x) [
      | inr ne ↦
          let same : version_at ws k ≡ version_at vs k = ap (λ (y : Vertex). y.version) (first_other table vs x k f ne) in
          (omega (arith, ih.0, same), omega (arith, ih.1, same), λ le. (let e : version_at (refined_along table ws xs fs) k ≡ version_at ws k = ih.2 (omega (arith, le, falls.0)) in e ∙ same))
      | inl is ↦
          let step = first_version table vs x f in
          let e : version_at (refined_along table ws xs fs) k ≡ version_at ws k = ih.2 (omega (arith, is)) in
          let at : version_at ws k ≡ version_at ws x = ap (version_at ws) is in
          let old : version_at vs k ≡ version_at vs x = ap (version_at vs) is in
          (omega (arith, e, at, old, step.0), omega (arith, e, at, old, step.1), λ le. absurd (omega (arith, le, falls.0, is)))
    ]

-- the label that a formula gives to a vertex of this number, before others
abbrev choose : Table → ℕ → TermId → Vertex → List NewLabel → List NewLabel
choose table x f y ls =
    if not (is_true_term table f) && not (has f.0 (numbers_of y.label))
    then record { vertex = record { 0 = x }; label = y.label ++ f ∷ []; version = y.version + 1 } ∷ ls
    else ls

new_labels_same : (table : Table) (vs ws : List Vertex) (xs : List ℕ) (fs : List TermId) (b : ℕ) → Falls b xs → ((k : ℕ) → k < b → vertex_at ws k ≡ vertex_at vs k) → new_labels_of table ws xs fs ≡ new_labels_of table vs xs fs
new_labels_same table vs ws [] fs b falls h = refl
new_labels_same table vs ws (x ∷ xs) [] b falls h = refl
new_labels_same table vs ws (x ∷ xs) (f ∷ fs) b falls h =
    let ih : new_labels_of table ws xs fs ≡ new_labels_of table vs xs fs = new_labels_same table vs ws xs fs x falls.1 (λ k lt. h k (omega (arith, lt, falls.0))) in
    ap (λ (y : Vertex). choose table x f y (new_labels_of table ws xs fs)) (h x falls.0) ∙ ap (choose table x f (vertex_at vs x)) ih

put_first : (table : Table) (vs : List Vertex) (x : ℕ) (f : TermId) (ls : List NewLabel)
    → relabelled vs (if strengthens table vs x f then label_with vs x f ∷ ls else ls) ≡ relabelled (first_of_path table vs x f) ls
put_first table vs x f ls = by (strengthens table vs x f)
  where
    by : (b : Bool) → relabelled vs (if b then label_with vs x f ∷ ls else ls) ≡ relabelled (if b then strengthened vs (record { 0 = x }) f else vs) ls
    by true = refl
    by false = refl

number_first : (table : Table) (vs : List Vertex) (x : ℕ) (f : TermId) (xs : List ℕ) (fs : List TermId)
    → labelled (new_labels_of table vs xs fs) ≡ strengthened_along table (strengthened vs (record { 0 = x }) f) xs fs
    → labelled (new_labels_of table vs xs fs) ≡ strengthened_along table vs xs fs
    → labelled (new_labels_of table vs (x ∷ xs) (f ∷ fs)) ≡ strengthened_along table vs (x ∷ xs) (f ∷ fs)
number_first table vs x f xs fs one other = by (strengthens table vs x f)
  where
    by : (b : Bool) → labelled (if b then label_with vs x f ∷ new_labels_of table vs xs fs else new_labels_of table vs xs fs)
        ≡ (if b then x ∷ strengthened_along table (strengthened vs (record { 0 = x }) f) xs fs else strengthened_along table vs xs fs)
    by true = ap (λ (ns : List ℕ). x ∷ ns) one
    by false = other

-- the labels, put all at once
pub labels_refine : (table : Table) (vs : List Vertex) (xs : List ℕ) (fs : List TermId) (b : ℕ) → Falls b xs → relabelled vs (new_labels_of table vs xs fs) ≡ refined_along table vs xs fs
labels_refine table vs [] fs b falls = refl
labels_refine table vs (x ∷ xs) [] b falls = refl
labels_refine table vs (x ∷ xs) (f ∷ fs) b falls =
    put_first table vs x f (new_labels_of table vs xs fs)
    ∙ ap (relabelled (first_of_path table vs x f)) (sym (new_labels_same table vs (first_of_path table vs x f) xs fs x falls.1 (λ k lt. first_other table vs x k f (λ is. omega (arith, lt, is)))))
    ∙ labels_refine table (first_of_path table vs x f) xs fs x falls.1

pub labels_strengthen : (table : Table) (vs : List Vertex) (xs : List ℕ) (fs : List TermId) (b : ℕ) → Falls b xs → labelled (new_labels_of table vs xs fs) ≡ strengthened_along table vs xs fs
labels_strengthen table vs [] fs b falls = refl
labels_strengthen table vs (x ∷ xs) [] b falls = refl
labels_strengthen table vs (x ∷ xs) (f ∷ fs) b falls = number_first table vs x f xs fs (
    ap labelled (sym (new_labels_same table vs (strengthened vs (record { 0 = x }) f) xs fs x falls.1 (λ k lt. change_other vs x k (with_conjunct f) (λ is. omega (arith, lt, is)))))
    ∙ labels_strengthen table (strengthened vs (record { 0 = x }) f) xs fs x falls.1)
    (labels_strengthen table vs xs fs x falls.1)

-- the labels are those of vertices of the path
pub labels_inside : (table : Table) (vs : List Vertex) (xs : List ℕ) (fs : List TermId) (m : ℕ) → All (λ x. x < m) xs → All (λ l. l.vertex.0 < m) (new_labels_of table vs xs fs)
labels_inside table vs [] fs m all = λ k d lt. absurd (omega (arith, lt))
labels_inside table vs (x ∷ xs) [] m all = λ k d lt. absurd (omega (arith, lt))
labels_inside table vs (x ∷ xs) (f ∷ fs) m all =
    by (strengthens table vs x f) (labels_inside table vs xs fs m (λ k d lt. all (suc k) d (omega (arith, lt)))) (all 0 x (omega arith))
  where
    by : (c : Bool) → All (λ (l : NewLabel). l.vertex.0 < m) (new_labels_of table vs xs fs) → x < m → All (λ (l : NewLabel). l.vertex.0 < m) (if c then label_with vs x f ∷ new_labels_of table vs xs fs else new_labels_of table vs xs fs)
    by false ih lx = ih
    by true ih lx = λ k d lt. elim k as (λ j. j < suc (length (new_labels_of table vs xs fs)) → (get_or (label_with vs x f ∷ new_labels_of table vs xs fs) j d).vertex.0 < m) [ zero ↦ (λ _. lx) | suc j ↦ (λ l. ih j d (omega (arith, l))) ] lt

-- nodes stay, and a label that has no conjunct false had none before

change_holds : (R : Vertex → Vertex → Type 0) (vs : List Vertex) (x : ℕ) (f : Vertex → Vertex) → ((y : Vertex) → R y y) → ((y : Vertex) → R (f y) y) → (k : ℕ) → R (vertex_at (changed vs x f) k) (vertex_at vs k)
change_holds R vs x f same more k = elim (cases_eq k x) [
  | inr ne ↦ subst (λ (y : Vertex). R y (vertex_at vs k)) (sym (change_other vs x k f ne)) (same (vertex_at vs k))
  | inl is ↦ elim (cases_lt x (length vs)) [
    | inl lt ↦ subst (λ (j : ℕ). R (vertex_at (changed vs x f) j) (vertex_at vs j)) (sym is) (subst (λ (y : Vertex). R y (vertex_at vs x)) (sym (change_same vs x f lt)) (more (vertex_at vs x)))
    | inr le ↦
        let past : vertex_at (changed vs x f) k ≡ vertex_at vs k = get_or-eq_default (changed vs x f) (root_at (record { 0 = 0 })) (omega (arith, le, is, change_sized vs x f)) ∙ sym (get_or-eq_default vs (root_at (record { 0 = 0 })) (omega (arith, le, is))) in
        subst (λ (y : Vertex). R y (vertex_at vs k)) (sym past) (same (vertex_at vs k))
  ]
]

first_holds : (R : Vertex → Vertex → Type 0) (table : Table) (vs : List Vertex) (x : ℕ) (f : TermId) → ((y : Vertex) → R y y) → ((y : Vertex) → R (with_conjunct f y) y) → (k : ℕ) → R (vertex_at (first_of_path table vs x f) k) (vertex_at vs k)
first_holds R table vs x f same more k = by (strengthens table vs x f)
  where
    by : (b : Bool) → R (vertex_at (if b then strengthened vs (record { 0 = x }) f else vs) k) (vertex_at vs k)
    by true = change_holds R vs x (with_conjunct f) same more k
    by false = same (vertex_at vs k)

pub refined_nodes : (table : Table) (vs : List Vertex) (xs : List ℕ) (fs : List TermId) (k : ℕ) → (vertex_at (refined_along table vs xs fs) k).node ≡ (vertex_at vs k).node
refined_nodes table vs [] fs k = refl
refined_nodes table vs (x ∷ xs) [] k = refl
refined_nodes table vs (x ∷ xs) (f ∷ fs) k =
    refined_nodes table (first_of_path table vs x f) xs fs k ∙ first_holds (λ y z. y.node ≡ z.node) table vs x f (λ y. refl) (λ y. refl) k

pub refined_edges : (table : Table) (vs : List Vertex) (xs : List ℕ) (fs : List TermId) (k : ℕ) → (vertex_at (refined_along table vs xs fs) k).by ≡ (vertex_at vs k).by
refined_edges table vs [] fs k = refl
refined_edges table vs (x ∷ xs) [] k = refl
refined_edges table vs (x ∷ xs) (f ∷ fs) k =
    refined_edges table (first_of_path table vs x f) xs fs k ∙ first_holds (λ y z. y.by ≡ z.by) table vs x f (λ y. refl) (λ y. refl) k

false_front : (table : Table) (ts us : List TermId) → some_false table (ts ++ us) ≡ false → some_false table ts ≡ false
false_front table [] us h = refl
false_front table (t ∷ ts) us h =
    let p = or_parts (is_false_term table t) (some_false table (ts ++ us)) h in
    both (is_false_term table t) (some_false table ts) p.0 (false_front table ts us p.1)
  where
    both : (a b : Bool) → a ≡ false → b ≡ false → a || b ≡ false
    both false b p q = q
    both true b p q = absurd cc

pub refined_false : (table : Table) (vs : List Vertex) (xs : List ℕ) (fs : List TermId) (k : ℕ) → some_false table (vertex_at (refined_along table vs xs fs) k).label ≡ false → some_false table (vertex_at vs k).label ≡ false
refined_false table vs [] fs k h = h
refined_false table vs (x ∷ xs) [] k h = h
refined_false table vs (x ∷ xs) (f ∷ fs) k h =
    first_holds (λ y z. some_false table y.label ≡ false → some_false table z.label ≡ false) table vs x f (λ y e. e) (λ y e. false_front table y.label (f ∷ []) e) k
    (refined_false table (first_of_path table vs x f) xs fs k h)
