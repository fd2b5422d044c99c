-- Formulas along the path down to a vertex.
use Rattle.std.proofs.Common.{◌≡◌, ℕ, ◌<◌, true, false, List, [], ◌∷◌, ◌++◌, drop, length, map, reverse, Option, Some, None, slice_get, zero, suc, refl, sym, ap, ◌∙◌, subst, arith}
use Rattle.std.proofs.lemmas.Bool.{both_ways}
use mathlib.Core.List.{reverse-cons}
use Rattle.bv_term.specs.declared.term.TermId.{TermId}
use Rattle.bv_term.specs.WellFormed.{Table}
use Rattle.c_graph.specs.declared.graph.EdgeId.{EdgeId}
use Rattle.c_graph.specs.Shape.{Flow}
use Rattle.path_formula.specs.Questions.{question_of}
use Rattle.resolution_log.specs.declared.Chain.{Chain}
use Rattle.resolution_log.specs.Chains.{IsRefutation}
use Rattle.interpolants.specs.Rules.{cut_truth}
use Rattle.interpolants.proofs.Cutting.{first_is_true, last_is_false}
use Rattle.term_copy.specs.Copies.{number_in}
use Rattle.reach_tree.specs.declared.vertex.Vertex.{Vertex}
use Rattle.reach_tree.specs.Trees.{vertex_at}
use Rattle.cover_engine.specs.Unwindings.{Unwound, path_of, path_up}
use Rattle.needed_cells.specs.Reads.{OnlyNames, needed_along}
use Rattle.needed_cells.specs.Formulas.{EdgeImplies, is_false_term}
use Rattle.cover_engine.specs.Units.{Links, NameNeeded, edge_in, edges_to}
use Rattle.cover_engine.proofs.Subtrees.{path_none, path_some}
use Rattle.unwinding_laws.specs.Laws.{IsChild, IsTree}
use Rattle.unwinding_laws.proofs.Rooting.{legal_tree}
use Rattle.chain_laws.specs.Laws.{FormulasMakeLinks}
use Rattle.chain_laws.proofs.Copying.{copied-bits, copied-false, copied-implies, copied-true, is-there, map-back, map-long}
use Rattle.chain_laws.proofs.Linking.{formulas_are_linked}
use Rattle.chain_laws.proofs.Naming.{formulas-name}

-- each vertex came by an edge
abbrev CameBy : List Vertex → List ℕ → Type 0
CameBy vs [] = Unit {0}
CameBy vs (x ∷ xs) = ((e : EdgeId) × ((vertex_at vs x).by ≡ Some e)) × CameBy vs xs

came-more : (vs : List Vertex) (xs : List ℕ) (y : ℕ) (e : EdgeId) → CameBy vs xs → (vertex_at vs y).by ≡ Some e → CameBy vs (xs ++ y ∷ [])
came-more vs [] y e c by = ((e, by), tt)
came-more vs (x ∷ xs) y e c by = (c.0, came-more vs xs y e c.1 by)

-- the path down to a vertex: the root, and then vertices that came by edges
record Descent (vs : List Vertex) (down : List ℕ) : Type 0 where
  rest : List ℕ
  parts : down ≡ 0 ∷ rest
  came : CameBy vs rest

descends : (g : Flow) (u : Unwound) → IsTree g u → (n k : ℕ) → k < n → k < length u.vertices → Descent u.vertices (reverse (path_up u.vertices n k))
descends g u t zero k lt lk = absurd (omega (arith, lt))
descends g u t (suc n) zero lt lk = record { rest = []; parts = ap reverse (path_none u.vertices n 0 t.root.0); came = tt }
descends g u t (suc n) (suc k) lt lk =
    let c : IsChild g u.vertices (suc k) = t.others (suc k) (omega arith) lk in
    let low = c.lower in
    let d = descends g u t n c.above.0 (omega (arith, lt, low)) (omega (arith, lk, low)) in
    let up : List ℕ = path_up u.vertices n c.above.0 in
    record {
      rest = d.rest ++ suc k ∷ [];
      parts = ap reverse (path_some u.vertices n (suc k) c.above c.parent) ∙ reverse-cons (suc k) up ∙ ap (λ (xs : List ℕ). xs ++ suc k ∷ []) d.parts;
      came = came-more u.vertices d.rest (suc k) c.edge d.came c.by;
    }

edges-more : (vs : List Vertex) (x : ℕ) (xs : List ℕ) (e : EdgeId) → (vertex_at vs x).by ≡ Some e → edges_to vs (x ∷ xs) ≡ e ∷ edges_to vs xs
edges-more vs x xs e by = ap (λ (o : Option EdgeId). edge_in o ++ edges_to vs xs) by

edges-root : (vs : List Vertex) (xs : List ℕ) → (vertex_at vs 0).by ≡ None → edges_to vs (0 ∷ xs) ≡ edges_to vs xs
edges-root vs xs by = ap (λ (o : Option EdgeId). edge_in o ++ edges_to vs xs) by

edges-long : (vs : List Vertex) (xs : List ℕ) → CameBy vs xs → length (edges_to vs xs) ≡ length xs
edges-long vs [] c = refl
edges-long vs (x ∷ xs) c = ap length (edges-more vs x xs c.0.0 c.0.1) ∙ ap suc (edges-long vs xs c.1)

-- each formula with the edge of its number implies the next
abbrev Steps : Flow → Table → List EdgeId → List TermId → Type 0
Steps g table es fs =
    (k : ℕ) (e : EdgeId) (f h : TermId) → slice_get es k ≡ Some e → slice_get fs k ≡ Some f → slice_get fs (suc k) ≡ Some h
    → EdgeImplies g table e f h

links-down : (g : Flow) (table : Table) (vs : List Vertex) (x : ℕ) (xs : List ℕ) (fs : List TermId) → CameBy vs xs → length fs ≡ suc (length xs)
    → Steps g table (edges_to vs xs) fs → ((f : TermId) → slice_get fs (length xs) ≡ Some f → is_false_term table f ≡ true)
    → Links g table vs (x ∷ xs) fs
links-down g table vs x xs [] c long each last = absurd (omega (arith, long))
links-down g table vs x [] (f ∷ []) c long each last = last f refl
links-down g table vs x [] (f ∷ h ∷ fs) c long each last = absurd (omega (arith, long))
links-down g table vs x (y ∷ xs) (f ∷ []) c long each last = absurd (omega (arith, long))
links-down g table vs x (y ∷ xs) (f ∷ h ∷ fs) c long each last =
    let e : EdgeId = c.0.0 in
    let all : Steps g table (e ∷ edges_to vs xs) (f ∷ h ∷ fs) =
    subst (λ (es : List EdgeId). Steps g table es (f ∷ h ∷ fs)) (edges-more vs y xs e c.0.1) each in (
      (e, c.0.1, all 0 e f h refl refl refl),
      links-down g table vs y xs (h ∷ fs) c.1 (omega (arith, long)) (λ k d a b at one next. all (suc k) d a b at one next) last,
    )

-- each formula names what the edges from its number on read
abbrev NameRest : Flow → Table → List EdgeId → List TermId → Type 0
NameRest g table es fs = (k : ℕ) (f : TermId) → slice_get fs k ≡ Some f → OnlyNames table f (needed_along g (drop k es))

names-down : (g : Flow) (table : Table) (vs : List Vertex) (x : ℕ) (xs : List ℕ) (fs : List TermId) → CameBy vs xs
    → NameRest g table (edges_to vs xs) fs → NameNeeded g table vs (x ∷ xs) fs
names-down g table vs x xs [] c each = tt
names-down g table vs x [] (f ∷ fs) c each = (each 0 f refl, tt)
names-down g table vs x (y ∷ xs) (f ∷ fs) c each =
    let e : EdgeId = c.0.0 in
    let all : NameRest g table (e ∷ edges_to vs xs) (f ∷ fs) =
    subst (λ (es : List EdgeId). NameRest g table es (f ∷ fs)) (edges-more vs y xs e c.0.1) each in
    (each 0 f refl, names-down g table vs y xs fs c.1 (λ k d at. all (suc k) d at))

-- a path without edges is not refuted
some-edge : (g : Flow) (path : List EdgeId) (log : List Chain) → IsRefutation (question_of g path).clauses log → 0 < length path
some-edge g [] log refuted =
    absurd (both_ways (cut_truth [] log 0 (λ k. false)) (last_is_false [] log (λ k. false) refuted) (first_is_true [] log (λ k. false)))
some-edge g (e ∷ path) log refuted = omega arith

pub formulas_make_links : FormulasMakeLinks
formulas_make_links g u v path table to log fs flow legal there is query refuted are named made long copies =
    let t : IsTree g u = legal_tree g u legal in
    let vs : List Vertex = u.vertices in
    let down : List ℕ = reverse (path_of vs v) in
    let d : Descent vs down = descends g u t (length vs) v.0 there there in
    let edges : path ≡ edges_to vs d.rest = is ∙ ap (edges_to vs) d.parts ∙ edges-root vs d.rest t.root.1 in
    let many : length path ≡ length d.rest = ap length edges ∙ edges-long vs d.rest d.came in
    let number : TermId → TermId = number_in to in
    let pos : 0 < length path = some-edge g path log refuted in
    let each : Steps g u.terms path (map number fs) = λ k e f h at one next.
    let (a, ga, ea) = map-back number fs k f one in
    let (b, gb, eb) = map-back number fs (suc k) h next in
    let linked : EdgeImplies g table e a b = formulas_are_linked g path table log fs k e a b flow query refuted made at ga gb in
    let la = is-there table u.terms to long copies (length path) fs k a are ga in
    let lb = is-there table u.terms to long copies (length path) fs (suc k) b are gb in
    let new : EdgeImplies g u.terms e (number a) (number b) = copied-implies table u.terms to long copies g e a b la lb linked in
    subst (λ (x : TermId). EdgeImplies g u.terms e x h) ea (subst (λ (y : TermId). EdgeImplies g u.terms e (number a) y) eb new) in
    let last : (f : TermId) → slice_get (map number fs) (length d.rest) ≡ Some f → is_false_term u.terms f ≡ true = λ f at.
    let (a, ga, ea) = map-back number fs (length d.rest) f at in
    let here : slice_get fs (length path) ≡ Some a = subst (λ (n : ℕ). slice_get fs n ≡ Some a) (sym many) ga in
    subst (λ (x : TermId). is_false_term u.terms x ≡ true) ea (copied-false table u.terms to long copies (length path) fs a are pos here) in
    let count : length (map number fs) ≡ suc (length d.rest) = map-long number fs ∙ are.count ∙ ap suc many in
    let links : Links g u.terms vs (0 ∷ d.rest) (map number fs) =
    links-down g u.terms vs 0 d.rest (map number fs) d.came count (subst (λ (es : List EdgeId). Steps g u.terms es (map number fs)) edges each) last in
    let rest : NameRest g u.terms path (map number fs) = formulas-name g path table u.terms to fs long copies are.count named in
    let names : NameNeeded g u.terms vs (0 ∷ d.rest) (map number fs) =
    names-down g u.terms vs 0 d.rest (map number fs) d.came (subst (λ (es : List EdgeId). NameRest g u.terms es (map number fs)) edges rest) in
    record {
      terms = copied-bits table u.terms to long copies (length path) fs are;
      first = copied-true table u.terms to long copies (length path) fs are;
      links = subst (λ (xs : List ℕ). Links g u.terms vs xs (map number fs)) (sym d.parts) links;
      names = subst (λ (xs : List ℕ). NameNeeded g u.terms vs xs (map number fs)) (sym d.parts) names;
    }
