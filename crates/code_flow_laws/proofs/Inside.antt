-- Nodes and edges of a part of a function's graph, among those of the whole.
use Rattle.std.proofs.Common.{◌≡◌, ◌⊎◌, inl, inr, ℕ, zero, suc, ◌+◌, ◌<◌, List, [], ◌∷◌, ◌++◌, length, refl, sym, ap, ◌∙◌, subst, arith, Some, slice_get}
use Rattle.c_graph.specs.declared.graph.Node.{Node}
use Rattle.c_graph.specs.declared.graph.Edge.{Edge}
use Rattle.bv_term.specs.WellFormed.{Table}
use Rattle.code_moves.specs.Setting.{Setting}
use Rattle.cfg_build.specs.Follows.{Plan, Joined, StandsAt, FirstFollow}

pub get-left : {A : Type 0} (xs ys : List A) (k : ℕ) (x : A) → slice_get xs k ≡ Some x → slice_get (xs ++ ys) k ≡ Some x
get-left [] ys k x e = absurd cc
get-left (z ∷ xs) ys zero x e = e
get-left (z ∷ xs) ys (suc k) x e = get-left xs ys k x e

get-right : {A : Type 0} (xs ys : List A) (k : ℕ) → slice_get (xs ++ ys) (length xs + k) ≡ slice_get ys k
get-right [] ys k = let e : 0 + k ≡ k = omega arith in ap (slice_get ys) e
get-right (z ∷ xs) ys k =
    let e : length (z ∷ xs) + k ≡ suc (length xs + k) = omega arith in
    ap (slice_get (z ∷ xs ++ ys)) e ∙ get-right xs ys k

-- the nodes of a part stand from a number on, and its edges somewhere
pub record Inside (n : ℕ) (nodes : List Node) (edges : List Edge) (all : List Node) (leads : List Edge) : Type 0 where
  pub nodes_there : (j : ℕ) (x : Node) → slice_get nodes j ≡ Some x → slice_get all (n + j) ≡ Some x
  pub edges_there : (j : ℕ) (e : Edge) → slice_get edges j ≡ Some e → (k : ℕ) × (slice_get leads k ≡ Some e)

pub inside-all : (all : List Node) (leads : List Edge) → Inside 0 all leads all leads
inside-all all leads = record {
  nodes_there = λ j x e. let same : j ≡ 0 + j = omega arith in subst (λ (k : ℕ). slice_get all k ≡ Some x) same e;
  edges_there = λ j x e. (j, e);
}

module _ (First Second : ℕ → List Node → List Edge → Type 0) (n : ℕ) (nodes : List Node) (edges : List Edge) (all : List Node) (leads : List Edge) (h : Joined First Second n nodes edges) (i : Inside n nodes edges all leads) where
  pub inside-first : Inside n h.nodes_first h.edges_first all leads
  inside-first = record {
    nodes_there = λ j x e. i.nodes_there j x (subst (λ xs. slice_get xs j ≡ Some x) (sym h.nodes_are) (get-left h.nodes_first h.nodes_second j x e));
    edges_there = λ j x e. i.edges_there j x (subst (λ xs. slice_get xs j ≡ Some x) (sym h.edges_are) (get-left h.edges_first h.edges_second j x e));
  }

  pub inside-second : Inside (n + length h.nodes_first) h.nodes_second h.edges_second all leads
  inside-second = record {
    nodes_there = λ j x e.
        let there : slice_get nodes (length h.nodes_first + j) ≡ Some x = ap (λ xs. slice_get xs (length h.nodes_first + j)) h.nodes_are ∙ get-right h.nodes_first h.nodes_second j ∙ e in
        let same : n + (length h.nodes_first + j) ≡ n + length h.nodes_first + j = omega arith in
        subst (λ m. slice_get all m ≡ Some x) same (i.nodes_there (length h.nodes_first + j) x there);
    edges_there = λ j x e. i.edges_there (length h.edges_first + j) x (ap (λ xs. slice_get xs (length h.edges_first + j)) h.edges_are ∙ get-right h.edges_first h.edges_second j ∙ e);
  }

-- what stands for one place, among the nodes and edges of its function's graph
pub record PlaceIn (p : Plan) (g : Setting) (table : Table) (place : ℕ) (all : List Node) (leads : List Edge) : Type 0 where
  pub n : ℕ
  pub nodes : List Node
  pub edges : List Edge
  pub stands : StandsAt p g table place n nodes edges
  pub inside : Inside n nodes edges all leads

-- an earlier number, or the last one
pub below-last : (i k : ℕ) → i < suc k → (i < k) ⊎ (i ≡ k)
below-last zero zero h = inr refl
below-last zero (suc k) h = inl (omega arith)
below-last (suc i) zero h = absurd (omega (arith, h))
below-last (suc i) (suc k) h = next (below-last i k (omega (arith, h)))
  where
    next : (i < k) ⊎ (i ≡ k) → (suc i < suc k) ⊎ (suc i ≡ suc k)
    next (inl less) = inl (omega (arith, less))
    next (inr same) = inr (ap suc same)

module _ (p : Plan) (g : Setting) (table : Table) (all : List Node) (leads : List Edge) where
  among-last : (k n i : ℕ) (nodes : List Node) (edges : List Edge) (h : FirstFollow p g table (suc k) n nodes edges) → Inside n nodes edges all leads → (Inside n h.nodes_first h.edges_first all leads → i < k → PlaceIn p g table (p.range.entry + i) all leads)
      → (i < k) ⊎ (i ≡ k) → PlaceIn p g table (p.range.entry + i) all leads
  among-last k n i nodes edges h w earlier (inl before) = earlier (inside-first (FirstFollow p g table k) (StandsAt p g table (p.range.entry + k)) n nodes edges all leads h w) before
  among-last k n i nodes edges h w earlier (inr same) =
      subst (λ j. PlaceIn p g table (p.range.entry + j) all leads) (sym same)
      (record {
        n = n + length h.nodes_first;
        nodes = h.nodes_second;
        edges = h.edges_second;
        stands = h.second;
        inside = inside-second (FirstFollow p g table k) (StandsAt p g table (p.range.entry + k)) n nodes edges all leads h w;
      })

  pub place-among : (k n i : ℕ) (nodes : List Node) (edges : List Edge) → FirstFollow p g table k n nodes edges → Inside n nodes edges all leads → i < k → PlaceIn p g table (p.range.entry + i) all leads
  place-among zero n i nodes edges h w less = absurd (omega (arith, less))
  place-among (suc k) n i nodes edges h w less = among-last k n i nodes edges h w (λ v l. place-among k n i h.nodes_first h.edges_first h.first v l) (below-last i k less)
